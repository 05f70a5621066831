-- Bytes put into a buffer, one part after the other.
use mathlib.Core.Bool.{Bool, true, false, cond}
use lib.Dec.{ltb}
use mathlib.Core.Path.{◌≡◌, refl, sym, ap, ap₂, ◌∙◌}
use mathlib.Core.List.{List, [], ◌∷◌, ◌++◌, append_assoc, append-nil}
use Prim.Native.Nat.{ℕ, zero, suc, ◌+◌, ◌-◌, ◌*◌, ◌/◌, ◌%◌, ◌≤◌, ◌<◌}
use native.Mathlib.Numerals.{add-one}
use native.Mathlib.Omega.{arith}
use lib.ListN.{length, get_or, take, drop, length-append, length-drop, take-append-drop}
use lib.Seq.{length-take-le, take_at, drop-append-add, drop-drop, take-suc}
use Rattle.eqtrace_answers.specs.Text.{decimal_by, decimal, spaced, text_of}
use Rattle.eqtrace_answers.specs.Puts.{pasted, Puts, Adds, letters, numbers, meant, Small}
use Rattle.eqtrace_answers.specs.declared.Answer.{Answer}
use Rattle.eqtrace_answers.specs.declared.Draft.{Draft}
use Rattle.eqtrace_answers.specs.declared.Answer.TheVariants as says

module _ (l : List ℕ) (at : ℕ) where
  pub length_pasted : (xs : List ℕ) → at + length xs ≤ length l → length (pasted l at xs) ≡ length l
  length_pasted xs h =
      omega (arith, length-append (take at l) (xs ++ drop (at + length xs) l), length-append xs (drop (at + length xs) l), length-drop (at + length xs) l, length-take-le at l (omega arith))

  pub pasted_more : (xs ys : List ℕ) → at ≤ length l → pasted (pasted l at xs) (at + length xs) ys ≡ pasted l at (xs ++ ys)
  pasted_more xs ys h =
      let p : List ℕ = take at l ++ xs in
      let d : List ℕ = drop (at + length xs) l in
      let n : length p ≡ at + length xs = length-append (take at l) xs ∙ ap (λ (k : ℕ). k + length xs) (length-take-le at l h) in
      let e : pasted l at xs ≡ p ++ d = sym (append_assoc (take at l) xs d) in
      let t : take (at + length xs) (pasted l at xs) ≡ p = ap (take (at + length xs)) e ∙ take_at p d (at + length xs) n in
      let m : at + length xs + length ys ≡ at + length (xs ++ ys) = omega (arith, length-append xs ys) in
      let u : drop (at + length xs + length ys) (pasted l at xs) ≡ drop (at + length (xs ++ ys)) l =
      ap₂ (λ (k : ℕ) (r : List ℕ). drop k r) (ap (λ (k : ℕ). k + length ys) (sym n)) e
      ∙ drop-append-add p d (length ys) ∙ drop-drop (length ys) (at + length xs) l
      ∙ ap (λ (k : ℕ). drop k l) m in
      ap₂ (λ (a b : List ℕ). a ++ (ys ++ b)) t u
      ∙ append_assoc (take at l) xs (ys ++ drop (at + length (xs ++ ys)) l)
      ∙ ap (λ (r : List ℕ). take at l ++ r) (sym (append_assoc xs ys (drop (at + length (xs ++ ys)) l)))

-- one part after the other
module _ (a b d : List ℕ) (at m e : ℕ) (xs ys : List ℕ) where
  pub puts_then : at ≤ length a → Puts a at xs b m → Puts b m ys d e → Puts a at (xs ++ ys) d e
  puts_then h p q = record {
    end = omega (arith, p.end, q.end, length-append xs ys);
    written = q.written ∙ ap₂ (λ (k : ℕ) (r : List ℕ). pasted r k ys) p.end p.written ∙ pasted_more a at xs ys h;
  }

pub puts_length : (a : List ℕ) (at : ℕ) (xs b : List ℕ) (m : ℕ) → at + length xs ≤ length a → Puts a at xs b m → length b ≡ length a
puts_length a at xs b m h p = ap length p.written ∙ length_pasted a at xs h

-- ---- a reply's text so far

pub adds_put : {d e : Draft} (bytes part : List ℕ) → part ≡ bytes → d.at + length bytes ≤ length d.out.now → e.out.ghost_name ≡ d.out.ghost_name
    → e.at ≡ d.at + length bytes → e.out.now ≡ take d.at d.out.now ++ (part ++ drop (d.at + length bytes - d.at) (drop d.at d.out.now)) → Adds d bytes e
adds_put {d} {e} bytes part q h r m w =
    let k : d.at + (d.at + length bytes - d.at) ≡ d.at + length bytes = omega arith in
    let p : Puts d.out.now d.at bytes e.out.now e.at = record {
      end = m;
      written = w ∙ ap₂ (λ (l r : List ℕ). take d.at d.out.now ++ (l ++ r)) q (drop-drop (d.at + length bytes - d.at) d.at d.out.now ∙ ap (λ (n : ℕ). drop n d.out.now) k);
    } in
    record { same_reference = r; size = puts_length d.out.now d.at bytes e.out.now e.at h p; puts = p }

pub adds_nothing : (d : Draft) → d.at ≤ length d.out.now → Adds d [] d
adds_nothing d h =
    let z : d.at + 0 ≡ d.at = omega arith in
    record { same_reference = refl; size = refl; puts = record { end = omega arith; written = rw z (sym (take-append-drop d.at d.out.now)) } }

pub adds_bytes : {d e : Draft} (xs ys : List ℕ) → xs ≡ ys → Adds d xs e → Adds d ys e
adds_bytes xs ys q p = rw (← q) p

-- one part after the other
pub adds_then : {d e f : Draft} (xs ys : List ℕ) → d.at ≤ length d.out.now → Adds d xs e → Adds e ys f → Adds d (xs ++ ys) f
adds_then {d} {e} {f} xs ys h p q = record {
  same_reference = q.same_reference ∙ p.same_reference;
  size = q.size ∙ p.size;
  puts = puts_then d.out.now e.out.now f.out.now d.at e.at f.at xs ys h p.puts q.puts;
}

pub adds_spaced : {d e f : Draft} (n : ℕ) (digits : List ℕ) → digits ≡ decimal n → d.at ≤ length d.out.now → Adds d (32 ∷ []) e → Adds e digits f → Adds d (spaced (n ∷ [])) f
adds_spaced n digits k h p q =
    adds_bytes ((32 ∷ []) ++ digits) (spaced (n ∷ [])) (ap (λ (l : List ℕ). 32 ∷ l) (k ∙ sym (append-nil (decimal n)))) (adds_then (32 ∷ []) digits h p q)

-- ---- spaced numbers

decimal_length : (k x : ℕ) → length (decimal_by k x) ≤ k + 1
decimal_length zero x = omega arith
decimal_length (suc k) x = go (ltb x 10) (decimal_length k (x / 10))
  where
    go : (b : Bool) → length (decimal_by k (x / 10)) ≤ k + 1 → length (cond b ((48 + x) ∷ []) (decimal_by k (x / 10) ++ ((48 + x % 10) ∷ []))) ≤ suc k + 1
    go true h = omega arith
    go false h = omega (arith, length-append (decimal_by k (x / 10)) ((48 + x % 10) ∷ []))

pub number_length : (x : ℕ) → length (decimal x) ≤ 5
unfolding decimal
number_length x = decimal_length 4 x

pub spaced_append : (xs ys : List ℕ) → spaced (xs ++ ys) ≡ spaced xs ++ spaced ys
spaced_append [] ys = refl
spaced_append (x ∷ xs) ys = ap (λ (l : List ℕ). 32 ∷ (decimal x ++ l)) (spaced_append xs ys) ∙ sym (append_assoc (32 ∷ decimal x) (spaced xs) (spaced ys))

pub spaced_length : (xs : List ℕ) → length (spaced xs) ≤ 6 * length xs
spaced_length [] = omega arith
spaced_length (x ∷ xs) = omega (arith, spaced_length xs, length-append (32 ∷ decimal x) (spaced xs), number_length x)

-- the first j names are added
pub record Listing (d : Draft) (names : List ℕ) (j : ℕ) (e : Draft) : Type 0 where
  pub room : d.at + 6 * length names ≤ length d.out.now
  pub adds : Adds d (spaced (take j names)) e
  pub before : e.at ≤ d.at + 6 * j

module _ (d : Draft) (names : List ℕ) where
  pub listing_none : d.at + 6 * length names ≤ length d.out.now → Listing d names 0 d
  listing_none h = record { room = h; adds = adds_nothing d (omega arith); before = omega arith }

  module _ (j : ℕ) (e : Draft) (r : Listing d names j e) where
    pub listing_more : j < length names → (x : ℕ) → x ≡ get_or names j 0 → (f : Draft) → Adds e (spaced (x ∷ [])) f → Listing d names (j + 1) f
    listing_more h x q f p =
        let t : take (j + 1) names ≡ take j names ++ (x ∷ []) = rw (add-one, q) (take-suc names j 0 h) in
        let s : spaced (take j names) ++ spaced (x ∷ []) ≡ spaced (take (j + 1) names) = sym (ap spaced t ∙ spaced_append (take j names) (x ∷ [])) in
        let u : Adds d (spaced (take (j + 1) names)) f = adds_bytes _ _ s (adds_then (spaced (take j names)) (spaced (x ∷ [])) (omega (arith, r.room)) r.adds p) in
        let m : length (take (j + 1) names) ≡ j + 1 = length-take-le (j + 1) names (omega arith) in
        record { room = r.room; adds = u; before = omega (arith, u.puts.end, spaced_length (take (j + 1) names), m) }

-- a number y, and numbers after it
pub adds_headed : {d e f : Draft} (x y : ℕ) (ns : List ℕ) → x ≡ y → d.at ≤ length d.out.now → Adds d (spaced (x ∷ [])) e → Adds e (spaced ns) f → Adds d (spaced (y ∷ ns)) f
adds_headed x y ns q h p r =
    adds_bytes _ _ (sym (spaced_append (x ∷ []) ns) ∙ ap (λ (z : ℕ). spaced (z ∷ ns)) q) (adds_then (spaced (x ∷ [])) (spaced ns) h p r)

-- how far a number goes
pub end_one : (x : ℕ) {d e : Draft} → Adds d (spaced (x ∷ [])) e → e.at ≤ d.at + 6
end_one x p = omega (arith, p.puts.end, spaced_length (x ∷ []))

-- ---- answers

-- an answer's line is its word, its numbers and the line break
pub spelled : (a : Answer) (ns : List ℕ) → text_of (meant a ns) ≡ letters a ++ spaced (numbers a ns) ++ (10 ∷ [])
spelled (says.Node i) ns = refl
spelled (says.Held n) ns = refl
spelled (says.Gone n) ns = refl
spelled says.Same ns = refl
spelled says.Below ns = refl
spelled says.Above ns = refl
spelled says.Apart ns = refl
spelled (says.Refused k) ns = refl
spelled (says.Unreadable i) ns = refl

-- from the first place on, a word, the numbers and the line break
pub says_line : (a : Answer) (ns word : List ℕ) {d e f g : Draft} {out : List ℕ} → word ≡ letters a → d.at ≡ 0
    → Adds d word e → Adds e (spaced (numbers a ns)) f → Adds f (10 ∷ []) g → out ≡ g.out.now → Puts d.out.now 0 (text_of (meant a ns)) out g.at
says_line a ns word {d} {e} {f} {g} {out} l z p q r o =
    let s : Adds d (letters a ++ spaced (numbers a ns) ++ (10 ∷ [])) g =
    adds_then (letters a ++ spaced (numbers a ns)) (10 ∷ []) (omega (arith, z)) (adds_then (letters a) (spaced (numbers a ns)) (omega (arith, z)) (rw l at p) q) r in
    let t : Puts d.out.now d.at (text_of (meant a ns)) g.out.now g.at = rw (spelled a ns) s.puts in
    rw (o, ← z) t

pub small_number : (a : Answer) (i : ℕ) → a ≡ says.Unreadable i → Small a → i < 100000
small_number a i q h = rw q at h

-- a word has at most seven letters
pub end_letters : (a : Answer) (l : List ℕ) → l ≡ letters a → length l ≤ 7
end_letters a l e = rw e (go a)
  where
    go : (a : Answer) → length (letters a) ≤ 7
    go (says.Node i) = omega arith
    go (says.Held n) = omega arith
    go (says.Gone n) = omega arith
    go says.Same = omega arith
    go says.Below = omega arith
    go says.Above = omega arith
    go says.Apart = omega arith
    go (says.Refused k) = omega arith
    go (says.Unreadable i) = omega arith

-- and at most two numbers, or one and the names
pub end_numbers : (a : Answer) (ns : List ℕ) → length (spaced (numbers a ns)) ≤ 12 + 6 * length ns
end_numbers a ns = let h = spaced_length (numbers a ns) in omega (arith, go a)
  where
    go : (a : Answer) → length (numbers a ns) ≤ 2 + length ns
    go (says.Node i) = omega arith
    go (says.Held n) = omega arith
    go (says.Gone n) = omega arith
    go says.Same = omega arith
    go says.Below = omega arith
    go says.Above = omega arith
    go says.Apart = omega arith
    go (says.Refused k) = omega arith
    go (says.Unreadable i) = omega arith
