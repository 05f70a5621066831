-- Laws of the proof file: what a reply tells, and that writing and reading are inverse.
use mathlib.Core.Path.{◌≡◌, refl, sym, ap, ◌∙◌}
use mathlib.Core.Bool.{Bool, true, false, cond}
use mathlib.Core.List.{List, [], ◌∷◌, ◌++◌}
use mathlib.Core.Option.{Option, none, some}
use mathlib.Core.Logic.{⊎_elim}
use Prim.Native.Nat.{ℕ, ◌+◌, ◌-◌, ◌*◌, ◌/◌, ◌%◌, ◌≤◌, ◌<◌}
use native.Mathlib.Nat.{div-add-mod', eq-zero-or-pos}
use native.Mathlib.Omega.{arith}
use lib.ListN.{length, get_or, drop, take, length-drop}
use lib.Seq.{take_all, take-length, drop-append-add, drop-drop, paste}
use Rattle.std.specs.List.{starts_with}
use Rattle.std.proofs.lemmas.Bool.Decides.{nat_tests}
use lib.Dec.{eqb, ltb}
use borrow.Author.Tests.{eqb-true, eqb-false, eq-eqb, ne_eqb, ltb-false, le-ltb, not-true}
use Rattle.std.proofs.lemmas.Bool.{and_parts}
use Rattle.std.specs.Prelude.{Result, is_err}
use Rattle.refusals.specs.declared.Refusal.{Refusal}
use Rattle.refusals.specs.declared.Refusal.TheVariants.{NotAProofFile, BadFileLength}
use Rattle.graph.specs.Limits.{line_limit}
use Rattle.proof_lines.specs.Codec.{two}
use Rattle.proof_check.specs.Answers.{bad_length}
use Rattle.proof_check.proofs.LengthLaws.{length_whole, whole_length}
use Rattle.proof_file.specs.File.{header_of, file_of, is_marked, is_counted, file_refusal, lines_or, lines_in}
use Rattle.proof_file.specs.RoundTrip.{ReadBack, RoundTrip}
use Rattle.proof_file.specs.Promises.{read_reply}

-- ---- what a reply tells

pub reply_readable : (o : Option Refusal) → is_err (read_reply o) ≡ false → o ≡ none
reply_readable none e = refl
reply_readable (some k) e = cc

pub reply_refused : (o : Option Refusal) → is_err (read_reply o) ≡ true → (f : List ℕ) → lines_or o f ≡ []
reply_refused none e f = cc
reply_refused (some k) e f = refl

-- what a file that isn't refused has
pub record Readable (f : List ℕ) : Type 0 where
  pub long : 7 ≤ length f
  pub marked : is_marked f ≡ true
  pub counted : is_counted f ≡ true

pub readable : (f : List ℕ) → file_refusal f ≡ none → Readable f
unfolding file_refusal
readable f e = go (ltb (length f) 7) refl (is_marked f) refl (is_counted f) refl e
  where
    go : (a : Bool) → ltb (length f) 7 ≡ a → (b : Bool) → is_marked f ≡ b → (c : Bool) → is_counted f ≡ c
        → cond {A = Option Refusal} a (some BadFileLength) (cond b (cond c none (some BadFileLength)) (some NotAProofFile)) ≡ none → Readable f
    go true p b q c r e = cc
    go false p false q c r e = cc
    go false p true q false r e = cc
    go false p true q true r e = record { long = ltb-false (length f) 7 p; marked = q; counted = r }

module _ (f : List ℕ) (r : Result (Unit {0}) Refusal) (h : r ≡ read_reply (file_refusal f)) where
  module _ (e : is_err r ≡ false) where
    open_file : file_refusal f ≡ none
    open_file = reply_readable (file_refusal f) (rw h at e)

    pub readable_long : 7 ≤ length f
    readable_long = (readable f open_file).long

    pub readable_lines : take (length f - 7) (drop 7 f) ≡ lines_in f
    readable_lines = rw open_file (take_all (length f - 7) (drop 7 f) (rw length-drop (omega arith)))

  pub refused_lines : is_err r ≡ true → ◌≡◌ {A = List ℕ} [] (lines_in f)
  refused_lines e = sym (reply_refused (file_refusal f) (rw h at e) f)

-- the mark and the version are the first five bytes
pub mark_begins : (f : List ℕ) → starts_with eqb f (80 ∷ 84 ∷ 72 ∷ 0 ∷ 1 ∷ []) ≡ is_marked f
unfolding is_marked
mark_begins [] = refl
mark_begins (a ∷ []) = grind (arith, nat_tests)
mark_begins (a ∷ (b ∷ [])) = grind (arith, nat_tests)
mark_begins (a ∷ (b ∷ (c ∷ []))) = grind (arith, nat_tests)
mark_begins (a ∷ (b ∷ (c ∷ (d ∷ [])))) = grind (arith, nat_tests)
mark_begins (a ∷ (b ∷ (c ∷ (d ∷ (e ∷ r))))) = grind (arith, nat_tests)

-- ---- lines that are written

module _ (ls : List ℕ) (e : bad_length (length ls) ≡ false) where
  written_count : two (file_of ls) 5 ≡ length ls / 8
  written_count = div-add-mod' (length ls / 8) 256

  -- what was written can be read
  pub written_readable : file_refusal (file_of ls) ≡ none
  unfolding file_refusal is_marked is_counted
  written_readable =
      let W = length_whole (length ls) e in
      let l : length (file_of ls) ≡ 7 + 8 * (length ls / 8) = omega (arith, W.whole) in
      rw (le-ltb (length (file_of ls)) 7 (omega arith), written_count, ne_eqb (length ls / 8) 0 (λ z. omega (arith, W.some)), le-ltb 8192 (length ls / 8) W.few, eq-eqb _ _ l)

  -- reading what was written gives the lines again
  pub written_lines : lines_in (file_of ls) ≡ ls
  written_lines = rw written_readable

-- the header stored, and the lines copied after it
pub pasted : (ls out mid : List ℕ) → 7 + length ls ≤ length out → mid ≡ header_of (length ls / 8) ++ drop 7 out
    → paste mid 7 ls (length ls) ≡ file_of ls ++ drop (7 + length ls) out
pasted ls out mid h e =
    let k = length ls / 8 in
    let a : drop (7 + length ls) (header_of k ++ drop 7 out) ≡ drop (length ls) (drop 7 out) = drop-append-add (header_of k) (drop 7 out) (length ls) in
    rw (e, take-length ls, a, drop-drop (length ls) 7 out)

-- ---- files that are read

-- the count of a readable file, and the length that goes with it
pub record Counts (f : List ℕ) : Type 0 where
  pub some : 1 ≤ two f 5
  pub few : two f 5 ≤ line_limit
  pub long : length f ≡ 7 + 8 * two f 5

pub readable_counts : (f : List ℕ) → is_counted f ≡ true → Counts f
unfolding is_counted
readable_counts f e =
    let a = (and_parts _ _ e).0 in
    let r = (and_parts _ _ e).1 in
    let b = (and_parts _ _ r).0 in
    let n : two f 5 ≡ 0 → ⊥ = eqb-false (two f 5) 0 (not-true (eqb (two f 5) 0) a) in
    record {
      some = ⊎_elim (λ z. absurd (n z)) (λ z. z) (eq-zero-or-pos (two f 5));
      few = ltb-false 8192 (two f 5) (not-true (ltb 8192 (two f 5)) b);
      long = eqb-true (length f) _ (and_parts _ _ r).1;
    }

-- a readable file's header is that of its count
header_marked : (a b c d e g h : ℕ) (rest : List ℕ) → e < 256 → h < 256 → is_marked (a ∷ b ∷ c ∷ d ∷ e ∷ g ∷ h ∷ rest) ≡ true
    → a ∷ b ∷ c ∷ d ∷ e ∷ g ∷ h ∷ [] ≡ header_of (g * 256 + h)
unfolding is_marked
header_marked a b c d e g h rest le lh m =
    let m1 = (and_parts _ _ m).1 in
    let m2 = (and_parts _ _ m1).1 in
    let qa : a ≡ 80 = eqb-true a 80 (and_parts _ _ m).0 in
    let qb : b ≡ 84 = eqb-true b 84 (and_parts _ _ m1).0 in
    let qc : c ≡ 72 = eqb-true c 72 (and_parts _ _ m2).0 in
    let v : d * 256 + e ≡ 1 = eqb-true (d * 256 + e) 1 (and_parts _ _ m2).1 in
    let qd : d ≡ 0 = omega arith in
    let qe : e ≡ 1 = omega arith in
    let qg : g ≡ (g * 256 + h) / 256 = omega arith in
    let qh : h ≡ (g * 256 + h) % 256 = omega arith in
    cc

-- its count is that of its lines, and so its header is the one that is written for them
header_written : (g h : ℕ) (rest : List ℕ) → length rest ≡ 8 * (g * 256 + h) → header_of (g * 256 + h) ≡ header_of (length rest / 8)
header_written g h rest e = let q : g * 256 + h ≡ length rest / 8 = omega arith in ap header_of q

-- writing what was read gives the file again, and the lines are such as writing takes
pub read_written : (f : List ℕ) → ((i : ℕ) → get_or f i 0 < 256) → file_refusal f ≡ none → ReadBack f
read_written f b e = go f b e (readable f e)
  where
    short : {P : Type 0} (f : List ℕ) → length f < 7 → Readable f → P
    short f l R = absurd (omega (arith, R.long))

    go : (f : List ℕ) → ((i : ℕ) → get_or f i 0 < 256) → file_refusal f ≡ none → Readable f → ReadBack f
    go [] b e R = short [] (omega arith) R
    go (x ∷ []) b e R = short _ (omega arith) R
    go (x ∷ (x1 ∷ [])) b e R = short _ (omega arith) R
    go (x ∷ (x1 ∷ (x2 ∷ []))) b e R = short _ (omega arith) R
    go (x ∷ (x1 ∷ (x2 ∷ (x3 ∷ [])))) b e R = short _ (omega arith) R
    go (x ∷ (x1 ∷ (x2 ∷ (x3 ∷ (x4 ∷ []))))) b e R = short _ (omega arith) R
    go (x ∷ (x1 ∷ (x2 ∷ (x3 ∷ (x4 ∷ (x5 ∷ [])))))) b e R = short _ (omega arith) R
    go (x ∷ (x1 ∷ (x2 ∷ (x3 ∷ (x4 ∷ (x5 ∷ (x6 ∷ rest))))))) b e R =
        let C = readable_counts _ R.counted in
        let n = x5 * 256 + x6 in
        let l : length rest ≡ 8 * n = omega (arith, C.long) in
        let head = header_marked x x1 x2 x3 x4 x5 x6 rest (b 4) (b 6) R.marked ∙ header_written x5 x6 rest l in
        record {
          takes = rw (e, l) (whole_length n C.some C.few);
          again = rw e (ap (λ (r : List ℕ). r ++ rest) (sym head));
        }

pub round_trip : RoundTrip
round_trip = record { writes = λ ls e. record { readable = written_readable ls e; again = written_lines ls e }; reads = read_written }
