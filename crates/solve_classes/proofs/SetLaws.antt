-- The number that a set of numbers is: made bit by bit, its ones are how many, its trailing zeros the lowest; of two, what they share.
use mathlib.Core.Path.{◌≡◌, refl, sym, ap, ap₂, ◌∙◌}
use mathlib.Core.Bool.{Bool, true, false, ◌&&◌, cond}
use mathlib.Core.Logic.{◌⊎◌, inl, inr, ⊎_elim}
use Prim.Native.Nat.{ℕ, zero, suc, ◌+◌, ◌*◌, ◌/◌, ◌%◌, ◌^◌, ◌≤◌, ◌<◌}
use native.Mathlib.Nat.{not-suc-le-zero, le_of_suc-le-suc, eq-or-lt_of_le, pow-suc, div-add-mod', zero-lt-suc}
use native.Mathlib.Numerals.{add-one}
use native.Mathlib.Omega.{arith}
use lib.Bits.{bit_and, and_block, bit_or, or_shifted_r, block_half, block_odd, shifted_half, shifted_even}
use lib.Pow.{shl_exact}
use lib.Dec.{lit<}
use lib.Count.{ones, ones_cat, count_trailing_zeros, under, trailing_of_zero}
use Rattle.std.proofs.lemmas.Bool.{false_from_ne_true}
use Rattle.solve_classes.specs.Members.{digit, set_of, size_of, pass_both, Lowest, lowest_from}

pub set_none : (f : ℕ → Bool) → set_of f 0 ≡ 0
unfolding set_of
set_none f = refl

pub set_lt : (f : ℕ → Bool) (n : ℕ) → set_of f n < 2 ^ n
unfolding set_of
set_lt f zero = zero-lt-suc 0
set_lt f (suc n) = go (f n) (set_lt f n)
  where
    go : (b : Bool) → set_of f n < 2 ^ n → digit b * 2 ^ n + set_of f n < 2 ^ suc n
    go true h = rw pow-suc (omega arith)
    go false h = rw pow-suc (omega arith)

-- a turn of the loop, at the code's i + 1
pub set_in : (f : ℕ → Bool) (i : ℕ) → f i ≡ true → bit_or (set_of f i) (1 * 2 ^ i) ≡ set_of f (i + 1)
unfolding set_of
set_in f i e = rw (add-one, e) (or_shifted_r 1 i (set_of f i) (set_lt f i))

pub set_out : (f : ℕ → Bool) (i : ℕ) → f i ≡ false → set_of f i ≡ set_of f (i + 1)
unfolding set_of
set_out f i e = rw (add-one, e) (omega arith)

-- the same, as the machine's shift has it: what it puts in is the word's remainder
pub set_shifted : (f : ℕ → Bool) (i : ℕ) {s b r : ℕ} → r ≡ bit_or s ((b * 2 ^ i) % 2 ^ 64) → b ≡ 1 → s ≡ set_of f i → i < 64 → f i ≡ true → r ≡ set_of f (i + 1)
set_shifted f i {s} {b} q o e h y = q ∙ rw (e, o, shl_exact 1 i 64 (lit< tt) (omega arith)) (set_in f i y)

-- the ones are the members
ones_digit : (b : Bool) → ones (digit b) ≡ digit b
unfolding ones
ones_digit true = refl
ones_digit false = refl

pub set_size : (f : ℕ → Bool) (n : ℕ) → ones (set_of f n) ≡ size_of f n
unfolding set_of size_of ones
set_size f zero = refl
set_size f (suc n) = ones_cat n (digit (f n)) (set_of f n) (set_lt f n) ∙ ap₂ (λ (x y : ℕ). x + y) (ones_digit (f n)) (set_size f n)

-- a set bit hides what is above it
pub trailing_low : (m k a r : ℕ) → 0 < r → r < 2 ^ k → k ≤ m → count_trailing_zeros m (a * 2 ^ k + r) ≡ count_trailing_zeros m r
unfolding count_trailing_zeros
trailing_low zero zero a r p h l = refl
trailing_low zero (suc k) a r p h l = refl
trailing_low (suc m) zero a r p h l = absurd (let z : ⊥ = omega arith in z)
trailing_low (suc m) (suc k) a r p h l =
    ap₂ (λ (x y : ℕ). under x (count_trailing_zeros m y)) (block_odd a k r) (block_half a k r)
    ∙ go (λ p' h'. trailing_low m k a (r / 2) p' h' (le_of_suc-le-suc l)) (r % 2) refl
  where
    half : r % 2 ≡ 0 → 0 < r / 2
    half e = let d : r / 2 * 2 + r % 2 ≡ r = div-add-mod' r 2 in omega arith

    small : r / 2 < 2 ^ k
    small =
        let d : r / 2 * 2 + r % 2 ≡ r = div-add-mod' r 2 in
        let q : 2 ^ suc k ≡ 2 ^ k * 2 = pow-suc 2 k in
        omega arith

    go : (0 < r / 2 → r / 2 < 2 ^ k → count_trailing_zeros m (a * 2 ^ k + r / 2) ≡ count_trailing_zeros m (r / 2)) → (d : ℕ) → r % 2 ≡ d → under d (count_trailing_zeros m (a * 2 ^ k + r / 2)) ≡ under d (count_trailing_zeros m (r / 2))
    go rest zero e = ap suc (rest (half e) small)
    go rest (suc d) e = refl

-- one bit
pub trailing_one : (m k : ℕ) → k < m → count_trailing_zeros m (1 * 2 ^ k) ≡ k
unfolding count_trailing_zeros
trailing_one zero k l = absurd (not-suc-le-zero l)
trailing_one (suc m) zero l = refl
trailing_one (suc m) (suc k) l =
    ap₂ (λ (x y : ℕ). under x (count_trailing_zeros m y)) (shifted_even 1 k) (shifted_half 1 k) ∙ ap suc (trailing_one m k (le_of_suc-le-suc l))

pub set_empty : (f : ℕ → Bool) (n : ℕ) → ((k : ℕ) → k < n → f k ≡ false) → set_of f n ≡ 0
unfolding set_of
set_empty f zero h = refl
set_empty f (suc n) h = let e : set_of f n ≡ 0 = set_empty f n (λ k l. h k (omega arith)) in rw (h n (omega arith)) (omega arith)

set_pos : (f : ℕ → Bool) (n i : ℕ) → i < n → f i ≡ true → 0 < set_of f n
unfolding set_of
set_pos f zero i l e = absurd (not-suc-le-zero l)
set_pos f (suc n) i l e = go (λ q. set_pos f n i q e) (eq-or-lt_of_le (le_of_suc-le-suc l))
  where
    here : (b : Bool) → b ≡ true → 0 < 2 ^ n → 0 < digit b * 2 ^ n + set_of f n
    here true e p = omega arith
    here false e p = cc

    go : (i < n → 0 < set_of f n) → (i ≡ n) ⊎ (i < n) → 0 < digit (f n) * 2 ^ n + set_of f n
    go rest (inl q) = here (f n) (ap f (sym q) ∙ e) (let h : set_of f n < 2 ^ n = set_lt f n in omega arith)
    go rest (inr q) = let h : 0 < set_of f n = rest q in omega arith

-- the trailing zeros are the lowest member
pub set_lowest : (f : ℕ → Bool) (m n i : ℕ) → n ≤ m → i < n → Lowest (λ k. f k ≡ true) i → count_trailing_zeros m (set_of f n) ≡ i
unfolding set_of
set_lowest f m zero i l h w = absurd (not-suc-le-zero h)
set_lowest f m (suc n) i l h w = go (λ q. set_lowest f m n i (omega arith) q w) (eq-or-lt_of_le (le_of_suc-le-suc h))
  where
    go : (i < n → count_trailing_zeros m (set_of f n) ≡ i) → (i ≡ n) ⊎ (i < n) → count_trailing_zeros m (digit (f n) * 2 ^ n + set_of f n) ≡ i
    go rest (inl q) =
        let e : f n ≡ true = ap f (sym q) ∙ w.here in
        let z : set_of f n ≡ 0 = set_empty f n (λ k u. false_from_ne_true (f k) (w.below k (omega arith))) in
        let s : digit (f n) * 2 ^ n + set_of f n ≡ 1 * 2 ^ n = ap₂ (λ (b : Bool) (x : ℕ). digit b * 2 ^ n + x) e z ∙ omega arith in
        ap (count_trailing_zeros m) s ∙ trailing_one m n (omega arith) ∙ sym q
    go rest (inr q) = trailing_low m n (digit (f n)) (set_of f n) (set_pos f n i q w.here) (set_lt f n) (omega arith) ∙ rest q

-- what `lowest_from` finds is the lowest that passes, or none does
abbrev pub Finds : (ℕ → Bool) → ℕ → ℕ → Type 0
Finds f m r = ((r < m) × Lowest (λ k. f k ≡ true) r) ⊎ ((r ≡ m) × ((k : ℕ) → k < m → f k ≡ false))

finds_from : (f : ℕ → Bool) (m i n : ℕ) → i + n ≡ m → ((k : ℕ) → k < i → f k ≡ false) → Finds f m (lowest_from f i n)
unfolding lowest_from
finds_from f m i zero e h = inr (omega arith, λ k l. h k (omega arith))
finds_from f m i (suc n) e h = go (f i) refl (finds_from f m (suc i) n (omega arith))
  where
    next : f i ≡ false → (k : ℕ) → k < suc i → f k ≡ false
    next z k u = ⊎_elim (λ q. ap f q ∙ z) (λ q. h k q) (eq-or-lt_of_le (le_of_suc-le-suc u))

    go : (b : Bool) → f i ≡ b → (((k : ℕ) → k < suc i → f k ≡ false) → Finds f m (lowest_from f (suc i) n)) → Finds f m (cond b i (lowest_from f (suc i) n))
    go true z rest = inl (omega arith, record { here = z; below = λ k l y. cc (h k l) })
    go false z rest = rest (next z)

pub lowest_finds : (f : ℕ → Bool) (m : ℕ) → Finds f m (lowest_from f 0 m)
lowest_finds f m = finds_from f m 0 m (omega arith) (λ k u. absurd (not-suc-le-zero u))

-- for every test, with members or without
pub set_zeros : (f : ℕ → Bool) (m : ℕ) → count_trailing_zeros m (set_of f m) ≡ lowest_from f 0 m
set_zeros f m =
    ⊎_elim
    (λ p. set_lowest f m m (lowest_from f 0 m) (omega arith) p.0 p.1)
    (λ p. ap (count_trailing_zeros m) (set_empty f m p.1) ∙ trailing_of_zero m ∙ sym p.0)
    (lowest_finds f m)

-- what two sets share are those that pass both tests
and_digit : (a b : Bool) → bit_and (digit a) (digit b) ≡ digit (a && b)
and_digit true true = refl
and_digit true false = refl
and_digit false b = refl

pub set_both : (f g : ℕ → Bool) (n : ℕ) → bit_and (set_of f n) (set_of g n) ≡ set_of (pass_both f g) n
unfolding set_of
set_both f g zero = refl
set_both f g (suc n) =
    and_block n (digit (f n)) (digit (g n)) (set_of f n) (set_of g n) (set_lt f n) (set_lt g n)
    ∙ ap₂ (λ (x y : ℕ). x * 2 ^ n + y) (and_digit (f n) (g n)) (set_both f g n)
