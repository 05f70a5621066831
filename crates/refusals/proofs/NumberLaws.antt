-- No refusal has number 0, and a number that brings nothing is one refusal's.
--   number_some      no refusal's number is 0
--   brings_nothing   but for 8, 9 and 12 a refusal brings nothing
--   proof_number     8 and 9 bring a proof; number_8, number_9: clash and cycle
--   place_is         and a broken line its place
--   numbered_back, number_one   a refusal that brings nothing is that of its number
use mathlib.Core.Path.{◌≡◌, refl, sym, ap, ◌∙◌}
use mathlib.Core.Logic.{◌⊎◌, inl, inr}
use Prim.Native.Nat.{ℕ}
use native.Mathlib.Omega.{arith}
use Rattle.refusals.specs.Numbers.{refusal_number, nothing, proof, place, brings, numbered}
use Rattle.refusals.specs.declared.Refusal.{Refusal}
use Rattle.refusals.specs.declared.Refusal.TheVariants.{NotAWorkspace, NodesFull, TooManyChildren, UnknownNode, ShortBuffer, NameHeld, EquationsFull, Clash, Cycle, NameNotHeld, BadLength, BrokenLine, NotShown, NotAProofFile, BadFileLength, UnreadableOrder, ShortOutput, OtherArity}

pub number_some : (r : Refusal) → refusal_number r ≡ 0 → ⊥
number_some NotAWorkspace e = omega arith
number_some NodesFull e = omega arith
number_some TooManyChildren e = omega arith
number_some UnknownNode e = omega arith
number_some ShortBuffer e = omega arith
number_some NameHeld e = omega arith
number_some EquationsFull e = omega arith
number_some (Clash n) e = omega arith
number_some (Cycle n) e = omega arith
number_some NameNotHeld e = omega arith
number_some BadLength e = omega arith
number_some (BrokenLine n) e = omega arith
number_some NotShown e = omega arith
number_some NotAProofFile e = omega arith
number_some BadFileLength e = omega arith
number_some UnreadableOrder e = omega arith
number_some ShortOutput e = omega arith
number_some OtherArity e = omega arith

pub brings_nothing : (r : Refusal) → (refusal_number r ≡ 8 → ⊥) → (refusal_number r ≡ 9 → ⊥) → (refusal_number r ≡ 12 → ⊥) → brings r ≡ nothing
brings_nothing NotAWorkspace a b d = refl
brings_nothing NodesFull a b d = refl
brings_nothing TooManyChildren a b d = refl
brings_nothing UnknownNode a b d = refl
brings_nothing ShortBuffer a b d = refl
brings_nothing NameHeld a b d = refl
brings_nothing EquationsFull a b d = refl
brings_nothing (Clash n) a b d = absurd (a refl)
brings_nothing (Cycle n) a b d = absurd (b refl)
brings_nothing NameNotHeld a b d = refl
brings_nothing BadLength a b d = refl
brings_nothing (BrokenLine n) a b d = absurd (d refl)
brings_nothing NotShown a b d = refl
brings_nothing NotAProofFile a b d = refl
brings_nothing BadFileLength a b d = refl
brings_nothing UnreadableOrder a b d = refl
brings_nothing ShortOutput a b d = refl
brings_nothing OtherArity a b d = refl

pub numbered_back : (r : Refusal) → brings r ≡ nothing → numbered (refusal_number r) ≡ r
numbered_back NotAWorkspace e = refl
numbered_back NodesFull e = refl
numbered_back TooManyChildren e = refl
numbered_back UnknownNode e = refl
numbered_back ShortBuffer e = refl
numbered_back NameHeld e = refl
numbered_back EquationsFull e = refl
numbered_back (Clash n) e = cc
numbered_back (Cycle n) e = cc
numbered_back NameNotHeld e = refl
numbered_back BadLength e = refl
numbered_back (BrokenLine n) e = cc
numbered_back NotShown e = refl
numbered_back NotAProofFile e = refl
numbered_back BadFileLength e = refl
numbered_back UnreadableOrder e = refl
numbered_back ShortOutput e = refl
numbered_back OtherArity e = refl

pub number_one : (r q : Refusal) → brings r ≡ nothing → brings q ≡ nothing → refusal_number r ≡ refusal_number q → r ≡ q
number_one r q b d e = sym (numbered_back r b) ∙ ap numbered e ∙ numbered_back q d

pub proof_number : (r : Refusal) (m : ℕ) → brings r ≡ proof m → (refusal_number r ≡ 8) ⊎ (refusal_number r ≡ 9)
proof_number NotAWorkspace m e = cc
proof_number NodesFull m e = cc
proof_number TooManyChildren m e = cc
proof_number UnknownNode m e = cc
proof_number ShortBuffer m e = cc
proof_number NameHeld m e = cc
proof_number EquationsFull m e = cc
proof_number (Clash n) m e = inl refl
proof_number (Cycle n) m e = inr refl
proof_number NameNotHeld m e = cc
proof_number BadLength m e = cc
proof_number (BrokenLine n) m e = cc
proof_number NotShown m e = cc
proof_number NotAProofFile m e = cc
proof_number BadFileLength m e = cc
proof_number UnreadableOrder m e = cc
proof_number ShortOutput m e = cc
proof_number OtherArity m e = cc

pub place_is : (r : Refusal) (i : ℕ) → brings r ≡ place i → r ≡ BrokenLine i
place_is NotAWorkspace i e = cc
place_is NodesFull i e = cc
place_is TooManyChildren i e = cc
place_is UnknownNode i e = cc
place_is ShortBuffer i e = cc
place_is NameHeld i e = cc
place_is EquationsFull i e = cc
place_is (Clash n) i e = cc
place_is (Cycle n) i e = cc
place_is NameNotHeld i e = cc
place_is BadLength i e = cc
place_is (BrokenLine n) i e = cc
place_is NotShown i e = cc
place_is NotAProofFile i e = cc
place_is BadFileLength i e = cc
place_is UnreadableOrder i e = cc
place_is ShortOutput i e = cc
place_is OtherArity i e = cc

pub number_8 : (r : Refusal) → refusal_number r ≡ 8 → (n : ℕ) × (r ≡ Clash n)
number_8 NotAWorkspace e = absurd (omega (arith, e))
number_8 NodesFull e = absurd (omega (arith, e))
number_8 TooManyChildren e = absurd (omega (arith, e))
number_8 UnknownNode e = absurd (omega (arith, e))
number_8 ShortBuffer e = absurd (omega (arith, e))
number_8 NameHeld e = absurd (omega (arith, e))
number_8 EquationsFull e = absurd (omega (arith, e))
number_8 (Clash n) e = (n, refl)
number_8 (Cycle n) e = absurd (omega (arith, e))
number_8 NameNotHeld e = absurd (omega (arith, e))
number_8 BadLength e = absurd (omega (arith, e))
number_8 (BrokenLine n) e = absurd (omega (arith, e))
number_8 NotShown e = absurd (omega (arith, e))
number_8 NotAProofFile e = absurd (omega (arith, e))
number_8 BadFileLength e = absurd (omega (arith, e))
number_8 UnreadableOrder e = absurd (omega (arith, e))
number_8 ShortOutput e = absurd (omega (arith, e))
number_8 OtherArity e = absurd (omega (arith, e))

pub number_9 : (r : Refusal) → refusal_number r ≡ 9 → (n : ℕ) × (r ≡ Cycle n)
number_9 NotAWorkspace e = absurd (omega (arith, e))
number_9 NodesFull e = absurd (omega (arith, e))
number_9 TooManyChildren e = absurd (omega (arith, e))
number_9 UnknownNode e = absurd (omega (arith, e))
number_9 ShortBuffer e = absurd (omega (arith, e))
number_9 NameHeld e = absurd (omega (arith, e))
number_9 EquationsFull e = absurd (omega (arith, e))
number_9 (Clash n) e = absurd (omega (arith, e))
number_9 (Cycle n) e = (n, refl)
number_9 NameNotHeld e = absurd (omega (arith, e))
number_9 BadLength e = absurd (omega (arith, e))
number_9 (BrokenLine n) e = absurd (omega (arith, e))
number_9 NotShown e = absurd (omega (arith, e))
number_9 NotAProofFile e = absurd (omega (arith, e))
number_9 BadFileLength e = absurd (omega (arith, e))
number_9 UnreadableOrder e = absurd (omega (arith, e))
number_9 ShortOutput e = absurd (omega (arith, e))
number_9 OtherArity e = absurd (omega (arith, e))
