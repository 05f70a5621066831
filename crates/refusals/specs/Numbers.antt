-- What a refusal's number is: the table of refusals that users read.
--   refusal_number   the number of a refusal
--   Brought          what a refusal brings beside its number: nothing, so many lines of a proof, or a line
--   brings           clash and cycle bring a proof, a broken line its place
--   numbered         the refusal of a number that brings nothing
use Rattle.std.specs.Prelude.{ℕ, cond, eqb}
use Rattle.refusals.specs.declared.Refusal.{Refusal}
use Rattle.refusals.specs.declared.Refusal.TheVariants.{NotAWorkspace, NodesFull, TooManyChildren, UnknownNode, ShortBuffer, NameHeld, EquationsFull, Clash, Cycle, NameNotHeld, BadLength, BrokenLine, NotShown, NotAProofFile, BadFileLength, UnreadableOrder, ShortOutput, OtherArity}

abbrev pub refusal_number : Refusal → ℕ
refusal_number NotAWorkspace = 1
refusal_number NodesFull = 2
refusal_number TooManyChildren = 3
refusal_number UnknownNode = 4
refusal_number ShortBuffer = 5
refusal_number NameHeld = 6
refusal_number EquationsFull = 7
refusal_number (Clash lines) = 8
refusal_number (Cycle lines) = 9
refusal_number NameNotHeld = 10
refusal_number BadLength = 11
refusal_number (BrokenLine line) = 12
refusal_number NotShown = 13
refusal_number NotAProofFile = 14
refusal_number BadFileLength = 15
refusal_number UnreadableOrder = 16
refusal_number ShortOutput = 17
refusal_number OtherArity = 18

pub data Brought : Type 0 where
  nothing : Brought
  proof : ℕ → Brought
  place : ℕ → Brought

abbrev pub brings : Refusal → Brought
brings NotAWorkspace = nothing
brings NodesFull = nothing
brings TooManyChildren = nothing
brings UnknownNode = nothing
brings ShortBuffer = nothing
brings NameHeld = nothing
brings EquationsFull = nothing
brings (Clash lines) = proof lines
brings (Cycle lines) = proof lines
brings NameNotHeld = nothing
brings BadLength = nothing
brings (BrokenLine line) = place line
brings NotShown = nothing
brings NotAProofFile = nothing
brings BadFileLength = nothing
brings UnreadableOrder = nothing
brings ShortOutput = nothing
brings OtherArity = nothing

abbrev pub numbered : ℕ → Refusal
numbered k =
    cond (eqb k 1) NotAWorkspace (
    cond (eqb k 2) NodesFull (
    cond (eqb k 3) TooManyChildren (
    cond (eqb k 4) UnknownNode (
    cond (eqb k 5) ShortBuffer (
    cond (eqb k 6) NameHeld (
    cond (eqb k 7) EquationsFull (
    cond (eqb k 10) NameNotHeld (
    cond (eqb k 11) BadLength (
    cond (eqb k 13) NotShown (
    cond (eqb k 14) NotAProofFile (
    cond (eqb k 15) BadFileLength (
    cond (eqb k 16) UnreadableOrder (
    cond (eqb k 17) ShortOutput (
    OtherArity))))))))))))))
