-- What writing and reading a proof file promise.
--   read_reply            the reply of reading, from why the bytes are no proof file
--   FileWritten, Writes   the reply with the byte count, and the buffer: the file, then the bytes past it as they were; a refusal leaves all
use Rattle.std.specs.Prelude.{◌≡◌, List, ◌++◌, ℕ, ◌+◌, length, drop, Result, Ok, Err}
use Rattle.std.proofs.Math.Option.{Option, none, some}
use Rattle.refusals.specs.declared.Refusal.{Refusal}
use Rattle.proof_file.specs.File.{file_of, write_refusal}

abbrev pub read_reply : Option Refusal → Result (Unit {0}) Refusal
read_reply none = Ok tt
read_reply (some e) = Err e

abbrev pub FileWritten : Option Refusal → List ℕ → List ℕ → List ℕ → Result ℕ Refusal → Type 0
FileWritten none lines before after r = (r ≡ Ok (7 + length lines)) × (after ≡ file_of lines ++ drop (7 + length lines) before)
FileWritten (some e) lines before after r = (r ≡ Err e) × (after ≡ before)

abbrev pub Writes : List ℕ → List ℕ → List ℕ → Result ℕ Refusal → Type 0
Writes lines before after r = FileWritten (write_refusal (length lines) (length before)) lines before after r
