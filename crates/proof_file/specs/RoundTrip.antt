-- Writing and reading a proof file are inverse: the claim that proofs/FileLaws proves as `round_trip`.
use Rattle.std.specs.Prelude.{◌≡◌, false, List, ℕ, ◌<◌, length, get_or}
use Rattle.std.proofs.Math.Option.{none}
use Rattle.proof_check.specs.Answers.{bad_length}
use Rattle.proof_file.specs.File.{file_of, file_refusal, lines_in}

-- lines that writing takes come back as they were
pub record ReadsBack (lines : List ℕ) : Type 0 where
  pub readable : file_refusal (file_of lines) ≡ none
  pub again : lines_in (file_of lines) ≡ lines

-- a file of bytes that can be read is the one that is written for its lines, and writing takes them
pub record ReadBack (file : List ℕ) : Type 0 where
  pub takes : bad_length (length (lines_in file)) ≡ false
  pub again : file_of (lines_in file) ≡ file

pub record RoundTrip : Type 0 where
  pub writes : (lines : List ℕ) → bad_length (length lines) ≡ false → ReadsBack lines
  pub reads : (file : List ℕ) → ((i : ℕ) → get_or file i 0 < 256) → file_refusal file ≡ none → ReadBack file
