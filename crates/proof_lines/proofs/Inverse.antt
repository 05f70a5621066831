-- Decoding and encoding are inverse to each other.
use mathlib.Core.Path.{◌≡◌, refl, ap, ◌∙◌}
use mathlib.Core.Bool.{Bool, true, false}
use mathlib.Core.List.{List}
use Prim.Native.Nat.{ℕ, zero, suc, ◌+◌, ◌-◌, ◌*◌, ◌/◌, ◌≤◌, ◌<◌}
use native.Mathlib.Omega.{arith}
use lib.ListN.{length, get_or}
use lib.Seq.{ext_get_or}
use lib.Dec.{ltb, leb}
use borrow.Author.Tests.{lt-ltb, ltb-true, ltb-false, leb-true, leb-false}
use Rattle.graph.specs.Lines.{Line}
use Rattle.proof_lines.specs.declared.Fields.{Fields}
use Rattle.std.specs.Prelude.{Some}
use Rattle.proof_lines.specs.Codec.{two, line_from, line_at, Put}
use Rattle.proof_lines.specs.Reading.{line_of, read_of, decoded}
use Rattle.proof_lines.proofs.Decoding.{decoded_line}

-- what was encoded is decoded
pub decode_encode : (bs out : List ℕ) (n : ℕ) (f : Fields) → 8 * n + 8 ≤ length bs → Put bs n (line_of f) out
    → decoded out n ≡ Some (record { fields = f; reserved = 0 })
decode_encode bs out n f room p =
    let k : n < length out / 8 = let z = p.size in omega arith in
    rw (lt-ltb n (length out / 8) k) (ap (λ (l : Line). Some (read_of l)) p.at)

-- two lists of bytes with one line at o have the same eight bytes there
module _ (bs cs : List ℕ) (small : (i : ℕ) → get_or bs i 0 < 256) (small' : (i : ℕ) → get_or cs i 0 < 256) (o : ℕ) (e : line_from bs o ≡ line_from cs o) where
  high : (at i : ℕ) → i ≡ at → two bs at ≡ two cs at → get_or bs i 0 ≡ get_or cs i 0
  high at i j q = rw j (omega (arith, q, small (at + 1), small' (at + 1)))

  low : (at i : ℕ) → i ≡ at + 1 → two bs at ≡ two cs at → get_or bs i 0 ≡ get_or cs i 0
  low at i j q = rw j (omega (arith, q, small (at + 1), small' (at + 1)))

  byte : (j i : ℕ) → i ≡ o + j → j < 8 → get_or bs i 0 ≡ get_or cs i 0
  byte zero i q h = let z : i ≡ o = omega arith in rw z (ap (λ (l : Line). l.rule) e)
  byte (suc zero) i q h = let z : i ≡ o + 1 = omega arith in rw z (ap (λ (l : Line). l.place) e)
  byte (suc (suc zero)) i q h = high (o + 2) i (omega arith) (ap (λ (l : Line). l.first) e)
  byte (suc (suc (suc zero))) i q h = low (o + 2) i (omega arith) (ap (λ (l : Line). l.first) e)
  byte (suc (suc (suc (suc zero)))) i q h = high (o + 4) i (omega arith) (ap (λ (l : Line). l.second) e)
  byte (suc (suc (suc (suc (suc zero))))) i q h = low (o + 4) i (omega arith) (ap (λ (l : Line). l.second) e)
  byte (suc (suc (suc (suc (suc (suc zero)))))) i q h = high (o + 6) i (omega arith) (ap (λ (l : Line). l.reserved) e)
  byte (suc (suc (suc (suc (suc (suc (suc zero))))))) i q h = low (o + 6) i (omega arith) (ap (λ (l : Line). l.reserved) e)
  byte (suc (suc (suc (suc (suc (suc (suc (suc j)))))))) i q h = absurd (omega arith)

-- writing a decoded line where it stood changes no byte
pub encode_decode : (bs out : List ℕ) (n : ℕ) (f : Fields) → ((i : ℕ) → get_or bs i 0 < 256) → ((i : ℕ) → get_or out i 0 < 256)
    → 8 * n + 8 ≤ length bs → decoded bs n ≡ Some (record { fields = f; reserved = 0 }) → Put bs n (line_of f) out → out ≡ bs
encode_decode bs out n f small small' room e p = ext_get_or 0 out bs p.size (λ i h. side i (ltb i (8 * n)) refl (leb (8 * n + 8) i) refl)
  where
    one : line_at out n ≡ line_at bs n
    one = p.at ∙ (decoded_line bs n _ e).1

    side : (i : ℕ) (a : Bool) → ltb i (8 * n) ≡ a → (b : Bool) → leb (8 * n + 8) i ≡ b → get_or out i 0 ≡ get_or bs i 0
    side i true q b r = p.before i (ltb-true _ _ q)
    side i false q true r = p.past i (leb-true _ _ r)
    side i false q false r =
        let l = ltb-false i (8 * n) q in
        let g = leb-false (8 * n + 8) i r in
        byte out bs small' small (8 * n) one (i - 8 * n) i (omega arith) (omega arith)
