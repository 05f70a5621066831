-- `eqtrace_console::read_full` meets its contract.
use Rattle.std.proofs.Common.{rules, ◌≡◌, ◌≤◌, ◌+◌, ℕ, List, ◌++◌, length, take, sym, ap, ◌∙◌, subst}
use Rattle.std.proofs.lemmas.List.{length-take-le, take-append-le}
use Rattle.std.proofs.Math.Seq.{take-append-add}
use Rattle.std.specs.Io.KnownBytes.{Consumes}
use Rattle.std.proofs.KnownBytes.{Consumes-trans}
use Rattle.eqtrace_console.proofs.read_full.Goals as goal

-- the bytes before the part, and the first that were read into it.
filled_more : (a n : ℕ) (xs ys rest : List ℕ) → a ≤ length xs → n ≤ length ys → take (a + n) (take a xs ++ (ys ++ rest)) ≡ take a xs ++ take n ys
filled_more a n xs ys rest within few =
    ap (λ m. take (m + n) (take a xs ++ (ys ++ rest))) (sym (length-take-le a xs within))
    ∙ take-append-add (take a xs) (ys ++ rest) n
    ∙ ap (λ l. take a xs ++ l) (take-append-le n ys rest few)

pub loop-n-preserved : goal.loop-n-preserved
loop-n-preserved g c =
    let within = c.loop-n.invariant.within in
    let read = c.in_ok-got.ensures in
    let more = filled_more c.loop-n.n c.in_ok-got.got c.loop-n.buf c.read.new.buf _ within read.bound.0 in
    record { within = search rules; read = subst (Consumes _ _) (sym more) (Consumes-trans _ _ _ _ _ c.loop-n.invariant.read read.bytes.0) }
