-- The marking loop: what it has shown with the lines from k on handled, and each way on.
use mathlib.Core.Path.{◌≡◌, refl, sym, ◌∙◌}
use mathlib.Core.Bool.{Bool, true, false}
use mathlib.Core.List.{List}
use mathlib.Core.Logic.{◌⊎◌, ⊎_elim}
use mathlib.Core.Option.{some}
use Prim.Native.Nat.{ℕ, suc, ◌+◌, ◌-◌, ◌*◌, ◌/◌, ◌≤◌, ◌<◌}
use native.Mathlib.Omega.{arith}
use lib.ListN.{length, get_or, set, get_elem?}
use lib.Dec.{eqb}
use borrow.Author.Tests.{eqb-true, eqb-false}
use lib.Seq.{get_or-set_same, get_or-set_other}
use Rattle.graph.specs.Lines.{Line}
use Rattle.proof_lines.specs.Codec.{line_at, lines_of}
use Rattle.proof_lines.proofs.Decoding.{lines_length, lines_found}
use Rattle.proof_cited.specs.Cited.{citations, In, Rests, itself, through, Named}
use Rattle.proof_cited.specs.declared.Marker.{Marker}
use Rattle.proof_cited.specs.Marks.{Visited, Blank, trues, NamesNoted}
use Rattle.proof_cited.proofs.OneLaws.{trues_blank}
use Rattle.proof_cited.proofs.MarkLaws.{all_keep, all_past, all_new, all_from, see_keep, see_new, see_from, see_trues, see_blocked}

pub record Marking (bs : List ℕ) (m : Marker) (k : ℕ) : Type 0 where
  pub within : k ≤ length bs / 8
  pub rest : (i : ℕ) → get_or m.lines i false ≡ true → Rests (lines_of bs) i
  pub ending : (i : ℕ) → suc i ≡ length bs / 8 → get_or m.lines i false ≡ true
  pub handled : (j : ℕ) → k ≤ j → get_or m.lines j false ≡ true → (l : Line) → get_elem? (lines_of bs) j ≡ some l
      → (i : ℕ) → i < j → In i (citations l.rule l.first l.second) → get_or m.lines i false ≡ true
  pub noted : (j : ℕ) → k ≤ j → get_or m.lines j false ≡ true → (l : Line) → get_elem? (lines_of bs) j ≡ some l → l.rule ≡ 1 → get_or m.names l.first false ≡ true
  pub named : (x : ℕ) → get_or m.names x false ≡ true → Named (lines_of bs) x
  pub blocked : (x : ℕ) → get_or m.names x false ≡ true → get_or m.blocks (x / 64) false ≡ true
  pub few : trues m.names + k ≤ length bs / 8

-- a number that is at least k - 1 is that, or at least k
split : (k j : ℕ) → k - 1 ≤ j → (k ≤ j) ⊎ (j ≡ k - 1)
split k j h = grind arith

module _ (bs : List ℕ) (m : Marker) (k : ℕ) (w : Marking bs m k) (pos : 0 < k) where
  -- a line without a mark is passed over
  pub marking_skip : get_or m.lines (k - 1) false ≡ false → Marking bs m (k - 1)
  marking_skip n = record {
    within = let x = w.within in omega arith;
    rest = w.rest;
    ending = w.ending;
    handled = λ j h e l q i b c. ⊎_elim (λ g. w.handled j g e l q i b c) (λ g. let z = rw g at e in cc) (split k j h);
    noted = λ j h e l q r. ⊎_elim (λ g. w.noted j g e l q r) (λ g. let z = rw g at e in cc) (split k j h);
    named = w.named;
    blocked = w.blocked;
    few = let x = w.few in omega arith;
  }

  module _ (mark : get_or m.lines (k - 1) false ≡ true) (few : length bs ≤ 65536) (small : (i : ℕ) → get_or bs i 0 < 256) where
    here : k - 1 < length bs / 8
    here = let x = w.within in omega arith

    -- the line that is visited, and what is found to be it
    abbrev this : Line
    this = line_at bs (k - 1)

    abbrev cited : List ℕ
    cited = citations this.rule this.first this.second

    at : get_elem? (lines_of bs) (k - 1) ≡ some this
    at = lines_found bs (k - 1) here

    found : (j : ℕ) (l : Line) → j ≡ k - 1 → get_elem? (lines_of bs) j ≡ some l → l ≡ this
    found j l x q = let y : get_elem? (lines_of bs) (k - 1) ≡ some l = rw x at q in let z = at in cc

    name_small : this.first < 65536
    name_small = omega (arith, small (8 * (k - 1) + 2), small (8 * (k - 1) + 2 + 1))

    fits : this.first < length m.names
    fits = omega (arith, m.sizes, name_small)

    block_fits : this.first / 64 < length m.blocks
    block_fits = omega (arith, m.sizes, name_small)

    room : k - 1 ≤ length m.lines
    room = omega (arith, m.sizes, here)

    pub marking_visit : (after : Marker) → Visited m (k - 1) this after → Marking bs after (k - 1)
    marking_visit after v = record {
      within = let x = w.within in omega arith;
      rest = λ i g. ⊎_elim (λ x. w.rest i x) (λ y. through this (w.rest (k - 1) mark) at y.0 y.1) (all_from m.lines (k - 1) cited i (rw v.lines at g));
      ending = λ i g. kept i (w.ending i g);
      handled = λ j h g l q i b c.
          ⊎_elim
          (λ x. kept i (w.handled j x (before j h g) l q i b c))
          (λ x. rw v.lines (all_new m.lines (k - 1) cited room i (rw x at b) (rw (found j l x q) at c)))
          (split k j h);
      noted = λ j h g l q r.
          ⊎_elim
          (λ x. rw v.names (see_keep m.names this.rule this.first l.first (w.noted j x (before j h g) l q r) fits))
          (λ x. let y = found j l x q in rw (v.names, y) (see_new m.names this.rule this.first (rw y at r) fits))
          (split k j h);
      named = λ x g.
          ⊎_elim (λ y. w.named x y)
          (λ y. record { at = k - 1; line = this; rests = w.rest (k - 1) mark; there = at; by_equation_lem = y.0; name = y.1 })
          (see_from m.names this.rule this.first x (rw v.names at g));
      blocked = λ x g. rw v.blocks (see_blocked m.names m.blocks this.rule this.first w.blocked block_fits x (rw v.names at g));
      few = let x = w.few in rw v.names (omega (arith, see_trues m.names this.rule this.first));
    }
      where
        kept : (i : ℕ) → get_or m.lines i false ≡ true → get_or after.lines i false ≡ true
        kept i e = rw v.lines (all_keep m.lines (k - 1) cited room i e)

        before : (j : ℕ) → k - 1 ≤ j → get_or after.lines j false ≡ true → get_or m.lines j false ≡ true
        before j h g = sym (all_past m.lines (k - 1) cited j h) ∙ (rw v.lines at g)

-- the last line marked
module _ (bs : List ℕ) (m after : Marker) (b : Blank m) (one : 8 ≤ length bs) (few : length bs ≤ 65536)
    (lines : after.lines ≡ set m.lines (length bs / 8 - 1) true) (names : after.names ≡ m.names) where
  unseen : (x : ℕ) → get_or after.names x false ≡ true → ⊥
  unseen x e = let y = rw names at e in let z = b.names x in cc

  only : (i : ℕ) → get_or after.lines i false ≡ true → i ≡ length bs / 8 - 1
  only i e = go (eqb i (length bs / 8 - 1)) refl
    where
      go : (t : Bool) → eqb i (length bs / 8 - 1) ≡ t → i ≡ length bs / 8 - 1
      go true q = eqb-true _ _ q
      go false q =
          let y : false ≡ true = sym (b.lines i) ∙ sym (get_or-set_other m.lines (length bs / 8 - 1) i true false (eqb-false _ _ q)) ∙ (rw lines at e) in
          cc

  ends : (i : ℕ) → get_or after.lines i false ≡ true → suc i ≡ length (lines_of bs)
  ends i e = let y = only i e in let z = lines_length bs in omega arith

  far : (j : ℕ) → length bs / 8 ≤ j → get_or after.lines j false ≡ true → ⊥
  far j h e = let y = only j e in omega arith

  pub marking_start : Marking bs after (length bs / 8)
  marking_start = record {
    within = omega arith;
    rest = λ i e. itself (ends i e);
    ending = λ i e.
        let y : i ≡ length bs / 8 - 1 = omega arith in
        let last : length bs / 8 - 1 < length m.lines = omega (arith, m.sizes) in
        rw (lines, y) (get_or-set_same m.lines (length bs / 8 - 1) true false last);
    handled = λ j h e l q i c d. absurd (far j h e);
    noted = λ j h e l q r. absurd (far j h e);
    named = λ x e. absurd (unseen x e);
    blocked = λ x e. absurd (unseen x e);
    few = rw names (omega (arith, trues_blank m.names b.names));
  }

-- all lines handled
module _ (bs : List ℕ) (m : Marker) (k : ℕ) (w : Marking bs m k) (done : k ≤ 0) (few : length bs ≤ 65536) where
  all_marked : {i : ℕ} → Rests (lines_of bs) i → get_or m.lines i false ≡ true
  all_marked {i} (itself e) = w.ending i (e ∙ lines_length bs)
  all_marked {i} (through {j = j} l r q h c) = w.handled j (omega arith) (all_marked r) l q i h c

  pub marking_end : NamesNoted (lines_of bs) m
  marking_end = record {
    table = record {
      only = w.named;
      every = λ x n. rw (← n.name) (w.noted n.at (omega arith) (all_marked n.rests) n.line n.there n.by_equation_lem);
    };
    tables = record {
      blocked = w.blocked;
      few = let x = w.few in omega arith;
    };
  }
