-- The noted names in a list, rising: what the loop has shown before x, and each way on.
use mathlib.Core.Path.{◌≡◌, refl, ◌∙◌}
use mathlib.Core.Bool.{Bool, true, false}
use mathlib.Core.List.{List}
use Prim.Native.Nat.{ℕ, suc, ◌+◌, ◌*◌, ◌/◌, ◌≤◌, ◌<◌}
use native.Mathlib.Omega.{arith}
use lib.ListN.{length, take, get_or, set, length-set}
use Rattle.std.proofs.lemmas.List.{length-take-le, get_or-take, get_or_past}
use lib.Dec.{ltb}
use lib.Seq.{get_or-set_same, get_or-set_other}
use borrow.Author.Tests.{ltb-true, ltb-false}
use borrow.Author.Count.{below_more}
use Rattle.graph.specs.Lines.{Line}
use Rattle.proof_cited.specs.Cited.{CitedRising}
use Rattle.proof_cited.specs.declared.Marker.{Marker}
use Rattle.proof_cited.specs.Marks.{trues, Listable, NamesNoted, Listing, Listed}
use Rattle.proof_cited.proofs.OneLaws.{trues_longer, trues_next, trues_part}

pub listing_start : (seen : List Bool) (names : List ℕ) → trues seen ≤ 8192 → 8192 ≤ length names → Listing seen names 0 0
listing_start seen names f h = record {
  room = h;
  few = f;
  counted = omega arith;
  only = λ i k. absurd (omega arith);
  lower = λ i k. absurd (omega arith);
  every = λ y k. absurd (omega arith);
  rising = λ i j k l. absurd (omega arith);
}

module _ (seen : List Bool) (names : List ℕ) (n x : ℕ) (w : Listing seen names n x) where
  -- no name from x to z
  pass : (z : ℕ) → x ≤ z → ((y : ℕ) → x ≤ y → y < z → get_or seen y false ≡ true → ⊥) → Listing seen names n z
  pass z h free = record {
    room = w.room;
    few = w.few;
    counted = let c = w.counted in omega (arith, trues_longer x z seen h);
    only = w.only;
    lower = λ i k. omega (arith, w.lower i k);
    every = λ y k e. side y k e (ltb y x) refl;
    rising = w.rising;
  }
    where
      side : (y : ℕ) → y < z → get_or seen y false ≡ true → (b : Bool) → ltb y x ≡ b → (i : ℕ) × (i < n) × (get_or names i 0 ≡ y)
      side y k e true q = w.every y (ltb-true y x q) e
      side y k e false q = absurd (free y (ltb-false y x q) k e)

  pub listing_skip : get_or seen x false ≡ false → Listing seen names n (x + 1)
  listing_skip no_name = pass (x + 1) (omega arith) (λ y a b e. let q : y ≡ x = omega arith in let z = rw q at e in cc)

  pub listing_few : n ≤ 8192
  listing_few = let c = w.counted in let f = w.few in omega (arith, trues_part x seen)

  module _ (s : get_or seen x false ≡ true) where
    next : suc n ≤ trues (take (x + 1) seen)
    next = let c = w.counted in let e : x + 1 ≡ suc x = omega arith in rw e (omega (arith, trues_next x seen s))

    pub listing_room : n < length names
    listing_room = let r = w.room in let f = w.few in omega (arith, next, trues_part (x + 1) seen)

    stored : get_or (set names n x) n 0 ≡ x
    stored = get_or-set_same names n x 0 listing_room

    kept : (i : ℕ) → i < n → get_or (set names n x) i 0 ≡ get_or names i 0
    kept i h = get_or-set_other names n i x 0 (λ e. omega arith)

    pub listing_more : Listing seen (set names n x) (n + 1) (x + 1)
    listing_more = record {
      room = let e = length-set names n x in omega (arith, w.room);
      few = w.few;
      counted = omega (arith, next);
      only = below_more _ n (λ i h. rw (kept i h) (w.only i h)) (rw stored s);
      lower = below_more _ n (λ i h. rw (kept i h) (omega (arith, w.lower i h))) (rw stored (omega arith));
      every = below_more _ x (λ y h e. old y (w.every y h e)) (λ e. (n, omega arith, stored));
      rising = λ i j a b. below_more (λ j. i < j → get_or (set names n x) i 0 < get_or (set names n x) j 0) n
          (λ j h a. rw (kept i (omega arith), kept j h) (w.rising i j a h))
          (λ a. rw (stored, kept i a) (w.lower i a)) j b a;
    }
      where
        old : (y : ℕ) → (i : ℕ) × (i < n) × (get_or names i 0 ≡ y) → (i : ℕ) × (i < n + 1) × (get_or (set names n x) i 0 ≡ y)
        old y p = (p.0, (let h = p.1 in omega arith), kept p.0 p.1 ∙ p.2)

pub listing_end : (m : Marker) (names : List ℕ) (n x : ℕ) → Listing m.names names n x → 65536 ≤ x → Listed m.names names n
listing_end m names n x w h = record {
  only = w.only;
  every = λ y e. side y e (ltb y x) refl;
  rising = w.rising;
  fits = omega (arith, w.room, listing_few m.names names n x w);
  few = listing_few m.names names n x w;
}
  where
    side : (y : ℕ) → get_or m.names y false ≡ true → (b : Bool) → ltb y x ≡ b → (i : ℕ) × (i < n) × (get_or names i 0 ≡ y)
    side y e true q = w.every y (ltb-true y x q) e
    side y e false q = let l = ltb-false y x q in let z = get_or_past m.names y false (omega (arith, m.sizes)) in cc

-- a block without a name
pub listing_jump : (m : Marker) (names : List ℕ) (n b : ℕ) → Listing m.names names n (64 * b) → Listable m → get_or m.blocks b false ≡ false
    → Listing m.names names n (64 * (b + 1))
listing_jump m names n b w t no_block =
    pass m.names names n (64 * b) w (64 * (b + 1)) (omega arith) (λ y a h e. let q : y / 64 ≡ b = omega arith in let z = rw q at (t.blocked y e) in cc)

-- the noted names are the cited ones
pub names_cited : (ls : List Line) (m : Marker) (names : List ℕ) (n : ℕ) → NamesNoted ls m → Listed m.names names n → CitedRising ls (take n names)
names_cited ls m names n t w =
    let long : length (take n names) ≡ n = length-take-le n names w.fits in
    let at : (i : ℕ) → i < n → get_or (take n names) i 0 ≡ get_or names i 0 = λ i h. get_or-take n names i 0 h in
    record {
      only = λ i h. let k : i < n = omega arith in rw (at i k) (t.table.only (get_or names i 0) (w.only i k));
      every = λ x m. let p = w.every x (t.table.every x m) in (p.0, (let h = p.1 in omega arith), at p.0 p.1 ∙ p.2);
      rising = λ i j a b. let k : j < n = omega arith in rw (at i (omega arith), at j k) (w.rising i j a k);
    }
