-- The way up from v to u's class, step by step.
use Rattle.std.proofs.Common.{◌≡◌, ℕ, zero, suc, ◌+◌, ◌-◌, ◌≤◌, ◌<◌, List, [], ◌∷◌, ◌++◌, length, get_or, Some, refl, sym, ◌∙◌, ap, arith, length-append}
use Rattle.std.specs.List.{All}
use Rattle.std.proofs.lemmas.List.Elements.{All-push}
use Rattle.solve_classes.specs.Table.{class, Table}
use Rattle.solve_classes.proofs.TableLaws.{class_small}
use Rattle.solve_reach.specs.declared.Down.{Down}
use Rattle.solve_reach.specs.declared.Search.{Search}
use Rattle.solve_reach.specs.Reach.{down_at, Reaches, Ways}
use Rattle.solve_heights.proofs.OptionLaws.{some_of}
use Rattle.write_below.specs.declared.Rung.{Rung}
use Rattle.write_below.specs.Steps.{upper, Connected, Noted, AllOnNodes, OnTheWay, Leads, Top}

abbrev pub step_of : Down → ℕ → Rung
step_of x q = record { down = x; low = q }

pub upper_more : (v : ℕ) (xs : List Rung) (x : Rung) → upper v (xs ++ (x ∷ [])) ≡ x.down.parent
upper_more v [] x = refl
upper_more v (y ∷ xs) x = upper_more y.down.parent xs x

pub connected_more : (v : ℕ) (xs : List Rung) (x : Rung) → Connected v xs → x.low ≡ upper v xs → Connected v (xs ++ (x ∷ []))
connected_more v [] x C e = (e, tt)
connected_more v (y ∷ xs) x C e = (C.0, connected_more y.down.parent xs x C.1 e)

-- the upper end is the last step's parent
last_parent : (v : ℕ) (xs : List Rung) (d : Rung) (n : ℕ) → length xs ≡ suc n → (get_or xs n d).down.parent ≡ upper v xs
last_parent v [] d n h = absurd (omega arith)
last_parent v (x ∷ []) d zero h = refl
last_parent v (x ∷ []) d (suc n) h = absurd (omega arith)
last_parent v (x ∷ (y ∷ xs)) d zero h = absurd (omega arith)
last_parent v (x ∷ (y ∷ xs)) d (suc n) h = last_parent x.down.parent (y ∷ xs) d n (omega arith)

pub upper_last : (v : ℕ) (xs : List Rung) (d : Rung) → 1 ≤ length xs → (get_or xs (length xs - 1) d).down.parent ≡ upper v xs
upper_last v xs d h = last_parent v xs d (length xs - 1) (omega arith)

pub upper_small : (v : ℕ) (xs : List Rung) → 1 ≤ length xs → AllOnNodes xs → upper v xs < 64
upper_small v xs h A =
    let none : Rung = record { down = record { parent = 0; place = 0; into = 0; level = 0 }; low = 0 } in
    rw (← upper_last v xs none h) (A (length xs - 1) none (omega arith)).parent

-- ---- on the way

module _ {t : List ℕ} {r : Search} {u v : ℕ} (T : Table t) (W : Ways t r u) where
  pub going_none : v < 64 → Reaches t r v → OnTheWay t r v [] v
  going_none h R =
      let x = some_of (down_at r (class t v)) R in
      record {
        connected = tt;
        noted = λ k d l. absurd (omega arith);
        here = refl;
        small = h;
        goes = (x.0, (x.1, omega (arith, W.top (class t v) x.0 (class_small T v h) x.1)));
      }

  module _ {xs : List Rung} {q : ℕ} (G : OnTheWay t r v xs q) where
    -- a step was taken from q
    module _ {x : Down} (e : down_at r (class t q) ≡ Some x) where
      same : G.goes.0 ≡ x
      same = let z : Some G.goes.0 ≡ Some x = sym G.goes.1.0 ∙ e in cc

      going_room : length xs + x.level ≤ 64
      going_room = rw same at G.goes.1.1

      going_low : 1 ≤ x.level
      going_low = W.low (class t q) x (class_small T q G.small) e

      going_parent : x.parent < 64
      going_parent = W.parents (class t q) x (class_small T q G.small) e

      noted_more : All (Noted t r) (xs ++ (step_of x q ∷ []))
      noted_more = All-push (Noted t r) xs (step_of x q) G.noted (record { small = G.small; step = e })

      linked_more : Connected v (xs ++ (step_of x q ∷ []))
      linked_more = connected_more v xs (step_of x q) G.connected (sym G.here)

      pub going_more : (class t x.parent ≡ class t u → ⊥) → OnTheWay t r v (xs ++ (step_of x q ∷ [])) x.parent
      going_more n =
          let O = W.onward (class t q) x (class_small T q G.small) e n in
          record {
            connected = linked_more;
            noted = noted_more;
            here = upper_more v xs (step_of x q);
            small = going_parent;
            goes = (O.0, (O.1.0, omega (arith, O.1.1, going_room, length-append xs (step_of x q ∷ []))));
          }

      pub way_there : class t x.parent ≡ class t u → Leads t r u v (xs ++ (step_of x q ∷ []))
      way_there z =
          record {
            some_steps = omega (arith, length-append xs (step_of x q ∷ []));
            few = omega (arith, going_room, going_low, length-append xs (step_of x q ∷ []));
            connected = linked_more;
            noted = noted_more;
            end = rw (upper_more v xs (step_of x q)) z;
          }

  pub on_nodes : {xs : List Rung} → Leads t r u v xs → AllOnNodes xs
  on_nodes L = λ k d h.
      let N = L.noted k d h in
      let c = class_small T _ N.small in
      record { low = N.small; into = W.childs _ _ c N.step; parent = W.parents _ _ c N.step }

  -- the node at which the way begins
  pub way_begins : {xs : List Rung} {p : ℕ} → Leads t r u v xs → p ≡ upper v xs → Top t r u p
  way_begins {xs} {p} L e =
      let none : Rung = record { down = record { parent = 0; place = 0; into = 0; level = 0 }; low = 0 } in
      let x = get_or xs (length xs - 1) none in
      let N = L.noted (length xs - 1) none (omega (arith, L.some_steps)) in
      record {
        d = class t x.low;
        down = x.down;
        small = class_small T _ N.small;
        reached = N.step;
        leads = upper_last v xs none L.some_steps ∙ sym e;
        in_class_lem = ap (class t) e ∙ L.end;
      }

-- ---- a way that leads back, from the node at which it begins

module _ {t : List ℕ} {r : Search} {u p : ℕ} (B : Top t r u p) where
  -- a search from u is one from each node of its class
  pub top_ways : Ways t r u → Ways t r p
  top_ways W =
      record {
        parents = W.parents;
        childs = W.childs;
        low = W.low;
        top = W.top;
        onward = λ d x h e n. W.onward d x h e (λ z. n (z ∙ sym B.in_class_lem));
      }
