-- The outcomes of a visit, and a round made of visits.
use Rattle.std.proofs.Common.{◌≡◌, refl, sym, ◌∙◌, ap, ⊎_elim, List, ℕ, ◌+◌, ◌≤◌, ◌<◌, arith, length, get_or, set, length-set, get_or-set_same, get_or-set_other, Option, Some, None}
use native.Mathlib.Nat.{eq-or-lt_of_le}
use Rattle.std.proofs.lemmas.Bool.{cases_eq}
use Rattle.graph.specs.Limits.{child_limit}
use Rattle.solve_classes.specs.Table.{class}
use Rattle.store.specs.Views.{kind_at, arity_at, child_at}
use Rattle.store.specs.Heads.{Meets, variable, first, further}
use Rattle.store.specs.declared.Terms.{Terms}
use Rattle.solve_trace.specs.declared.Entry.{Entry}
use Rattle.solve_trace.specs.Nodes.{Nodes, IsFunctor, Alike, Formed}
use Rattle.solve_trace.specs.Steps.{TraceFits, Extends, PairsJoined, Places}
use Rattle.solve_closure.specs.declared.Settling.{Settling}
use Rattle.solve_closure.specs.Rounds.{Clashing, Agree, Round, Rounds}
use Rattle.solve_trace.proofs.StepLaws.{extends_none, extends_more, extends_only}
use Rattle.solve_trace.proofs.NodeLaws.{alike_arities}
use Rattle.solve_trace.proofs.ReasonLaws.{by_place}

-- two functor nodes of one class
pub record Meeting (g : Terms) (u v : ℕ) (t : List ℕ) (es : List Entry) : Type 0 where
  pub ready : TraceFits t es
  pub formed : Formed g
  pub left : IsFunctor g u
  pub right : IsFunctor g v
  pub joined : class t u ≡ class t v

-- their children are joined: the table goes on as r; where nothing was merged, the nodes agree
pub record Paired (g : Terms) (u v : ℕ) (t : List ℕ) (es : List Entry) (r : List ℕ) (fs : List Entry) : Type 0 where
  pub extends : Extends (Nodes g) t es r fs
  pub agrees : length fs ≡ length es → Agree g t u v

-- head has, for a root, none or a functor node of that class
pub record Heads (g : Terms) (t : List ℕ) (head : List (Option ℕ)) : Type 0 where
  pub size : length head ≡ 64
  pub functor : (i v : ℕ) → i < 64 → get_or head i None ≡ Some v → IsFunctor g v
  pub inside : (i v : ℕ) → i < 64 → get_or head i None ≡ Some v → class t v ≡ class t i

-- u agrees with the head of its class
pub record Headed (g : Terms) (t : List ℕ) (head : List (Option ℕ)) (u : ℕ) : Type 0 where
  pub node : ℕ
  pub found : get_or head (class t u) None ≡ Some node
  pub agree : Agree g t u node

-- what a visit asks: heads of classes, and a node
pub record Visiting (g : Terms) (u : ℕ) (t : List ℕ) (es : List Entry) (head : List (Option ℕ)) : Type 0 where
  pub ready : TraceFits t es
  pub formed : Formed g
  pub heads : Heads g t head
  pub known : u < g.count

-- a visit of node u without a clash: where nothing was merged, u agrees with its head
pub record Visit (g : Terms) (u : ℕ) (t : List ℕ) (es : List Entry) (head : List (Option ℕ)) (r : List ℕ) (fs : List Entry) (next : List (Option ℕ)) : Type 0 where
  pub extends : Extends (Nodes g) t es r fs
  pub heads : Heads g r next
  pub keeps : (i v : ℕ) → i < 64 → get_or head i None ≡ Some v → get_or next i None ≡ Some v
  pub agrees : length fs ≡ length es → IsFunctor g u → Headed g t next u

-- heads stand while classes only grow
heads_grow : {g : Terms} {t r : List ℕ} {head : List (Option ℕ)} → ((x y : ℕ) → x < 64 → y < 64 → class t x ≡ class t y → class r x ≡ class r y)
    → Formed g → Heads g t head → Heads g r head
heads_grow grows F H =
    record {
      size = H.size;
      functor = H.functor;
      inside = λ i v h l. grows _ _ (let k = (H.functor i v h l).known in omega (arith, k, F.most)) h (H.inside i v h l);
    }

pub meeting_low : {g : Terms} {u v : ℕ} {t : List ℕ} {es : List Entry} → Meeting g u v t es → (u < 64) × (v < 64) × (class t u ≡ class t v)
meeting_low M = (omega (arith, M.left.known, M.formed.most), omega (arith, M.right.known, M.formed.most), M.joined)

-- two functor nodes of one class and equal labels: what joining their children asks, and gives
module _ (g : Terms) (u v : ℕ) (t : List ℕ) (es : List Entry) (M : Meeting g u v t es) (A : Alike g u v) where
  same : arity_at g u ≡ arity_at g v
  same = alike_arities g M.formed u v M.left M.right A

  pub pair_places : (arity_at g u ≤ child_limit) × (arity_at g v ≡ arity_at g u)
  pair_places = (M.formed.arities u M.left.known, sym same)

  pub pair_bounds : (k : ℕ) → k < arity_at g u → (child_at g u k < 64) × (child_at g v k < 64)
  pair_bounds k h =
      let F = M.formed in (
        omega (arith, F.most, M.left.known, F.earlier u k M.left.known h),
        omega (arith, F.most, M.right.known, F.earlier v k M.right.known (omega (arith, same))),
      )

  pub pair_agree : {r : List ℕ} {fs : List Entry}
      → PairsJoined (Places g u v) (child_at g u) (child_at g v) (arity_at g u) t es r fs → Paired g u v t es r fs
  pair_agree P =
      record {
        extends = extends_only _ _ (λ s N t j e h. by_place g t s u v j N M.formed M.left M.right A e h) P.extends;
        agrees = λ e. record { alike = A; places = λ j h. rw (P.extends.same e) at (P.joined j h) };
      }

module _ (g : Terms) (u : ℕ) (t : List ℕ) (es : List Entry) (head : List (Option ℕ)) (A : Visiting g u t es head) where
  below : u < 64
  below = omega (arith, A.formed.most, A.known)

  pub own : class t u < 64
  own = omega (arith, A.ready.table.low u below, below)

  visit_variable : (kind_at g u ≡ 1 → ⊥) → Visit g u t es head t es head
  visit_variable never =
      record {
        extends = extends_none (Nodes g) t es A.ready;
        heads = A.heads;
        keeps = λ i v h l. l;
        agrees = λ e Fu. absurd (never Fu.kind);
      }

  -- the first functor node of its class becomes the head
  become_head : kind_at g u ≡ 1 → get_or head (class t u) None ≡ None → Visit g u t es head t es (set head (class t u) (Some u))
  become_head k l =
      record {
        extends = extends_none (Nodes g) t es A.ready;
        heads =
            record {
              size = length-set head (class t u) (Some u) ∙ A.heads.size;
              functor = λ i v h q. ⊎_elim
                  (λ e. let z : Some u ≡ Some v = sym (now_u i e) ∙ q in let y : u ≡ v = cc in rw (← y) (record { known = A.known; kind = k }))
                  (λ d. A.heads.functor i v h (sym (as_was i d) ∙ q))
                  (cases_eq (class t u) i);
              inside = λ i v h q. ⊎_elim
                  (λ e. let z : Some u ≡ Some v = sym (now_u i e) ∙ q in let y : u ≡ v = cc in ap (class t) (sym y) ∙ sym (A.ready.table.fixed u below) ∙ ap (class t) e)
                  (λ d. A.heads.inside i v h (sym (as_was i d) ∙ q))
                  (cases_eq (class t u) i);
            };
        keeps = λ i v h q. ⊎_elim
            (λ e. let z : Some v ≡ None = sym q ∙ ap (λ (j : ℕ). get_or head j None) (sym e) ∙ l in absurd (cc))
            (λ d. as_was i d ∙ q)
            (cases_eq (class t u) i);
        agrees = λ e Fu. record { node = u; found = now_u (class t u) refl; agree = record { alike = refl; places = λ j h. refl } };
      }
    where
      now_u : (i : ℕ) → class t u ≡ i → get_or (set head (class t u) (Some u)) i None ≡ Some u
      now_u i e = ap (λ (j : ℕ). get_or (set head (class t u) (Some u)) j None) (sym e) ∙ get_or-set_same head (class t u) (Some u) None (omega (arith, A.heads.size, own))

      as_was : (i : ℕ) → (class t u ≡ i → ⊥) → get_or (set head (class t u) (Some u)) i None ≡ get_or head i None
      as_was i d = get_or-set_other head (class t u) i (Some u) None (λ q. d (sym q))

  -- c is the class of u, and u meets no head
  pub visit_idle : {c : ℕ} {next : List (Option ℕ)} {r : Option ℕ} → c ≡ class t u → Meets head c g u next r → ((v : ℕ) → r ≡ Some v → ⊥) → Visit g u t es head t es next
  visit_idle of-u (variable d) other = visit_variable d
  visit_idle of-u (first k e) other = rw of-u (become_head k (rw of-u at e))
  visit_idle of-u (further v k e) other = absurd (other v refl)

  -- c is the class of u, and u meets the head v
  module _ {c v : ℕ} {next : List (Option ℕ)} (of-u : c ≡ class t u) (M : Meets head c g u next (Some v)) where
    met : (kind_at g u ≡ 1) × (next ≡ head) × (get_or head (class t u) None ≡ Some v)
    met = go M refl
      where
        go : {next : List (Option ℕ)} {r : Option ℕ} → Meets head c g u next r → r ≡ Some v → (kind_at g u ≡ 1) × (next ≡ head) × (get_or head (class t u) None ≡ Some v)
        go (variable d) q = absurd (cc)
        go (first k e) q = absurd (cc)
        go (further w k e) q = (k, refl, rw (← of-u) (e ∙ q))

    pub meeting : Meeting g u v t es
    meeting =
        record {
          ready = A.ready;
          formed = A.formed;
          left = record { known = A.known; kind = met.0 };
          right = A.heads.functor (class t u) v own met.2;
          joined = sym (A.ready.table.fixed u below) ∙ sym (A.heads.inside (class t u) v own met.2);
        }

    pub visit_pair : {r : List ℕ} {fs : List Entry} → Paired g u v t es r fs → Visit g u t es head r fs next
    visit_pair P =
        rw met.1
        (record {
          extends = P.extends;
          heads = heads_grow P.extends.grows A.formed A.heads;
          keeps = λ i w h l. l;
          agrees = λ e Fu. record { node = v; found = met.2; agree = P.agrees e };
        })

    pub visit_clash : (Alike g u v → ⊥) → Clashing g t u v
    visit_clash d = record { left = meeting.left; right = meeting.right; joined = meeting.joined; differ = d }

-- nodes from i up are visited
pub record Passed (g : Terms) (t : List ℕ) (es : List Entry) (i : ℕ) (r : List ℕ) (fs : List Entry) (head : List (Option ℕ)) : Type 0 where
  pub extends : Extends (Nodes g) t es r fs
  pub heads : Heads g r head
  pub agrees : length fs ≡ length es → (u : ℕ) → i ≤ u → IsFunctor g u → Headed g r head u

pub passed_visiting : {g : Terms} {t : List ℕ} {es : List Entry} {r : List ℕ} {fs : List Entry} {head : List (Option ℕ)} (i j : ℕ) → i < g.count → Formed g
    → Passed g t es j r fs head → Visiting g i r fs head
passed_visiting i j h F P = record { ready = P.extends.ready; formed = F; heads = P.heads; known = h }

module _ (g : Terms) (t : List ℕ) (es : List Entry) where
  pub passed_none : (head : List (Option ℕ)) → TraceFits t es → length head ≡ 64 → ((i : ℕ) → i < 64 → get_or head i None ≡ None) → Passed g t es g.count t es head
  passed_none head R l e =
      record {
        extends = extends_none (Nodes g) t es R;
        heads =
            record {
              size = l;
              functor = λ i v h q. let z : Some v ≡ None = sym q ∙ e i h in absurd (cc);
              inside = λ i v h q. let z : Some v ≡ None = sym q ∙ e i h in absurd (cc);
            };
        agrees = λ q u h Fu. absurd (omega (arith, Fu.known));
      }

  module _ (i j : ℕ) (one_down : j ≤ i + 1) {r : List ℕ} {fs : List Entry} {head : List (Option ℕ)} (P : Passed g t es j r fs head) where
    pub passed_more : {p : List ℕ} {gs : List Entry} {next : List (Option ℕ)} → Visit g i r fs head p gs next → Formed g → Passed g t es i p gs next
    passed_more {p} {gs} {next} W F =
        record {
          extends = extends_more (Nodes g) P.extends W.extends;
          heads = W.heads;
          agrees = λ e u h Fu.
              let a : length gs ≡ length fs = omega (arith, e, P.extends.more, W.extends.more) in
              let b : length fs ≡ length es = omega (arith, e, P.extends.more, W.extends.more) in
              rw (W.extends.same a)
              (⊎_elim
              (λ z. rw (← z) (W.agrees a (rw (← z) at Fu)))
              (λ z. stays u Fu (P.agrees b u (omega arith) Fu))
              (eq-or-lt_of_le h));
        }
      where
        stays : (u : ℕ) → IsFunctor g u → Headed g r head u → Headed g r next u
        stays u Fu D =
            let low : class r u < 64 = omega (arith, P.extends.ready.table.low u (omega (arith, Fu.known, F.most)), Fu.known, F.most) in
            record { node = D.node; found = W.keeps (class r u) D.node low D.found; agree = D.agree }

    pub passed_clash : (u v : ℕ) → Clashing g r u v → Round g t es (record { table = r; clash = Some (u, v) }) fs
    passed_clash u v C =
        record {
          extends = P.extends;
          clashes = λ x y q.
              let z : (u, v) ≡ (x, y) = cc in
              let a : u ≡ x = ap (λ (p : ℕ × ℕ). p.0) z in
              let b : v ≡ y = ap (λ (p : ℕ × ℕ). p.1) z in
              rw (← a, ← b) C;
          closes = λ e. absurd (cc);
        }

  -- two nodes that agree with one head agree
  pub passed_all : {r : List ℕ} {fs : List Entry} {head : List (Option ℕ)} → Formed g → Passed g t es 0 r fs head → Round g t es (record { table = r; clash = None }) fs
  passed_all {r} {fs} {head} F P =
      record {
        extends = P.extends;
        clashes = λ x y q. absurd (cc);
        closes = λ q e u v Fu Fv j.
            let A = P.agrees e u (omega arith) Fu in
            let B = P.agrees e v (omega arith) Fv in
            let z : Some A.node ≡ Some B.node = sym A.found ∙ ap (λ (i : ℕ). get_or head i None) j ∙ B.found in
            let y : A.node ≡ B.node = cc in
            let b : Agree g r v A.node = rw y B.agree in
            let l = A.agree.alike ∙ sym b.alike in
            record { alike = l; places = λ i h. A.agree.places i h ∙ sym (b.places i (omega (arith, alike_arities g F u v Fu Fv l))) };
      }

  -- the last round: it clashes, or merges nothing
  pub rounds_end : {r : List ℕ} {fs gs : List Entry} {o : Settling} → Extends (Nodes g) t es r fs → Round g r fs o gs → (o.clash ≡ None → length gs ≡ length fs) → Rounds g t es o gs
  rounds_end X W e =
      record { extends = extends_more (Nodes g) X W.extends; clashes = W.clashes; closes = λ q. W.closes q (e q) }
