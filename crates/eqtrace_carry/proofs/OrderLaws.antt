-- The order that a line was parsed as is the grammar's.
use mathlib.Core.Path.{◌≡◌, refl, sym, ap, ◌∙◌, subst}
use mathlib.Core.List.{List, []}
use mathlib.Core.Option.{Option, none, some}
use Prim.Native.Nat.{ℕ}
use Rattle.std.specs.Prelude.{Some, None}
use Rattle.std.specs.declared.option.Option.{Option as Optional}
use Rattle.bounded_list.specs.Bounded.{Bounded, holding}
use Rattle.graph.specs.State.{functor}
use Rattle.graph.specs.Book as book
use Rattle.unifier.specs.Replies.{node_number}
use Rattle.unifier.specs.Answers.{Answers}
use Rattle.unifier.specs.declared.Workspace.{Workspace}
use Rattle.eqtrace_orders.specs.Grammar.{Order}
use Rattle.eqtrace_orders.specs.Grammar as order
use Rattle.eqtrace_orders.specs.Parse.{first_five, order_found}
use Rattle.eqtrace_orders.specs.declared.Order.{Order as Code}
use Rattle.eqtrace_orders.specs.declared.Order.TheVariants as code
use Rattle.eqtrace_carry.specs.Carried.{Carries}
use Rattle.eqtrace_carry.specs.declared.Carried.{Carried}
use Rattle.eqtrace_carry.proofs.FiveLaws.{five_answers}

-- a functor node's first five children are handed on
record Handed (o : Option Order) (f : ℕ) (children : Bounded ℕ) : Type 0 where
  pub cs : List ℕ
  pub is : o ≡ some (order.functor f cs)
  pub five : children.items ≡ first_five cs

handed : (o : Option Order) (f : ℕ) (children : Bounded ℕ) → order_found o ≡ Some (code.Functor f children) → Handed o f children
handed none f l e = cc
handed (some order.variable) f l e = cc
handed (some (order.functor g cs)) f l e = let q : g ≡ f = cc in let h : l ≡ holding (first_five cs) 0 = cc in let p : l.items ≡ first_five cs = ap (λ (v : Bounded ℕ). v.items) h in record { cs = cs; is = ap (λ (x : ℕ). some (order.functor x cs)) q; five = p }
handed (some (order.equate n u v)) f l e = cc
handed (some (order.withdraw n)) f l e = cc
handed (some (order.query u v)) f l e = cc

pub carries_functor : (o : Option Order) (f : ℕ) (children : Bounded ℕ) → order_found o ≡ Some (code.Functor f children)
    → (w : Workspace) (i : ℕ) (before after old new : List ℕ) (r : Carried) → Carries w i (some (order.functor f children.items)) before after old new r → Carries w i o before after old new r
carries_functor o f children e w i before after old new r C =
    let h = handed o f children e in
    let d = C.does in
    let a : Answers node_number w (book.declare (functor f h.cs)) d.outcome = five_answers w f h.cs d.outcome (subst (λ (x : List ℕ). Answers node_number w (book.declare (functor f x)) d.outcome) h.five d.answers) in
    rw h.is
    (record {
      answer = C.answer;
      does = record { outcome = d.outcome; answers = a; said = d.said; workspace = d.workspace; kept = d.kept };
      says = C.says;
      refused_is = C.refused_is;
    })

-- ---- what was parsed tells the order; cs are the children of a functor node

abbrev order_by : Optional Code → List ℕ → Option Order
order_by None cs = none
order_by (Some code.Variable) cs = some order.variable
order_by (Some (code.Functor f children)) cs = some (order.functor f cs)
order_by (Some (code.Equate n u v)) cs = some (order.equate n u v)
order_by (Some (code.Withdraw n)) cs = some (order.withdraw n)
order_by (Some (code.Query u v)) cs = some (order.query u v)

inverse : (o : Option Order) → (cs : List ℕ) × (o ≡ order_by (order_found o) cs)
inverse none = ([], refl)
inverse (some order.variable) = ([], refl)
inverse (some (order.functor f cs)) = (cs, refl)
inverse (some (order.equate n u v)) = ([], refl)
inverse (some (order.withdraw n)) = ([], refl)
inverse (some (order.query u v)) = ([], refl)

module _ (o : Option Order) (c : Optional Code) (e : order_found o ≡ c) (t : Option Order) (k : (cs : List ℕ) → order_by c cs ≡ t) where
  -- what isn't an `F` tells its order
  pub order_is : o ≡ t
  order_is = let i = inverse o in i.1 ∙ ap (λ (x : Optional Code). order_by x i.0) e ∙ k i.0

  pub carries_order : (w : Workspace) (i : ℕ) (before after old new : List ℕ) (r : Carried) → Carries w i t before after old new r → Carries w i o before after old new r
  carries_order w i before after old new r h = subst (λ (x : Option Order). Carries w i x before after old new r) (sym order_is) h
