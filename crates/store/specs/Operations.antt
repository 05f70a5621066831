-- What the operations give back: one record each, through the views.
--   First         the first place of a name among the first n, or n
--   Finds         the place of the held equation of a name, if there is one
--   PutsNode      declare: one node more, at the end
--   PutsEquation  equate: one equation more, at the end
--   Removes       withdraw: the equation of a name taken out, the rest closing up in order, the freed place zero
-- The exact struct stands beside the lists, so that a value that isn't well-shaped has just one result too.
use Rattle.std.specs.Prelude.{◌≡◌, Bool, true, false, cond, List, [], ◌∷◌, ◌++◌, ℕ, suc, ◌+◌, ◌-◌, ◌*◌, ◌≤◌, ◌<◌, length, get_or, set, ltb, Option, Some, None}
use Rattle.std.proofs.Math.Seq.{paste}
use Rattle.graph.specs.Limits.{node_limit, child_limit}
use Rattle.graph.specs.State.{Node, equation_of, name_held}
use Rattle.graph.specs.Book.{removed, all_below, arity_fits}
use Rattle.base.specs.Tab.{tab}
use Rattle.store.specs.Views.{terms, equations, nodes_of, equations_of}
use Rattle.store.specs.Shape.{TermsShape, EquationsShape}
use Rattle.store.specs.declared.Terms.{Terms}
use Rattle.store.specs.declared.Equations.{Equations}

pub record First (l : List ℕ) (n x r : ℕ) : Type 0 where
  pub within : r ≤ n
  pub here : r < n → get_or l r 0 ≡ x
  pub before : (i : ℕ) → i < r → get_or l i 0 ≡ x → ⊥

-- the place of the held equation of name x, or none where no equation has it
abbrev pub Finds : Equations → ℕ → Option ℕ → Type 0
Finds e x (Some k) = First e.name e.count x k × (k < e.count)
Finds e x None = First e.name e.count x e.count

-- ---- one more at the end

abbrev pub with_variable : Terms → Terms
with_variable t = terms (t.count + 1) (set t.kind t.count 0) t.symbol t.arity t.child

abbrev pub with_children : Terms → List ℕ → Terms
with_children t cs = terms t.count t.kind t.symbol t.arity (paste t.child (4 * t.count) cs (length cs))

abbrev pub with_functor : Terms → ℕ → List ℕ → Terms
with_functor t f cs =
    terms (t.count + 1) (set t.kind t.count 1) (set t.symbol t.count f) (set t.arity t.count (length cs))
    (paste t.child (4 * t.count) cs (length cs))

-- there is room for a functor node with this symbol and these children, each a node, as many as those of its symbol have
pub record Room (t : Terms) (f : ℕ) (cs : List ℕ) : Type 0 where
  pub room : t.count < node_limit
  pub few : length cs ≤ child_limit
  pub known : all_below t.count cs ≡ true
  pub fits : arity_fits f (length cs) (nodes_of t) ≡ true

-- r is t with the node n; as a struct it is `whole`
pub record PutsNode (t : Terms) (n : Node) (whole r : Terms) : Type 0 where
  pub exact : r ≡ whole
  pub count : r.count ≡ t.count + 1
  pub nodes : TermsShape t → nodes_of r ≡ nodes_of t ++ (n ∷ [])
  pub shape : TermsShape t → TermsShape r

abbrev pub with_equation : Equations → ℕ → ℕ → ℕ → Equations
with_equation e n u v = equations (e.count + 1) (set e.name e.count n) (set e.left e.count u) (set e.right e.count v)

pub record PutsEquation (e : Equations) (n u v : ℕ) (r : Equations) : Type 0 where
  pub exact : r ≡ with_equation e n u v
  pub count : r.count ≡ e.count + 1
  pub held : equations_of r ≡ equations_of e ++ (equation_of n u v ∷ [])
  pub shape : (m : ℕ) → EquationsShape m e → u < m → v < m → name_held n (equations_of e) ≡ false → EquationsShape m r

-- ---- one taken out

-- where an element stands before place k is taken out
abbrev pub skip : ℕ → ℕ → ℕ
skip k i = cond (ltb i k) i (suc i)

-- an array with place k taken out, and z at its end
unfoldable pub closed : {A : Type 0} → A → ℕ → List A → List A
closed z k l = tab (length l) (λ i. get_or l (skip k i) z)

abbrev pub without_place : ℕ → Equations → Equations
without_place k e = equations (e.count - 1) (closed 0 k e.name) (closed 0 k e.left) (closed 0 k e.right)

-- the reply b, and the equations after it, r
pub record Removes (e : Equations) (n : ℕ) (b : Bool) (r : Equations) : Type 0 where
  pub found : b ≡ name_held n (equations_of e)
  pub held : equations_of r ≡ removed n (equations_of e)
  pub exact : (k : ℕ) → First e.name e.count n k → k < e.count → r ≡ without_place k e
  pub kept : name_held n (equations_of e) ≡ false → r ≡ e
  pub shape : (m : ℕ) → EquationsShape m e → EquationsShape m r
