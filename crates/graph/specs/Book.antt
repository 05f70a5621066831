-- Document 01's book at work: what it replies to a call, and what the call does to its two lists.
--   Call         declare (both ways), equate with the buffer's length, withdraw, clear
--   BookReply    a node's number, held, gone, cleared, or a refusal's number
--   Transition, transition     a reply, and the state after the call
--   removed, all_below, children_of    equations without a name's; numbers below a bound; a node's children
--   arity_fits, node_fits              functor nodes of a symbol have k children; as many as a node of that symbol has
--   early        the first refusal that the two lists decide, in the papers' order; refusal 1 never applies
--   Late, Else   what the closure says of a call; where `early` refuses, that
--   Refusal      the number of a call's refusal, 0 where it isn't refused; 8 and 9 come from the verdict of held and offered
--   accepted     the reply to a call that isn't refused, and the lists after it
--   answer       the reply to any call, and the lists after it
--   Runs         the answers to a list of calls, and the state after it
use Rattle.std.specs.Prelude.{◌≡◌, Bool, true, not, ◌&&◌, ◌||◌, cond, List, [], ◌∷◌, ◌++◌, ℕ, length, eqb, ltb, leb}
use Rattle.std.proofs.Math.Option.{Option, none, some}
use Rattle.graph.specs.Limits.{node_limit, child_limit, equation_limit, buffer_bytes}
use Rattle.graph.specs.State.{Node, variable, functor, Equation, State, state_with, empty_state, name_held, offered}
use Rattle.graph.specs.Verdict.{Verdict}

pub data Call : Type 0 where
  declare : Node → Call
  equate : Equation → (room : ℕ) → Call
  withdraw : (name : ℕ) → Call
  clear : Call

-- a declared node's number, held, gone, no reply beside the workspace (clear), or a refusal's number
pub data BookReply : Type 0 where
  number : ℕ → BookReply
  held : BookReply
  gone : BookReply
  cleared : BookReply
  refused : ℕ → BookReply

pub record Transition : Type 0 where
  pub reply : BookReply
  pub state : State

abbrev pub transition : BookReply → State → Transition
transition r s = record { reply = r; state = s }

-- strikes the equation of that name; the rest keep their order
abbrev pub removed : ℕ → List Equation → List Equation
removed n [] = []
removed n (e ∷ es) = cond (eqb e.name n) es (e ∷ removed n es)

-- each of the numbers is below k
abbrev pub all_below : ℕ → List ℕ → Bool
all_below k [] = true
all_below k (c ∷ cs) = ltb c k && all_below k cs

abbrev pub children_of : Node → List ℕ
children_of variable = []
children_of (functor f cs) = cs

-- each functor node of symbol f among these has k children
abbrev pub arity_fits : (f k : ℕ) → List Node → Bool
arity_fits f k [] = true
arity_fits f k (variable ∷ ns) = arity_fits f k ns
arity_fits f k (functor g ds ∷ ns) = (not (eqb g f) || eqb (length ds) k) && arity_fits f k ns

-- the node has as many children as each of those of its symbol
abbrev pub node_fits : Node → List Node → Bool
node_fits variable ns = true
node_fits (functor f cs) ns = arity_fits f (length cs) ns

-- the refusals that need no closure: of a limit (specs/Limits), of an unknown node, of a symbol, of a name
abbrev pub early : State → Call → Option ℕ
early s (declare n) =
    cond (leb node_limit (length s.nodes)) (some 2)
    (cond (ltb child_limit (length (children_of n))) (some 3)
    (cond (all_below (length s.nodes) (children_of n)) (cond (node_fits n s.nodes) none (some 18)) (some 4)))
early s (equate e room) =
    cond (ltb room buffer_bytes) (some 5)
    (cond (ltb e.left (length s.nodes) && ltb e.right (length s.nodes))
    (cond (name_held e.name s.equations) (some 6)
    (cond (leb equation_limit (length s.equations)) (some 7) none))
    (some 4))
early s (withdraw n) = cond (name_held n s.equations) none (some 10)
early s clear = none

-- what the closure says of a call that the lists don't refuse
abbrev pub Late : State → Call → ℕ → Type 0
Late s (declare n) k = k ≡ 0
Late s (equate e room) k = Verdict (offered s e) k
Late s (withdraw n) k = k ≡ 0
Late s clear k = k ≡ 0

abbrev pub Else : Option ℕ → (ℕ → Type 0) → ℕ → Type 0
Else none L k = L k
Else (some n) L k = k ≡ n

abbrev pub Refusal : State → Call → ℕ → Type 0
Refusal s c k = Else (early s c) (Late s c) k

-- what a call that isn't refused replies and does
abbrev pub accepted : State → Call → Transition
accepted s (declare n) = transition (number (length s.nodes)) (state_with (s.nodes ++ (n ∷ [])) s.equations)
accepted s (equate e room) = transition held (offered s e)
accepted s (withdraw n) = transition gone (state_with s.nodes (removed n s.equations))
accepted s clear = transition cleared empty_state

-- the answer to a call whose refusal is k: a refused call leaves the lists
abbrev pub answer : State → Call → ℕ → Transition
answer s c k = cond (eqb k 0) (accepted s c) (transition (refused k) s)

pub data Runs : State → List Call → List Transition → State → Type 0 where
  over : {s : State} → Runs s [] [] s
  step : {s d : State} {c : Call} {cs : List Call} {rs : List Transition} (k : ℕ) → Refusal s c k
      → Runs (answer s c k).state cs rs d → Runs s (c ∷ cs) (answer s c k ∷ rs) d
