-- The checker's definition is sound: what passes is true of the closure.
--   claim_ok      what a line claims holds, where the claims before it do
--   checked_ok    every claim of a list that keeps its rules holds in the closure
--   judge_sound   what a list that passes was to show is true: clash, cycle, same and below
use mathlib.Core.Path.{◌≡◌, refl}
use mathlib.Core.Bool.{Bool, true, false, cond}
use mathlib.Core.List.{List, [], ◌∷◌}
use mathlib.Core.Option.{Option, none, some}
use Prim.Native.Nat.{ℕ, zero, suc}
use lib.ListN.{length, get_elem?}
use lib.Dec.{eqb, ltb}
use borrow.Author.Tests.{ltb-true, eqb-true}
use Rattle.graph.specs.State.{functor, State, NodeAt}
use Rattle.graph.specs.Closure.{Same, equation, reflexivity, symmetry, transitivity, down, Below, child, same_below, below_same, below_below, Clash}
use Rattle.graph.specs.Lines.{Line, Claim, same, below, Holds, named, Functor, functor_at, equal_labels, claim_of_equation, by_equation, by_child, by_reflexivity, symmetry_of, transitivity_of, down_to, down_of, tidy, by_rule, claim_of, LineClaims, all, broken, on_all, more, line_claims}
use Rattle.graph.specs.Goals.{Goal, clash_goal, cycle_goal, same_goal, below_goal, Meaning, labels_differ, shows, Ended, ends, breaks, empty, last_of, ended, passed, refused, judge_end, Passes}
use Rattle.std.proofs.lemmas.Bool.{and_parts}
use Rattle.std.specs.List.{AllByRecursion as All}
use Rattle.graph.proofs.LookupLaws.{IfSome, need_ok, cond_ok, try_ok, all_at, all_snoc, named_held, functor_at_lem, labels_equal, equal_labels_lem}

-- ---- each rule is sound

module _ (s : State) where
  equation_ok : (n : ℕ) → IfSome (Holds s) (by_equation s.equations n)
  equation_ok n = try_ok (Holds s) (named s.equations n) claim_of_equation (λ e h. equation (named_held s.equations n e h))

  child_ok : (u p : ℕ) → IfSome (Holds s) (by_child s.nodes u p)
  child_ok u zero = try_ok (Holds s) (functor_at s.nodes u) _ (λ k h. tt)
  child_ok u (suc i) =
      try_ok (Holds s) (functor_at s.nodes u) _ (λ k h. try_ok (Holds s) (get_elem? k.children i) _ (λ v c. child i (functor_at_lem s.nodes u k h) c))

  reflexivity_ok : (u : ℕ) → IfSome (Holds s) (by_reflexivity s.nodes u)
  reflexivity_ok u = need_ok (Holds s) (ltb u (length s.nodes)) (some (same u u)) (λ t. reflexivity (ltb-true u (length s.nodes) t))

  symmetry_ok : (c : Claim) → Holds s c → IfSome (Holds s) (symmetry_of c)
  symmetry_ok (same u v) h = symmetry h
  symmetry_ok (below u v) h = tt

  transitivity_ok : (c d : Claim) → Holds s c → Holds s d → IfSome (Holds s) (transitivity_of c d)
  transitivity_ok (same u v) (same x y) h k = need_ok (Holds s) _ _ (λ t. let q : Same s v y = rw (← eqb-true v x t) at k in search transitivity)
  transitivity_ok (same u v) (below x y) h k = need_ok (Holds s) _ _ (λ t. let q : Below s v y = rw (← eqb-true v x t) at k in search same_below)
  transitivity_ok (below u v) (same x y) h k = need_ok (Holds s) _ _ (λ t. let q : Same s v y = rw (← eqb-true v x t) at k in search below_same)
  transitivity_ok (below u v) (below x y) h k = need_ok (Holds s) _ _ (λ t. let q : Below s v y = rw (← eqb-true v x t) at k in search below_below)

  down_to_ok : (p u v : ℕ) (k m : Functor) → Same s u v → NodeAt s u (functor k.symbol k.children) → NodeAt s v (functor m.symbol m.children)
      → IfSome (Holds s) (down_to p k m)
  down_to_ok zero u v k m h n o = need_ok (Holds s) (equal_labels k m) none (λ t. tt)
  down_to_ok (suc i) u v k m h n o =
      need_ok (Holds s) (equal_labels k m) _
      (λ t. try_ok (Holds s) (get_elem? k.children i) _
      (λ x c. try_ok (Holds s) (get_elem? m.children i) _
      (λ y d. down i h n o (labels_equal k m t) c d)))

  down_ok : (p : ℕ) (c : Claim) → Holds s c → IfSome (Holds s) (down_of s.nodes p c)
  down_ok p (same u v) h =
      try_ok (Holds s) (functor_at s.nodes u) _
      (λ k n. try_ok (Holds s) (functor_at s.nodes v) _
      (λ m o. down_to_ok p u v k m h (functor_at_lem s.nodes u k n) (functor_at_lem s.nodes v m o)))
  down_ok p (below u v) h = tt

  -- what a line claims holds, where the claims before it do
  claim_ok : (done : List Claim) (l : Line) → All (Holds s) done → IfSome (Holds s) (claim_of s done l)
  unfolding claim_of by_rule
  claim_ok done l w =
      need_ok (Holds s) (tidy l) (by_rule s done l) λ t.
      cond_ok (Holds s) (eqb l.rule 1) _ _ (equation_ok l.first)
      (cond_ok (Holds s) (eqb l.rule 2) _ _ (child_ok l.first l.place)
      (cond_ok (Holds s) (eqb l.rule 3) _ _ (reflexivity_ok l.first)
      (cond_ok (Holds s) (eqb l.rule 4) _ _ (try_ok (Holds s) _ _ (λ c h. symmetry_ok c (all_at (Holds s) done w l.first c h)))
      (cond_ok (Holds s) (eqb l.rule 5) _ _
      (try_ok (Holds s) _ _ (λ c h. try_ok (Holds s) _ _ (λ d k. transitivity_ok c d (all_at (Holds s) done w l.first c h) (all_at (Holds s) done w l.second d k))))
      (cond_ok (Holds s) (eqb l.rule 6) _ _ (try_ok (Holds s) _ _ (λ c h. down_ok l.place c (all_at (Holds s) done w l.first c h))) tt)))))

  -- ---- a list of lines

  -- every claim of a list that keeps its rules holds
  abbrev pub IfAll : LineClaims → Type 0
  IfAll (all cs) = All (Holds s) cs
  IfAll (broken k) = Unit {0}

  more_ok : (done : List Claim) (o : Option Claim) → All (Holds s) done → IfSome (Holds s) o → IfAll (more done o)
  more_ok done none w h = tt
  more_ok done (some c) w h = all_snoc (Holds s) done c w h

  on_ok : (r : LineClaims) (f : List Claim → LineClaims) → IfAll r → ((cs : List Claim) → All (Holds s) cs → IfAll (f cs)) → IfAll (on_all r f)
  on_ok (all cs) f w g = g cs w
  on_ok (broken k) f w g = tt

  pub checked_ok : (done : List Claim) (ls : List Line) → All (Holds s) done → IfAll (line_claims s done ls)
  checked_ok done [] w = w
  checked_ok done (l ∷ ls) w =
      on_ok (more done (claim_of s done l)) (λ next. line_claims s next ls) (more_ok done (claim_of s done l) w (claim_ok done l w)) (λ cs v. checked_ok cs ls v)

  -- ---- what a claim shows

  differ_ok : (u v : ℕ) → Same s u v → (o p : Option Functor) → functor_at s.nodes u ≡ o → functor_at s.nodes v ≡ p → labels_differ o p ≡ true → Clash s
  differ_ok u v h none p q r e = cc
  differ_ok u v h (some k) none q r e = cc
  differ_ok u v h (some k) (some m) q r e = record {
    u = u;
    v = v;
    f = k.symbol;
    g = m.symbol;
    cs = k.children;
    ds = m.children;
    at_u = functor_at_lem s.nodes u k q;
    at_v = functor_at_lem s.nodes v m r;
    differ = λ w. cc (equal_labels_lem k m w);
    joins = h;
  }

  pub shows_ok : (g : Goal) (c : Claim) → Holds s c → shows s.nodes g c ≡ true → Meaning s g
  shows_ok clash_goal (same u v) h e = differ_ok u v h (functor_at s.nodes u) (functor_at s.nodes v) refl refl e
  shows_ok clash_goal (below u v) h e = cc
  shows_ok cycle_goal (same u v) h e = cc
  shows_ok cycle_goal (below u v) h e = record { u = u; back = rw (← eqb-true u v e) at h }
  shows_ok (same_goal x y) (same u v) h e = let p = and_parts (eqb x u) (eqb y v) e in rw (eqb-true x u p.0, eqb-true y v p.1) h
  shows_ok (same_goal x y) (below u v) h e = cc
  shows_ok (below_goal x y) (same u v) h e = cc
  shows_ok (below_goal x y) (below u v) h e = let p = and_parts (eqb x u) (eqb y v) e in rw (eqb-true x u p.0, eqb-true y v p.1) h

  abbrev IfEnds : Ended → Type 0
  IfEnds (ends c) = Holds s c
  IfEnds (breaks k) = Unit {0}
  IfEnds empty = Unit {0}

  last_ok : (cs : List Claim) → All (Holds s) cs → IfEnds (last_of cs)
  last_ok [] w = tt
  last_ok (c ∷ []) w = w.0
  last_ok (c ∷ (d ∷ ds)) w = last_ok (d ∷ ds) w.1

  ended_ok : (r : LineClaims) → IfAll r → IfEnds (ended r)
  ended_ok (all cs) w = last_ok cs w
  ended_ok (broken k) w = tt

  judge_ok : (g : Goal) (e : Ended) → IfEnds e → judge_end s.nodes g e ≡ passed → Meaning s g
  judge_ok g (ends c) w q = go (shows s.nodes g c) refl q
    where
      go : (t : Bool) → shows s.nodes g c ≡ t → cond t passed (refused 13) ≡ passed → Meaning s g
      go true r q = shows_ok g c w r
      go false r q = cc
  judge_ok g (breaks k) w q = cc
  judge_ok g empty w q = cc

  -- what the lines that pass were to show is true
  pub judge_sound : (g : Goal) (ls : List Line) → Passes s g ls → Meaning s g
  judge_sound g ls e =
      let q : judge_end s.nodes g (ended (line_claims s [] ls)) ≡ passed = cc in judge_ok g (ended (line_claims s [] ls)) (ended_ok (line_claims s [] ls) (checked_ok [] ls tt)) q
