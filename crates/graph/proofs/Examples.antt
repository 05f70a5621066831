-- The worked examples hold: one fact, by computation where it can be.
use mathlib.Core.Path.{◌≡◌, refl, sym, ◌∙◌, subst}
use mathlib.Core.Logic.{⊎_elim}
use mathlib.Core.List.{List, [], ◌∷◌, ◌++◌}
use Prim.Native.Nat.{ℕ}
use native.Mathlib.Omega.{arith}
use lib.ListN.{take}
use Rattle.graph.specs.State.{Node, Equation, State, IsNode, Proper, equation_of, state_with, offered}
use Rattle.base.specs.Tab.{tab}
use Rattle.graph.specs.Closure.{Same, equation, reflexivity, symmetry, transitivity, down}
use Rattle.graph.specs.Solution.{Solution}
use Rattle.graph.specs.Verdict.{Verdict}
use Rattle.graph.specs.Lines.{Line, tidy, by_rule, claim_of}
use Rattle.graph.specs.Goals.{clash_goal, cycle_goal, same_goal}
use Rattle.graph.specs.Book.{over, step}
use Rattle.graph.specs.Examples.{equation_line, child_line, turned_line, joined_line, down_line, ExampleRun, program, e11, program_calls, program_replies, Starred, types, a_b, c_g, SectionTwo, siblings, parents, congruent, Nothing, Untidy, Broken, Refusals, Arities, Examples}
use Rattle.base.proofs.ListLaws.{found_take, found_snoc}
use Rattle.graph.proofs.SolutionLaws.{Fewer, solution_fewer, proper_fewer, solution_verdict}
use Rattle.graph.proofs.SoundLaws.{judge_sound}
use Rattle.graph.proofs.ProperLaws.{proper_offered}
use Rattle.graph.proofs.SolutionTest.{solution_ok, proper_ok, clash_verdict, cycle_verdict, held_verdict, apart}

-- ---- starred

-- without equations each node is alone
alone : (ns : List Node) {u v : ℕ} → Same (state_with ns []) u v → u ≡ v
alone ns (equation w) = cc w.1
alone ns (reflexivity k) = refl
alone ns (symmetry p) = sym (alone ns p)
alone ns (transitivity p q) = alone ns p ∙ alone ns q
alone ns (down {u} {v} {f} {g} {x} {y} {cs} {ds} j p n m l c d) = let e : u ≡ v = alone ns p in cc

-- the solution of a state serves it with a node equated with itself
itself : (s : State) → Proper s → Solution s → (n u : ℕ) → IsNode s u → Verdict (offered s (equation_of n u u)) 0
itself s P S n u k = solution_verdict (offered s e) (proper_offered s P e k k) with_it
  where
    e : Equation
    e = equation_of n u u

    with_it : Solution (offered s e)
    with_it = record {
      classes = record {
        class = S.classes.class;
        equated = λ d w.
            ⊎_elim (λ o. S.classes.equated d (w.0, o)) (λ o. subst (λ (x : Equation). S.classes.class x.left ≡ S.classes.class x.right) o.1 refl)
            (found_snoc s.equations e w.0 d w.1);
        label = S.classes.label;
        place = S.classes.place;
      };
      height = S.height;
      level = S.level;
      lower = S.lower;
    }

program_session : ExampleRun program_calls program_replies (state_with program (e11 ∷ []))
unfolding tidy by_rule claim_of
program_session = record {
  answers = _;
  runs =
      step 0 refl
      (step 0 refl
      (step 0 refl
      (step 0 (held_verdict _ (0 ∷ 0 ∷ 2 ∷ []) (0 ∷ 0 ∷ 0 ∷ []) refl refl)
      (step 8 (clash_verdict _ (equation_line 10 ∷ turned_line 0 ∷ equation_line 11 ∷ joined_line 1 2 ∷ []) refl)
      (step 0 refl (step 0 (held_verdict _ (0 ∷ 1 ∷ 0 ∷ []) (0 ∷ 0 ∷ 0 ∷ []) refl refl) over))))));
  replies = refl;
}

starred : Starred
unfolding tidy by_rule claim_of
starred = record {
  alone = λ ns u v p. alone ns p;
  itself = itself;
  itself_held = held_verdict _ (0 ∷ []) (0 ∷ []) refl refl;
  program_held = held_verdict _ (0 ∷ 0 ∷ 2 ∷ []) (0 ∷ 0 ∷ 0 ∷ []) refl refl;
  program_clash = clash_verdict _ (equation_line 10 ∷ turned_line 0 ∷ equation_line 11 ∷ joined_line 1 2 ∷ []) refl;
  program_same = judge_sound _ (same_goal 0 1) (equation_line 10 ∷ []) refl;
  program_after = solution_ok _ (0 ∷ 1 ∷ 0 ∷ []) (0 ∷ 0 ∷ 0 ∷ []) refl;
  program_session = program_session;
  loop_cycle = cycle_verdict _ (0 ∷ 0 ∷ []) (equation_line 10 ∷ child_line 1 1 ∷ joined_line 0 1 ∷ []) refl refl;
  arities_refused = omega arith;
  a_same_b = judge_sound _ (same_goal 0 2) (equation_line 10 ∷ down_line 0 1 ∷ down_line 0 2 ∷ joined_line 1 2 ∷ []) refl;
  both_cycle = judge_sound _ cycle_goal (equation_line 10 ∷ down_line 0 1 ∷ child_line 4 1 ∷ joined_line 1 2 ∷ []) refl;
  both_clash = clash_verdict _ (equation_line 10 ∷ down_line 0 2 ∷ []) refl;
}

-- ---- section 2

-- classes and heights that solve a to g, and with i
classes_g : List ℕ
classes_g = 0 ∷ 1 ∷ 1 ∷ 1 ∷ 1 ∷ 1 ∷ 6 ∷ 7 ∷ 1 ∷ 9 ∷ 10 ∷ 0 ∷ 6 ∷ 13 ∷ []

classes_i : List ℕ
classes_i = 0 ∷ 1 ∷ 1 ∷ 1 ∷ 1 ∷ 1 ∷ 6 ∷ 1 ∷ 1 ∷ 9 ∷ 10 ∷ 0 ∷ 6 ∷ 13 ∷ []

heights : List ℕ
heights = 1 ∷ 0 ∷ 0 ∷ 0 ∷ 0 ∷ 0 ∷ 1 ∷ 0 ∷ 0 ∷ 0 ∷ 0 ∷ 1 ∷ 1 ∷ 1 ∷ []

-- document 001's chain int = t4 = t5 = t1 = t3 = bool, by h, f, d, g, e, c
by_h : List Line
by_h =
    equation_line 8 ∷ equation_line 6 ∷ turned_line 1 ∷ joined_line 2 0 ∷ down_line 3 2 ∷ turned_line 4 ∷ equation_line 4 ∷ joined_line 5 6 ∷
    equation_line 7 ∷ joined_line 7 8 ∷ equation_line 5 ∷ turned_line 10 ∷ joined_line 9 11 ∷ equation_line 3 ∷ joined_line 12 13 ∷ []

-- what solves a to g solves each prefix
prefixes : (k : ℕ) → Solution (state_with types (take k (a_b ++ c_g))) × Verdict (state_with types (take k (a_b ++ c_g))) 0
unfolding classes_g heights
prefixes k = (part, solution_verdict _ (proper_fewer _ whole fewer (proper_ok whole refl)) part)
  where
    whole : State
    whole = state_with types (a_b ++ c_g)

    fewer : Fewer (state_with types (take k (a_b ++ c_g))) whole
    fewer = record { nodes_same = refl; held_in = λ e q. (q.0, found_take k (a_b ++ c_g) q.0 e q.1) }

    part : Solution (state_with types (take k (a_b ++ c_g)))
    part = solution_fewer _ whole fewer (solution_ok whole classes_g heights refl)

section_two : SectionTwo
unfolding tidy by_rule claim_of classes_g classes_i heights by_h tab
section_two = record {
  a_to_g = prefixes;
  h_refused = clash_verdict _ by_h refl;
  c_to_h = judge_sound _ clash_goal by_h refl;
  i_held = held_verdict _ classes_i heights refl refl;
  session = record {
    answers = _;
    runs =
        step 0 refl
        (step 0 refl
        (step 0 refl
        (step 0 refl
        (step 0 refl
        (step 0 refl
        (step 0 refl
        (step 0 refl
        (step 0 refl
        (step 0 refl
        (step 0 refl
        (step 0 refl
        (step 0 refl
        (step 0 refl
        (step 0 (prefixes 1).1
        (step 0 (prefixes 2).1
        (step 0 (prefixes 3).1
        (step 0 (prefixes 4).1
        (step 0 (prefixes 5).1
        (step 0 (prefixes 6).1
        (step 0 (prefixes 7).1
        (step 8 (clash_verdict _ by_h refl) (step 0 (held_verdict _ classes_i heights refl refl) over))))))))))))))))))))));
    replies = refl;
  };
}

-- ---- what proves nothing

nothing : Nothing
unfolding tidy by_rule claim_of
nothing =
    let siblings_apart : Same siblings 0 1 → ⊥ = apart siblings (0 ∷ 1 ∷ 2 ∷ []) 0 1 refl refl in
    let parents_apart : Same parents 1 2 → ⊥ = apart parents (0 ∷ 1 ∷ 2 ∷ []) 1 2 refl refl in
    record {
      siblings_apart = siblings_apart;
      siblings_unproved = λ ls e. siblings_apart (judge_sound siblings (same_goal 0 1) ls e);
      siblings_lines = refl;
      parents_apart = parents_apart;
      parents_unproved = λ ls e. parents_apart (judge_sound parents (same_goal 1 2) ls e);
      parents_lines = refl;
      no_congruence = apart congruent (0 ∷ 0 ∷ 2 ∷ 3 ∷ []) 2 3 refl refl;
      two_steps = cycle_verdict _ (0 ∷ 1 ∷ 0 ∷ []) (equation_line 10 ∷ child_line 2 1 ∷ joined_line 0 1 ∷ child_line 1 1 ∷ joined_line 2 3 ∷ []) refl refl;
    }

-- ---- lines

untidy : Untidy
unfolding tidy by_rule claim_of
untidy = record {
  equation_place = (refl, refl);
  equation_second = (refl, refl);
  equation_reserved = (refl, refl);
  child_second = (refl, refl);
  child_reserved = (refl, refl);
  self_place = (refl, refl);
  self_second = (refl, refl);
  self_reserved = (refl, refl);
  turned_place = (refl, refl);
  turned_second = (refl, refl);
  turned_reserved = (refl, refl);
  joined_place = (refl, refl);
  joined_reserved = (refl, refl);
  down_second = (refl, refl);
  down_reserved = (refl, refl);
}

broken : Broken
unfolding tidy by_rule claim_of
broken = record {
  rule_0 = refl;
  rule_7 = refl;
  first_such = refl;
  no_name = refl;
  child_place_0 = refl;
  child_place_2 = refl;
  child_of_variable = refl;
  self_unknown = refl;
  turned_itself = refl;
  turned_later = refl;
  turned_below = refl;
  joined_apart = refl;
  down_below = refl;
  down_variables = refl;
  down_place_0 = refl;
  down_place_2 = refl;
  down_labels = refl;
  cycle_wanted = refl;
  clash_wanted = refl;
  other_way_wanted = refl;
  below_wanted = refl;
  no_lines = refl;
  clash_shown = refl;
  cycle_shown = refl;
}

-- ---- refusals

refusals : Refusals
unfolding tidy by_rule claim_of tab
refusals = record {
  node_64 = omega arith;
  node_65 = omega arith;
  children_4 = omega arith;
  children_5 = omega arith;
  first_child = omega arith;
  left_unknown = omega arith;
  right_unknown = omega arith;
  buffer_whole = refl;
  buffer_whole_held = held_verdict _ (0 ∷ []) (0 ∷ []) refl refl;
  buffer_short = omega arith;
  name_twice = omega arith;
  equation_256 = refl;
  equation_256_held = held_verdict _ (0 ∷ []) (0 ∷ []) refl refl;
  equation_257 = omega arith;
  equation_freed = refl;
  equation_freed_held = held_verdict _ (0 ∷ []) (0 ∷ []) refl refl;
  symbols_clash = clash_verdict _ (equation_line 10 ∷ []) refl;
  f_cycle = cycle_verdict _ (0 ∷ 0 ∷ []) (equation_line 10 ∷ child_line 1 1 ∷ joined_line 0 1 ∷ []) refl refl;
  not_held = omega arith;
  withdrawn = omega arith;
  two_before_three = omega arith;
  three_before_four = omega arith;
  five_before_four = omega arith;
  four_before_six = omega arith;
  six_before_seven = omega arith;
  seven_before_eight = omega arith;
}

arities : Arities
unfolding tidy by_rule claim_of
arities = record {
  fewer_children = omega arith;
  no_children = omega arith;
  after_none = omega arith;
  as_many = omega arith;
  other_symbol = omega arith;
  other_remainder = omega arith;
  symbol_0 = omega arith;
  symbol_0_again = omega arith;
  variable_again = omega arith;
  two_before_eighteen = omega arith;
  three_before_eighteen = omega arith;
  four_before_eighteen = omega arith;
  refused_fixes_none = record { answers = _; runs = step 4 refl (step 0 refl (step 0 refl (step 18 refl (step 0 refl over)))); replies = refl };
  withdrawal_frees_none = record {
    answers = _;
    runs = step 0 refl (step 0 refl (step 0 (held_verdict _ (0 ∷ 1 ∷ []) (0 ∷ 1 ∷ []) refl refl) (step 0 refl (step 18 refl over))));
    replies = refl;
  };
  clear_frees = record { answers = _; runs = step 0 refl (step 18 refl (step 0 refl (step 0 refl (step 0 refl over)))); replies = refl };
  other_symbol_clash = clash_verdict _ (equation_line 5 ∷ []) refl;
}

pub examples : Examples
examples = record {
  starred = starred;
  section_two = section_two;
  nothing = nothing;
  untidy = untidy;
  broken = broken;
  refusals = refusals;
  arities = arities;
}
