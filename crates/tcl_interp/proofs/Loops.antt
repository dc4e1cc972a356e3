-- A loop by as many iterations as steps are left is the one that goes round.
use Rattle.std.proofs.Common.{◌≡◌, ℕ, zero, suc, ◌≤◌, ◌<◌, nat_le, Bool, true, false, cond, List, refl, sym, subst, ◌∙◌, arith}
use Rattle.std.proofs.lemmas.Bool.{le-leb, leb-true}
use Rattle.tcl_control.specs.declared.code.Code.{Code}
use Rattle.tcl_control.specs.declared.loops.Loop.{Loop}
use Rattle.tcl_interp.specs.Evaluation.{State, Outcome, Ended, OutOfSteps}
use Rattle.tcl_interp.specs.Plans.{iterations_meaning, loop_meaning}
use Rattle.tcl_interp.specs.LoopLaws.{TakesNoStepsBack, TakesNoStepsBackWhere, goes_round, LoopsGoOn, LoopsGoOnWhere, GoesOnWhere, OnlyLoop, OnlyLoopWhere, OnlyWhere}
use Rattle.tcl_interp.specs.ScriptLaws.{AgreesRun, KeepsRun}
use Rattle.tcl_interp.specs.StepsBack.{ScriptsTakeNoStepsBack}
use Rattle.tcl_interp.proofs.Agreeing.{same_stepped, same_test, same_iteration, same_iterations}
use Rattle.tcl_interp.proofs.Bounds.{Bounded, Within, stepped_same, stepped_none, test_same, iteration_same, iterations_same, within_script}

module _ {S : Type 0} (run : List ℕ → State S → Outcome S) (none_back : TakesNoStepsBack run) where
  run_falls : Bounded run
  run_falls n script state le = by (run script state) refl
    where
      by : (o : Outcome S) → run script state ≡ o → Within n o
      by (Ended after code text) is = omega (arith, le, none_back script state after code text is)
      by (OutOfSteps after) is = tt

  -- What is the same where fewer steps are left goes round in the same way.
  round_same : (one other : Loop → State S → Outcome S) (looping : Loop) (state : State S)
      → ((next : Loop) (state' : State S) → state'.steps < state.steps → one next state' ≡ other next state') → goes_round run one looping state ≡ goes_round run other looping state
  round_same one other looping state same =
      stepped_same state.steps state _ _ (λ state' less.
      test_same run run_falls looping.test _ _ state' (λ test state'' le.
      iteration_same run run_falls looping (one (record looping { test = test })) (other (record looping { test = test })) state'' (λ last le'.
      same (record looping { test = test }) last (omega arith))))

  pub goes_on : (looping : Loop) (state : State S) → loop_meaning run looping state ≡ goes_round run (loop_meaning run) looping state
  goes_on looping state =
      iterations_same run run_falls looping state.steps (suc state.steps) state (omega arith) (omega arith)
      ∙ round_same (λ next. iterations_meaning run next state.steps) (loop_meaning run) looping state
      (λ next state' less. iterations_same run run_falls next state.steps state'.steps state' (omega arith) (omega arith))

  module _ (other : Loop → State S → Outcome S) (meets : (looping : Loop) (state : State S) → other looping state ≡ goes_round run other looping state) where
    by_iterations : (n : ℕ) (looping : Loop) (state : State S) → state.steps ≤ n → other looping state ≡ iterations_meaning run looping n state
    by_iterations zero looping state le = meets looping state ∙ stepped_none state.steps state _ le
    by_iterations (suc n) looping state le =
        meets looping state
        ∙ round_same other (λ next. iterations_meaning run next n) looping state (λ next state' less. by_iterations n next state' (omega arith))

    pub only : (looping : Loop) (state : State S) → other looping state ≡ loop_meaning run looping state
    only looping state = by_iterations state.steps looping state (omega arith)

pub loops_go_on : {S : Type 0} → LoopsGoOn S
loops_go_on run none_back looping state = goes_on run none_back looping state

pub only_loop : {S : Type 0} → OnlyLoop S
only_loop run none_back other meets looping state = only run none_back other meets looping state

pub scripts_take_no_steps_back : {S K : Type 0} → ScriptsTakeNoStepsBack S K
scripts_take_no_steps_back outside room script state after code text is =
    subst (λ o. Within state.steps o) is (within_script outside room state.steps script state (omega arith))

-- ── where something holds ──

-- what has ended, if at most so many steps are left
abbrev at_most : {S : Type 0} → ℕ → Outcome S → Outcome S
at_most n (Ended state code text) = cond (nat_le state.steps n) (Ended state code text) (OutOfSteps state)
at_most n (OutOfSteps state) = OutOfSteps state

-- how a script is run, but for those that take steps back
abbrev forth : {S : Type 0} → (List ℕ → State S → Outcome S) → List ℕ → State S → Outcome S
forth run script state = at_most state.steps (run script state)

-- a loop, but where more steps than so many are left
abbrev below : {S : Type 0} → ℕ → (Loop → State S → Outcome S) → Loop → State S → Outcome S
below n f looping state = cond (nat_le state.steps n) (f looping state) (OutOfSteps state)

within_at_most : {S : Type 0} (n : ℕ) (o : Outcome S) → Within n (at_most n o)
within_at_most {S} n (Ended state code text) = by (nat_le state.steps n) refl
  where
    by : (b : Bool) → nat_le state.steps n ≡ b → Within n (cond b (Ended state code text) (OutOfSteps state))
    by true is = leb-true state.steps n is
    by false is = tt
within_at_most n (OutOfSteps state) = tt

forth_takes_none_back : {S : Type 0} (run : List ℕ → State S → Outcome S) → TakesNoStepsBack (forth run)
forth_takes_none_back run script state after code text is = subst (λ o. Within state.steps o) is (within_at_most state.steps (run script state))

below_same : {S : Type 0} (n : ℕ) (f : Loop → State S → Outcome S) (looping : Loop) (state : State S) → state.steps ≤ n → below n f looping state ≡ f looping state
below_same n f looping state le = rw (le-leb state.steps n le) refl

module _ {S : Type 0} (P : S → Type 0) where
  at_most_same : (n : ℕ) (o : Outcome S) → ((after : State S) (code : Code) (text : List ℕ) → o ≡ Ended after code text → after.steps ≤ n) → o ≡ at_most n o
  at_most_same n (Ended state code text) few = let le : state.steps ≤ n = few state code text refl in rw (le-leb state.steps n le) refl
  at_most_same n (OutOfSteps state) few = refl

  below_where : (n : ℕ) (f g : Loop → State S → Outcome S) (looping : Loop) (state : State S) → (state.steps ≤ n → f looping state ≡ g looping state)
      → below n f looping state ≡ below n g looping state
  below_where n f g looping state same = by (nat_le state.steps n) refl
    where
      by : (b : Bool) → nat_le state.steps n ≡ b → cond b (f looping state) (OutOfSteps state) ≡ cond b (g looping state) (OutOfSteps state)
      by true is = same (leb-true state.steps n is)
      by false is = refl

  module _ (run : List ℕ → State S → Outcome S) (keeps : KeepsRun P run) (none_back : TakesNoStepsBackWhere P run) where
    forth_same : AgreesRun P run (forth run)
    forth_same script state holds = at_most_same state.steps (run script state) (λ after code text is. none_back script state after code text holds is)

    -- what is the same where it holds goes round in the same way there
    across : (one other : Loop → State S → Outcome S) → ((next : Loop) (state : State S) → P state.shows → one next state ≡ other next state)
        → (looping : Loop) (state : State S) → P state.shows → goes_round run one looping state ≡ goes_round (forth run) other looping state
    across one other same looping state holds =
        same_stepped P state.steps state _ _ holds (λ state' holds'.
        same_test P run (forth run) forth_same keeps looping.test _ _ state' holds' (λ test state'' holds''.
        same_iteration P run (forth run) forth_same keeps looping (one (record looping { test = test })) (other (record looping { test = test }))
        (λ last kept. same (record looping { test = test }) last kept) state'' holds''))

    -- and there it need be the same only where fewer steps are left
    fewer : (n : ℕ) (one other : Loop → State S → Outcome S) → ((next : Loop) (state : State S) → P state.shows → state.steps ≤ n → one next state ≡ other next state)
        → (looping : Loop) (state : State S) → P state.shows → state.steps ≤ suc n → goes_round run one looping state ≡ goes_round (forth run) other looping state
    fewer n one other same looping state holds le =
        across one one (λ next state' kept. refl) looping state holds
        ∙ round_same (forth run) (forth_takes_none_back run) one (below n one) looping state (λ next state' less. sym (below_same n one next state' (omega arith)))
        ∙ sym (across (below n one) (below n one) (λ next state' kept. refl) looping state holds)
        ∙ across (below n one) (below n other) (λ next state' kept. below_where n one other next state' (λ few. same next state' kept few)) looping state holds
        ∙ round_same (forth run) (forth_takes_none_back run) (below n other) other looping state (λ next state' less. below_same n other next state' (omega arith))

    loop_forth : (looping : Loop) (state : State S) → P state.shows → loop_meaning run looping state ≡ loop_meaning (forth run) looping state
    loop_forth looping state holds = same_iterations P run (forth run) forth_same keeps looping state.steps state holds

    pub goes_on_where : (looping : Loop) (state : State S) → P state.shows → loop_meaning run looping state ≡ goes_round run (loop_meaning run) looping state
    goes_on_where looping state holds =
        loop_forth looping state holds
        ∙ goes_on (forth run) (forth_takes_none_back run) looping state
        ∙ sym (across (loop_meaning run) (loop_meaning (forth run)) loop_forth looping state holds)

    module _ (other : Loop → State S → Outcome S) (meets : (looping : Loop) (state : State S) → P state.shows → other looping state ≡ goes_round run other looping state) where
      so_many : (n : ℕ) (looping : Loop) (state : State S) → P state.shows → state.steps ≤ n → other looping state ≡ iterations_meaning (forth run) looping n state
      so_many zero looping state holds le = meets looping state holds ∙ stepped_none state.steps state _ le
      so_many (suc n) looping state holds le =
          meets looping state holds
          ∙ fewer n other (λ next. iterations_meaning (forth run) next n) (λ next state' kept few. so_many n next state' kept few) looping state holds le

      pub only_where : (looping : Loop) (state : State S) → P state.shows → other looping state ≡ loop_meaning run looping state
      only_where looping state holds = so_many state.steps looping state holds (omega arith) ∙ sym (loop_forth looping state holds)

  pub loops_go_on_for : GoesOnWhere P
  loops_go_on_for run keeps none_back looping state holds = goes_on_where run keeps none_back looping state holds

  pub only_loop_for : OnlyWhere P
  only_loop_for run keeps none_back other meets looping state holds = only_where run keeps none_back other meets looping state holds

pub loops_go_on_where : {S : Type 0} → LoopsGoOnWhere S
loops_go_on_where {S} holds = loops_go_on_for (λ (shows : S). holds shows ≡ true)

pub only_loop_where : {S : Type 0} → OnlyLoopWhere S
only_loop_where {S} holds = only_loop_for (λ (shows : S). holds shows ≡ true)
