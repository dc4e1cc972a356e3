-- The moves that take a step or resume a task keep the outcome of all that is still to do.
use Rattle.std.proofs.Common.{◌≡◌, ℕ, zero, suc, ◌+◌, ◌≤◌, ◌<◌, List, [], ◌∷◌, refl, ap, sym, ◌∙◌, subst, arith}
use Rattle.tcl_vars.specs.Store.{Store}
use Rattle.tcl_control.specs.declared.code.Code.{Code}
use Rattle.tcl_control.specs.declared.code.Code.TheVariants.{Normal}
use Rattle.tcl_control.specs.declared.context.Context.{Context}
use Rattle.tcl_control.specs.declared.control.Call.TheVariants as call
use Rattle.tcl_control.specs.declared.plan.Plan.{Plan}
use Rattle.tcl_control.specs.declared.plan.Plan.TheVariants as plan
use Rattle.tcl_control.specs.declared.loops.Test.{Test}
use Rattle.tcl_control.specs.declared.loops.Test.TheVariants.{Holds, Items}
use Rattle.tcl_control.specs.declared.loops.Loop.{Loop}
use Rattle.tcl_control.specs.Control.{Called, call_of}
use Rattle.tcl_table.specs.Levels.{here}
use Rattle.tcl_control.specs.Loops.{Tested, More, NoMore, Fails, items_tested}
use Rattle.tcl_interp.specs.declared.tasks.Act.{Act}
use Rattle.tcl_interp.specs.declared.tasks.Act.TheVariants.{Done, Step, Run, Unknown}
use Rattle.tcl_interp.specs.Outside.{Outside, Told, Falls, RunsBelow}
use Rattle.tcl_interp.specs.Evaluation.{State, Outcome, OutOfSteps, and_then, on_normal}
use Rattle.tcl_interp.specs.Plans.{with_first_levels, others, levels_back, procedure_ended, caught, on_tested, loop_ended, after_body, run_at, next_iteration, test_meaning, iteration_meaning, iterations_meaning, loop_meaning, plan_meaning}
use Rattle.tcl_interp.specs.Expressions.{on_value, if_holds, expression_meaning}
use Rattle.tcl_interp.specs.Acts.{told_state, resumed, after_step, task_meaning, act_meaning, outside_meaning}
use Rattle.tcl_interp.specs.Scripts.{out_of_global, called_meaning}
use Rattle.tcl_interp.specs.Finish.{Calls, Tests, Steps, Resumes, Waiting, ForTest, loop_rest, iteration_rest, waits_meaning}
use Rattle.tcl_interp.specs.Moves.{Standing, moved, standing, plan_move, items_move, test_move, act_move}
use Rattle.tcl_interp.specs.Steps.{state_with, finish_from, TakesStep, TakesNone, Resumed}
use Rattle.tcl_interp.specs.Quiet.{Leads}
use Rattle.tcl_interp.proofs.Bounds.{and_then_same, on_value_same, if_same, iteration_same, iterations_same, within_expression, resumed_same, after_step_same, on_act_same, within_script}
use Rattle.tcl_interp.proofs.Same.{and_then_assoc, finish_standing, run_in, expression_same, choice_same, leads_same}
use Rattle.tcl_interp.proofs.Weights.{tasks, waits_tasks}

module _ {S K : Type 0} (outside : Outside S K) where
  -- moves without a step keep the outcome
  pub leads_none : (m n : Standing K) (shows : S) → Leads m n → TakesNone outside m shows n shows
  leads_none m n shows leads left = leads_same outside m n (state_with shows m.store m.context left) leads

  run_at_same : (room count : ℕ) (script : List ℕ) (state : State S) (after : State S → Code → List ℕ → Outcome S)
      → and_then (run_at (run_in outside room) count script state) after
      ≡ and_then (run_in outside room script (record state { context = with_first_levels count state.context })) (λ state' code text. and_then (levels_back (others count state.context) state' code text) after)
  run_at_same room count script state after =
      and_then_assoc (run_in outside room script (record state { context = with_first_levels count state.context })) (levels_back (others count state.context)) after

  pub act_same : (room : ℕ) (name : List ℕ) (waits : List (Waiting K)) (state : State S) (act : Act K)
      → and_then (act_meaning outside (run_in outside room) name state act) (waits_meaning outside waits) ≡ finish_standing outside (act_move room name state.store state.context waits act) state
  act_same room name waits state (Done code text) = refl
  act_same room name waits state (Step task) = refl
  act_same room name waits state (Run script task) =
      and_then_assoc (run_at (run_in outside room) 1 script state) (λ state' code text. task_meaning outside (run_in outside room) task state' (out_of_global code) text) (waits_meaning outside waits)
      ∙ run_at_same room 1 script state (λ state' code text. and_then (task_meaning outside (run_in outside room) task state' (out_of_global code) text) (waits_meaning outside waits))
  act_same room name waits state Unknown = refl

  pub plan_same : (room : ℕ) (waits : List (Waiting K)) (state : State S) (p : Plan)
      → and_then (plan_meaning (run_in outside room) p state) (waits_meaning outside waits) ≡ finish_standing outside (plan_move room state.store state.context waits p) state
  plan_same room waits state (plan.Ends code text) = refl
  plan_same room waits state (plan.Runs script) = refl
  plan_same room waits state (plan.Catches script name) = and_then_assoc (run_in outside room script state) (caught name) (waits_meaning outside waits)
  plan_same room waits state (plan.RunsAt count script) = run_at_same room count script state (waits_meaning outside waits)
  plan_same room waits state (plan.Enters body) = and_then_assoc (run_in outside room body state) procedure_ended (waits_meaning outside waits)
  plan_same room waits state (plan.Evaluates expression) = expression_same outside room expression waits state
  plan_same room waits state (plan.Chooses choices) = choice_same outside room choices.branches choices.otherwise waits state
  plan_same room waits state (plan.Loops looping) = refl
  plan_same room waits state (plan.Starts script looping) =
      and_then_assoc (run_in outside room script state) (on_normal (λ state' text. loop_meaning (run_in outside room) looping state')) (waits_meaning outside waits)

  -- a task is due its step: it is resumed after it
  pub step_same : (room : ℕ) (task : K) (waits : List (Waiting K)) (shows : S) (store : Store) (context : Context) → TakesStep outside (standing (moved (Steps room task) waits) store context) shows (standing (moved (Resumes room task Normal []) waits) store context) shows
  step_same room task waits shows store context left = refl

  -- the body of a loop, and what comes after it, with as many iterations as there are steps
  iteration_rest_same : (room : ℕ) (looping : Loop) (test : Test) (left : ℕ) (state : State S) → state.steps ≤ left
      → iteration_meaning (run_in outside room) looping (iterations_meaning (run_in outside room) (record looping { test = test }) left) state ≡ iteration_rest outside room (record looping { test = test }) state
  iteration_rest_same room looping test left state le =
      let run : List ℕ → State S → Outcome S = run_in outside room in
      let next : Loop = record looping { test = test } in
      iteration_same run (within_script outside room) looping (iterations_meaning run next left) (loop_rest outside room next) state
      (λ state' le'. iterations_same run (within_script outside room) next left state'.steps state' (omega arith) (omega arith))

  on_tested_cases : (room : ℕ) (looping : Loop) (waits : List (Waiting K)) (left : ℕ) (state : State S) (test : Tested) → state.steps ≤ left
      → and_then (on_tested state (λ groups. iteration_meaning (run_in outside room) looping (iterations_meaning (run_in outside room) (record looping { test = Items groups }) left)) test) (waits_meaning outside waits)
      ≡ finish_standing outside (items_move room looping state.context waits test) state
  on_tested_cases room looping waits left state (More store groups) le =
      let run : List ℕ → State S → Outcome S = run_in outside room in
      let next : Loop = record looping { test = Items groups } in
      ap (λ o. and_then o (waits_meaning outside waits)) (iteration_rest_same room looping (Items groups) left (record state { store = store }) le)
      ∙ and_then_assoc (run looping.body (record state { store = store })) (after_body (next_iteration run looping.next (loop_rest outside room next))) (waits_meaning outside waits)
  on_tested_cases room looping waits left state (NoMore store) le = refl
  on_tested_cases room looping waits left state (Fails store text) le = refl

  holds_same : (room : ℕ) (looping : Loop) (condition : List ℕ) (waits : List (Waiting K)) (left : ℕ) (state : State S) → state.steps ≤ left → looping.test ≡ Holds condition
      → and_then (test_meaning (run_in outside room) (Holds condition) (λ test. iteration_meaning (run_in outside room) looping (iterations_meaning (run_in outside room) (record looping { test = test }) left)) state) (waits_meaning outside waits)
      ≡ finish_standing outside (test_move room looping state.store state.context waits (Holds condition)) state
  holds_same room looping condition waits left state le is =
      let run : List ℕ → State S → Outcome S = run_in outside room in
      let next : Loop = record looping { test = Holds condition } in
      let again : State S → Outcome S = iteration_meaning run looping (iterations_meaning run next left) in
      ap (λ o. and_then o (waits_meaning outside waits))
      (and_then_same left (expression_meaning run condition state) (on_value (if_holds again loop_ended)) (on_value (if_holds (iteration_rest outside room next) loop_ended)) (within_expression run (within_script outside room) left condition state le)
      (λ state' code text le'. on_value_same (if_holds again loop_ended) (if_holds (iteration_rest outside room next) loop_ended) state' code text
      (λ holds. if_same again (iteration_rest outside room next) loop_ended state' holds (iteration_rest_same room looping (Holds condition) left state' le'))))
      ∙ and_then_assoc (expression_meaning run condition state) (on_value (if_holds (iteration_rest outside room next) loop_ended)) (waits_meaning outside waits)
      ∙ expression_same outside room condition (ForTest room next ∷ waits) state
      ∙ ap (λ test. finish_standing outside (test_move room (record looping { test = test }) state.store state.context waits (Holds condition)) state) (sym is)

  test_cases : (room : ℕ) (looping : Loop) (waits : List (Waiting K)) (left : ℕ) (state : State S) (test : Test) → state.steps ≤ left → looping.test ≡ test
      → and_then (test_meaning (run_in outside room) test (λ after. iteration_meaning (run_in outside room) looping (iterations_meaning (run_in outside room) (record looping { test = after }) left)) state) (waits_meaning outside waits)
      ≡ finish_standing outside (test_move room looping state.store state.context waits test) state
  test_cases room looping waits left state (Holds condition) le is = holds_same room looping condition waits left state le is
  test_cases room looping waits left state (Items groups) le is = on_tested_cases room looping waits left state (items_tested (here state.context.levels state.store) groups state.store) le

  -- the test of a loop
  pub test_same : (room : ℕ) (looping : Loop) (waits : List (Waiting K)) (shows : S) (store : Store) (context : Context)
      → TakesStep outside (standing (moved (Tests room looping) waits) store context) shows (test_move room looping store context waits looping.test) shows
  test_same room looping waits shows store context left = test_cases room looping waits left (state_with shows store context left) looping.test (omega arith) refl

  pub test_given : (room : ℕ) (looping : Loop) (waits : List (Waiting K)) (shows : S) (store : Store) (context : Context) (after : Standing K) → Leads (test_move room looping store context waits looping.test) after
      → TakesStep outside (standing (moved (Tests room looping) waits) store context) shows after shows
  test_given room looping waits shows store context after leads left =
      test_same room looping waits shows store context left ∙ leads_none (test_move room looping store context waits looping.test) after shows leads left

  -- a command is called, and what is to be done is this
  calls_as : (room : ℕ) (name : List ℕ) (arguments : List (List ℕ)) (waits : List (Waiting K)) (shows : S) (store : Store) (context : Context) (called : Called) (left : ℕ) → called ≡ call_of name arguments store context
      → finish_from outside (standing (moved (Calls room (name ∷ arguments)) waits) store context) shows (suc left)
      ≡ and_then (called_meaning (outside_meaning outside) (run_in outside room) name arguments (state_with shows store context left) called) (waits_meaning outside waits)
  calls_as room name arguments waits shows store context called left e =
      ap (λ c. and_then (called_meaning (outside_meaning outside) (run_in outside room) name arguments (state_with shows store context left) c) (waits_meaning outside waits)) (sym e)

  pub call_plan : (room : ℕ) (name : List ℕ) (arguments : List (List ℕ)) (waits : List (Waiting K)) (shows : S) (store : Store) (context : Context) (store' : Store) (context' : Context) (p : Plan) (after : Standing K)
      → record { store = store'; context = context'; call = call.Plans p } ≡ call_of name arguments store context → Leads (plan_move room store' context' waits p) after
      → TakesStep outside (standing (moved (Calls room (name ∷ arguments)) waits) store context) shows after shows
  call_plan room name arguments waits shows store context store' context' p after called leads left =
      calls_as room name arguments waits shows store context (record { store = store'; context = context'; call = call.Plans p }) left called
      ∙ plan_same room waits (state_with shows store' context' left) p
      ∙ leads_none (plan_move room store' context' waits p) after shows leads left

  pub call_outside : (room : ℕ) (name : List ℕ) (arguments : List (List ℕ)) (waits : List (Waiting K)) (shows : S) (store : Store) (context : Context) (store' : Store) (context' : Context) (first : List ℕ) (shows'' : S) (store'' : Store) (act : Act K) (after : Standing K)
      → record { store = store'; context = context'; call = call.Outside first } ≡ call_of name arguments store context
      → record { shows = shows''; store = store''; act = act } ≡ outside.calls shows store' (first ∷ arguments)
      → after ≡ act_move room name store'' context' waits act
      → TakesStep outside (standing (moved (Calls room (name ∷ arguments)) waits) store context) shows after shows''
  call_outside room name arguments waits shows store context store' context' first shows'' store'' act after called told e left =
      calls_as room name arguments waits shows store context (record { store = store'; context = context'; call = call.Outside first }) left called
      ∙ ap (λ (t : Told S K). and_then (act_meaning outside (run_in outside room) name (told_state t (state_with shows store' context' left)) t.act) (waits_meaning outside waits)) (sym told)
      ∙ act_same room name waits (state_with shows'' store'' context' left) act
      ∙ ap (λ m. finish_from outside m shows'' left) (sym e)

  pub call_unknown : (room : ℕ) (name : List ℕ) (arguments : List (List ℕ)) (waits : List (Waiting K)) (shows : S) (store : Store) (context : Context) (store' : Store) (context' : Context) (after : Standing K)
      → record { store = store'; context = context'; call = call.Unknown } ≡ call_of name arguments store context → after ≡ act_move room name store' context' waits Unknown
      → TakesStep outside (standing (moved (Calls room (name ∷ arguments)) waits) store context) shows after shows
  call_unknown room name arguments waits shows store context store' context' after called e left =
      calls_as room name arguments waits shows store context (record { store = store'; context = context'; call = call.Unknown }) left called
      ∙ ap (λ m. finish_from outside m shows left) (sym e)

  module _ (falls : Falls outside) where
    resumed_act : (room : ℕ) (m : ℕ) (task : K) (code : Code) (text : List ℕ) (state : State S) → outside.size task ≤ m
        → (let told : Told S K = outside.resumes state.shows state.store task code text in
        resumed outside (run_in outside room) (after_step outside (run_in outside room) state.steps) m task state code text
        ≡ act_meaning outside (run_in outside room) [] (told_state told state) told.act)
    resumed_act room zero task code text state le =
        let run : List ℕ → State S → Outcome S = run_in outside room in
        on_act_same outside run (within_script outside room) state.steps (outside.size task) (after_step outside run state.steps) (after_step outside run state.steps) (λ _ state' _ _. OutOfSteps state') (task_meaning outside run)
        (λ task' state' less. refl) (λ task' state' code' text' less le'. absurd (omega arith)) [] _ (outside.resumes state.shows state.store task code text).act (falls state.shows state.store task code text) (omega arith)
    resumed_act room (suc m) task code text state le =
        let run : List ℕ → State S → Outcome S = run_in outside room in
        on_act_same outside run (within_script outside room) state.steps (outside.size task) (after_step outside run state.steps) (after_step outside run state.steps) (resumed outside run (after_step outside run state.steps) m) (task_meaning outside run)
        (λ task' state' less. refl)
        (λ task' state' code' text' less le'.
        resumed_same outside run (within_script outside room) falls state'.steps (after_step outside run state.steps) (after_step outside run state'.steps)
        (λ task'' state'' less'. after_step_same outside run (within_script outside room) falls state.steps state'.steps task'' state'' (omega arith) less')
        m (outside.size task') task' state' code' text' (omega arith) (omega arith) (omega arith))
        [] _ (outside.resumes state.shows state.store task code text).act (falls state.shows state.store task code text) (omega arith)

    -- a task is resumed
    pub resume_same : (room : ℕ) (task : K) (code : Code) (text : List ℕ) (waits : List (Waiting K)) (shows : S) (store : Store) (context : Context)
        → (let told : Told S K = outside.resumes shows store task code text in
        TakesNone outside (standing (moved (Resumes room task code text) waits) store context) shows (act_move room [] told.store context waits told.act) told.shows)
    resume_same room task code text waits shows store context left =
        ap (λ o. and_then o (waits_meaning outside waits)) (resumed_act room (outside.size task) task code text (state_with shows store context left) (omega arith))
        ∙ act_same room [] waits _ (outside.resumes shows store task code text).act

    -- moves without a step lead to a task, and it is resumed
    pub settle_on : (m : Standing K) (shows : S) (room : ℕ) (task : K) (code : Code) (text : List ℕ) (waits : List (Waiting K)) (store : Store) (context : Context) (after : Standing K) (shows' : S)
        → Leads m (standing (moved (Resumes room task code text) waits) store context) → Resumed outside room task code text waits shows store context after shows'
        → TakesNone outside m shows after shows'
    settle_on m shows room task code text waits store context after shows' leads (store', act, told, e) left =
        leads_same outside m (standing (moved (Resumes room task code text) waits) store context) (state_with shows m.store m.context left) leads
        ∙ subst (λ (t : Told S K). TakesNone outside (standing (moved (Resumes room task code text) waits) store context) shows (act_move room [] t.store context waits t.act) t.shows) (sym told) (resume_same room task code text waits shows store context) left
        ∙ ap (λ x. finish_from outside x shows' left) (sym e)

-- a task that was resumed leaves less for tasks to do
act_falls : {K : Type 0} (size : K → ℕ) (room bound : ℕ) (store : Store) (context : Context) (waits : List (Waiting K)) (act : Act K) → RunsBelow size bound act → tasks size (act_move room [] store context waits act).moved < suc bound + waits_tasks size waits
act_falls size room bound store context waits (Done code text) below = omega arith
act_falls size room bound store context waits (Step task) below = omega arith
act_falls size room bound store context waits (Run script task) below = omega arith
act_falls size room bound store context waits Unknown below = omega arith

pub resumed_falls : {S K : Type 0} (outside : Outside S K) → Falls outside → (room : ℕ) (task : K) (code : Code) (text : List ℕ) (waits : List (Waiting K)) (shows : S) (store : Store) (context : Context) (after : Standing K) (shows' : S)
    → Resumed outside room task code text waits shows store context after shows' → tasks outside.size after.moved < suc (outside.size task) + waits_tasks outside.size waits
resumed_falls outside falls room task code text waits shows store context after shows' (store', act, told, e) =
    let below : RunsBelow outside.size (outside.size task) act = subst (λ (t : Told _ _). RunsBelow outside.size (outside.size task) t.act) (sym told) (falls shows store task code text) in
    rw e (act_falls outside.size room (outside.size task) store' context waits act below)
