-- Meaning. What the commands do that run scripts: the meaning of a plan.
use Rattle.std.specs.Prelude.{ℕ, zero, suc, List, [], ◌++◌, take, drop, Option, Some, None}
use Rattle.tcl_control.specs.declared.code.Code.{Code}
use Rattle.tcl_control.specs.declared.code.Code.TheVariants.{Normal, Error, Return, Break, Continue}
use Rattle.tcl_control.specs.declared.code.ReturnCode.{ReturnCode}
use Rattle.tcl_control.specs.declared.code.ReturnCode.TheVariants.{Normal as AsNormal, Error as AsError, Return as AsReturn, Break as AsBreak, Continue as AsContinue}
use Rattle.tcl_control.specs.declared.context.Context.{Context}
use Rattle.tcl_control.specs.declared.plan.Plan.{Plan}
use Rattle.tcl_control.specs.declared.plan.Plan.TheVariants as plan
use Rattle.tcl_control.specs.declared.loops.Test.{Test}
use Rattle.tcl_control.specs.declared.loops.Test.TheVariants.{Holds, Items}
use Rattle.tcl_control.specs.declared.loops.Loop.{Loop}
use Rattle.tcl_control.specs.Commands.{Ending, caught_ending}
use Rattle.tcl_table.specs.Levels.{up, popped}
use Rattle.tcl_table.specs.Texts.{break_outside, continue_outside}
use Rattle.tcl_control.specs.Loops.{Tested, More, NoMore, Fails, items_tested}
use Rattle.tcl_commands.specs.declared.groups.Group.{Group}
use Rattle.tcl_interp.specs.Evaluation.{State, Outcome, Ended, OutOfSteps, seen_frame, and_then, on_normal, with_step}
use Rattle.tcl_interp.specs.Expressions.{if_holds, expression_meaning, condition_meaning, choices_meaning}

-- ── levels ──

abbrev pub with_levels : List ℕ → Context → Context
with_levels levels context = record context { levels = levels }

-- only so many of the levels
abbrev pub with_first_levels : ℕ → Context → Context
with_first_levels count context = with_levels (take count context.levels) context

-- the others
abbrev pub others : ℕ → Context → List ℕ
others count context = drop count context.levels

-- those levels again, behind these
abbrev pub with_levels_behind : List ℕ → Context → Context
with_levels_behind levels context = with_levels (context.levels ++ levels) context

-- a script has ended that ran at fewer levels
abbrev pub levels_back : {S : Type 0} → List ℕ → State S → Code → List ℕ → Outcome S
levels_back levels state code text = Ended (record state { context = with_levels_behind levels state.context }) code text

-- ── procedures ──

-- what a return becomes where it leaves a procedure
abbrev pub returned : ReturnCode → Code
returned AsNormal = Normal
returned AsError = Error
returned AsReturn = Return AsNormal
returned AsBreak = Break
returned AsContinue = Continue

-- how a procedure ends, by how its body does: a break or a continue finds no loop
abbrev pub procedure_code : Code → Code
procedure_code Normal = Normal
procedure_code Error = Error
procedure_code (Return code) = returned code
procedure_code Break = Error
procedure_code Continue = Error

abbrev pub procedure_text : Code → List ℕ → List ℕ
procedure_text Break text = break_outside
procedure_text Continue text = continue_outside
procedure_text code text = text

-- the context of the caller
abbrev pub callers : Context → Context
callers context = with_levels (up context.levels) context

-- its frame goes
abbrev pub procedure_ended : {S : Type 0} → State S → Code → List ℕ → Outcome S
procedure_ended state code text =
    Ended (record state { store = popped state.store; context = callers state.context }) (procedure_code code) (procedure_text code text)

-- ── catch ──

abbrev pub ends_in : {S : Type 0} → State S → Ending → Outcome S
ends_in state ending = Ended (record state { store = ending.store }) ending.code ending.text

-- a script has ended whose code is answered
abbrev pub caught : {S : Type 0} → Option (List ℕ) → State S → Code → List ℕ → Outcome S
caught name state code text = ends_in state (caught_ending (seen_frame state) name code text state.store)

-- ── loops ──

-- after a test for items: the body, the end, or an error
abbrev pub on_tested : {S : Type 0} → State S → (List Group → State S → Outcome S) → Tested → Outcome S
on_tested state body (More store groups) = body groups (record state { store = store })
on_tested state body (NoMore store) = Ended (record state { store = store }) Normal []
on_tested state body (Fails store text) = Ended (record state { store = store }) Error text

-- a loop whose test doesn't hold
abbrev pub loop_ended : {S : Type 0} → State S → Outcome S
loop_ended state = Ended state Normal []

-- after the body of a loop: on to the next iteration, the end, or another code
abbrev pub after_body : {S : Type 0} → (State S → Outcome S) → State S → Code → List ℕ → Outcome S
after_body again state Normal text = again state
after_body again state Continue text = again state
after_body again state Break text = Ended state Normal []
after_body again state code text = Ended state code text

-- after what `for` runs behind the body: the next test, the end, or another code
abbrev pub after_next : {S : Type 0} → (State S → Outcome S) → State S → Code → List ℕ → Outcome S
after_next again state Normal text = again state
after_next again state Break text = Ended state Normal []
after_next again state code text = Ended state code text

-- How a script is run is given.
module _ {S : Type 0} (run : List ℕ → State S → Outcome S) where
  -- a script where only so many of the levels are
  abbrev pub run_at : ℕ → List ℕ → State S → Outcome S
  run_at count script state = and_then (run script (record state { context = with_first_levels count state.context })) (levels_back (others count state.context))

  -- on to the next test: `for` runs a script before it
  abbrev pub next_iteration : Option (List ℕ) → (State S → Outcome S) → State S → Outcome S
  next_iteration None again state = again state
  next_iteration (Some script) again state = and_then (run script state) (after_next again)

  -- the test of a loop, given its body with what is tested after it
  abbrev pub test_meaning : Test → (Test → State S → Outcome S) → State S → Outcome S
  test_meaning (Holds condition) body state = condition_meaning run condition (if_holds (body (Holds condition)) loop_ended) state
  test_meaning (Items groups) body state = on_tested state (λ left. body (Items left)) (items_tested (seen_frame state) groups state.store)

  -- the body of a loop, and what comes after it
  abbrev pub iteration_meaning : Loop → (State S → Outcome S) → State S → Outcome S
  iteration_meaning looping again state = and_then (run looping.body state) (after_body (next_iteration looping.next again))

  -- Of so many iterations, each of which takes a step for its test: so no more than steps are left are ever made. The number is there for the recursion
  -- alone: law `loops_go_on` has the equation without it.
  abbrev pub iterations_meaning : Loop → ℕ → State S → Outcome S
  iterations_meaning looping zero state = OutOfSteps state
  iterations_meaning looping (suc iterations) state =
      with_step state (test_meaning looping.test (λ test. iteration_meaning looping (iterations_meaning (record looping { test = test }) iterations)))

  -- a loop
  abbrev pub loop_meaning : Loop → State S → Outcome S
  loop_meaning looping state = iterations_meaning looping state.steps state

  -- what a command does
  abbrev pub plan_meaning : Plan → State S → Outcome S
  plan_meaning (plan.Ends code text) state = Ended state code text
  plan_meaning (plan.Runs script) state = run script state
  plan_meaning (plan.Catches script name) state = and_then (run script state) (caught name)
  plan_meaning (plan.RunsAt count script) state = run_at count script state
  plan_meaning (plan.Enters body) state = and_then (run body state) procedure_ended
  plan_meaning (plan.Evaluates expression) state = expression_meaning run expression state
  plan_meaning (plan.Chooses choices) state = choices_meaning run choices.branches choices.otherwise state
  plan_meaning (plan.Loops looping) state = loop_meaning looping state
  plan_meaning (plan.Starts script looping) state = and_then (run script state) (on_normal (λ state' text. loop_meaning looping state'))
