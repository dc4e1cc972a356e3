use Rattle.std.proofs.Common.{◌≡◌, ◌<◌, ◌≤◌, ◌+◌, ◌-◌, ℕ, List, [], ◌∷◌, ◌++◌, drop, length, IsOk, ap, sym, subst, ◌∙◌, arith}
use Rattle.std.proofs.lemmas.Result.{IfOk-weaker}
use Rattle.tcl_control.specs.declared.code.Code.TheVariants.{Normal}
use Rattle.tcl_control.specs.declared.plan.Plan.TheVariants as plan
use Rattle.tcl_control.specs.Choices.{switch_plan}
use Rattle.tcl_table.specs.Source.{script_of}
use Rattle.tcl_interp.specs.declared.chosen.Chosen.TheVariants as chosen
use Rattle.tcl_interp.specs.declared.reach.Past.TheVariants as past
use Rattle.tcl_interp.specs.Finish.{ForCommand, GoesOn, Waiting}
use Rattle.tcl_interp.specs.Moves.{after_command, moved, standing}
use Rattle.tcl_interp.specs.Rests.{commands_in}
use Rattle.tcl_interp.specs.Simple.{WordsLead}
use Rattle.tcl_interp.specs.Steps.{TakesSteps}
use Rattle.tcl_interp.specs.Whole.{Chooses, came_to, past_to, reached_to, stopped_in}
use Rattle.tcl_interp.proofs.OnwardLemmas.{steps_lead}
use Rattle.tcl_interp.proofs.WholeLemmas.{goes_past, if_begins, if_ends, if_through, passed_goes, switch_begins, switch_ends}
use Rattle.tcl_interp.proofs.whole.+scripts.Goals as goal

pub run_body-returns-in-Whole-clause-ok : goal.run_body-returns-in-Whole-clause-ok
run_body-returns-in-Whole-clause-ok g t c =
    let outside = g.T.Tasks.outside in
    let room = c.args.room in
    let store = c.run_through.new.scopes in
    let context = c.args.context.now in
    let after = drop (c.args.place + 1) (commands_in c.args.script.now) in
    let text = c.in-Whole.text in
    let steps = c.in_ok-reached.reached.steps in
    rw c.in-Whole.is (λ previous waits shows.
    let first = standing (moved (GoesOn (room - 1) (commands_in c.args.body.now) []) (ForCommand room after ∷ waits)) c.args.scopes.now context in
    steps_lead outside steps first (standing (moved (GoesOn (room - 1) [] text) (ForCommand room after ∷ waits)) store context) (standing (moved (GoesOn room after text) waits) store context) shows shows
    (subst (λ way. TakesSteps outside steps first shows (standing (reached_to (room - 1) way (ForCommand room after ∷ waits)) store context) shows) c.in-Whole.is (c.in_ok-reached.ensures.ok (ForCommand room after ∷ waits) shows))
    (if_through outside room (room - 1) after text waits store context))

pub run_body-returns-in_ok-new-in-Stopped-clause-ok : goal.run_body-returns-in_ok-new-in-Stopped-clause-ok
run_body-returns-in_ok-new-in-Stopped-clause-ok g t c = λ previous waits shows.
    let outside = g.T.Tasks.outside in
    let room = c.args.room in
    let store = c.run_through.new.scopes in
    let context = c.args.context.now in
    let after = drop (c.args.place + 1) (commands_in c.args.script.now) in
    let steps = c.in_ok-reached.reached.steps in
    let first = standing (moved (GoesOn (room - 1) (commands_in c.args.body.now) []) (ForCommand room after ∷ waits)) c.args.scopes.now context in
    let within : stopped_in c.in_ok-stop-in-Stopped.stop waits ≡ stopped_in c.in-Stopped.stop (ForCommand room after ∷ waits) = rw (c.in-Stopped.is, c.place_behind-next.ensures) at (c.in_ok-stop-in-Stopped.ensures waits) in
    let boxed : c.in_ok-new-in-Stopped.field-0.value ≡ c.in_ok-stop-in-Stopped.stop = c.in_ok-new-in-Stopped.ensures.ok in
    subst (λ m. TakesSteps outside steps first shows (standing m store context) shows) (sym (ap (λ s. stopped_in s waits) boxed ∙ within))
    (subst (λ way. TakesSteps outside steps first shows (standing (reached_to (room - 1) way (ForCommand room after ∷ waits)) store context) shows) c.in-Stopped.is (c.in_ok-reached.ensures.ok (ForCommand room after ∷ waits) shows))

pub run_command-returns-in-Some-Builtin-Variable-clause-ok : goal.run_command-returns-in-Some-Builtin-Variable-clause-ok
run_command-returns-in-Some-Builtin-Variable-clause-ok g t c =
    IfOk-weaker c.do_variable.result _ _ (λ passed passes. λ previous waits shows.
    passed_goes g.T.Tasks.outside c.args.room (commands_in c.args.script.now) c.args.place previous waits shows c.args.scopes.now c.args.context.now c.do_variable.new.scopes c.words_at-words.result.now c.in-Some.name.now passed.steps passed.past
    c.words_at-words.ensures c.in-Some.ensures passes) c.do_variable.ensures.ok

pub run_command-returns-in-Some-Texts-clause-ok : goal.run_command-returns-in-Some-Texts-clause-ok
run_command-returns-in-Some-Texts-clause-ok g t c =
    IfOk-weaker c.do_texts.result _ _ (λ passed passes. λ previous waits shows.
    passed_goes g.T.Tasks.outside c.args.room (commands_in c.args.script.now) c.args.place previous waits shows c.args.scopes.now c.args.context.now c.args.scopes.now c.words_at-words.result.now c.in-Some.name.now passed.steps passed.past
    c.words_at-words.ensures c.in-Some.ensures passes) c.do_texts.ensures.ok

pub run_command-returns-in-Some-Builtin-clause-ok : goal.run_command-returns-in-Some-Builtin-clause-ok
run_command-returns-in-Some-Builtin-clause-ok g t c =
    IfOk-weaker c.do_leaving.result _ _ (λ passed passes. λ previous waits shows.
    passed_goes g.T.Tasks.outside c.args.room (commands_in c.args.script.now) c.args.place previous waits shows c.args.scopes.now c.args.context.now c.args.scopes.now c.words_at-words.result.now c.in-Some.name.now passed.steps passed.past
    c.words_at-words.ensures c.in-Some.ensures passes) c.do_leaving.ensures.ok

pub run_if-returns-in-Nothing-clause-ok : goal.run_if-returns-in-Nothing-clause-ok
run_if-returns-in-Nothing-clause-ok g t c = λ previous waits shows.
    let outside = g.T.Tasks.outside in
    let room = c.args.room in
    let place = c.args.place in
    let commands = commands_in c.args.script.now in
    let store = c.args.scopes.now in
    let context = c.args.context.now in
    let words = c.args.words.now in
    let steps = c.in-Some.field-0.steps in
    let chooses : Chooses outside room store context words steps chosen.Nothing = rw (c.in-Some.is, c.in-Nothing.is) at c.in_ok-found.ensures.chooses in
    subst (λ text. TakesSteps outside (steps + 1) (standing (moved (GoesOn room (drop place commands) previous) waits) store context) shows (standing (after_command room (drop (place + 1) commands) waits Normal text) store context) shows) (sym c.empty.ensures)
    (if_ends outside room commands place previous c.args.name.now steps waits shows store context words c.requires.words c.requires.name c.requires.calls chooses)

pub run_if-returns-in_ok-past-in-Body-clause-ok : goal.run_if-returns-in_ok-past-in-Body-clause-ok
run_if-returns-in_ok-past-in-Body-clause-ok g t c = λ previous waits shows.
    let outside = g.T.Tasks.outside in
    let store = c.args.scopes.now in
    let context = c.args.context.now in
    let words = c.args.words.now in
    let steps = c.in-Some.field-0.steps in
    let passed = c.in_ok-past-in-Body.field-0 in
    let body = c.in-Body.body in
    let chooses : Chooses outside c.args.room store context words steps (chosen.Body body) = rw (c.in-Some.is, c.in-Body.is) at c.in_ok-found.ensures.chooses in
    if_begins outside c.args.room (commands_in c.args.script.now) c.args.place previous c.args.name.now body steps waits shows store context words c.run_body.new.scopes passed.steps passed.past
    c.if-room-gt0.true c.requires.words c.requires.name c.requires.calls chooses (c.in_ok-past-in-Body.ensures.ok previous waits shows)

pub run_switch-returns-in-Ends-clause-ok : goal.run_switch-returns-in-Ends-clause-ok
run_switch-returns-in-Ends-clause-ok g t c = λ previous waits shows.
    let outside = g.T.Tasks.outside in
    let store = c.args.scopes.now in
    let context = c.args.context.now in
    let words = c.args.words.now in
    let name = c.args.name.now in
    let found = c.in-Some.found in
    let ends = c.in-Ends in
    let leads : (before : List (List ℕ)) → WordsLead outside c.args.room store context (drop 1 words) before found.steps [] (before ++ found.words) = rw c.in-Some.is at c.in_ok-found.ensures.leads in
    let planned : switch_plan found.words ≡ plan.Ends ends.code ends.text = rw (ends.is, c.as_slice-arguments.ensures) at c.in_ok-done.ensures in
    switch_ends outside c.args.room (commands_in c.args.script.now) c.args.place previous name found.words found.steps ends.code ends.text waits shows store context words
    c.requires.words c.requires.name c.requires.calls (leads (name ∷ [])) planned

pub run_switch-returns-in-Runs-clause-ok : goal.run_switch-returns-in-Runs-clause-ok
run_switch-returns-in-Runs-clause-ok g t c = λ previous waits shows.
    let outside = g.T.Tasks.outside in
    let store = c.args.scopes.now in
    let context = c.args.context.now in
    let words = c.args.words.now in
    let name = c.args.name.now in
    let found = c.in-Some.found in
    let body = c.in-Runs.body in
    let passed = c.in_ok-past-in-Runs.field-0 in
    let leads : (before : List (List ℕ)) → WordsLead outside c.args.room store context (drop 1 words) before found.steps [] (before ++ found.words) = rw c.in-Some.is at c.in_ok-found.ensures.leads in
    let planned : (switch_plan found.words ≡ plan.Runs body) × IsOk (script_of body) = rw (c.in-Runs.is, c.as_slice-arguments.ensures) at c.in_ok-done.ensures in
    switch_begins outside c.args.room (commands_in c.args.script.now) c.args.place previous name body found.words found.steps waits shows store context words c.run_body.new.scopes passed.steps passed.past
    c.if-room-gt0.true c.requires.words c.requires.name c.requires.calls (leads (name ∷ [])) planned.0 planned.1 (c.in_ok-past-in-Runs.ensures.ok previous waits shows)

pub run_whole-returns-in-Before-clause-ok : goal.run_whole-returns-in-Before-clause-ok
run_whole-returns-in-Before-clause-ok g t c = λ waits shows.
    let outside = g.T.Tasks.outside in
    let room = c.args.room in
    let commands = commands_in c.args.script.now in
    let context = c.args.context.now in
    let store = c.run_command.new.scopes in
    let passed = c.in_ok-passed.passed in
    let first = standing (moved (GoesOn room (drop c.args.from commands) c.args.previous) waits) c.args.scopes.now context in
    subst (λ came. TakesSteps outside (c.commands.steps + passed.steps) first shows (standing (came_to room commands came waits) store context) shows) (sym c.stands-here.ensures)
    (goes_past outside room commands c.commands.next c.commands.text waits shows c.commands.scopes context store c.commands.steps passed.steps first passed.past (past.Before c.in-Before.front)
    (c.commands.invariant.same waits shows) (c.in_ok-passed.ensures.ok c.commands.text waits shows) c.in-Before.is)

pub run_whole-commands-preserved : goal.run_whole-commands-preserved
run_whole-commands-preserved g t c =
    let outside = g.T.Tasks.outside in
    let room = c.args.room in
    let commands = commands_in c.args.script.now in
    let context = c.args.context.now in
    let store = c.run_command.new.scopes in
    let passed = c.in_ok-passed.passed in
    let result = c.in-Behind-Normal-default.result in
    let normal : c.in-Behind-Normal-default.field-0 ≡ Normal = rw c.in-Behind-Normal-default.is at c.in-Behind-Normal-default.field-0-is in
    let behind : passed.past ≡ past.Behind Normal result = c.in-Behind-Normal-default.is ∙ ap (λ code. past.Behind code result) normal in
    record {
      same = rw c.in-Behind-Normal-default.is (λ waits shows. goes_past outside room commands c.commands.next c.commands.text waits shows c.commands.scopes context store c.commands.steps passed.steps
          (standing (moved (GoesOn room (drop c.args.from commands) c.args.previous) waits) c.args.scopes.now context) passed.past (past.Behind Normal result)
          (c.commands.invariant.same waits shows) (c.in_ok-passed.ensures.ok c.commands.text waits shows) behind);
      most = omega (arith, c.in_ok-passed.ensures.most, c.commands.invariant.most);
      counted = omega (arith, c.in_ok-passed.ensures.counted, c.commands.invariant.counted);
      untaken = λ none.
          let before : c.commands.steps ≡ 0 = omega (arith, none) in
          let own : passed.steps ≡ 0 = omega (arith, none) in
          c.in_ok-passed.ensures.untaken own ∙ c.commands.invariant.untaken before;
    }

pub run_whole-returns-in-Behind-clause-ok : goal.run_whole-returns-in-Behind-clause-ok
run_whole-returns-in-Behind-clause-ok g t c = λ waits shows.
    let outside = g.T.Tasks.outside in
    let room = c.args.room in
    let commands = commands_in c.args.script.now in
    let context = c.args.context.now in
    let store = c.run_command.new.scopes in
    let passed = c.in_ok-passed.passed in
    let first = standing (moved (GoesOn room (drop c.args.from commands) c.args.previous) waits) c.args.scopes.now context in
    let stands = rw c.in-Behind.is at c.stands-behind.ensures in
    subst (λ came. TakesSteps outside (c.commands.steps + passed.steps) first shows (standing (came_to room commands came waits) store context) shows) (sym stands)
    (goes_past outside room commands c.commands.next c.commands.text waits shows c.commands.scopes context store c.commands.steps passed.steps first passed.past (past.Behind c.in-Behind.code c.in-Behind.result)
    (c.commands.invariant.same waits shows) (c.in_ok-passed.ensures.ok c.commands.text waits shows) c.in-Behind.is)

pub run_whole-returns-in-Within-clause-ok : goal.run_whole-returns-in-Within-clause-ok
run_whole-returns-in-Within-clause-ok g t c =
    let outside = g.T.Tasks.outside in
    let room = c.args.room in
    let commands = commands_in c.args.script.now in
    let context = c.args.context.now in
    let store = c.run_command.new.scopes in
    let passed = c.in_ok-passed.passed in
    rw c.in-Within.is (λ waits shows.
    goes_past outside room commands c.commands.next c.commands.text waits shows c.commands.scopes context store c.commands.steps passed.steps
    (standing (moved (GoesOn room (drop c.args.from commands) c.args.previous) waits) c.args.scopes.now context) passed.past (past.Within c.in-Within.stop)
    (c.commands.invariant.same waits shows) (c.in_ok-passed.ensures.ok c.commands.text waits shows) c.in-Within.is)

pub run_whole-returns-clause-ok : goal.run_whole-returns-clause-ok
run_whole-returns-clause-ok g t c = λ waits shows.
    let outside = g.T.Tasks.outside in
    let room = c.args.room in
    let commands = commands_in c.args.script.now in
    let context = c.args.context.now in
    let first = standing (moved (GoesOn room (drop c.args.from commands) c.args.previous) waits) c.args.scopes.now context in
    subst (λ came. TakesSteps outside c.commands.steps first shows (standing (came_to room commands came waits) c.commands.scopes context) shows) (sym c.stands-last.ensures) (c.commands.invariant.same waits shows)
