use Rattle.std.proofs.Common.{◌≡◌, ℕ, List, Result, IfOk, ap, sym, subst}
use Rattle.std.proofs.lemmas.Result.{IfOk-weaker}
use Rattle.tcl_vars.specs.Store.{Store}
use Rattle.tcl_control.specs.declared.context.Context.{Context}
use Rattle.tcl_control.specs.declared.loops.Loop.{Loop}
use Rattle.tcl_interp.specs.declared.turns.Turned.{Turned}
use Rattle.tcl_interp.specs.Outside.{Outside}
use Rattle.tcl_interp.specs.Finish.{Tests, Waiting}
use Rattle.tcl_interp.specs.Moves.{moved, standing}
use Rattle.tcl_interp.specs.Steps.{TakesSteps}
use Rattle.tcl_interp.specs.Turns.{halted}
use Rattle.tcl_interp.proofs.SimpleLemmas.{stays}
use Rattle.tcl_interp.proofs.turns.go_round.Goals as goal

-- turns in a context that is the one before
turns_same : {S K E : Type 0} (outside : Outside S K) (room : ℕ) (looping : Loop) (store store' : Store) (before context : Context) (went : Result Turned E) → context ≡ before
    → IfOk went (λ turned. (waits : List (Waiting K)) (shows : S) → TakesSteps outside turned.steps (standing (moved (Tests room looping) waits) store context) shows (standing (halted room looping waits turned.at) store' context) shows)
    → IfOk went (λ turned. (waits : List (Waiting K)) (shows : S) → TakesSteps outside turned.steps (standing (moved (Tests room looping) waits) store before) shows (standing (halted room looping waits turned.at) store' context) shows)
turns_same outside room looping store store' before context went same =
    IfOk-weaker went _ _ (λ turned goes. λ waits shows.
    subst (λ k. TakesSteps outside turned.steps (standing (moved (Tests room looping) waits) store k) shows (standing (halted room looping waits turned.at) store' context) shows) same (goes waits shows))

pub returns-then-room-eq0-clause-ok : goal.returns-then-room-eq0-clause-ok
returns-then-room-eq0-clause-ok g c = λ waits shows. stays g.T.Tasks.outside (standing (moved (Tests c.args.room c.args.looping.now) waits) c.args.scopes.now c.args.context.now) shows

pub returns-in_default-clause-ok : goal.returns-in_default-clause-ok
returns-in_default-clause-ok g c = λ waits shows.
    let outside = g.T.Tasks.outside in
    let context : Context = record { levels = c.args.context.now.levels; commands = c.scripts_of.new.table } in
    let same : context ≡ c.args.context.now = ap (λ table. record c.args.context.now { commands = table }) c.scripts_of.ensures.table in
    let first = standing (moved (Tests c.args.room c.args.looping.now) waits) c.args.scopes.now c.args.context.now in
    subst (λ k. TakesSteps outside 0 first shows (standing (moved (Tests c.args.room c.args.looping.now) waits) c.args.scopes.now k) shows) (sym same) (stays outside first shows)

pub returns-clause-ok : goal.returns-clause-ok
returns-clause-ok g c =
    let context : Context = record { levels = c.args.context.now.levels; commands = c.scripts_of.new.table } in
    let same : context ≡ c.args.context.now = ap (λ table. record c.args.context.now { commands = table }) c.scripts_of.ensures.table in
    turns_same g.T.Tasks.outside c.args.room c.args.looping.now c.args.scopes.now c.turns.new.scopes c.args.context.now context c.turns.result same c.turns.ensures.ok
