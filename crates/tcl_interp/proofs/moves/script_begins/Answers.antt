-- A script that could be read goes on with its first command.
use Rattle.std.proofs.Common.{◌≡◌, ℕ, List, refl, ap, ◌∙◌}
use Rattle.tcl_words.specs.declared.script.Command.{Command}
use Rattle.tcl_vars.specs.Store.{Store}
use Rattle.tcl_control.specs.declared.context.Context.{Context}
use Rattle.tcl_table.specs.Levels.{here}
use Rattle.tcl_interp.specs.Finish.{Waiting, Begins, GoesOn}
use Rattle.tcl_interp.specs.Moves.{Moved, moved, standing, begin_move, go_on_move}
use Rattle.tcl_interp.specs.Quiet.{MovesOn}
use Rattle.tcl_interp.specs.Rests.{left_in, waits_of}
use Rattle.tcl_interp.proofs.moves.script_begins.Goals as goal

begins_on : {K : Type 0} (room : ℕ) (script : List ℕ) (waits : List (Waiting K)) (store : Store) (before context : Context) (left : ℕ) (commands : List Command) (result : List ℕ) (level : ℕ) (next : Moved K)
    → context ≡ before → moved (GoesOn left commands result) waits ≡ begin_move room script waits → level ≡ here context.levels store → next ≡ go_on_move level store left commands result waits
    → MovesOn (standing (moved (Begins room script) waits) store before) (standing next store context)
begins_on room script waits store before context left commands result level next same begun place went = (
  standing (moved (GoesOn left commands result) waits) store context,
  (1, (standing (moved (Begins room script) waits) store before, refl, ap (λ m. standing m store context) begun ∙ ap (λ c. standing (begin_move room script waits) store c) same)),
  tt,
  ap (λ m. standing m store context) (went ∙ ap (λ l. go_on_move l store left commands result waits) place),
)

pub returns-in_ok-now-in-GoesOn : goal.returns-in_ok-now-in-GoesOn
returns-in_ok-now-in-GoesOn g c =
    let context : Context = record { levels = c.args.context.now.levels; commands = c.go_on.new.table } in
    begins_on c.args.room c.args.script (waits_of c.args.frames.now.items) c.args.scopes.now c.args.context.now context c.in-GoesOn.place.room (left_in c.in-GoesOn.place) c.in-GoesOn.result c.here-level.result _
    (ap (λ table. record c.args.context.now { commands = table }) (c.in_ok-now-in-GoesOn.ensures.table ∙ c.in_ok-now.ensures.table))
    ((rw c.in-GoesOn.is at c.in_ok-now.ensures.now) (waits_of c.args.frames.now.items) ∙ ap (λ text. begin_move c.args.room text (waits_of c.args.frames.now.items)) c.in_ok-script.ensures)
    c.here-level.ensures.value c.in_ok-now-in-GoesOn.ensures.now
