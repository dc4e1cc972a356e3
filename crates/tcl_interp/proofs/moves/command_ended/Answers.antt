-- The script goes on behind the command, and its next command begins.
use Rattle.std.proofs.Common.{◌≡◌, ℕ, List, ◌∷◌, refl, ap, ◌∙◌}
use Rattle.tcl_words.specs.declared.script.Command.{Command}
use Rattle.tcl_vars.specs.Store.{Store}
use Rattle.tcl_control.specs.declared.code.Code.TheVariants.{Normal}
use Rattle.tcl_control.specs.declared.context.Context.{Context}
use Rattle.tcl_table.specs.Levels.{here}
use Rattle.tcl_interp.specs.Finish.{Waiting, Ends, GoesOn, ForCommand}
use Rattle.tcl_interp.specs.Moves.{Moved, moved, standing, go_on_move}
use Rattle.tcl_interp.specs.Quiet.{MovesOn}
use Rattle.tcl_interp.specs.Rests.{left_in, waits_of}
use Rattle.tcl_interp.proofs.moves.command_ended.Goals as goal

goes_on : {K : Type 0} (room : ℕ) (after : List Command) (waits : List (Waiting K)) (store : Store) (before context : Context) (text : List ℕ) (next : Moved K)
    → context ≡ before → next ≡ go_on_move (here before.levels store) store room after text waits → MovesOn (standing (moved (Ends Normal text) (ForCommand room after ∷ waits)) store before) (standing next store context)
goes_on room after waits store before context text next same is = (
  standing (moved (GoesOn room after text) waits) store before,
  (1, (standing (moved (Ends Normal text) (ForCommand room after ∷ waits)) store before, refl, refl)),
  tt,
  ap (λ m. standing m store context) is ∙ ap (λ c. standing (go_on_move (here before.levels store) store room after text waits) store c) same,
)

pub returns-in_ok-now-in-Normal : goal.returns-in_ok-now-in-Normal
returns-in_ok-now-in-Normal g c =
    let context : Context = record { levels = c.args.context.now.levels; commands = c.go_on.new.table } in
    rw c.in-Normal.is (goes_on c.args.place.room (left_in c.args.place) (waits_of c.args.frames.now.items) c.args.scopes.now c.args.context.now context c.args.text _
    (ap (λ table. record c.args.context.now { commands = table }) c.in_ok-now-in-Normal.ensures.table) (rw c.here-level.ensures.value at c.in_ok-now-in-Normal.ensures.now))
