-- A command that a class binding runs touches no window but the one that its path names.
use Rattle.std.proofs.Common.{◌≡◌, ℕ, List, subst, sym}
use Rattle.tcl_vars.specs.Store.{Store}
use Rattle.tk_class_commands.proofs.OneWindow.{command_touch}
use Rattle.tk_class_commands.specs.Commands.{class_command_done}
use Rattle.tk_class_commands.specs.declared.outcome.ClassOutcome.{ClassOutcome}
use Rattle.tk_class_commands.specs.Named.{IsNumbered}
use Rattle.tk_class_commands.specs.Outcomes.{Done, done}
use Rattle.tk_class_commands.specs.Table.{ClassCommand}
use Rattle.tk_inputs.specs.Deliver.{Arrivals}
use Rattle.tk_screen.proofs.Touching.{touched_marked}
use Rattle.tk_screen.specs.declared.marks.Marks.{Marks}
use Rattle.tk_screen.specs.declared.screen.Screen.{Screen}
use Rattle.tk_screen.specs.Marks.{mark_of, IsTouched, LeavesOtherMarks}
use Rattle.tk_screen.specs.Seen.{AllMarked}
use Rattle.tk_screen.specs.Shared.{own_of, LeavesOthers}
use Rattle.tk_screen.specs.Touch.{IsTouch}

-- the marks hold once the window is touched that the path names
pub class_marked : (slot number moment : ℕ) (command : ClassCommand) (words : List (List ℕ)) (old new : Marks) (before now : Screen) (arrivals later : Arrivals) (store after : Store) (outcome : ClassOutcome)
    → AllMarked old before → IsTouched number (mark_of slot old) (mark_of slot new) → LeavesOtherMarks slot old new → LeavesOthers slot before now
    → IsNumbered number words (own_of slot before).tree → done (own_of slot now) later after outcome ≡ class_command_done command words moment (own_of slot before) arrivals store → AllMarked new now
class_marked slot number moment command words old new before now arrivals later store after outcome marked touched marks parts known is =
    touched_marked slot number old new before now marked touched marks parts
    (subst (λ (d : Done). IsTouch number (own_of slot before) d.own) (sym is) (command_touch number moment command words (own_of slot before) arrivals store known))
