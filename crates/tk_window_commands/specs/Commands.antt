-- Meaning. The commands on windows by their names.
use Rattle.std.specs.Prelude.{ℕ, if◌then◌else◌, List, Option, Some, option_map, codes}
use Rattle.std.specs.Str.{bytes_eq}
use Rattle.tcl_vars.specs.Store.{Store}
use Rattle.tk_options.specs.Rows.{kind_named}
use Rattle.tk_screen.specs.Own.{Windowing}
use Rattle.tk_window_commands.specs.Answers.{Done, Told, keeps}
use Rattle.tk_window_commands.specs.Create.{create_words}
use Rattle.tk_window_commands.specs.declared.commands.WindowCommand.{WindowCommand}
use Rattle.tk_window_commands.specs.declared.commands.WindowCommand.TheVariants.{Make, Winfo, Wm}
use Rattle.tk_window_commands.specs.Winfo.{winfo_words}
use Rattle.tk_window_commands.specs.Wm.{wm_words}

unfoldable pub window_command_named : List ℕ → Option WindowCommand
window_command_named name =
    if bytes_eq name (codes "winfo") then Some Winfo
    else if bytes_eq name (codes "wm") then Some Wm
    else option_map Make (kind_named name)

-- a command that leaves the variables
abbrev pub with_store : Store → Told → Done
with_store store told = record { own = told.own; store = store; answer = told.answer }

unfoldable pub window_command_done : WindowCommand → List (List ℕ) → Windowing → Store → Done
window_command_done (Make kind) words own store = create_words kind words own store
window_command_done Winfo words own store = keeps own store (winfo_words words own store)
window_command_done Wm words own store = with_store store (wm_words words own)
