-- Meaning. The commands of an application, by their names and the words behind them.
use Rattle.std.specs.Prelude.{ℕ, List, [], ◌∷◌, Option, Some, None, option_map, if◌then◌else◌}
use Rattle.std.specs.Option.{option_or}
use Rattle.tcl_vars.specs.Store.{Store}
use Rattle.tk_class_commands.specs.Table.{class_command_named}
use Rattle.tk_pack_commands.specs.Targets.{begins_path}
use Rattle.tk_panel.specs.Panel.{Panel}
use Rattle.tk_commands.specs.Binding.{binding_command_done, binding_command_named}
use Rattle.tk_commands.specs.Class.{class_told}
use Rattle.tk_commands.specs.declared.commands.TkCommand.{TkCommand}
use Rattle.tk_commands.specs.declared.commands.TkCommand.TheVariants.{Moment, Binding, Screen, Class}
use Rattle.tk_commands.specs.declared.outcome.CommandOutcome.TheVariants.{Unknown}
use Rattle.tk_commands.specs.Moment.{moment_command_done, moment_command_named}
use Rattle.tk_commands.specs.Outcomes.{Done, done, with_store}
use Rattle.tk_commands.specs.Path.{path_told}
use Rattle.tk_commands.specs.Screen.{screen_command_done, screen_command_named}

-- the command of a name
unfoldable pub command_named : List ℕ → Option TkCommand
command_named name =
    option_or (option_map Screen (screen_command_named name))
    (option_or (option_map Moment (moment_command_named name))
    (option_or (option_map Binding (binding_command_named name)) (option_map Class (class_command_named name))))

-- what it does, with the words behind its name
unfoldable pub command_done : TkCommand → List (List ℕ) → Panel → Store → Done
command_done (Moment command) words panel store = with_store store (moment_command_done command words panel)
command_done (Binding command) words panel store = with_store store (binding_command_done command words panel)
command_done (Screen command) words panel store = screen_command_done command words panel store
command_done (Class command) words panel store = class_told command words panel store

abbrev pub done_by : Option TkCommand → List (List ℕ) → Panel → Store → Done
done_by None words panel store = done panel store Unknown
done_by (Some command) words panel store = command_done command words panel store

-- the words, the command's name among them: a window's path is its command; there is no command without a name
abbrev pub panel_command : List (List ℕ) → Panel → Store → Done
panel_command [] panel store = done panel store Unknown
panel_command (name ∷ words) panel store =
    if begins_path name then path_told name words panel store else done_by (command_named name) words panel store
