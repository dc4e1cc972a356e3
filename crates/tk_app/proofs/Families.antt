-- What each family of commands keeps of a panel, a command keeps.
use Rattle.std.proofs.Common.{ℕ, Bool, true, false, cond, List, [], ◌∷◌}
use Rattle.std.specs.Prelude.{Option, Some, None}
use Rattle.tcl_vars.specs.Store.{Store}
use Rattle.tk_class_commands.specs.Table.{ClassCommand}
use Rattle.tk_pack_commands.specs.Targets.{begins_path}
use Rattle.tk_panel.specs.Panel.{Panel}
use Rattle.tk_commands.specs.Binding.{binding_command_done}
use Rattle.tk_commands.specs.Class.{class_told}
use Rattle.tk_commands.specs.Commands.{command_done, command_named, done_by, panel_command}
use Rattle.tk_commands.specs.declared.binding.BindingCommand.{BindingCommand}
use Rattle.tk_commands.specs.declared.commands.TkCommand.{TkCommand}
use Rattle.tk_commands.specs.declared.commands.TkCommand.TheVariants.{Moment, Binding, Screen, Class}
use Rattle.tk_commands.specs.declared.moment.MomentCommand.{MomentCommand}
use Rattle.tk_commands.specs.declared.screen.ScreenCommand.{ScreenCommand}
use Rattle.tk_commands.specs.Moment.{moment_command_done}
use Rattle.tk_commands.specs.Path.{path_told}
use Rattle.tk_commands.specs.Screen.{screen_command_done}

module _ (Keeps : Panel → Panel → Type 0) (same : (panel : Panel) → Keeps panel panel)
    (moment : (command : MomentCommand) (words : List (List ℕ)) (panel : Panel) → Keeps panel (moment_command_done command words panel).panel)
    (binding : (command : BindingCommand) (words : List (List ℕ)) (panel : Panel) → Keeps panel (binding_command_done command words panel).panel)
    (screen : (command : ScreenCommand) (words : List (List ℕ)) (panel : Panel) (store : Store) → Keeps panel (screen_command_done command words panel store).panel)
    (class : (command : ClassCommand) (words : List (List ℕ)) (panel : Panel) (store : Store) → Keeps panel (class_told command words panel store).panel)
    (path : (name : List ℕ) (words : List (List ℕ)) (panel : Panel) (store : Store) → Keeps panel (path_told name words panel store).panel) where
  named_keeps : (named : Option TkCommand) (words : List (List ℕ)) (panel : Panel) (store : Store) → Keeps panel (done_by named words panel store).panel
  unfolding command_done
  named_keeps None words panel store = same panel
  named_keeps (Some (Moment command)) words panel store = moment command words panel
  named_keeps (Some (Binding command)) words panel store = binding command words panel
  named_keeps (Some (Screen command)) words panel store = screen command words panel store
  named_keeps (Some (Class command)) words panel store = class command words panel store

  pub command_keeps : (words : List (List ℕ)) (panel : Panel) (store : Store) → Keeps panel (panel_command words panel store).panel
  command_keeps [] panel store = same panel
  command_keeps (name ∷ words) panel store = by (begins_path name)
    where
      by : (b : Bool) → Keeps panel (cond b (path_told name words panel store) (done_by (command_named name) words panel store)).panel
      by true = path name words panel store
      by false = named_keeps (command_named name) words panel store
