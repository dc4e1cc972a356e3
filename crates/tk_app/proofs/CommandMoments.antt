-- No command changes the moment.
use Rattle.std.proofs.Common.{◌≡◌, ℕ, Bool, true, false, List, [], ◌∷◌, refl}
use Rattle.std.specs.Prelude.{Option, Some, None, Result, Ok, Err, length, codes}
use Rattle.std.specs.Str.{bytes_eq}
use Rattle.tcl_vars.specs.Store.{Store}
use Rattle.tk_class_commands.specs.declared.outcome.ClassOutcome.{ClassOutcome}
use Rattle.tk_class_commands.specs.declared.outcome.ClassOutcome.TheVariants as class
use Rattle.tk_class_commands.specs.Table.{ClassCommand}
use Rattle.tk_generate.specs.declared.generate.Generated.{Generated}
use Rattle.tk_generate.specs.declared.given.When.{When}
use Rattle.tk_generate.specs.declared.given.When.TheVariants.{Now, Tail, Head}
use Rattle.tk_generate.specs.Generate.{generate_words}
use Rattle.tk_panel.specs.Commands.{put_to, puts_words}
use Rattle.tk_panel.specs.Panel.{Panel}
use Rattle.tk_sequences.specs.declared.event.Event.{Event}
use Rattle.tk_tree.specs.Own.{window_at}
use Rattle.tk_commands.specs.Binding.{binding_command_done, event_told}
use Rattle.tk_commands.specs.Class.{ClassDone, class_command, class_told, outcome_for}
use Rattle.tk_commands.specs.Commands.{panel_command}
use Rattle.tk_commands.specs.declared.binding.BindingCommand.{BindingCommand}
use Rattle.tk_commands.specs.declared.binding.BindingCommand.TheVariants as binding
use Rattle.tk_commands.specs.declared.commands.TkCommand.TheVariants as command
use Rattle.tk_commands.specs.declared.moment.MomentCommand.{MomentCommand}
use Rattle.tk_commands.specs.declared.moment.MomentCommand.TheVariants as moment_command
use Rattle.tk_commands.specs.declared.screen.ScreenCommand.{ScreenCommand}
use Rattle.tk_commands.specs.declared.screen.ScreenCommand.TheVariants.{Window as OnWindow, Pack}
use Rattle.tk_commands.specs.Dispatch.{dispatched_if, generate_told, generated_by_when, generated_told, selection_of, selection_told}
use Rattle.tk_commands.specs.Moment.{moment_command_done}
use Rattle.tk_commands.specs.Screen.{screen_command_done}
use Rattle.tk_app.proofs.Families.{command_keeps}

abbrev Stays : Panel → Panel → Type 0
Stays old new = new.moment ≡ old.moment

put_stays : (channel text : List ℕ) (panel : Panel) → Stays panel (put_to channel text panel).0
put_stays channel text panel = by (bytes_eq channel (codes "stdout")) refl
  where
    by : (b : Bool) → bytes_eq channel (codes "stdout") ≡ b → Stays panel (put_to channel text panel).0
    by true is = rw is refl
    by false is = rw is refl

puts_stay : (words : List (List ℕ)) (panel : Panel) → Stays panel (puts_words words panel).0
unfolding puts_words
puts_stay [] panel = refl
puts_stay (text ∷ []) panel = refl
puts_stay (channel ∷ text ∷ []) panel = put_stays channel text panel
puts_stay (channel ∷ text ∷ word ∷ words) panel = refl

moment_stays : (command : MomentCommand) (words : List (List ℕ)) (panel : Panel) → Stays panel (moment_command_done command words panel).panel
unfolding moment_command_done
moment_stays moment_command.Puts words panel = puts_stay words panel
moment_stays moment_command.After words panel = refl
moment_stays moment_command.Clock words panel = refl
moment_stays moment_command.Update words panel = refl
moment_stays moment_command.Destroy words panel = refl

generate_stays : (words : List (List ℕ)) (panel : Panel) → Stays panel (generate_told words panel).panel
unfolding generate_told
generate_stays words panel = by (generate_words words panel.input.focus (length panel.queue) panel.moment panel.windowing.tree)
  where
    arrives : (when : When) (event : Event) → Stays panel (generated_by_when when event panel).panel
    arrives Now event = refl
    arrives Tail event = refl
    arrives Head event = refl

    by : (generated : Result Generated (List ℕ)) → Stays panel (generated_told generated panel).panel
    by (Ok generated) = arrives generated.when generated.event
    by (Err text) = refl

event_stays : (words : List (List ℕ)) (panel : Panel) → Stays panel (event_told words panel).panel
unfolding event_told
event_stays [] panel = refl
event_stays (name ∷ words) panel = by (bytes_eq name (codes "generate")) refl
  where
    by : (b : Bool) → bytes_eq name (codes "generate") ≡ b → Stays panel (event_told (name ∷ words) panel).panel
    by true is = rw is (generate_stays words panel)
    by false is = rw is refl

binding_stays : (command : BindingCommand) (words : List (List ℕ)) (panel : Panel) → Stays panel (binding_command_done command words panel).panel
unfolding binding_command_done
binding_stays binding.Bind words panel = refl
binding_stays binding.Bindtags words panel = refl
binding_stays binding.Event words panel = event_stays words panel
binding_stays binding.Focus words panel = refl

screen_stays : (command : ScreenCommand) (words : List (List ℕ)) (panel : Panel) (store : Store) → Stays panel (screen_command_done command words panel store).panel
unfolding screen_command_done
screen_stays (OnWindow command) words panel store = refl
screen_stays Pack words panel store = refl

selection_stays : (number : ℕ) (panel : Panel) → Stays panel (selection_told number panel).panel
selection_stays number panel = by (selection_of panel.moment (window_at number panel.windowing.tree))
  where
    by : (event : Option Event) → Stays panel (dispatched_if event panel).panel
    by (Some event) = refl
    by None = refl

class_stays : (command : ClassCommand) (words : List (List ℕ)) (panel : Panel) (store : Store) → Stays panel (class_told command words panel store).panel
unfolding class_told
class_stays command words panel store = (let there : ClassDone = class_command command words panel store in by there.outcome there.panel)
  where
    by : (outcome : ClassOutcome) (panel : Panel) → Stays panel (outcome_for outcome panel).panel
    by (class.Acts act) panel = refl
    by (class.Selects number) panel = selection_stays number panel

pub command_moment : (words : List (List ℕ)) (panel : Panel) (store : Store) → (panel_command words panel store).panel.moment ≡ panel.moment
command_moment = command_keeps Stays (λ panel. refl) moment_stays binding_stays screen_stays class_stays (λ name words panel store. refl)
