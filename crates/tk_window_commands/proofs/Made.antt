-- A window that is made, and one that isn't, since its variable can't be set.
use Rattle.std.proofs.Common.{◌≡◌, ℕ, List, refl, sym, ap, ◌∙◌, subst}
use Rattle.std.specs.Prelude.{Result, Ok, Err}
use Rattle.tcl_text.specs.Answers.{◌>>=◌, Gives, bounded}
use Rattle.tcl_text.specs.declared.commands.answers.Refusal.{Refusal}
use Rattle.tcl_text.specs.declared.commands.answers.Refusal.TheVariants.{Error, NoMemory}
use Rattle.tcl_vars.specs.Store.{Store}
use Rattle.tk_base.specs.declared.kind.Kind.{Kind}
use Rattle.tk_options.specs.FaultTexts.{fault_text}
use Rattle.tk_options.specs.declared.fault.OptionFault.{OptionFault}
use Rattle.tk_options.specs.declared.settings.Setting.{Setting}
use Rattle.tk_options.specs.Options.{settings, with_settings}
use Rattle.tk_options.specs.Rows.{options_of}
use Rattle.tk_screen.specs.Changes.{wrote}
use Rattle.tk_screen.specs.Own.{Windowing, with_made}
use Rattle.tk_widgets.specs.Commands.{Told, made, with_options}
use Rattle.tk_widgets.specs.declared.outcome.WidgetChange.TheVariants.{Configure}
use Rattle.tk_widgets.specs.declared.outcome.WidgetAct.{WidgetAct}
use Rattle.tk_widgets.specs.declared.widget.Widget.{Widget}
use Rattle.tk_widgets.specs.Outcomes.{or_fault}
use Rattle.tk_widgets.specs.Sizes.{new_widget}
use Rattle.tk_window_commands.specs.Create.{made_of, made_with, or_keeps, configured, configured_new}
use Rattle.tk_window_commands.specs.declared.create.Ready.{Ready}

ok_settings : (given : Result (List Setting) OptionFault) (all : List Setting) → or_fault given ≡ Ok all → given ≡ Ok all
ok_settings (Ok some) all is = cc
ok_settings (Err fault) all is = absurd (cc)

pub given_ok : (kind : Kind) (widget : Widget) (options : List (List ℕ)) (all : List Setting) → widget ≡ new_widget kind → or_fault (settings options widget.options) ≡ Ok all → settings options (options_of kind) ≡ Ok all
given_ok kind widget options all new is =
    ap (settings options) (ap (λ (w : Widget). w.options) (sym new)) ∙ ok_settings (settings options widget.options) all is

fault_told : (refusal : Refusal) (kind : Kind) (given : Result (List Setting) OptionFault)
    → Gives {T = List Setting} (Err refusal) (or_fault given) → Gives {T = Ready} (Err refusal) (configured_new kind given)
fault_told NoMemory kind given gives = tt
fault_told (Error message) kind (Ok all) gives = absurd (cc)
fault_told (Error message) kind (Err fault) gives =
    let told : bounded (fault_text fault) ≡ message = cc in
    ap Err told

-- options that are refused
pub given_refused : (refusal : Refusal) (kind : Kind) (widget : Widget) (options : List (List ℕ)) → widget ≡ new_widget kind
    → Gives {T = List Setting} (Err refusal) (or_fault (settings options widget.options)) → Gives {T = Ready} (Err refusal) (configured_new kind (settings options (options_of kind)))
given_refused refusal kind widget options new gives =
    let same : settings options widget.options ≡ settings options (options_of kind) = ap (settings options) (ap (λ (w : Widget). w.options) new) in
    fault_told refusal kind (settings options (options_of kind)) (subst (λ given. Gives {T = List Setting} (Err refusal) (or_fault given)) same gives)

-- options that are set
pub given_set : (kind : Kind) (widget : Widget) (options : List (List ℕ)) (all : List Setting) (done : Ready) → widget ≡ new_widget kind → or_fault (settings options widget.options) ≡ Ok all
    → done ≡ configured all widget → configured_new kind (settings options (options_of kind)) ≡ Ok done
given_set kind widget options all done new is set =
    ap (configured_new kind) (given_ok kind widget options all new is) ∙ ap Ok (ap (configured all) (sym new) ∙ sym set)

pub set_by : (all : List Setting) (widget widget' : Widget) (act : WidgetAct) → made (Configure all) widget ≡ record { widget = widget'; act = act } → with_options (with_settings all) widget ≡ widget'
set_by all widget widget' act is = ap (λ (t : Told). t.widget) is

-- the window is made of the widget, and its variable was written
pub window_made : (own own' : Windowing) (kind : Kind) (path answer : List ℕ) (store new : Store) (done : Ready) (given : Result Ready (List ℕ))
    → given ≡ Ok done → wrote done.write store ≡ Ok new → own' ≡ with_made path kind done.widget own → answer ≡ path
    → or_keeps own store (made_of kind path own store given) ≡ record { own = own'; store = new; answer = Ok answer }
window_made own own' kind path answer store new done given given_is wrote_is own_is answer_is =
    ap (λ given. or_keeps own store (made_of kind path own store given)) given_is
    ∙ ap (λ (written : Result Store (List ℕ)). or_keeps own store (written >>= (λ store. Ok (made_with kind path own done store)))) wrote_is
    ∙ ap (λ o. record { own = o; store = new; answer = Ok path }) (sym own_is) ∙ ap (λ a. record { own = own'; store = new; answer = Ok a }) (sym answer_is)
