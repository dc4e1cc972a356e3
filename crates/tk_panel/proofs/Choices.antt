-- What a choice of scripts leaves as it is.
use Rattle.std.proofs.Common.{◌≡◌, ℕ, List, [], option_map, refl, sym, ap, ◌∙◌}
use Rattle.std.specs.Prelude.{Option, Some, None, Ok, Err}
use Rattle.tk_dispatch.specs.Dispatch.{Chosen}
use Rattle.tk_patterns.specs.History.{entered}
use Rattle.tk_sequences.specs.declared.event.Event.{Event}
use Rattle.tk_tree.specs.declared.window.Window.{Window}
use Rattle.tk_tree.specs.Own.{window_at}
use Rattle.tk_panel.specs.declared.transcript.Stream.TheVariants.{Err as Errors}
use Rattle.tk_panel.specs.Choice.{chosen, chosen_at, on_scripts, scripts_of, with_entered}
use Rattle.tk_panel.specs.Panel.{Panel}
use Rattle.tk_panel.specs.Reports.{with_line}

by_scripts : (event : Event) (panel : Panel) (scripts : Chosen) → (on_scripts event panel scripts).0.queue ≡ panel.queue
by_scripts event panel (Ok scripts) = refl
by_scripts event panel (Err text) = refl

by_window : (event : Event) (panel : Panel) (window : Option Window) → (chosen_at event panel window).0.queue ≡ panel.queue
by_window event panel None = refl
by_window event panel (Some window) = by_scripts event panel (scripts_of event panel)

-- the events that wait
pub chosen_queue : (event : Event) (panel : Panel) → (chosen event panel).0.queue ≡ panel.queue
unfolding chosen
chosen_queue event panel = by_window event panel (window_at event.number panel.windowing.tree)

-- ── a refused substitution ──

refused_at : (event : Event) (panel : Panel) (text : List ℕ) (window : Option Window) → option_map (λ window. scripts_of event panel) window ≡ Some (Err text)
    → on_scripts event panel (Err text) ≡ chosen_at event panel window
refused_at event panel text None is = cc
refused_at event panel text (Some window) is = let same : scripts_of event panel ≡ Err text = cc in ap (on_scripts event panel) (sym same)

pub chosen_refused : (event : Event) (panel told : Panel) (history : List Event) (text : List ℕ)
    → option_map (λ window. scripts_of event panel) (window_at event.number panel.windowing.tree) ≡ Some (Err text)
    → told ≡ with_line Errors text panel → history ≡ entered event told.history → (record told { history = history }, []) ≡ chosen event panel
unfolding chosen
chosen_refused event panel told history text refused tells enters =
    ap (λ h. (record told { history = h }, [])) enters
    ∙ ap (λ (p : Panel). (with_entered event p, [])) tells
    ∙ refused_at event panel text (window_at event.number panel.windowing.tree) refused
