-- Meaning. Events that commands dispatch at once, or queue (event(n)).
use Rattle.std.specs.Prelude.{ℕ, List, [], ◌∷◌, ◌++◌, length, Option, Some, None, option_map, Result, Ok, Err, codes}
use Rattle.tk_sequences.specs.declared.event.Event.{Event}
use Rattle.tk_sequences.specs.declared.event.EventKind.TheVariants.{Virtual}
use Rattle.tk_sequences.specs.Event.{bare_event}
use Rattle.tk_generate.specs.declared.generate.Generated.{Generated}
use Rattle.tk_generate.specs.declared.given.When.{When}
use Rattle.tk_generate.specs.declared.given.When.TheVariants.{Now, Tail, Head}
use Rattle.tk_generate.specs.Generate.{generate_words}
use Rattle.tk_panel.specs.Panel.{Panel, with_queue}
use Rattle.tk_commands.specs.declared.outcome.Begun.TheVariants.{Dispatches}
use Rattle.tk_commands.specs.declared.outcome.CommandOutcome.TheVariants.{Acts, Begins}
use Rattle.tk_commands.specs.Outcomes.{Told, told}
use Rattle.tk_widgets.specs.declared.outcome.WidgetAct.TheVariants.{Answer, Fault}
use Rattle.tk_tree.specs.declared.window.Window.{Window}
use Rattle.tk_tree.specs.Own.{window_at}

-- an event comes at once
abbrev pub dispatched : Event → Panel → Told
dispatched event panel = told panel (Begins (Dispatches event))

-- a generated event comes at once, or waits behind all others or before them
abbrev pub generated_by_when : When → Event → Panel → Told
generated_by_when Now event panel = dispatched event panel
generated_by_when Tail event panel = told (with_queue (panel.queue ++ event ∷ []) panel) (Acts (Answer []))
generated_by_when Head event panel = told (with_queue (event ∷ panel.queue) panel) (Acts (Answer []))

abbrev pub generated_told : Result Generated (List ℕ) → Panel → Told
generated_told (Ok generated) panel = generated_by_when generated.when generated.event panel
generated_told (Err text) panel = told panel (Acts (Fault text))

-- event generate path pattern ?option value ..?, with the words behind `generate`
unfoldable pub generate_told : List (List ℕ) → Panel → Told
generate_told words panel = generated_told (generate_words words panel.input.focus (length panel.queue) panel.moment panel.windowing.tree) panel

-- ---- another selection

-- the event of a listbox that has another selection, if it is there
abbrev pub selection_of : ℕ → Option Window → Option Event
selection_of moment window = option_map (λ window. bare_event (Virtual (codes "ListboxSelect")) window.number window.path moment) window

abbrev pub dispatched_if : Option Event → Panel → Told
dispatched_if (Some event) panel = dispatched event panel
dispatched_if None panel = told panel (Acts (Answer []))

-- it comes at once
abbrev pub selection_told : ℕ → Panel → Told
selection_told number panel = dispatched_if (selection_of panel.moment (window_at number panel.windowing.tree)) panel
