-- Meaning. What a line of the session gives an application.
use Rattle.tk_base.specs.declared.local_event.LocalEvent.{LocalEvent}
use Rattle.tk_base.specs.declared.local_event.LocalKind.{LocalKind}
use Rattle.tk_base.specs.declared.local_event.LocalKind.TheVariants.{Size}
use Rattle.tk_inputs.specs.Deliver.{Arrivals, arrived}
use Rattle.tk_screen.specs.Own.{with_size}
use Rattle.tk_panel.specs.Panel.{Panel}

-- what it keeps of its input, and the events that wait for it
abbrev pub arrivals_in : Panel → Arrivals
arrivals_in panel = record { input = panel.input; queue = panel.queue }

abbrev pub with_arrivals : Arrivals → Panel → Panel
with_arrivals arrivals panel = record panel { input = arrivals.input; queue = arrivals.queue }

-- the rectangle has another size; `.` fills it at the next layout
abbrev pub with_rectangle : LocalKind → Panel → Panel
with_rectangle (Size width height) panel = record panel { windowing = with_size (width, height) panel.windowing }
with_rectangle kind panel = panel

-- keys go to the focus window, the pointer to the window that it is in or that holds it, the host's focus to the focus window, with the windows as they are
unfoldable pub delivered_panel : LocalEvent → Panel → Panel
delivered_panel event panel = with_rectangle event.kind (with_arrivals (arrived event panel.windowing.tree (arrivals_in panel)) panel)
