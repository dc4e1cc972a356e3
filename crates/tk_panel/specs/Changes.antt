-- Meaning. Layout, and the events that it queues (pack(n), bind(n)).
use Rattle.std.specs.Prelude.{ℕ, ℤ, pos, ◌^◌, nat_lt, List, [], ◌∷◌, ◌++◌, Option, Some, None, if◌then◌else◌}
use Rattle.tcl_vars.specs.Store.{Store}
use Rattle.tk_base.specs.declared.rect.Rect.{Rect}
use Rattle.tk_sequences.specs.declared.event.Event.{Event}
use Rattle.tk_sequences.specs.declared.event.EventKind.TheVariants.{Physical}
use Rattle.tk_sequences.specs.Event.{bare_event}
use Rattle.tk_packer.specs.declared.changes.PlaceChange.{PlaceChange}
use Rattle.tk_packer.specs.declared.changes.PlaceChange.TheVariants.{Unmap, Configure, Map}
use Rattle.tk_sequences.specs.declared.event_type.EventType.{EventType}
use Rattle.tk_sequences.specs.declared.event_type.EventType.TheVariants as types
use Rattle.tk_tree.specs.declared.window.Window.{Window}
use Rattle.tk_tree.specs.Own.{window_at}
use Rattle.tk_screen.specs.Layout.{changes_due, laid_out_windowing}
use Rattle.tk_panel.specs.Panel.{Panel}

-- ── the events of changes ──

-- an event of a window, of a type, without fields
abbrev pub window_event : EventType → Window → ℕ → Event
window_event type window moment = bare_event (Physical type) window.number window.path moment

-- a place in pixels, which lies far below 2^31
abbrev pub in_pixels : ℕ → Option ℤ
in_pixels x = if nat_lt x (2 ^ 31) then Some (pos x) else None

-- Configure tells the window's rectangle of then
abbrev pub configure_event : Window → Rect → ℕ → Event
configure_event window rect moment =
    record (window_event types.Configure window moment) { x = in_pixels rect.x; y = in_pixels rect.y; width = Some rect.width; height = Some rect.height }

abbrev pub event_of : PlaceChange → Window → ℕ → Event
event_of (Unmap number) window moment = window_event types.Unmap window moment
event_of (Configure number rect) window moment = configure_event window rect moment
event_of (Map number) window moment = window_event types.Map window moment

abbrev pub number_of : PlaceChange → ℕ
number_of (Unmap number) = number
number_of (Configure number rect) = number
number_of (Map number) = number

-- the event of a change is the last in the queue
abbrev pub queued_at : PlaceChange → Panel → Option Window → Panel
queued_at change panel None = panel
queued_at change panel (Some window) = record panel { queue = panel.queue ++ event_of change window panel.moment ∷ [] }

abbrev pub with_event_of : PlaceChange → Panel → Panel
with_event_of change panel = queued_at change panel (window_at (number_of change) panel.windowing.tree)

-- those of changes, in their order
unfoldable pub with_events_of : List PlaceChange → Panel → Panel
with_events_of [] panel = panel
with_events_of (change ∷ changes) panel = with_events_of changes (with_event_of change panel)

-- ── layout ──

-- the windows lie where the layout says, with the texts that variables have, and what that changes is queued
unfoldable pub laid_out : Store → Panel → Panel
laid_out store panel = with_events_of (changes_due panel.windowing store) (record panel { windowing = laid_out_windowing panel.windowing store })
