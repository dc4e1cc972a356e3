-- Meaning. What lines route lies in ranges where the lines do, and the rectangles that applications came with. By itself such an application has windows that
-- lie near one another, and each event that is routed to it tells its places and its button.
use Rattle.std.specs.Prelude.{◌≡◌, ℕ, List, ◌∷◌}
use Rattle.std.specs.List.{AllByRecursion}
use Rattle.tk_base.specs.declared.local_event.LocalEvent.{LocalEvent}
use Rattle.tk_base.specs.declared.rect.Rect.{Rect}
use Rattle.tk_route.specs.Lines.{Line}
use Rattle.tk_route.specs.Refusals.{IsInRange}
use Rattle.tk_route.specs.Routes.{routed}
use Rattle.tk_route.specs.Screen.{IsOnScreen}
use Rattle.tk_panel.specs.Deliver.{delivered_panel}
use Rattle.tk_panel.specs.Panel.{Panel}
use Rattle.tk_app.specs.declared.state.AppState.TheVariants.{Running}
use Rattle.tk_app.specs.Application.{panel_at}
use Rattle.tk_app.specs.Commands.{Update}
use Rattle.tk_app.specs.Dispatch.{Action}
use Rattle.tk_app.specs.Near.{RunsNear}
use Rattle.tk_app.specs.Ranges.{IsEventInRange, IsSize}
use Rattle.tk_app.specs.Seen.{Meaning}
use Rattle.tk_app.specs.Settle.{IsSettle, IsUpdate}
use Rattle.tk_app.specs.Spec.{Spec}
use Rattle.tk_app.specs.Told.{delivered_whole}
use Rattle.tk_host.specs.Alone.{alone_by}

abbrev pub AreOnScreen : List Rect → Type 0
AreOnScreen rects = AllByRecursion IsOnScreen rects

abbrev pub AreLinesInRange : List Line → Type 0
AreLinesInRange lines = AllByRecursion (λ (line : Line). IsInRange line.line) lines

abbrev pub AreEventsInRange : List LocalEvent → Type 0
AreEventsInRange events = AllByRecursion IsEventInRange events

-- lines in range route events in range, to whatever application
abbrev pub RoutesInRange : Type 0
RoutesInRange =
    (first : List Rect) (lines : List Line) (slot : ℕ) → AreOnScreen first → AreLinesInRange lines → AreEventsInRange (routed first lines slot)

-- ── an application by itself ──

module _ {M : Type 0} (answer : M → Meaning) where
  -- the event, which comes after earlier ones to an application that runs, tells its places and its button
  abbrev pub ComesWhole : Update → Action → Spec M → LocalEvent → List LocalEvent → Type 0
  ComesWhole update settle spec event earlier =
      (alone_by answer update settle spec earlier event.moment).state ≡ Running
      → (let panel : Panel = panel_at event.moment (alone_by answer update settle spec earlier event.moment) in delivered_panel event panel ≡ delivered_whole event panel)

  -- By whatever meets the equations of `update` and *Settle*: where its rectangle has a size, and the events are in range, its windows lie near one another while
  -- it runs, and the events come so.
  pub record AloneInRange : Type 0 where
    pub near : (update : Update) → IsUpdate update → (settle : Action) → IsSettle update settle → (spec : Spec M) (routed : List LocalEvent) (last : ℕ)
        → IsSize spec.width spec.height → AreEventsInRange routed → RunsNear (alone_by answer update settle spec routed last)
    pub whole : (update : Update) → IsUpdate update → (settle : Action) → IsSettle update settle → (spec : Spec M) (event : LocalEvent) (earlier : List LocalEvent)
        → IsSize spec.width spec.height → AreEventsInRange (event ∷ earlier) → ComesWhole update settle spec event earlier
