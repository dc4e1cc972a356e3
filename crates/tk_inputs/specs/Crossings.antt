-- Meaning. Which windows the pointer crosses. A window is given by its way: the numbers of its ancestors from the main window on, and then its own.
-- Outside of the application's rectangle the way is empty, so that outside counts as the parent of the main window.
use Rattle.std.specs.Prelude.{◌≢◌, ℕ, ◌==◌, if◌then◌else◌, ◌-◌, List, [], ◌∷◌, ◌++◌, drop, length, map, reverse, take, codes}
use Rattle.tk_inputs.specs.declared.pointer_event.PointerEvent.{PointerEvent}
use Rattle.tk_inputs.specs.declared.pointer_event.PointerKind.TheVariants.{Crossing}
use Rattle.tk_inputs.specs.declared.pointer_event.CrossingKind.{CrossingKind}
use Rattle.tk_inputs.specs.declared.pointer_event.CrossingKind.TheVariants.{Enter, Leave}
use Rattle.tk_inputs.specs.declared.pointer_event.CrossingDetail.{CrossingDetail}
use Rattle.tk_inputs.specs.declared.pointer_event.CrossingDetail.TheVariants.{Ancestor, Virtual, Nonlinear, NonlinearVirtual}

abbrev pub detail_name : CrossingDetail → List ℕ
detail_name Ancestor = codes "NotifyAncestor"
detail_name Virtual = codes "NotifyVirtual"
detail_name Nonlinear = codes "NotifyNonlinear"
detail_name NonlinearVirtual = codes "NotifyNonlinearVirtual"

abbrev pub crossing : CrossingKind → CrossingDetail → ℕ → PointerEvent
crossing kind detail window = record { window = window; kind = Crossing kind detail }

-- The windows of a way, the outermost first: the last is the window that the pointer comes to or comes from, the others lie between.
abbrev pub crossed : CrossingKind → CrossingDetail → CrossingDetail → List ℕ → List PointerEvent
crossed kind between at windows =
    let others = length windows - 1 in
    map (crossing kind between) (take others windows) ++ map (crossing kind at) (drop others windows)

-- going down, the outermost window is told first
abbrev pub enter_events : CrossingDetail → CrossingDetail → List ℕ → List PointerEvent
enter_events between at windows = crossed Enter between at windows

-- going up, the innermost window is told first
abbrev pub leave_events : CrossingDetail → CrossingDetail → List ℕ → List PointerEvent
leave_events between at windows = reverse (crossed Leave between at windows)

-- From the end of one way to the end of another that begin at the same window, or outside. Where one of them is empty the pointer comes from an ancestor,
-- or goes to one; that outer window is told nothing.
abbrev pub crossings_between : List ℕ → List ℕ → List PointerEvent
crossings_between [] [] = []
crossings_between [] (window ∷ down) = enter_events Virtual Ancestor (window ∷ down)
crossings_between (window ∷ up) [] = leave_events Virtual Ancestor (window ∷ up)
crossings_between (outer ∷ up) (window ∷ down) = leave_events NonlinearVirtual Nonlinear (outer ∷ up) ++ enter_events NonlinearVirtual Nonlinear (window ∷ down)

-- two ways that go apart at once, or of which one is empty
abbrev pub GoApart : List ℕ → List ℕ → Type 0
GoApart (window ∷ up) (other ∷ down) = window ≢ other
GoApart _ _ = Unit {0}

-- From one window to another, given by their ways. The windows that both ways begin with are told nothing.
abbrev pub crossings_of : List ℕ → List ℕ → List PointerEvent
crossings_of (window ∷ from) (other ∷ to) = if window == other then crossings_of from to else crossings_between (window ∷ from) (other ∷ to)
crossings_of from to = crossings_between from to
