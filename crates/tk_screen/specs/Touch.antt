-- Steps. An application in which one window may look otherwise, or others are packed.
use Rattle.std.specs.Prelude.{◌≡◌, ◌≢◌, ℕ, is_some}
use Rattle.tk_packer.specs.Packs.{Packing}
use Rattle.tk_screen.specs.Own.{Windowing}
use Rattle.tk_screen.specs.Widgets.{OwnWidgets, widget_at}

-- its widgets are others, but each window has a widget that had one, and the widget of another window than the one with the number is what it was
abbrev pub IsTouch : ℕ → Windowing → Windowing → Type 0
IsTouch number old new =
    (widgets : OwnWidgets) × (new ≡ record old { widgets = widgets }) × ((other : ℕ) → other ≢ number → widget_at other widgets ≡ widget_at other old.widgets)
    × ((other : ℕ) → is_some (widget_at other widgets) ≡ is_some (widget_at other old.widgets))

-- other windows are packed in it, or packed otherwise, and the same propagate
abbrev pub IsPacking : Windowing → Windowing → Type 0
IsPacking old new = (packs : Packing) × ((new ≡ record old { packs = packs }) × (packs.rigid ≡ old.packs.rigid))
