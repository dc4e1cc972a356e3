-- A window's own command touches no other window.
use Rattle.std.proofs.Common.{◌≡◌, ℕ, List, Option, None, Some, ap, subst, sym}
use Rattle.std.specs.Prelude.{IfSome, option_map}
use Rattle.std.specs.Option.{option_map_or}
use Rattle.tcl_vars.specs.Store.{Store}
use Rattle.tk_screen.proofs.Touching.{touch_changed, touch_none, touched_marked}
use Rattle.tk_screen.specs.Changes.{Changed, stays}
use Rattle.tk_screen.specs.declared.marks.Marks.{Marks}
use Rattle.tk_screen.specs.declared.screen.Screen.{Screen}
use Rattle.tk_screen.specs.Marks.{mark_of, IsTouched, LeavesOtherMarks}
use Rattle.tk_screen.specs.Own.{Windowing}
use Rattle.tk_screen.specs.Seen.{AllMarked}
use Rattle.tk_screen.specs.Shapes.{variable_text}
use Rattle.tk_screen.specs.Shared.{own_of, LeavesOthers}
use Rattle.tk_screen.specs.Touch.{IsTouch}
use Rattle.tk_screen.specs.Widgets.{widget_at}
use Rattle.tk_base.specs.declared.win.Win.{Win}
use Rattle.tk_tree.proofs.Lists.{some_same}
use Rattle.tk_tree.specs.declared.window.Window.{Window}
use Rattle.tk_tree.specs.Own.{at_path}
use Rattle.tk_widgets.specs.Commands.{wanted}
use Rattle.tk_widgets.specs.declared.outcome.WidgetAct.{WidgetAct}
use Rattle.tk_widgets.specs.declared.outcome.WidgetRequest.{WidgetRequest}
use Rattle.tk_widgets.specs.declared.outcome.WidgetRequest.TheVariants.{Done, Wants}
use Rattle.tk_widgets.specs.declared.widget.Widget.{Widget}
use Rattle.tk_widgets.specs.Outcomes.{asked_by}
use Rattle.tk_window_commands.specs.Path.{asked_of, path_words, widget_words}

module _ (words : List (List ℕ)) (own : Windowing) (store : Store) where
  asked_touch : (number : ℕ) (asked : WidgetRequest) → IsTouch number own (asked_of number asked own store).own
  asked_touch number (Done act) = touch_none number own
  asked_touch number (Wants change) = touch_changed number change own store

  widget_touch : (number : ℕ) (widget : Option Widget)
      → IsTouch number own (option_map_or (λ widget. asked_of number (asked_by (wanted words (variable_text widget store) widget)) own store) widget (stays own store None)).own
  widget_touch number None = touch_none number own
  widget_touch number (Some widget) = asked_touch number (asked_by (wanted words (variable_text widget store) widget))

  window_touch : (number : ℕ) (window : Option Window) → IfSome window (λ window. number ≡ window.number)
      → IsTouch number own (option_map_or (λ window. widget_words window.number words own store) window (stays own store None)).own
  window_touch number None is = touch_none number own
  window_touch number (Some window) is =
      subst (λ n. IsTouch n own (widget_words window.number words own store).own) (sym is) (widget_touch window.number (widget_at window.number own.widgets))

  pub path_touch : (number : ℕ) (path : List ℕ) → IfSome (at_path path own.tree) (λ window. number ≡ window.number) → IsTouch number own (path_words path words own store).own
  unfolding path_words
  path_touch number path is = window_touch number (at_path path own.tree) is

-- the marks hold once the window is touched whose command was run
pub still_marked : (slot number : ℕ) (path : List ℕ) (words : List (List ℕ)) (old new : Marks) (before now : Screen) (store after : Store) (act : Option WidgetAct)
    → AllMarked old before → IsTouched number (mark_of slot old) (mark_of slot new) → LeavesOtherMarks slot old new → LeavesOthers slot before now
    → IfSome (at_path path (own_of slot before).tree) (λ window. number ≡ window.number) → record { own = own_of slot now; store = after; act = act } ≡ path_words path words (own_of slot before) store
    → AllMarked new now
still_marked slot number path words old new before now store after act marked touched marks parts known is =
    touched_marked slot number old new before now marked touched marks parts
    (subst (λ (c : Changed). IsTouch number (own_of slot before) c.own) (sym is) (path_touch words (own_of slot before) store number path known))

-- ── the number of a window that was found ──

pub number_found : (owner : ℕ) (found : Option Window) (win : Win) → Some win ≡ option_map (λ window. record { owner = owner; number = window.number }) found → IfSome found (λ window. win.number ≡ window.number)
number_found owner None win is = tt
number_found owner (Some window) win is = ap (λ (w : Win). w.number) (some_same win (record { owner = owner; number = window.number }) is)
