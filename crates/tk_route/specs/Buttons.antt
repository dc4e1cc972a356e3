-- Meaning. The buttons of the pointer.
use Rattle.std.specs.Prelude.{ℕ, Bool, false, not, ◌&&◌, ◌||◌, ◌==◌, if◌then◌else◌}
use Rattle.tk_route.specs.declared.buttons.Buttons.{Buttons}

abbrev pub has : ℕ → Buttons → Bool
has button buttons =
    if button == 1 then buttons.first else (if button == 2 then buttons.second else (if button == 3 then buttons.third
    else (if button == 4 then buttons.fourth else (if button == 5 then buttons.fifth else false))))

abbrev pub is_any_held : Buttons → Bool
is_any_held buttons = buttons.first || buttons.second || buttons.third || buttons.fourth || buttons.fifth

abbrev pub with_pressed : ℕ → Buttons → Buttons
with_pressed button buttons = record {
  first = buttons.first || button == 1;
  second = buttons.second || button == 2;
  third = buttons.third || button == 3;
  fourth = buttons.fourth || button == 4;
  fifth = buttons.fifth || button == 5;
}

abbrev pub with_released : ℕ → Buttons → Buttons
with_released button buttons = record {
  first = buttons.first && not (button == 1);
  second = buttons.second && not (button == 2);
  third = buttons.third && not (button == 3);
  fourth = buttons.fourth && not (button == 4);
  fifth = buttons.fifth && not (button == 5);
}
