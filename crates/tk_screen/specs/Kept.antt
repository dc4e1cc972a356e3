-- Steps. What is kept beside a widget.
use Rattle.std.specs.Prelude.{◌≡◌, ℕ, Bool, None}
use Rattle.std.specs.Option.{is_some}
use Rattle.tk_widgets.specs.Commands.{variable_of}
use Rattle.tk_widgets.specs.declared.widget.Widget.{Widget}
use Rattle.tk_widgets.specs.Sizes.{requested}

-- the size that it asks for while no variable stands for its text, and whether it names a variable
pub record IsKept (widget : Widget) (size : ℕ × ℕ) (linked : Bool) : Type 0 where
  pub asked : size ≡ requested widget None
  pub named : linked ≡ is_some (variable_of widget)
