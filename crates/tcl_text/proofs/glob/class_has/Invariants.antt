use Rattle.std.proofs.Common.{◌≡◌, length}
use denote.Text.{Utf8}
use denote.Shadow.{shadow}
use Rattle.std.specs.Str.{chars}
use Rattle.tcl_text.specs.Glob.{in_class}
use Rattle.tcl_text.proofs.glob.class_has.Given as goal

abbrev pub invariant-loop-low : goal.invariant-loop-low
invariant-loop-low l = shadow (Utf8 l.rest) × (in_class (chars l.rest) l.character ≡ in_class (chars l.class) l.character)

abbrev pub decreases-loop-low : goal.decreases-loop-low
decreases-loop-low l = length l.rest
