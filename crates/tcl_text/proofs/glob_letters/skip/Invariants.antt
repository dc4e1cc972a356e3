use Rattle.std.proofs.Common.{◌≡◌, drop}
use denote.Text.{Utf8}
use denote.Shadow.{shadow}
use Rattle.std.specs.Str.{chars}
use Rattle.tcl_text.proofs.glob_letters.skip.Given as goal

abbrev pub invariant-loop-passed : goal.invariant-loop-passed
invariant-loop-passed l = shadow (Utf8 l.rest) × (chars l.rest ≡ drop l._passed (chars l.text))
