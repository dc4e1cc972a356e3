use denote.Text.{Utf8}
use denote.Shadow.{shadow}
use Rattle.std.specs.Str.{chars}
use Rattle.tcl_text.proofs.GlobLetters.{FilledTo}
use Rattle.tcl_text.proofs.glob_letters.fill.Given as goal

abbrev pub invariant-loop-at : goal.invariant-loop-at
invariant-loop-at l = shadow (Utf8 l.rest) × FilledTo (chars l.text) l.letters (chars l.rest) l.at
