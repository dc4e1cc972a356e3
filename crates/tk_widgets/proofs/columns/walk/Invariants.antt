use Rattle.std.proofs.Common.{◌≡◌, ◌+◌, ◌≤◌, length}
use denote.Text.{Utf8}
use denote.Shadow.{shadow}
use Rattle.std.specs.Str.{chars}
use Rattle.tk_widgets.specs.Walk.{walk}
use Rattle.tk_widgets.proofs.columns.walk.Given as goal

-- those that have room so far, and those of the rest that have
abbrev pub invariant-loop-first : goal.invariant-loop-first
invariant-loop-first l =
    shadow (Utf8 l.rest) × (l.count + length l.rest ≤ length l.text)
    × (l.count + walk l.room (chars l.rest) ≡ walk l.columns (chars l.text))

abbrev pub decreases-loop-first : goal.decreases-loop-first
decreases-loop-first l = length l.rest
