use Rattle.std.proofs.Common.{◌≡◌, ◌+◌, ◌*◌, ◌≤◌, max, length}
use denote.Text.{Utf8}
use denote.Shadow.{shadow}
use Rattle.tk_widgets.specs.Lines.{lines_in, widest}
use Rattle.tk_widgets.proofs.measure.measure.Given as goal

-- the lines so far, with those of the rest
abbrev pub invariant-loop-line : goal.invariant-loop-line
invariant-loop-line l =
    shadow (Utf8 l.rest) × (l.columns ≤ 2 * length l.text) × (l.lines + length l.rest ≤ length l.text + 1) × (length l.rest ≤ length l.text)
    × (max l.columns (widest (lines_in l.rest)) ≡ widest (lines_in l.text)) × (l.lines + length (lines_in l.rest) ≡ length (lines_in l.text) + 1)

abbrev pub decreases-loop-line : goal.decreases-loop-line
decreases-loop-line l = length l.rest
