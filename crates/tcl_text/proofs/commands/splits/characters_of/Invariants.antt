use Rattle.std.proofs.Common.{◌≡◌, ◌≤◌, ◌++◌, length}
use denote.Text.{Utf8}
use denote.Shadow.{shadow}
use Rattle.tcl_text.specs.ListCommands.{characters_of}
use Rattle.tcl_text.proofs.commands.splits.characters_of.Given as goal

abbrev pub invariant-loop-first : goal.invariant-loop-first
invariant-loop-first l =
    shadow (Utf8 l.rest) × (length l.rest ≤ length l.text) × (l.pieces.items ++ characters_of l.rest ≡ characters_of l.text)

abbrev pub decreases-loop-first : goal.decreases-loop-first
decreases-loop-first l = length l.rest
