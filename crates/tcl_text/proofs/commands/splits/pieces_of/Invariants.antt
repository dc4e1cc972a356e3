use Rattle.std.proofs.Common.{◌≡◌, ◌≤◌, ◌++◌, length}
use denote.Text.{Utf8}
use denote.Shadow.{shadow}
use Rattle.tcl_text.specs.ListCommands.{pieces_of}
use Rattle.tcl_text.proofs.commands.splits.pieces_of.Given as goal

abbrev pub invariant-loop-pieces : goal.invariant-loop-pieces
invariant-loop-pieces l =
    shadow (Utf8 l.rest) × (length l.rest ≤ length l.text) × (l.pieces.items ++ pieces_of l.rest l.separators ≡ pieces_of l.text l.separators)

abbrev pub decreases-loop-pieces : goal.decreases-loop-pieces
decreases-loop-pieces l = length l.rest
