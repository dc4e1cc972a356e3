use Rattle.std.proofs.Common.{◌≡◌, ◌-◌, drop, length}
use Rattle.tcl_interp.specs.Moves.{word_end}
use Rattle.tcl_interp.proofs.words.put_pieces.Given as goal

-- what is left of the pieces ends as all of them do
abbrev pub invariant-loop-next : goal.invariant-loop-next
invariant-loop-next l = word_end l.level l.scopes (drop l.next l.pieces) l.text_so_far ≡ word_end l.level l.scopes (drop l.fn.from l.pieces) l.fn.so_far

abbrev pub decreases-loop-next : goal.decreases-loop-next
decreases-loop-next l = length l.pieces - l.next
