use Rattle.std.proofs.Common.{◌≡◌, ◌-◌, ◌+◌, drop, length}
use Rattle.tcl_interp.specs.Moves.{words_move}
use Rattle.tcl_interp.specs.Rests.{commands_in, left_in, words_in_front, waits_of}
use Rattle.tcl_interp.proofs.words.put_words.Given as goal

-- what is left of the words does as all of them do
abbrev pub invariant-loop-word : goal.invariant-loop-word
invariant-loop-word g l = record {
  table : l.table ≡ l.fn.table;
  same : words_move l.level l.scopes l.place.room (drop (l.place.next + 1) (commands_in l.place.script)) (drop l.word (words_in_front (left_in l.place))) l.whole (waits_of l.frames.items)
      ≡ words_move l.level l.scopes l.place.room (drop (l.place.next + 1) (commands_in l.place.script)) (drop l.fn.from (words_in_front (left_in l.place))) l.fn.so_far (waits_of l.fn.frames.items);
}

abbrev pub decreases-loop-word : goal.decreases-loop-word
decreases-loop-word g l = length (words_in_front (left_in l.place)) - l.word
