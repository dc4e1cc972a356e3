use Rattle.std.proofs.Common.{◌+◌, ◌*◌}
use Rattle.test_tcl.proofs.scripts.+shown.Given as goal

abbrev pub decreases-push_piece : goal.decreases-push_piece
decreases-push_piece l = 5 * l.depth

abbrev pub decreases-push_pieces : goal.decreases-push_pieces
decreases-push_pieces l = 5 * l.depth + 1

abbrev pub decreases-push_word : goal.decreases-push_word
decreases-push_word l = 5 * l.depth + 2

abbrev pub decreases-words_of : goal.decreases-words_of
decreases-words_of l = 5 * l.depth + 3

abbrev pub decreases-push_bracket : goal.decreases-push_bracket
decreases-push_bracket l = 5 * l.depth + 4
