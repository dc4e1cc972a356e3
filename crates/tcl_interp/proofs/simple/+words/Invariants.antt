use Rattle.std.proofs.Common.{◌≤◌, ◌+◌, ◌*◌, ◌-◌, ◌++◌, ℕ, List, drop, length}
use Rattle.tcl_interp.specs.Simple.{WordsLead}
use Rattle.tcl_interp.proofs.simple.+words.Given as goal

abbrev pub decreases-text_worth : goal.decreases-text_worth
decreases-text_worth g l = 4 * l.depth + 3

abbrev pub decreases-info_worth : goal.decreases-info_worth
decreases-info_worth g l = 4 * l.depth + 3

abbrev pub decreases-plain_words : goal.decreases-plain_words
decreases-plain_words g l = 4 * l.depth + 2

abbrev pub decreases-word_value : goal.decreases-word_value
decreases-word_value g l = 4 * l.depth + 1

abbrev pub decreases-script_value : goal.decreases-script_value
decreases-script_value g l = 4 * l.depth

abbrev pub invariant-plain_words-loop-word : goal.invariant-plain_words-loop-word
invariant-plain_words-loop-word g l = record {
  leads : (before : List (List ℕ)) → WordsLead g.T.Tasks.outside l.room l.scopes l.context (drop l.from l.words) before l.steps (drop l.word l.words) (before ++ l.whole);
  most : l.steps ≤ l.most;
}

abbrev pub decreases-plain_words-loop-word : goal.decreases-plain_words-loop-word
decreases-plain_words-loop-word g l = length l.words - l.word
