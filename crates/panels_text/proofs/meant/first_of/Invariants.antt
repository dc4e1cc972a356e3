use Rattle.std.proofs.Common.{◌≤◌, length, take, drop}
use Rattle.panels_text.specs.Meant.{distinct, found_words, most_tried}
use Rattle.panels_text.proofs.MeantLemmas.{Takes}
use Rattle.panels_text.proofs.meant.first_of.Given as goal

-- those that were taken, and those of what is left that weren't, up to as many as are tried
abbrev pub invariant-loop-one : goal.invariant-loop-one
invariant-loop-one l = record {
  takes : Takes l.words.items (drop l.one-index l.found) (take most_tried (distinct (found_words l.found)));
  few : length l.words.items ≤ most_tried;
}
