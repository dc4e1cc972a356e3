use Rattle.std.proofs.Common.{refl}
use Rattle.tcl_words.proofs.Ends.{words_end-append}
use Rattle.tcl_words.proofs.open.Open.end_word.Goals as goal

pub invariant_of-self-2 : goal.invariant_of-self-2
invariant_of-self-2 c = (rw c.in_ok-push.ensures.items (rw words_end-append (rw c.taken-word.ensures.word (rw c.new-span.ensures refl))), (c.self.invariant.1.0, (c.requires, c.self.invariant.1.1.1)))
