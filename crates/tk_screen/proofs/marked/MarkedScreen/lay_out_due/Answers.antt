use Rattle.tk_screen.proofs.KeptMarks.{laid_marked}
use Rattle.tk_screen.proofs.marked.MarkedScreen.lay_out_due.Goals as goal

pub invariant_of-self-2 : goal.invariant_of-self-2
invariant_of-self-2 c =
    laid_marked c.args.slot c.self.inside.marks c.take-mark.new.self c.put_mark.new.marks c.self.inside.screen c.lay_out.new.screen c.in_ok-changes.field-0.mark c.self.invariant
    c.take-mark.ensures.others c.put_mark.ensures.others c.lay_out.ensures.others c.put_mark.ensures.own c.in_ok-changes.ensures.marked
