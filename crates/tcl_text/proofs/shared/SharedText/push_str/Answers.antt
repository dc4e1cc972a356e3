use Rattle.std.proofs.Common.{refl}
use Rattle.tcl_text.proofs.AsciiMarks.{marked_grown, marked_made}
use Rattle.tcl_text.proofs.shared.SharedText.push_str.Goals as goal

pub invariant_of-self-2 : goal.invariant_of-self-2
invariant_of-self-2 c = marked_grown _ _ _ _ _ c.self.invariant (marked_made _ _ _ c.is_ascii.ensures.cases refl) c.in_ok-push_str.ensures.bytes
