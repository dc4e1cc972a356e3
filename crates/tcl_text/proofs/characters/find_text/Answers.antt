use Rattle.std.proofs.Common.{List, ℕ, subst}
use Rattle.memchr.specs.Find.{FindsNeedle}
use Rattle.tcl_text.proofs.characters.find_text.Goals as goal

pub returns : goal.returns
returns c =
    subst (λ (text : List ℕ). FindsNeedle text c.args.needle.now 0 c.find.result) c.as_bytes.ensures.value (subst (λ (needle : List ℕ). FindsNeedle c.as_bytes.result.now needle 0 c.find.result) c.as_bytes-2.ensures.value c.find.ensures)
