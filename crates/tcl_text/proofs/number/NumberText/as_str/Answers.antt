use Rattle.std.proofs.Common.{IsUtf8, subst, sym, take}
use Rattle.std.proofs.lemmas.Str.{IsUtf8-had}
use Rattle.tcl_text.proofs.number.NumberText.as_str.Goals as goal

pub from_utf8_unchecked-requires : goal.from_utf8_unchecked-requires
from_utf8_unchecked-requires c =
    let number = c.args.self.now in
    subst (λ n. IsUtf8 (take n number.digits)) (sym c.from.ensures) (IsUtf8-had (take number.length number.digits) number.utf8)
