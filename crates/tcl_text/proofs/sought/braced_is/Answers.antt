use Rattle.std.proofs.Common.{refl}
use Rattle.tcl_text.proofs.SoughtLemmas.{tells_braced_item}
use Rattle.tcl_text.proofs.sought.braced_is.Goals as goal

pub returns : goal.returns
returns c =
    tells_braced_item c.args.item.now c.args.text.now _ c.in-Some.length c.is_same.result c.in-Some-behind_closing.behind refl c.is_same.ensures c.in-Some.ensures c.in-Some-behind_closing.ensures
