use Rattle.std.proofs.lemmas.List.{take_rest}
use Rattle.tcl_text.proofs.SoughtLemmas.{tells_bare}
use Rattle.tcl_text.proofs.sought.bare_is.Goals as goal

pub returns : goal.returns
returns c =
    let told = c.is_item_in-same.ensures in
    tells_bare c.args.item.now c.args.text.now _ c.is_item_in-same.result.1 c.is_item_in-same.result.0 c.requires.some c.requires.begins told.read told.end (take_rest c.args.text.now c.is_item_in-same.result.1)
