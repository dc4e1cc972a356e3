use Rattle.std.proofs.lemmas.List.{take_rest}
use Rattle.tcl_text.proofs.SearchLemmas.{Passes-front}
use Rattle.tcl_text.proofs.searching.plain_front.Goals as goal

pub returns : goal.returns
returns c =
    let front = c.plain_len-place.ensures in
    Passes-front c.args.item.now c.args.text.now _ c.plain_len-place.result.0 c.plain_len-place.result.1 front.told front.within front.black (take_rest c.args.text.now c.plain_len-place.result.0)
