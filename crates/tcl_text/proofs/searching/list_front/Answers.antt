use Rattle.std.proofs.lemmas.List.{take_rest}
use Rattle.tcl_text.proofs.SearchLemmas.{Passes-front}
use Rattle.tcl_text.proofs.searching.list_front.Goals as goal

pub returns : goal.returns
returns c =
    let front = c.searched_len-place.ensures in
    Passes-front c.args.item.now c.args.text.now _ c.searched_len-place.result.0 c.searched_len-place.result.1 front.told front.within front.black (take_rest c.args.text.now c.searched_len-place.result.0)
