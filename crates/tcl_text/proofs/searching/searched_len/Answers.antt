use Rattle.tcl_text.proofs.WordLemmas.{words_searched}
use Rattle.tcl_text.proofs.searching.searched_len.Goals as goal

pub returns : goal.returns
returns c =
    words_searched c.args.item.now c.args.text.now c.memchr3.result c.unwrap_or-plain.result c.words_len-start.result c.has_word.result c.memchr3.ensures c.unwrap_or-plain.ensures
    c.words_len-start.ensures.within c.words_len-start.ensures.white c.words_len-start.ensures.black c.has_word.ensures
