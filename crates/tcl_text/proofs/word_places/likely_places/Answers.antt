use Rattle.std.proofs.Common.{◌+◌, ◌-◌, length, arith}
use Rattle.std.proofs.lemmas.List.{take_rest}
use Rattle.tcl_text.proofs.WordPlaces.{likely_between, likely_byte}
use Rattle.tcl_text.proofs.word_places.likely_places.Goals as goal

pub loop-at-init : goal.loop-at-init
loop-at-init c =
    let words = c.args.words.now in
    let item = c.args.item.now in
    let from = c.args.from in
    likely_between words item _ _ from c.white_places.result c.white_places-2.result c.requires.some (take_rest words (from - 1)) (take_rest words (from + length item)) c.white_places.ensures c.white_places-2.ensures

pub loop-at-preserved : goal.loop-at-preserved
loop-at-preserved c =
    let words = c.args.words.now in
    let at = c.loop-at.at in
    likely_byte words c.args.item.now _ c.args.from c.loop-at.likely at c.equal_places-likely.result c.loop-at.invariant (omega arith) (take_rest words (c.args.from + at)) c.equal_places-likely.ensures
