use Rattle.std.proofs.Common.{arith}
use Rattle.tcl_text.proofs.ElementLemmas.{quoted_extra, quote_missing}
use Rattle.tcl_text.proofs.SoughtLemmas.{tells_quoted_item}
use Rattle.tcl_text.proofs.sought.quoted_is.Goals as goal

pub returns-then-length-text : goal.returns-then-length-text
returns-then-length-text c =
    let read = c.is_item_in-same.ensures.read in
    quote_missing c.args.text.now read.bytes c.is_item_in-same.result.1 c.if-length-text.true read.reads

pub returns-in_default : goal.returns-in_default
returns-in_default c =
    let read = c.is_item_in-same.ensures.read in
    quoted_extra c.args.text.now read.bytes c.is_item_in-same.result.1 (omega (arith, c.is_item_in-same.ensures.fits)) read.reads c.is_item_in-same.ensures.end c.in_default.ensures

pub returns : goal.returns
returns c =
    let told = c.is_item_in-same.ensures in
    tells_quoted_item c.args.item.now c.args.text.now c.is_item_in-same.result.1 c.is_item_in-same.result.0 c.in-Some.behind (omega (arith, told.fits)) told.read told.end c.in-Some.ensures
