use Rattle.std.proofs.Common.{◌≤◌, length, arith}
use Rattle.tcl_text.proofs.ElementLemmas.{quoted_item, quoted_extra, quote_missing}
use Rattle.tcl_text.proofs.splitting.quoted.Goals as goal

pub returns-then-length-text : goal.returns-then-length-text
returns-then-length-text c = quote_missing c.args.text.now c.in_ok-item.item c.in_ok-item.length c.if-length-text.true c.in_ok-item.ensures.read

pub returns-in_default : goal.returns-in_default
returns-in_default c =
    let fits : c.in_ok-item.length ≤ length c.args.text.now = c.in_ok-item.ensures.read.fits in
    quoted_extra c.args.text.now c.in_ok-item.item c.in_ok-item.length (omega arith) c.in_ok-item.ensures.read c.in_ok-item.ensures.end c.in_default.ensures

pub returns : goal.returns
returns c =
    let fits : c.in_ok-item.length ≤ length c.args.text.now = c.in_ok-item.ensures.read.fits in
    quoted_item c.args.text.now c.in_ok-item.item c.in_ok-item.length c.in-Some.behind (omega arith) c.in_ok-item.ensures.read c.in_ok-item.ensures.end c.in-Some.ensures
