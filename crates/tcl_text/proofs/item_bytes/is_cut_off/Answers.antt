use Rattle.std.proofs.Common.{◌∙◌, arith, refl, sym}
use Rattle.tcl_text.proofs.ItemBytes.{Searched-next, Searched-start, found_next, found_none, next_there}
use Rattle.tcl_text.proofs.item_bytes.is_cut_off.Goals as goal

pub loop-length-init : goal.loop-length-init
loop-length-init c = Searched-start c.args.item.now c.args.lengths.now c.args.bytes.now c.args.bytes.now refl c.requires

pub split_at-requires : goal.split_at-requires
split_at-requires c = next_there c.args.item.now c.args.lengths.now c.args.bytes.now c.loop-length.rest.now c.loop-length.length-index (omega arith) c.loop-length.invariant

pub returns-then-is_same : goal.returns-then-is_same
returns-then-is_same c =
    sym (found_next c.args.item.now c.args.lengths.now c.args.bytes.now c.loop-length.rest.now c.split_at.result.0.now c.loop-length.length-index (omega arith) c.loop-length.invariant
    c.split_at.ensures.front (sym c.is_same.ensures ∙ c.if-is_same.true))

pub loop-length-preserved : goal.loop-length-preserved
loop-length-preserved c =
    Searched-next c.args.item.now c.args.lengths.now c.args.bytes.now c.loop-length.rest.now c.split_at.result.0.now c.split_at.result.1.now c.loop-length.length-index (omega arith) c.loop-length.invariant
    c.split_at.ensures.front c.split_at.ensures.back c.split_at.ensures.back_len (sym c.is_same.ensures ∙ c.if-is_same.false)

pub returns : goal.returns
returns c = sym (found_none c.args.item.now c.args.lengths.now c.args.bytes.now c.loop-length.rest.now c.loop-length.length-index (omega arith) c.loop-length.invariant)
