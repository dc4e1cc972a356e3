use Rattle.std.proofs.Common.{◌<◌, ◌∙◌, ap, arith, length}
use Rattle.tcl_text.proofs.ItemBytes.{bytes_done, bytes_more, lengths_done, lengths_more}
use Rattle.tcl_text.proofs.item_bytes.push_items.Goals as goal

pub loop-item-preserved : goal.loop-item-preserved
loop-item-preserved c =
    let items = c.args.items.now in
    let i = c.loop-item.item-index in
    let x = c.item-item.result in
    let inside : i < length items = omega arith in
    record {
      bytes = bytes_more _ _ c.as_bytes.result.now _ items i x inside c.item-item.is c.loop-item.invariant.bytes (c.as_bytes.ensures.value ∙ c.as_str-characters.ensures.bytes) c.in_ok-extend_from_slice.ensures.items;
      lengths = lengths_more _ _ _ (length c.as_str-characters.result.now) items i x inside c.item-item.is c.loop-item.invariant.lengths (ap length c.as_str-characters.ensures.bytes) c.in_ok-push.ensures.items;
    }

pub returns-clause-bytes : goal.returns-clause-bytes
returns-clause-bytes c = bytes_done _ _ c.args.items.now c.loop-item.item-index (omega arith) c.loop-item.invariant.bytes

pub returns-clause-lengths : goal.returns-clause-lengths
returns-clause-lengths c = lengths_done _ _ c.args.items.now c.loop-item.item-index (omega arith) c.loop-item.invariant.lengths
