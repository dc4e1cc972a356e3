use Rattle.std.proofs.Common.{◌≡◌, ◌++◌, ℕ, List, drop, length, map}
use Rattle.std.specs.List.{concat}
use Rattle.tcl_text.proofs.item_bytes.push_items.Given as goal

abbrev pub invariant-loop-item : goal.invariant-loop-item
invariant-loop-item l = record {
  bytes : l.bytes.items ++ concat (drop l.item-index l.items) ≡ l.fn.bytes.items ++ concat l.items;
  lengths : l.lengths.items ++ map (λ (item : List ℕ). length item) (drop l.item-index l.items) ≡ l.fn.lengths.items ++ map (λ (item : List ℕ). length item) l.items;
}
