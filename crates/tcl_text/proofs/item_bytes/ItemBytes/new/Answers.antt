use Rattle.std.proofs.Common.{◌∙◌, ◌++◌, ℕ, List, ap, length, map}
use Rattle.std.specs.List.{concat}
use Rattle.tcl_text.proofs.ItemBytes.{bytes_of_all, cut_as}
use Rattle.tcl_text.proofs.item_bytes.ItemBytes.new.Goals as goal

pub invariant_of-result : goal.invariant_of-result
invariant_of-result c =
    let lengths = c.in_ok-push_items.ensures.lengths ∙ ap (λ (t : List ℕ). t ++ map (λ (item : List ℕ). length item) c.args.items.now) c.in_ok-lengths.ensures.items in
    let bytes = c.in_ok-push_items.ensures.bytes ∙ ap (λ (t : List ℕ). t ++ concat c.args.items.now) c.new-bytes.ensures.items in
    bytes_of_all _ _ c.args.items.now lengths bytes

pub returns : goal.returns
returns c =
    let lengths = c.in_ok-push_items.ensures.lengths ∙ ap (λ (t : List ℕ). t ++ map (λ (item : List ℕ). length item) c.args.items.now) c.in_ok-lengths.ensures.items in
    let bytes = c.in_ok-push_items.ensures.bytes ∙ ap (λ (t : List ℕ). t ++ concat c.args.items.now) c.new-bytes.ensures.items in
    cut_as _ _ c.args.items.now lengths bytes
