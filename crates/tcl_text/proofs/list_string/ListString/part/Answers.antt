use Rattle.std.proofs.Common.{◌≡◌, ◌≤◌, ◌∙◌, ℕ, ap, arith, drop, length, string_bytes, sym, take}
use Rattle.tcl_text.specs.ListString.{KeepsList, ends_behind}
use Rattle.tcl_text.proofs.KeptSteps.{part_bounds, part_ends, part_items, part_keeps, part_places}
use Rattle.tcl_text.proofs.KeptViews.{kept, seen_count, seen_few}
use Rattle.tcl_text.proofs.list_string.ListString.part.Goals as goal

pub range-requires : goal.range-requires
range-requires c =
    let keeps : KeepsList (string_bytes c.self.inside.string) c.self.inside.ends.items c.args.self.now = kept _ _ _ _ c.self.invariant.0 c.self.view_is in
    let b = part_bounds c.as_str-kept.result.now c.args.self.now c.args.from c.args.to c.place-start.result c.place-end.result c.requires.in_order (c.as_str-kept.ensures.value ∙ keeps.forms) c.place-start.ensures.value c.place-end.ensures.value in
    record { start_le_end = b.0; start_boundary = λ _. b.1.0; end_boundary = b.1.1 }

pub offset_bounds-as_slice-from : goal.offset_bounds-as_slice-from
offset_bounds-as_slice-from c =
    let keeps : KeepsList (string_bytes c.self.inside.string) c.self.inside.ends.items c.args.self.now = kept _ _ _ _ c.self.invariant.0 c.self.view_is in
    let few : length c.args.self.now ≤ 65537 = seen_few _ _ _ keeps in
    omega (arith, few, c.requires.in_order, c.requires.within)

pub slice_bounds-cut-end : goal.slice_bounds-cut-end
slice_bounds-cut-end c =
    let keeps : KeepsList (string_bytes c.self.inside.string) c.self.inside.ends.items c.args.self.now = kept _ _ _ _ c.self.invariant.0 c.self.view_is in
    let count : length c.self.inside.ends.items ≡ length c.args.self.now = seen_count _ _ _ keeps in
    let shown : length c.as_slice.result.now ≡ length c.self.inside.ends.items = ap length c.as_slice.ensures.value in
    omega (arith, count, shown, c.requires.within)

pub push_ends-requires : goal.push_ends-requires
push_ends-requires c =
    let keeps : KeepsList (string_bytes c.self.inside.string) c.self.inside.ends.items c.args.self.now = kept _ _ _ _ c.self.invariant.0 c.self.view_is in
    part_ends c.as_slice.result.now c.args.self.now c.args.from c.args.to c.place-start.result c.place-end.result c.requires.in_order (c.as_slice.ensures.value ∙ keeps.places) c.place-start.ensures.value c.place-end.ensures.value c.place-end.ensures.within

pub of_string-requires : goal.of_string-requires
of_string-requires c =
    let keeps : KeepsList (string_bytes c.self.inside.string) c.self.inside.ends.items c.args.self.now = kept _ _ _ _ c.self.invariant.0 c.self.view_is in
    let places = part_places c.as_slice.result.now c.args.self.now c.args.from c.args.to c.requires.in_order (c.as_slice.ensures.value ∙ keeps.places) in
    let part = drop c.args.from (take c.args.to c.args.self.now) in
    let moved = c.in_ok-push_ends.ensures.ok part (places ∙ ap (λ (n : ℕ). ends_behind n part) (sym c.place-start.ensures.value)) in
    part_keeps _ _ c.range.result.now _ c.as_str-kept.result.now c.args.self.now c.args.from c.args.to c.place-start.result c.place-end.result c.requires.in_order (c.as_str-kept.ensures.value ∙ keeps.forms)
    c.place-start.ensures.value c.place-end.ensures.value c.place-end.ensures.within c.range.ensures.value c.in_ok-string.ensures.ok c.new-ends.ensures.items moved

pub returns : goal.returns
returns c =
    let keeps : KeepsList (string_bytes c.self.inside.string) c.self.inside.ends.items c.args.self.now = kept _ _ _ _ c.self.invariant.0 c.self.view_is in
    c.of_string.ensures ∙ part_items _ c.range.result.now c.as_str-kept.result.now c.args.self.now c.args.from c.args.to c.place-start.result c.place-end.result c.requires.in_order (c.as_str-kept.ensures.value ∙ keeps.forms)
    c.place-start.ensures.value c.place-end.ensures.value c.range.ensures.value c.in_ok-string.ensures.ok
