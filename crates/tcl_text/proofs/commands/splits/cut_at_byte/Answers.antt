use Rattle.std.proofs.Common.{◌≡◌, ◌-◌, ◌∙◌, ap, ℕ, take, arith}
use Rattle.tcl_text.proofs.ListLemmas.{byte-found, byte-none, byte-after}
use Rattle.tcl_text.proofs.commands.splits.cut_at_byte.Goals as goal

pub range_from-requires : goal.range_from-requires
range_from-requires c = λ _. byte-after c.args.separator c.args.text.now c.in-Some.place c.requires c.utf8.text c.in-Some.ensures

pub returns-in-Some-clause-cut : goal.returns-in-Some-clause-cut
returns-in-Some-clause-cut c =
    let whole : c.in-Some.place - 0 ≡ c.in-Some.place = omega arith in
    byte-found c.args.separator c.args.text.now c.in-Some.place _ _ c.requires c.utf8.text c.in-Some.ensures (c.range.ensures.value ∙ ap (λ (n : ℕ). take n c.args.text.now) whole) c.range_from.ensures.value

pub returns-in-None-clause-cut : goal.returns-in-None-clause-cut
returns-in-None-clause-cut c = byte-none c.args.separator c.args.text.now c.requires c.utf8.text c.in-None.ensures
