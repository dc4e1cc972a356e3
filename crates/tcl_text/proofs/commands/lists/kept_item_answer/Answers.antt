use Rattle.std.proofs.Common.{ℕ, List, arith, sym, subst}
use Rattle.tcl_text.specs.Answers.{Gives, answers}
use Rattle.tcl_text.proofs.PartLemmas.{part_found, part_missing, through_within}
use Rattle.tcl_text.proofs.commands.lists.kept_item_answer.Goals as goal

pub item-requires : goal.item-requires
item-requires c = let within = through_within c.args.index c.len-count.result in omega (arith, within, c.through-end.ensures, c.len-count.ensures)

pub returns-in_ok-item : goal.returns-in_ok-item
returns-in_ok-item c =
    let is = part_found c.args.index c.args.list.now c.in_ok-item.item c.before-number.result c.through-end.result c.len-count.result c.len-count.ensures c.before-number.ensures c.through-end.ensures c.if-number-end.true c.in_ok-item.ensures in
    subst (λ (t : List ℕ). Gives c.own_answer.result (answers t)) (sym is) c.own_answer.ensures

pub returns-else-number-end : goal.returns-else-number-end
returns-else-number-end c =
    let none = part_missing c.args.index c.args.list.now c.before-number.result c.through-end.result c.len-count.result c.len-count.ensures c.before-number.ensures c.through-end.ensures c.if-number-end.false in
    subst (λ (t : List ℕ). Gives c.text_answer.result (answers t)) (sym none) c.text_answer.ensures
