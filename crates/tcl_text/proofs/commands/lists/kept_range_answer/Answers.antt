use Rattle.std.proofs.Common.{ℕ, List, arith, subst}
use Rattle.tcl_text.specs.Answers.{Gives, answers}
use Rattle.tcl_text.specs.Readings.{list_form}
use Rattle.tcl_text.proofs.PartLemmas.{part_kept, through_within}
use Rattle.tcl_text.proofs.commands.lists.kept_range_answer.Goals as goal

pub part-requires-clause-within : goal.part-requires-clause-within
part-requires-clause-within c = let within = through_within c.args.last c.len-count.result in omega (arith, within, c.through-end.ensures, c.len-count.ensures)

pub returns : goal.returns
returns c =
    let is = part_kept c.args.first c.args.last c.args.list.now c.in_ok-part.part c.before-begin.result c.min-start.result c.through-end.result c.len-count.result c.len-count.ensures c.before-begin.ensures c.through-end.ensures c.min-start.ensures c.in_ok-part.ensures in
    subst (λ (t : List (List ℕ)). Gives c.kept_answer.result (answers (list_form t))) is c.kept_answer.ensures
