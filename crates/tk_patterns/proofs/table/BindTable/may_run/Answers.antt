use Rattle.std.proofs.Common.{◌≡◌, [], sym, subst, arith}
use Rattle.std.proofs.lemmas.Grind.{common_steps}
use Rattle.tk_patterns.proofs.MarkLemmas.{nothing_runs}
use Rattle.tk_patterns.specs.Marks.{RunsNone}
use Rattle.tk_patterns.specs.Shared.{own_of}
use Rattle.tk_patterns.proofs.table.BindTable.may_run.Goals as goal

pub returns-in-None : goal.returns-in-None
returns-in-None c = λ no.
    let none : own_of c.args.owner c.args.self.now ≡ [] = grind (arith, common_steps) in
    subst (λ own. RunsNone c.args.tags.now c.args.event.now own) (sym none) (nothing_runs c.args.event.now c.args.tags.now)
