use Rattle.tk_host.specs.declared.phase.Phase.TheVariants.{Reached}
use Rattle.tk_host.proofs.History.{history_of_advance, not_back, on_ok, reached_if_not_refused, turns_of_going}
use Rattle.tk_host.proofs.Cut.{cut_of_going}
use Rattle.tk_host.proofs.host.Host.advance_to.Goals as goal

pub returns-clause-history : goal.returns-clause-history
returns-clause-history g c = λ calls held.
    let phase = c.args.self.now.held.phase in
    on_ok c.go_to.result c.go_to.ensures.gone c.go_to.ensures.unless (λ gone none.
    let from = reached_if_not_refused phase c.requires none.0 none.1.0 in
    history_of_advance g.M.AliasMeaning.answer calls from.0 c.args.moment c.args.self.now _ held from.1 (not_back phase from.0 c.args.moment from.1 none.1.1.1.0) gone)

pub returns-clause-turns : goal.returns-clause-turns
returns-clause-turns g c = λ calls held.
    on_ok c.go_to.result c.go_to.ensures.gone c.go_to.ensures.gone (λ gone again. turns_of_going g.M.AliasMeaning.answer calls (Reached c.args.moment) c.args.moment c.args.self.now _ held gone)

pub returns-clause-cut : goal.returns-clause-cut
returns-clause-cut g c = λ calls held. cut_of_going g.M.AliasMeaning.answer calls c.go_to.result (Reached c.args.moment) c.args.moment c.args.self.now _ held c.go_to.ensures.cut
