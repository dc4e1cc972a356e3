use Rattle.std.proofs.Common.{List, rules, subst}
use Rattle.std.proofs.lemmas.Result.{err_from_is_err_and}
use Rattle.panels.specs.declared.bench.Entry.{Entry}
use Rattle.panels.specs.Course.{begun}
use Rattle.panels.specs.Refusals.{RefusedAmong}
use Rattle.panels.proofs.Refused.{memory_among}
use Rattle.panels.proofs.playing.course_of.Goals as goal

pub returns-in_err-go_through-clause-refused : goal.returns-in_err-go_through-clause-refused
returns-in_err-go_through-clause-refused g c =
    let way = begun c.args.session.now.apps c.args.aliases.items in
    let p = err_from_is_err_and c.from_residual-in_err-go_through.result c.from_residual-in_err-go_through.ensures.1 in
    rw (p.1, p.2)
    (subst (λ (entries : List Entry). RefusedAmong g.M.AliasMeaning.answer 0 entries way c.in_err-go_through.field-0.0) c.as_slice.ensures.value
    (c.in_err-go_through.ensures.refused way (search rules)))

pub returns-in_err-host-clause-refused : goal.returns-in_err-host-clause-refused
returns-in_err-host-clause-refused g c =
    let way = begun c.args.session.now.apps c.args.aliases.items in
    let p = err_from_is_err_and c.from_residual-in_err-host.result c.from_residual-in_err-host.ensures.1 in
    rw (p.1, p.2) (memory_among g.M.AliasMeaning.answer c.args.bench.now.entries.items way _ c.in_err-host.ensures.memory)

pub returns-in_err-come_to_end-clause-refused : goal.returns-in_err-come_to_end-clause-refused
returns-in_err-come_to_end-clause-refused g c =
    let way = begun c.args.session.now.apps c.args.aliases.items in
    let p = err_from_is_err_and c.from_residual-in_err-come_to_end.result c.from_residual-in_err-come_to_end.ensures.1 in
    rw (p.1, p.2) (memory_among g.M.AliasMeaning.answer c.args.bench.now.entries.items way _ c.in_err-come_to_end.ensures.memory)
