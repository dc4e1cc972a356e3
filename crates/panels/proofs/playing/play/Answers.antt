use Rattle.std.proofs.Common.{ap, map, rules, ◌∙◌}
use Rattle.std.proofs.lemmas.Result.{err_from_is_err_and}
use Rattle.tk_alias.specs.Services.{answer_of}
use Rattle.tk_alias.specs.declared.service.Service.{Service}
use Rattle.tk_session.specs.Session.{Plan}
use Rattle.tkhost.specs.Play.{services_in}
use Rattle.panels.proofs.Refused.{memory_refused, refused_among, refused_last}
use Rattle.panels.proofs.playing.play.Goals as goal

pub returns-in_err-course-clause-refused : goal.returns-in_err-course-clause-refused
returns-in_err-course-clause-refused c =
    let apps = ap (λ (plan : Plan). plan.apps) c.in_ok-begun.ensures.read in
    let lists = c.in_ok-aliases.ensures.services ∙ ap (map services_in) apps in
    let p = err_from_is_err_and c.from_residual-in_err-course.result c.from_residual-in_err-course.ensures.1 in
    rw (p.1, p.2)
    (refused_among (λ (service : Service). answer_of service.kind service.config) c.args.bench.now (map services_in c.args.bench.now.panels.items)
    c.in_ok-begun.begun.apps c.in_ok-aliases.aliases.items c.in_err-course.field-0.0 apps lists c.in_ok-begun.ensures.sayable c.in_err-course.ensures.refused)

pub returns-in_err-text-clause-refused : goal.returns-in_err-text-clause-refused
returns-in_err-text-clause-refused c =
    let apps = ap (λ (plan : Plan). plan.apps) c.in_ok-begun.ensures.read in
    let lists = c.in_ok-aliases.ensures.services ∙ ap (map services_in) apps in
    let p = err_from_is_err_and c.from_residual-in_err-text.result c.from_residual-in_err-text.ensures.1 in
    rw (p.1, p.2)
    (refused_last (λ (service : Service). answer_of service.kind service.config) c.args.bench.now (map services_in c.args.bench.now.panels.items)
    c.in_ok-begun.begun.apps c.in_ok-aliases.aliases.items c.as_slice.result.now c.in_err-text.field-0.0 apps lists c.in_ok-begun.ensures.sayable c.in_ok-course.ensures.taken
    (c.as_slice.ensures.value ∙ c.in_ok-course.ensures.ends.events_are) c.in_err-text.ensures.refused)

pub returns-in_err-output-clause-refused : goal.returns-in_err-output-clause-refused
returns-in_err-output-clause-refused c =
    let p = err_from_is_err_and c.from_residual-in_err-output.result c.from_residual-in_err-output.ensures.1 in
    rw (p.1, p.2)
    (memory_refused (λ (service : Service). answer_of service.kind service.config) c.args.bench.now (map services_in c.args.bench.now.panels.items) _ c.in_err-output.ensures.memory)
