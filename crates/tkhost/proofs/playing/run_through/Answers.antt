use Rattle.std.proofs.Common.{◌++◌, ◌∷◌, [], arith}
use Rattle.std.proofs.lemmas.Result.{IfErr-weaker}
use Rattle.tk_host.specs.Held.{Start}
use Rattle.tk_host.specs.Refusals.{PhaseRefuses, RefusesMoment, moment_faults, start_faults}
use Rattle.tkhost.specs.Calls.{adding}
use Rattle.tkhost.proofs.Adds.{only_memory}
use Rattle.tkhost.proofs.Happens.{may_end, none_refuses_end, none_refuses_start, started_known}
use Rattle.tkhost.proofs.playing.run_through.Goals as goal

pub unless_memory-requires : goal.unless_memory-requires
unless_memory-requires g c =
    let held = c.args.host.now.held in
    IfErr-weaker c.start.result _ _
    (λ fault is. only_memory (PhaseRefuses held.phase) start_faults fault (none_refuses_start g.M.AliasMeaning.answer c.args.session.now.apps c.requires.0 held c.requires.2) is) c.start.ensures.refused

pub line_all-requires-clause-known : goal.line_all-requires-clause-known
line_all-requires-clause-known g c =
    started_known g.M.AliasMeaning.answer c.args.session.now.apps c.requires.0 c.start.new.self.held c.requires.1
    (rw c.in_ok-unless_memory.ensures.ok at (c.start.ensures.history (adding c.args.session.now.apps c.requires.0) c.requires.2))

pub end-requires-2 : goal.end-requires-2
end-requires-2 g c =
    let session = c.args.session.now in
    let started = rw c.in_ok-unless_memory.ensures.ok at (c.start.ensures.history (adding session.apps c.requires.0) c.requires.2) in
    may_end g.M.AliasMeaning.answer session.apps c.requires.0 session.events c.line_all.new.host.held (c.in_ok-line_all.ensures.history (adding session.apps c.requires.0 ++ Start ∷ []) started)

pub unless_memory-requires-2 : goal.unless_memory-requires-2
unless_memory-requires-2 g c =
    let session = c.args.session.now in
    let held = c.line_all.new.host.held in
    let started = rw c.in_ok-unless_memory.ensures.ok at (c.start.ensures.history (adding session.apps c.requires.0) c.requires.2) in
    let told = c.in_ok-line_all.ensures.history (adding session.apps c.requires.0 ++ Start ∷ []) started in
    IfErr-weaker c.end-2.result _ _
    (λ fault is. only_memory (RefusesMoment held c.end.result) moment_faults fault
    (none_refuses_end g.M.AliasMeaning.answer session.apps c.requires.0 session.events held told c.end.result c.end.ensures.range (omega (arith, c.end.ensures.last, c.end.ensures.end))) is)
    c.end-2.ensures.refused
