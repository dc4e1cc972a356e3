use Rattle.std.proofs.Common.{Err, refl, ap, map, sym, subst, ◌∙◌}
use Rattle.std.proofs.lemmas.Option.{IfSome_then}
use Rattle.std.specs.Io.KnownBytes.{Appends}
use Rattle.tk_alias.specs.declared.service.Service.{Service}
use Rattle.tk_alias.specs.Services.{answer_of}
use Rattle.tk_session.specs.Session.{IsSession}
use Rattle.tkhost.specs.Output.{AppendsFront}
use Rattle.tkhost.specs.Play.{services_in}
use Rattle.tkhost.specs.Sections.{sections_of}
use Rattle.tkhost.proofs.Refusal.{all_read, told_fault}
use Rattle.tkhost.proofs.Told.{sections_same}
use Rattle.tkhost.proofs.program.run.Goals as goal

pub returns-in-Err-Refused-clause-refused : goal.returns-in-Err-Refused-clause-refused
returns-in-Err-Refused-clause-refused g c = λ number line is.
    let refused = c.in-Err-Refused in
    let told = told_fault (g.R.Read.remaining c.args.reader.now) (g.R.Read.remaining c.read_input.new.reader) c.in-Ok.input.items c.as_slice.result.now _ refused.fault _ _ refused.line number line
    c.in-Ok.ensures.bytes c.in-Ok.ensures.end c.as_slice.ensures.value (rw refused.field-0-is at refused.ensures.answer) refused.fault-is c.number-number.ensures refused.line-is (sym c.of-in-Err-Refused.ensures.outcome ∙ is) in
    (told.0, told.1, told.2, refl)

pub returns-in-Err-Write-clause-write : goal.returns-in-Err-Write-clause-write
returns-in-Err-Write-clause-write g c = λ is.
    let plan = c.in-Ok-read_session.session in
    let said = subst (λ input. IsSession input plan) c.as_slice.ensures.value c.in-Ok-read_session.ensures.answer in
    let front = subst (λ lists. AppendsFront (g.W.Write.contents c.args.writer.now) (g.W.Write.contents c.play_or_tell.new.writer) (sections_of (λ (service : Service). answer_of service.kind service.config) plan lists))
    c.in-Ok-services_of.ensures.services (c.in-Err-Write.ensures.write (ap Err c.in-Err-Write.field-0-is)) in (
      plan,
      all_read (g.R.Read.remaining c.args.reader.now) (g.R.Read.remaining c.read_input.new.reader) c.in-Ok.input.items (λ input. IsSession input plan)
          c.in-Ok.ensures.bytes c.in-Ok.ensures.end said,
      front,
    )

-- the sections by the jobs are those by whatever meets the equations of `update` and *Settle*
pub returns-in-Ok-play_or_tell-clause-sections : goal.returns-in-Ok-play_or_tell-clause-sections
returns-in-Ok-play_or_tell-clause-sections g c update is_update settle meets = λ is.
    let plan = c.in-Ok-read_session.session in
    let said = subst (λ input. IsSession input plan) c.as_slice.ensures.value c.in-Ok-read_session.ensures.answer in
    let whole = subst (λ lists. Appends (g.W.Write.contents c.args.writer.now) (g.W.Write.contents c.play_or_tell.new.writer) (sections_of (λ (service : Service). answer_of service.kind service.config) plan lists))
    c.in-Ok-services_of.ensures.services c.in-Ok-play_or_tell.ensures.sections in (
      plan,
      all_read (g.R.Read.remaining c.args.reader.now) (g.R.Read.remaining c.read_input.new.reader) c.in-Ok.input.items (λ input. IsSession input plan)
          c.in-Ok.ensures.bytes c.in-Ok.ensures.end said,
      subst (λ bytes. Appends (g.W.Write.contents c.args.writer.now) (g.W.Write.contents c.play_or_tell.new.writer) bytes)
          (sections_same (λ (service : Service). answer_of service.kind service.config) update is_update settle meets plan (map services_in plan.apps))
          whole,
    )

pub returns-in-Err-Write-clause-front : goal.returns-in-Err-Write-clause-front
returns-in-Err-Write-clause-front g c update is_update settle meets = λ is.
    let (plan, read, front) = returns-in-Err-Write-clause-write g c is in (
      plan,
      read,
      subst (λ bytes. AppendsFront (g.W.Write.contents c.args.writer.now) (g.W.Write.contents c.play_or_tell.new.writer) bytes)
          (sections_same (λ (service : Service). answer_of service.kind service.config) update is_update settle meets plan (map services_in plan.apps))
          front,
    )

-- the host was that of the session which was read
pub returns-clause-asker : goal.returns-clause-asker
returns-clause-asker g c =
    let plan = c.in-Ok-read_session.session in
    let said = subst (λ input. IsSession input plan) c.as_slice.ensures.value c.in-Ok-read_session.ensures.answer in
    IfSome_then c.name_of.result c.name_of.ensures (λ name named. (
      refl,
      plan,
      all_read (g.R.Read.remaining c.args.reader.now) (g.R.Read.remaining c.read_input.new.reader) c.in-Ok.input.items (λ input. IsSession input plan)
          c.in-Ok.ensures.bytes c.in-Ok.ensures.end said,
      named,
    ))
