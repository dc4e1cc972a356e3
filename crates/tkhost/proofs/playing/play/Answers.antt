use Rattle.std.proofs.Common.{Err, ap, subst}
use Rattle.std.specs.Io.KnownBytes.{Appends}
use Rattle.tkhost.proofs.Told.{sections_same}
use Rattle.tkhost.proofs.playing.play.Goals as goal

-- what is written is the sections by the jobs, which are those by whatever meets the equations of `update` and *Settle*
pub returns-in-Ok-clause-sections : goal.returns-in-Ok-clause-sections
returns-in-Ok-clause-sections g c update is_update settle meets =
    subst
    (λ bytes. Appends (g.W.Write.contents c.args.writer.now) (g.W.Write.contents c.play_or_tell.new.writer) bytes)
    (sections_same g.M.AliasMeaning.answer update is_update settle meets c.args.session.now c.args.aliases.items)
    c.in-Ok.ensures.sections

pub returns-in-Err-Write-clause-write : goal.returns-in-Err-Write-clause-write
returns-in-Err-Write-clause-write g c = λ is. c.in-Err-Write.ensures.write (ap Err c.in-Err-Write.field-0-is)

pub returns-in-Err-NoMemory-clause-no_memory : goal.returns-in-Err-NoMemory-clause-no_memory
returns-in-Err-NoMemory-clause-no_memory g c = λ is. c.in-Err-NoMemory.ensures.no_memory _ (ap Err c.in-Err-NoMemory.field-0-is)
