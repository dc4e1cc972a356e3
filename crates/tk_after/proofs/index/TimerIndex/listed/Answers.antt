use Rattle.tk_after.specs.Keys.{marks_of}
use Rattle.tk_after.proofs.Names.{listed_number}
use Rattle.tk_after.proofs.index.TimerIndex.listed.Goals as goal

pub returns-in-Some : goal.returns-in-Some
returns-in-Some c = listed_number c.args.id (marks_of c.args.owner c.args.self.now) c.due_of.result c.in-Some._due c.due_of.ensures c.in-Some.is
