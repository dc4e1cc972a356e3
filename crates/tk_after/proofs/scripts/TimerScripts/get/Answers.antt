use Rattle.std.proofs.Common.{Some, None}
use Rattle.std.specs.Option.{option_copied}
use Rattle.tk_after.proofs.Bags.{stored_of, got}
use Rattle.tk_after.proofs.scripts.TimerScripts.get.Goals as goal

pub returns-in-Some : goal.returns-in-Some
returns-in-Some c =
    got (stored_of c.self.inside.timers.entries c.self.inside.idle.entries) c.args.self.now c.self.view_is c.self.invariant c.args.owner c.args.id c.args.due (Some c.in-Some.due) c.in-Some.is
    (option_copied c.get.result) c.get.ensures.value c.requires.rising c.requires.marked

pub returns-in-None : goal.returns-in-None
returns-in-None c =
    got (stored_of c.self.inside.timers.entries c.self.inside.idle.entries) c.args.self.now c.self.view_is c.self.invariant c.args.owner c.args.id c.args.due None c.in-None.is
    (option_copied c.get-in-None.result) c.get-in-None.ensures.value c.requires.rising c.requires.marked
