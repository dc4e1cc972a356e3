use Rattle.std.proofs.Common.{sym}
use Rattle.tk_virtual.specs.Virtual.{meanings_of}
use Rattle.tk_patterns.proofs.own.OwnBindings.winner.Goals as goal

pub returns-then-not-may_hold : goal.returns-then-not-may_hold
returns-then-not-may_hold c = sym (c.may_hold.ensures c.if-not-may_hold.true c.args.history.now (meanings_of c.args.virtuals.now))
