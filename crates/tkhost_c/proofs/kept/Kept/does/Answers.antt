use Rattle.std.proofs.Common.{subst, sym}
use Rattle.tkhost_c.specs.Doing.{Does}
use Rattle.tkhost_c.specs.declared.doing.Deed.{Deed}
use Rattle.tkhost_c.proofs.kept.Kept.does.Goals as goal

pub returns-in-Line : goal.returns-in-Line
returns-in-Line c = subst (λ (deed : Deed). Does deed c.args.self.now c.line.new.self c.line.result) (sym c.in-Line.is) c.line.ensures

pub returns-in-Keydown : goal.returns-in-Keydown
returns-in-Keydown c = subst (λ (deed : Deed). Does deed c.args.self.now c.keydown.new.self c.keydown.result) (sym c.in-Keydown.is) c.keydown.ensures

pub returns-in-Keyup : goal.returns-in-Keyup
returns-in-Keyup c = subst (λ (deed : Deed). Does deed c.args.self.now c.keyup.new.self c.keyup.result) (sym c.in-Keyup.is) c.keyup.ensures
