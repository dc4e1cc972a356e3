use Rattle.std.proofs.Common.{refl}
use Rattle.std.proofs.lemmas.Result.{on_ok_weaker}
use Rattle.tk_host.proofs.Counts.{counts_same}
use Rattle.tk_host.proofs.Ways.{begins_none, begins_other, begins_due}
use Rattle.tk_host.proofs.stages.begin.Goals as goal

pub returns-in_default : goal.returns-in_default
returns-in_default g c = record { begun = begins_none g.M.AliasMeaning.answer c.args.moment c.args.slot c.args.shared.now (rw c.in_default.is at c.next_due.ensures); turns = refl; asked = tt; counts = counts_same c.args.shared.now c.args.shared.now refl refl }

pub returns-then-due-moment : goal.returns-then-due-moment
returns-then-due-moment g c = record { begun = begins_other g.M.AliasMeaning.answer c.args.moment c.args.slot c.in-Some.due c.args.shared.now c.in-Some.ensures c.if-due-moment.true; turns = refl; asked = tt; counts = counts_same c.args.shared.now c.args.shared.now refl refl }

pub returns : goal.returns
returns g c = record {
  begun = on_ok_weaker c.begin_settling.result
      (λ begins. begins_due g.M.AliasMeaning.answer c.args.moment c.args.slot c.in-Some.due c.args.shared.now c.begin_settling.new.shared c.in-Some.ensures c.if-due-moment.false c.requires.moment begins)
      c.begin_settling.ensures.begun;
  turns = c.begin_settling.ensures.turns;
  asked = c.begin_settling.ensures.asked;
  counts = c.begin_settling.ensures.counts;
}
