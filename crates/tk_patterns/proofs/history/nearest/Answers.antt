use Rattle.std.proofs.Common.{sym, ◌∙◌, arith}
use Rattle.std.proofs.lemmas.Bool.{eq-eqb, ne_eqb}
use Rattle.tk_patterns.proofs.EventLemmas.{found_at, none_at, past_at, other_at}
use Rattle.tk_patterns.proofs.history.nearest.Goals as goal

pub returns-then-fits-clause-found : goal.returns-then-fits-clause-found
returns-then-fits-clause-found c =
    sym (found_at c.args.pattern.now c.args.number c.loop-place.place c.args.events.now.items c.in_ok-event.event.now c.loop-place-test.true (sym c.in_ok-event.ensures) (eq-eqb _ _ c.if-event-number.true) (sym c.if-fits.ensures))
    ∙ c.loop-place.invariant.same

pub returns-then-not-may_stand_between-clause-found : goal.returns-then-not-may_stand_between-clause-found
returns-then-not-may_stand_between-clause-found c =
    sym (none_at c.args.pattern.now c.args.number c.loop-place.place c.args.events.now.items c.in_ok-event.event.now c.loop-place-test.true (sym c.in_ok-event.ensures) (eq-eqb _ _ c.if-event-number.true) (sym c.if-fits.ensures) (sym c.if-not-may_stand_between.ensures))
    ∙ c.loop-place.invariant.same

pub loop-place-preserved-else-not-may_stand_between : goal.loop-place-preserved-else-not-may_stand_between
loop-place-preserved-else-not-may_stand_between c = record {
  within = omega arith;
  same = sym (past_at c.args.pattern.now c.args.number c.loop-place.place c.args.events.now.items c.in_ok-event.event.now c.loop-place-test.true (sym c.in_ok-event.ensures) (eq-eqb _ _ c.if-event-number.true) (sym c.if-fits.ensures) (sym c.if-not-may_stand_between.ensures))
      ∙ c.loop-place.invariant.same;
}

pub loop-place-preserved : goal.loop-place-preserved
loop-place-preserved c = record {
  within = omega arith;
  same = sym (other_at c.args.pattern.now c.args.number c.loop-place.place c.args.events.now.items c.in_ok-event.event.now c.loop-place-test.true (sym c.in_ok-event.ensures) (ne_eqb _ _ c.if-event-number.false))
      ∙ c.loop-place.invariant.same;
}
