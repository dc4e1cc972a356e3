use Rattle.std.proofs.Common.{List, length, length-set, refl, ap, sym, ◌∙◌, arith}
use Rattle.std.proofs.lemmas.Result.{IfErr-weaker, on_ok_weaker}
use Rattle.tk_app.specs.Moments.{delivered}
use Rattle.tk_app.specs.Part.{Part}
use Rattle.tk_app.specs.Turns.{Applications}
use Rattle.tk_host.proofs.Counts.{given_keeps, keeps_same}
use Rattle.tk_host.proofs.Deliveries.{given_is, given_nobody}
use Rattle.tk_host.proofs.events.give.Goals as goal

pub returns-then-delivery-len : goal.returns-then-delivery-len
returns-then-delivery-len g c = record {
  given = ap (λ (ps : List (Part _)). record c.args.shared.now { parts = ps }) (sym (given_nobody c.args.delivery 0 c.args.shared.now.parts (omega arith)));
  turns = refl;
  asked = tt;
  there = tt;
  keeps = keeps_same c.args.shared.now;
}

pub begin_settling-requires : goal.begin_settling-requires
begin_settling-requires g c =
    let delivers = c.in_ok-deliver.ensures.delivered in
    let got : Part _ = record delivers.before { application = delivered c.args.delivery.event delivers.before.application } in
    omega (arith, ap (λ (h : Applications _). length h.parts) delivers.changed, length-set c.args.shared.now.parts c.args.delivery.slot got, c.if-delivery-len.false, c.len.ensures)

pub returns : goal.returns
returns g c = record {
  given = on_ok_weaker c.begin_settling.result
      (λ begins. given_is c.args.delivery c.args.shared.now c.deliver.new.shared c.begin_settling.new.shared c.requires.now c.in_ok-deliver.ensures.delivered begins) c.begin_settling.ensures.begun;
  turns = c.begin_settling.ensures.turns ∙ c.in_ok-deliver.ensures.turns;
  asked = c.begin_settling.ensures.asked;
  there = IfErr-weaker c.begin_settling.result _ _ (λ unserved is. omega (arith, is, c.if-delivery-len.false, c.len.ensures)) c.begin_settling.ensures.asked;
  keeps = given_keeps c.args.shared.now c.deliver.new.shared c.begin_settling.new.shared c.in_ok-deliver.ensures.keeps c.begin_settling.ensures.counts;
}
