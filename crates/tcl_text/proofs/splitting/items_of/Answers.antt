use Rattle.std.proofs.Common.{◌<◌, ◌≤◌, ◌∙◌, ap, sym, length, arith}
use Rattle.std.proofs.lemmas.Bool.{eqb-true}
use Rattle.tcl_text.specs.Readings.{skip_white}
use Rattle.tcl_text.proofs.ElementLemmas.{skip_white_within, SplitsTo-start, SplitsTo-item, SplitsTo-end}
use Rattle.tcl_text.proofs.splitting.items_of.Goals as goal

pub loop-rest-init : goal.loop-rest-init
loop-rest-init c = record {
  splits = SplitsTo-start c.args.text.now c.behind_white-rest.result.now c.new-items.result c.new-items.ensures c.requires c.behind_white-rest.ensures;
  utf8 = c.behind_white-rest.utf8;
}

pub loop-rest-smaller : goal.loop-rest-smaller
loop-rest-smaller c =
    let behind = c.in_ok-item.behind.now in
    let shorter : length behind < length c.loop-rest.rest.now = c.in_ok-item.ensures.0 in
    let trimmed : length (skip_white behind) ≤ length behind = skip_white_within behind in
    omega (arith, ap length c.behind_white-rest-in-loop-rest.ensures)

pub loop-rest-preserved : goal.loop-rest-preserved
loop-rest-preserved c = record {
  splits =
      SplitsTo-item c.args.text.now c.loop-rest.items c.push.new.self c.loop-rest.rest.now c.in_ok-item.item c.in_ok-item.behind.now c.behind_white-rest-in-loop-rest.result.now
      c.loop-rest.invariant.splits c.in_ok-item.ensures.0 c.in_ok-item.ensures.1 c.in_ok-push.ensures.ok c.behind_white-rest-in-loop-rest.ensures;
  utf8 = c.behind_white-rest-in-loop-rest.utf8;
}

pub returns : goal.returns
returns c = SplitsTo-end c.args.text.now c.loop-rest.items c.loop-rest.rest.now c.loop-rest.invariant.splits (eqb-true (length c.loop-rest.rest.now) 0 (sym c.is_empty.ensures ∙ c.loop-rest-test.false))
