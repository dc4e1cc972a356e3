use Rattle.std.proofs.Common.{◌≡◌, ◌<◌, ◌≤◌, ◌∙◌, sym, length, arith}
use Rattle.std.proofs.lemmas.Bool.{eqb-true}
use Rattle.tcl_text.proofs.SearchLemmas.{Passes-item, Passes-end}
use Rattle.tcl_text.proofs.searching.has_bytes.Goals as goal

pub loop-rest-init : goal.loop-rest-init
loop-rest-init c = c.list_front-found.ensures

pub loop-rest-smaller : goal.loop-rest-smaller
loop-rest-smaller c =
    let shorter : length c.in_ok-same.behind.now < length c.loop-rest.rest.now = c.in_ok-same.ensures.gives.0 in
    let left : length c.front_behind-among.result.0.now ≤ length c.in_ok-same.behind.now = c.front_behind-among.ensures.within in
    omega arith

pub loop-rest-preserved : goal.loop-rest-preserved
loop-rest-preserved c =
    let told = c.in_ok-same.ensures in
    Passes-item c.args.item.now c.args.text.now c.loop-rest.rest.now told.element c.in_ok-same.behind.now c.front_behind-among.result.0.now c.loop-rest.found c.in_ok-same.same c.front_behind-among.result.1
    c.loop-rest.invariant told.gives.0 told.gives.1 told.told c.front_behind-among.ensures

pub returns : goal.returns
returns c = Passes-end c.args.item.now c.args.text.now c.loop-rest.rest.now c.loop-rest.found c.loop-rest.invariant (eqb-true (length c.loop-rest.rest.now) 0 (sym c.is_empty.ensures ∙ c.loop-rest-test.false))
