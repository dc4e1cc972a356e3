use Rattle.tcl_text.proofs.SoughtLemmas.{Passes-behind_white, Passes-white}
use Rattle.tcl_text.proofs.searching.front_behind.Goals as goal

pub returns-then-begins_plain : goal.returns-then-begins_plain
returns-then-begins_plain c = Passes-behind_white c.args.item.now c.args.text.now c.skip_white-rest.result.now _ _ c.skip_white-rest.ensures c.plain_front.ensures

pub returns : goal.returns
returns c = Passes-white c.args.item.now c.args.text.now c.skip_white-rest.result.now c.skip_white-rest.ensures
