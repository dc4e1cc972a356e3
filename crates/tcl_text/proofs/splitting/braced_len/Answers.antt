use Rattle.std.proofs.Common.{arith, refl}
use Rattle.std.proofs.lemmas.Grind.{common_steps}
use Rattle.std.proofs.lemmas.List.{take_rest}
use Rattle.tcl_text.proofs.SplittingLemmas.{brace_turn, brace_missing}
use Rattle.tcl_text.proofs.splitting.braced_len.Goals as goal

pub loop-at-preserved : goal.loop-at-preserved
loop-at-preserved c =
    let text = c.args.text.now in
    record {
      within = grind (arith, common_steps);
      depth = grind (arith, common_steps);
      reads = brace_turn text _ c.loop-at.at c.loop-at.depth (take_rest text c.loop-at.at) c.loop-at.invariant.reads c.in-Some.length c.in-Some.next c.in-Some.ensures.reads;
    }

pub returns : goal.returns
returns c = brace_missing c.args.text.now _ c.loop-at.at c.loop-at.depth refl c.loop-at.invariant.reads c.loop-at-test.false
