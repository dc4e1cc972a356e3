use Rattle.std.proofs.lemmas.Result.{IfOk-weaker}
use Rattle.tcl_interp.specs.Rests.{standing_of, waits_of}
use Rattle.tcl_interp.proofs.Weights.{leads_all}
use Rattle.tcl_interp.proofs.onward.onward.Goals as goal

pub ends-preserved : goal.ends-preserved
ends-preserved g c =
    let start = standing_of c.args.now c.args.frames.now.items c.args.scopes.now c.args.context.now in
    let before = standing_of c.ends.doing c.ends.frames.items c.ends.scopes c.ends.context in
    let after = standing_of c.in_ok-doing.doing c.past_end.new.frames.items c.past_end.new.scopes c.past_end.new.context in
    leads_all start before after c.ends.invariant c.in_ok-doing.ensures

pub returns : goal.returns
returns g c =
    let start = standing_of c.args.now c.args.frames.now.items c.args.scopes.now c.args.context.now in
    let before = standing_of c.ends.doing c.ends.frames.items c.ends.scopes c.ends.context in
    IfOk-weaker c.first_known.result _ _ (λ next leads.
    let after = standing_of next c.ends.frames.items c.ends.scopes c.first_known.new.context in
    leads_all start before after c.ends.invariant (leads c.ends.scopes (waits_of c.ends.frames.items))) c.first_known.ensures
