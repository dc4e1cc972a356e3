use Rattle.std.proofs.Common.{◌<◌, arith}
use Rattle.tcl_interp.specs.Moves.{Standing}
use Rattle.tcl_interp.specs.Quiet.{Leads, MovesOn}
use Rattle.tcl_interp.specs.Rests.{standing_of}
use Rattle.tcl_interp.proofs.Weights.{weight, quiet_lighter, leads_light, leads_on, leads_all}
use Rattle.tcl_interp.proofs.moves.quiet.Goals as goal

-- several moves make what is to do lighter, since one of them is quiet
far_lighter : {K : Type 0} (m n : Standing K) → MovesOn m n → weight n.moved < weight m.moved
far_lighter m n (between, leads, quiet, last) = omega (arith, quiet_lighter between n quiet last, leads_light m between leads)

leads_far : {K : Type 0} (m n k : Standing K) → Leads m n → MovesOn n k → Leads m k
leads_far m n k first (between, leads, quiet, last) = leads_on m between k (leads_all m n between first leads) last

pub loop-next-smaller-in-On : goal.loop-next-smaller-in-On
loop-next-smaller-in-On g c =
    let gives = rw c.in-On.is at c.in_ok-next.ensures in
    quiet_lighter (standing_of c.loop-next.doing c.loop-next.frames.items c.loop-next.scopes c.loop-next.context) (standing_of c.in-On.next c.advance.new.frames.items c.advance.new.scopes c.advance.new.context) gives.0 gives.1

pub loop-next-preserved-in-On : goal.loop-next-preserved-in-On
loop-next-preserved-in-On g c =
    let gives = rw c.in-On.is at c.in_ok-next.ensures in
    leads_on _ (standing_of c.loop-next.doing c.loop-next.frames.items c.loop-next.scopes c.loop-next.context) (standing_of c.in-On.next c.advance.new.frames.items c.advance.new.scopes c.advance.new.context) c.loop-next.invariant gives.1

pub loop-next-smaller : goal.loop-next-smaller
loop-next-smaller g c =
    let gives = rw c.in-Far.is at c.in_ok-next.ensures in
    far_lighter (standing_of c.loop-next.doing c.loop-next.frames.items c.loop-next.scopes c.loop-next.context) (standing_of c.in-Far.next c.advance.new.frames.items c.advance.new.scopes c.advance.new.context) gives

pub loop-next-preserved : goal.loop-next-preserved
loop-next-preserved g c =
    let gives = rw c.in-Far.is at c.in_ok-next.ensures in
    leads_far _ (standing_of c.loop-next.doing c.loop-next.frames.items c.loop-next.scopes c.loop-next.context) (standing_of c.in-Far.next c.advance.new.frames.items c.advance.new.scopes c.advance.new.context) c.loop-next.invariant gives

pub returns-then-needs_turn-clause-leads : goal.returns-then-needs_turn-clause-leads
returns-then-needs_turn-clause-leads g c =
    let gives = rw c.in-On.is at c.in_ok-next.ensures in
    leads_on _ (standing_of c.loop-next.doing c.loop-next.frames.items c.loop-next.scopes c.loop-next.context) (standing_of c.in-On.next c.advance.new.frames.items c.advance.new.scopes c.advance.new.context) c.loop-next.invariant gives.1
