use Rattle.std.proofs.Common.{◌≤◌, arith}
use Rattle.tk_packer.specs.Parcels.{wanted, most_wanted}
use Rattle.tk_packer.proofs.Rest.{asks_end}
use Rattle.tk_packer.proofs.wanted.wanted.Goals as goal

pub returns : goal.returns
unfolding wanted
returns c =
    let none = asks_end c.args.axis c.args.requests.now c.loop-request.request-index c.loop-request-test.false in
    let reached = rw none at c.loop-request.invariant.reached in
    let along : c.loop-request.reach.along ≤ most_wanted = c.loop-request.invariant.along in
    let most : c.loop-request.reach.most ≤ most_wanted = c.loop-request.invariant.most in
    omega (arith, reached, c.max.ensures, along, most)
