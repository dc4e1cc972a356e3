use Rattle.std.proofs.Common.{arith, sym, ap, ◌∙◌}
use Rattle.std.specs.Prelude.{nat_eq}
use Rattle.std.specs.Map.{lookup}
use Rattle.tk_packer.specs.Layout.{Places}
use Rattle.tk_packer.proofs.Giving.{given_more, given_all}
use Rattle.tk_packer.proofs.rectangles.give.Goals as goal

pub loop-index-preserved : goal.loop-index-preserved
loop-index-preserved c =
    given_more c.args.border c.loop-index.index c.args.slaves.now c.args.places.now _ _ c.loop-index.given.entries c.give_one.new.given.entries _
    (omega (arith, c.min-index-end.ensures, c.loop-index-test.true)) (omega (arith, c.min-index-end.ensures, c.loop-index-test.true))
    (record { found = c.in_ok-give_one.ensures }) c.loop-index.invariant

pub returns : goal.returns
returns c = λ number.
    ap (λ (given : Places). lookup (nat_eq number) given) (sym (given_all c.args.border c.loop-index.index c.args.slaves.now c.args.places.now c.loop-index.given.entries (omega (arith, c.min-index-end.ensures))))
    ∙ c.loop-index.invariant.found number
