use Rattle.std.proofs.Common.{arith, append-nil, sym, ap, ◌∙◌, ◌++◌, List}
use Rattle.tk_packer.proofs.Telling.{told_more, told_all}
use Rattle.tk_packer.specs.declared.changes.PlaceChange.{PlaceChange}
use Rattle.tk_packer.proofs.changes.changes_of.Goals as goal

pub loop-index-preserved : goal.loop-index-preserved
loop-index-preserved c =
    told_more c.loop-index.index c.args.shapes.now c.args.places.now _ _ c.loop-index.changes.items c.tell.new.changes.items _
    (omega (arith, c.min-index-end.ensures, c.loop-index-test.true)) (omega (arith, c.min-index-end.ensures, c.loop-index-test.true)) c.in_ok-tell.ensures c.loop-index.invariant

pub returns : goal.returns
returns c =
    sym (append-nil c.loop-index.changes.items)
    ∙ sym (ap (λ (cs : List PlaceChange). c.loop-index.changes.items ++ cs) (told_all c.loop-index.index c.args.shapes.now c.args.places.now (omega (arith, c.min-index-end.ensures))))
    ∙ c.loop-index.invariant
