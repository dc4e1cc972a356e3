use Rattle.std.proofs.Common.{subst}
use Rattle.tk_packer.specs.Standing.{IsIndex}
use Rattle.tk_packer.proofs.Adding.{index_apart}
use Rattle.tk_packer.proofs.Inputs.{told_of}
use Rattle.tk_packer.proofs.building.build.Goals as goal

pub alone-requires : goal.alone-requires
alone-requires c =
    let index : IsIndex c.in-Some.index.entries c.as_slice.result.now =
    told_of c.in_ok-index.field-0 c.in-Some.index (λ found. IsIndex found.entries c.as_slice.result.now) c.in-Some.is c.in_ok-index.ensures in
    index_apart c.in-Some.index.entries c.args.shapes.items (subst (IsIndex c.in-Some.index.entries) c.as_slice.ensures.value index)
