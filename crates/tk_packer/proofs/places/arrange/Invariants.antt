use Rattle.std.proofs.Common.{◌≡◌, ◌+◌, ◌^◌, ◌<◌, ◌++◌, length}
use Rattle.std.specs.Prelude.{IfSome}
use Rattle.tk_packer.specs.declared.ask.Axis.TheVariants.{Horizontal, Vertical}
use Rattle.tk_packer.specs.Behind.{IsTallied}
use Rattle.tk_packer.specs.Parcels.{arrangement, packed, asks_of}
use Rattle.tk_packer.proofs.places.arrange.Given as goal

-- the windows so far, and the rest in what is left of the cavity; what is behind is counted along an axis from the first that expands there
abbrev pub invariant-loop-request : goal.invariant-loop-request
invariant-loop-request l = record {
  places : l.places.items ++ packed l.columns l.rows l.rest ≡ arrangement l.fn.size l.requests;
  columns : l.columns.start + l.columns.length < 2 ^ 32;
  rows : l.rows.start + l.rows.length < 2 ^ 32;
  beside : IfSome l.beside (λ b. IsTallied b (asks_of Horizontal l.rest));
  below : IfSome l.below (λ b. IsTallied b (asks_of Vertical l.rest));
}

abbrev pub decreases-loop-request : goal.decreases-loop-request
decreases-loop-request l = length l.rest
