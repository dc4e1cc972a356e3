-- What is left of a list of requests in the middle of a loop.
use Rattle.std.proofs.Common.{◌≡◌, ℕ, ◌≤◌, List, [], length, drop, ap}
use Rattle.std.proofs.lemmas.List.{drop_all}
use Rattle.tk_packer.specs.declared.ask.Axis.{Axis}
use Rattle.tk_packer.specs.declared.request.Request.{Request}
use Rattle.tk_packer.specs.Parcels.{asks_of}

-- none is left
pub asks_end : (axis : Axis) (requests : List Request) (i : ℕ) → length requests ≤ i → asks_of axis (drop i requests) ≡ []
asks_end axis requests i le = ap (asks_of axis) (drop_all i requests le)
