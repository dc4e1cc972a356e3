-- Steps. Sizes by which no slave of a window comes to lie elsewhere.
use Rattle.std.specs.Prelude.{◌≡◌, ◌⊎◌, ℕ, Bool, true, false, ◌&&◌, List, take, Some, is_none, is_some, slice_get}
use Rattle.std.specs.List.{list_any}
use Rattle.tk_packer.specs.Ask.{edge_of, fills_along}
use Rattle.tk_packer.specs.declared.ask.Axis.{Axis}
use Rattle.tk_packer.specs.declared.request.Request.{Request}
use Rattle.tk_packer.specs.declared.standing.Slave.{Slave}

-- a window's own length along an axis decides nothing there: it lies across, and fills the cavity
abbrev pub is_spread : Axis → Request → Bool
is_spread axis request = is_none (edge_of axis request.side) && fills_along axis request.fill

-- it may take a share of what is left along an axis
abbrev pub takes_share : Axis → Request → Bool
takes_share axis request = request.expand && is_some (edge_of axis request.side)

-- one of the first slaves, so many, takes one
abbrev pub shares_before : Axis → List Slave → ℕ → Bool
shares_before axis slaves k = list_any (λ slave. takes_share axis slave.packed.request) (take k slaves)

-- the slave at a place is spread along an axis, and none before it takes a share there, which would be of what it leaves
abbrev pub IsSpreadAt : Axis → List Slave → ℕ → Type 0
IsSpreadAt axis slaves k = (slave : Slave) × ((slice_get slaves k ≡ Some slave) × ((is_spread axis slave.packed.request ≡ true) × (shares_before axis slaves k ≡ false)))

-- where it has another length along an axis, all lie alike there
abbrev pub IsAlikeAlong : Axis → List Slave → ℕ → ℕ → ℕ → Type 0
IsAlikeAlong axis slaves k old new = (old ≡ new) ⊎ IsSpreadAt axis slaves k
