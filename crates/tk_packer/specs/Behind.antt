-- Steps. The windows behind a place, counted from the last on, and what of them decides a share.
use Rattle.std.specs.Prelude.{◌≡◌, ℕ, ◌+◌, ◌-◌, ◌/◌, ◌^◌, ◌<◌, ◌≤◌, min, max, nat_lt, if◌then◌else◌, List, [], ◌∷◌, ◌++◌, length, take, is_some}
use Rattle.tk_packer.specs.declared.ask.Ask.{Ask}
use Rattle.tk_packer.specs.declared.behind.Tally.{Tally}
use Rattle.tk_packer.specs.declared.behind.Narrow.{Narrow}
use Rattle.tk_packer.specs.declared.behind.Behind.{Behind}
use Rattle.tk_packer.specs.Ask.{outer_length}

abbrev pub no_tally : Tally
no_tally = record { along = 0; count = 1; excess = 0 }

-- with one more window in front
abbrev pub tallied : Tally → Ask → Tally
tallied tally ask =
    if is_some ask.edge
    then record tally { along = min (tally.along + outer_length ask) (2 ^ 64 - 1); count = tally.count + (if ask.expands then 1 else 0) }
    else record tally { excess = max tally.excess (outer_length ask - tally.along) }

unfoldable pub tally_of : List Ask → Tally
tally_of [] = no_tally
tally_of (ask ∷ later) = tallied (tally_of later) ask

-- the tallies of what is behind each, the last window's first
unfoldable pub tallies_of : List Ask → List Tally
tallies_of [] = []
tallies_of (ask ∷ later) = tallies_of later ++ tally_of later ∷ []

-- a window that raised the excess
abbrev pub narrowed : Tally → Tally → List Narrow
narrowed behind tally =
    if nat_lt behind.excess tally.excess then record { excess = tally.excess; count = tally.count } ∷ [] else []

unfoldable pub narrows_of : List Ask → List Narrow
narrows_of [] = []
narrows_of (ask ∷ later) = narrows_of later ++ narrowed (tally_of later) (tally_of (ask ∷ later))

-- the narrow ones without the first window, if it was one
abbrev pub narrows_left : Tally → Tally → List Narrow → List Narrow
narrows_left behind tally narrows = if nat_lt behind.excess tally.excess then take (length narrows - 1) narrows else narrows

pub record AreTallied (whole : Tally) (parts : List Tally) (raising : List Narrow) (asks : List Ask) : Type 0 where
  pub tally : whole ≡ tally_of asks
  pub earlier : parts ≡ tallies_of asks
  pub narrows : raising ≡ narrows_of asks

-- these are the windows that are counted
abbrev pub IsTallied : Behind → List Ask → Type 0
IsTallied behind asks = AreTallied behind.tally behind.earlier.items behind.narrows.items asks

-- a narrow window among those that are counted
abbrev pub IsWithin : Tally → Narrow → Type 0
IsWithin tally narrow = (0 < narrow.count) × (narrow.count ≤ tally.count)

-- the least that falls to each of so many: at the end, and beside each narrow one
unfoldable pub least_share : ℕ → ℕ → List Narrow → ℕ
least_share left count [] = left / count
least_share left count (narrow ∷ narrows) =
    min ((left - narrow.excess) / (count - narrow.count + 1)) (least_share left count narrows)
