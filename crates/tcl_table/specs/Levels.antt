-- Meaning. Levels: where the frames of a script and of its callers stand among the frames of the variables.
use Rattle.std.specs.Prelude.{ℕ, ◌-◌, nat_lt, List, length, take, slice_index_or, if◌then◌else◌}
use Rattle.tcl_vars.specs.Store.{Store}

-- the own one is the last
abbrev pub own_place : List ℕ → ℕ
own_place levels = slice_index_or levels (length levels - 1) 0

-- The place of the frame whose variables are seen: that of the last level, which is there in whatever an application has (law keeps_links of tk_app).
-- Of a store that lacks it the definition says the global one.
abbrev pub here : List ℕ → Store → ℕ
here levels store = if nat_lt (own_place levels) (length store) then own_place levels else 0

-- the levels of the caller
abbrev pub up : List ℕ → List ℕ
up levels = take (length levels - 1) levels

-- the store without the last frame; the global one stays
abbrev pub popped : Store → Store
popped store = if nat_lt 1 (length store) then take (length store - 1) store else store
