-- Steps. What a walk over a list has found, with what the rest of the list gives.
use Rattle.std.specs.Prelude.{ℕ, ◌+◌, min, max, List}
use Rattle.tk_packer.specs.declared.ask.Ask.{Ask}
use Rattle.tk_packer.specs.declared.wanted.Reach.{Reach}
use Rattle.tk_packer.specs.Parcels.{wanted, most_wanted}

-- the length wanted, up to the bound
abbrev pub reached : Reach → List Ask → ℕ
reached reach later = min (max reach.most (reach.along + wanted later)) most_wanted
