-- Steps. The characters that have room, one after another from the first on.
use Rattle.std.specs.Prelude.{ℕ, suc, ◌-◌, nat_le, if◌then◌else◌, List, [], ◌∷◌}
use Rattle.tk_widgets.specs.Columns.{columns}

abbrev pub walk : ℕ → List ℕ → ℕ
walk room [] = 0
walk room (c ∷ cs) = if nat_le (columns c) room then suc (walk (room - columns c) cs) else 0
