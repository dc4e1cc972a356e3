-- Steps. One step after another, of which any may be refused.
use Rattle.std.specs.Prelude.{Result, Ok, Err}

-- the rest, unless what comes before it was refused
infixl 10 ◌>>=◌
abbrev pub ◌>>=◌ : {F T U : Type 0} → Result T F → (T → Result U F) → Result U F
Ok value >>= rest = rest value
Err fault >>= rest = Err fault
