use Rattle.std.proofs.Common.{◌≡◌, ℕ, List, [], ◌∷◌, refl, arith}
use Rattle.tk_inputs.specs.Crossings.{GoApart, crossings_between, crossings_of}
use Rattle.tk_inputs.proofs.pointer_laws.ways_are_told.Goals as goal

apart : (up down : List ℕ) → GoApart up down → crossings_of up down ≡ crossings_between up down
apart [] [] other = refl
apart [] (window ∷ down) other = refl
apart (window ∷ up) [] other = refl
apart (window ∷ up) (below ∷ down) other = grind arith

pub returns : goal.returns
returns c [] up down other = apart up down other
returns c (window ∷ shared) up down other = grind (arith, returns c shared up down other)
