-- Moves of the pointer on its way, one after another.
use Rattle.std.proofs.Common.{◌≡◌, ℕ, zero, suc, ◌-◌, ◌<◌, ◌≤◌, [], ◌∷◌, refl, ap, arith}
use Rattle.panels.specs.declared.screen.Spot.{Spot}
use Rattle.panels.specs.Gestures.{moved, passing, spot_nearer}

-- one move more is made
pub passing-one : (from to : Spot) (left : ℕ) → 1 < left → passing from to left ≡ moved (spot_nearer from to left) ∷ passing (spot_nearer from to left) to (left - 1)
passing-one from to zero h = absurd (omega (arith, h))
passing-one from to (suc zero) h = absurd (omega (arith, h))
passing-one from to (suc (suc left)) h =
    let next = spot_nearer from to (suc (suc left)) in
    let e : suc left ≡ suc (suc left) - 1 = omega arith in
    ap (λ others. moved next ∷ passing next to others) e

-- none is left but the last
pub passing-none : (from to : Spot) (left : ℕ) → left ≤ 1 → passing from to left ≡ []
passing-none from to zero h = refl
passing-none from to (suc zero) h = refl
passing-none from to (suc (suc left)) h = absurd (omega (arith, h))
