-- A line that isn't refused for its numbers is in range.
use Rattle.std.proofs.Common.{ℕ, ◌<◌, ◌≤◌, leb, inl, inr, arith}
use Rattle.std.proofs.lemmas.Bool.{cases_Bool, leb-true, leb-false}
use Rattle.tk_base.specs.Limits.{last_moment}
use Rattle.tk_base.specs.Rect.{last_place, most_pixels}
use Rattle.tk_route.specs.Refusals.{IsInRange}
use Rattle.tk_route.specs.declared.line.HostLine.{HostLine}
use Rattle.tk_route.specs.declared.line.HostLine.TheVariants.{Move, Press, Release, Keydown, Keyup, Focus, Rect as Placed}

not_above : (a b : ℕ) → ¬ ¬ (a ≤ b) → a ≤ b
not_above a b h =
    elim (cases_Bool (leb a b)) [
      | inl fits ↦ leb-true a b fits
      | inr above ↦ absurd (h (λ fits. let less : b < a = leb-false a b above in omega (arith, less, fits)))
    ]

pub IsInRange-from_not_refused : (moment : ℕ) (line : HostLine) → ¬ ¬ ((moment ≤ last_moment) × IsInRange line) → IsInRange line
IsInRange-from_not_refused moment (Move x y) h =
    (not_above x last_place (λ no. h (λ fits. no fits.1.0)), not_above y last_place (λ no. h (λ fits. no fits.1.1)))
IsInRange-from_not_refused moment (Press button) h =
    (not_above 1 button (λ no. h (λ fits. no fits.1.0)), not_above button 5 (λ no. h (λ fits. no fits.1.1)))
IsInRange-from_not_refused moment (Release button) h =
    (not_above 1 button (λ no. h (λ fits. no fits.1.0)), not_above button 5 (λ no. h (λ fits. no fits.1.1)))
IsInRange-from_not_refused moment (Keydown key) h = tt
IsInRange-from_not_refused moment (Keyup key) h = tt
IsInRange-from_not_refused moment (Focus slot) h = tt
IsInRange-from_not_refused moment (Placed slot rect) h = (
  not_above rect.x most_pixels (λ no. h (λ fits. no fits.1.0)),
  not_above rect.y most_pixels (λ no. h (λ fits. no fits.1.1)),
  not_above 1 rect.width (λ no. h (λ fits. no fits.1.2)),
  not_above rect.width most_pixels (λ no. h (λ fits. no fits.1.3)),
  not_above 1 rect.height (λ no. h (λ fits. no fits.1.4)),
  not_above rect.height most_pixels (λ no. h (λ fits. no fits.1.5)),
)
