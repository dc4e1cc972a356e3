-- Windows that are destroyed, one after another.
use Rattle.std.proofs.Common.{◌≡◌, ℕ, List, [], ◌∷◌, refl, ap}
use Rattle.std.specs.Prelude.{Some, None}
use Rattle.tk_panel.specs.Destroy.{Doomed, destroy_chosen, doomed_next, next_doomed, on_doomed, or_removed, removed}
use Rattle.tk_panel.specs.Panel.{Panel}
use Rattle.tk_panel.specs.Settle.{Next}

module _ (number : ℕ) (numbers : List ℕ) (panel after : Panel) where
  abbrev on : Panel × List (List ℕ) → Doomed
  on there = or_removed number numbers (next_doomed numbers) there.0 there.1

  -- its Destroy event has no scripts, so it goes
  pub doomed_goes : (after, []) ≡ destroy_chosen number panel → next_doomed numbers (removed number after) ≡ next_doomed (number ∷ numbers) panel
  unfolding next_doomed
  doomed_goes came = ap on came

  -- it has some
  pub doomed_waits : (script : List ℕ) (scripts : List (List ℕ)) → (after, script ∷ scripts) ≡ destroy_chosen number panel
      → record { panel = after; found = Some (number, script ∷ scripts); rest = numbers } ≡ next_doomed (number ∷ numbers) panel
  unfolding next_doomed
  doomed_waits script scripts came = ap on came

pub none_doomed : (panel : Panel) → record { panel = panel; found = None; rest = [] } ≡ next_doomed [] panel
unfolding next_doomed
none_doomed panel = refl

module _ (later : Panel → Next) (paths : List (List ℕ)) (numbers left : List ℕ) (panel after : Panel) where
  abbrev told : Doomed → Next
  told doomed = on_doomed paths later doomed.panel doomed.rest doomed.found

  -- a window's scripts are next
  pub doomed_next_found : (found : ℕ × List (List ℕ)) → record { panel = after; found = Some found; rest = left } ≡ next_doomed numbers panel
      → on_doomed paths later after left (Some found) ≡ doomed_next paths later numbers panel
  doomed_next_found found is = ap told is

  pub doomed_next_none : record { panel = after; found = None; rest = left } ≡ next_doomed numbers panel → later after ≡ doomed_next paths later numbers panel
  doomed_next_none is = ap told is
