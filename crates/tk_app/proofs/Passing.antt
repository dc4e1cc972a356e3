-- From due moment to due moment: how many are enough, and one of them.
use Rattle.std.proofs.Common.{◌≡◌, ℕ, zero, suc, ◌≤◌, ◌<◌, Bool, true, false, Option, Some, None, refl, sym, ap, ◌∙◌, arith}
use Rattle.std.specs.Prelude.{nat_le, if◌then◌else◌}
use Rattle.std.proofs.lemmas.Bool.{leb-true, le-leb, lt-leb}
use Rattle.tk_app.specs.Passing.{on_next, pass, brought}

-- each moment makes it lighter
module _ {P R : Type 0} (next_due : P → Option ℕ) (settled : ℕ → P → P) (told : ℕ → P → R → R) (stopped : P → R) (weight : P → ℕ)
    (lighter : (p : P) (due : ℕ) → next_due p ≡ Some due → weight (settled due p) < weight p) where
  abbrev go : ℕ → ℕ → P → ℕ → R
  go last k p due = told due p (pass next_due settled told stopped last k (settled due p))

  pub pass_none : (last k : ℕ) (p : P) → next_due p ≡ None → pass next_due settled told stopped last k p ≡ stopped p
  pass_none last zero p none = refl
  pass_none last (suc k) p none = ap (λ (o : Option ℕ). on_next (go last k p) last o (stopped p)) none

  pub pass_late : (last k due : ℕ) (p : P) → next_due p ≡ Some due → last < due → pass next_due settled told stopped last k p ≡ stopped p
  pass_late last zero due p next late = refl
  pass_late last (suc k) due p next late =
      ap (λ (o : Option ℕ). on_next (go last k p) last o (stopped p)) next ∙ ap (λ (b : Bool). if b then go last k p due else stopped p) (lt-leb due last late)

  pass_due : (last k due : ℕ) (p : P) → next_due p ≡ Some due → due ≤ last → pass next_due settled told stopped last (suc k) p ≡ go last k p due
  pass_due last k due p next in_time =
      ap (λ (o : Option ℕ). on_next (go last k p) last o (stopped p)) next ∙ ap (λ (b : Bool). if b then go last k p due else stopped p) (le-leb due last in_time)

  same_next : (last t u : ℕ) (p : P) (o : Option ℕ) → next_due p ≡ o → ((due : ℕ) → next_due p ≡ Some due → go last t p due ≡ go last u p due)
      → on_next (go last t p) last o (stopped p) ≡ on_next (go last u p) last o (stopped p)
  same_next last t u p None is h = refl
  same_next last t u p (Some due) is h = by (nat_le due last)
    where
      by : (b : Bool) → (if b then go last t p due else stopped p) ≡ (if b then go last u p due else stopped p)
      by true = h due is
      by false = refl

  weightless : (p : P) → weight p ≤ 0 → next_due p ≡ None
  weightless p few = by (next_due p) refl
    where
      by : (o : Option ℕ) → next_due p ≡ o → next_due p ≡ None
      by None is = is
      by (Some due) is = absurd (omega (arith, lighter p due is, few))

  -- the number of moments doesn't matter where there are enough
  pass_same : (last t u : ℕ) (p : P) → weight p ≤ t → weight p ≤ u → pass next_due settled told stopped last t p ≡ pass next_due settled told stopped last u p
  pass_same last zero u p few enough = sym (pass_none last u p (weightless p few))
  pass_same last (suc t) zero p few enough = pass_none last (suc t) p (weightless p enough)
  pass_same last (suc t) (suc u) p few enough =
      same_next last t u p (next_due p) refl
      (λ due next. ap (told due p) (pass_same last t u (settled due p) (omega (arith, lighter p due next, few)) (omega (arith, lighter p due next, enough))))

  -- one moment, and on from there
  pub pass_step : (last due : ℕ) (p : P) → next_due p ≡ Some due → due ≤ last
      → pass next_due settled told stopped last (weight p) p ≡ told due p (pass next_due settled told stopped last (weight (settled due p)) (settled due p))
  pass_step last due p next in_time =
      pass_same last (weight p) (suc (weight p)) p (omega arith) (omega arith)
      ∙ pass_due last (weight p) due p next in_time
      ∙ ap (told due p) (pass_same last (weight p) (weight (settled due p)) (settled due p) (omega (arith, lighter p due next)) (omega arith))

-- ── one part ──

module _ {P : Type 0} (next_due : P → Option ℕ) (settled : ℕ → P → P) (weight : P → ℕ)
    (lighter : (p : P) (due : ℕ) → next_due p ≡ Some due → weight (settled due p) < weight p) where
  abbrev to : ℕ → P → P
  to last p = brought next_due settled weight last p

  abbrev to_by : ℕ → ℕ → P → P
  to_by last k p = pass next_due settled (λ due there later. later) (λ there. there) last k p

  pub brought_none : (last : ℕ) (p : P) → next_due p ≡ None → to last p ≡ p
  brought_none last p none = pass_none next_due settled (λ due there later. later) (λ there. there) weight lighter last (weight p) p none

  pub brought_late : (last due : ℕ) (p : P) → next_due p ≡ Some due → last < due → to last p ≡ p
  brought_late last due p next late = pass_late next_due settled (λ due there later. later) (λ there. there) weight lighter last (weight p) due p next late

  pub brought_step : (last due : ℕ) (p : P) → next_due p ≡ Some due → due ≤ last → to last p ≡ to last (settled due p)
  brought_step last due p next in_time = pass_step next_due settled (λ due there later. later) (λ there. there) weight lighter last due p next in_time

  to_then : (first last k : ℕ) (p : P) → first ≤ last → to last (to_by first k p) ≡ to last p
  to_then first last zero p le = refl
  to_then first last (suc k) p le = by (next_due p) refl (λ due. to_then first last k (settled due p) le)
    where
      by_test : (due : ℕ) (b : Bool) → next_due p ≡ Some due → nat_le due first ≡ b → to last (to_by first k (settled due p)) ≡ to last (settled due p)
          → to last (if b then to_by first k (settled due p) else p) ≡ to last p
      by_test due true next is later = later ∙ sym (brought_step last due p next (omega (arith, leb-true due first is, le)))
      by_test due false next is later = refl

      by : (o : Option ℕ) → next_due p ≡ o → ((due : ℕ) → to last (to_by first k (settled due p)) ≡ to last (settled due p))
          → to last (on_next (λ due. to_by first k (settled due p)) first o p) ≡ to last p
      by None next later = refl
      by (Some due) next later = by_test due (nat_le due first) next refl (later due)

  -- to a moment and then on to a later one is to the later one
  pub brought_brought : (first last : ℕ) (p : P) → first ≤ last → to last (to first p) ≡ to last p
  brought_brought first last p le = to_then first last (weight p) p le
