-- An application comes to a moment as the relation says: by its due moments, the earliest first.
use Rattle.std.proofs.Common.{◌≡◌, ℕ, zero, suc, ◌≤◌, Bool, true, false, Option, Some, None, refl, sym, ◌∙◌, subst, arith}
use Rattle.std.specs.Prelude.{nat_le, if◌then◌else◌}
use Rattle.std.proofs.lemmas.Bool.{leb-true, leb-false}
use Rattle.tk_app.specs.Application.{Application, next_due}
use Rattle.tk_app.specs.MomentsByJob.{settled}
use Rattle.tk_app.specs.Passing.{on_next, pass}
use Rattle.tk_app.specs.Seen.{Meaning}
use Rattle.tk_app.specs.Due.{IsPast}
use Rattle.tk_app.proofs.Passing.{brought_step}
use Rattle.tk_app.proofs.Stages.{brought_past}
use Rattle.tk_host.specs.Dues.{brought_by_dues, weight}
use Rattle.tk_host.specs.Passes.{Passes}
use Rattle.tk_host.specs.PassesByJob.{PassedPasses}
use Rattle.tk_host.specs.Passes.Passes.{goes_on, reached}
use Rattle.tk_host.proofs.Passing.{passed_by_dues_holds}
use Rattle.tk_host.proofs.Settling.{settled_lighter}

module _ {M : Type 0} (answer : M → Meaning) where
  abbrev to_by : ℕ → ℕ → Application M → Application M
  to_by last k p = pass next_due (settled answer) (λ due there later. later) (λ there. there) last k p

  abbrev Reaches : ℕ → Application M → Application M → Type 0
  Reaches last p after = Passes next_due (settled answer) last p after

  sound : (last : ℕ) (p after : Application M) → Reaches last p after → brought_by_dues answer last p ≡ after
  sound last p after (reached past) = brought_past next_due (settled answer) weight (settled_lighter answer) last p past
  sound last p after (goes_on due next le rest) =
      brought_step next_due (settled answer) weight (settled_lighter answer) last due p next le ∙ sound last (settled answer due p) after rest

  complete : (last k : ℕ) (p : Application M) → weight p ≤ k → Reaches last p (to_by last k p)
  complete last zero p few = by (next_due p) refl
    where
      by : (o : Option ℕ) → next_due p ≡ o → Reaches last p p
      by None next = reached (subst (IsPast last) (sym next) tt)
      by (Some due) next = absurd (omega (arith, settled_lighter answer p due next, few))
  complete last (suc k) p few = by (next_due p) refl (λ due next. complete last k (settled answer due p) (omega (arith, settled_lighter answer p due next, few)))
    where
      by_test : (due : ℕ) (b : Bool) → next_due p ≡ Some due → nat_le due last ≡ b → Reaches last (settled answer due p) (to_by last k (settled answer due p))
          → Reaches last p (if b then to_by last k (settled answer due p) else p)
      by_test due true next is later = goes_on due next (leb-true due last is) later
      by_test due false next is later = reached (subst (IsPast last) (sym next) (leb-false due last is))

      by : (o : Option ℕ) → next_due p ≡ o → ((due : ℕ) → next_due p ≡ Some due → Reaches last (settled answer due p) (to_by last k (settled answer due p)))
          → Reaches last p (on_next (λ due. to_by last k (settled answer due p)) last o p)
      by None next later = reached (subst (IsPast last) (sym next) tt)
      by (Some due) next later = by_test due (nat_le due last) next refl (later due next)

  pub passed_passes : PassedPasses answer
  passed_passes last application after = (
    (λ there. passed_by_dues_holds answer last application ∙ sound last application after there),
    (λ same. subst (λ (q : Application M). Reaches last application q) (sym (passed_by_dues_holds answer last application) ∙ same)
        (complete last (weight application) application (omega arith))),
  )
