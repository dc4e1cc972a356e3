-- What a call answers, where a function and a relation say the same.
use Rattle.std.proofs.Common.{◌≡◌, Option, Result, Some, None, Ok, Err, refl, ap, sym, ◌∙◌}
use Rattle.std.specs.Prelude.{◌↔◌, IsErr}
use Rattle.std.specs.Result.{result_ok}

module _ {A E : Type 0} (R : A → Type 0) (read : Option A) (sound : (x : A) → read ≡ Some x → R x) (complete : (x : A) → R x → read ≡ Some x) where
  -- the call answers exactly what is related
  pub ok_iff : (r : Result A E) → result_ok r ≡ read → (x : A) → (r ≡ Ok x) ↔ R x
  ok_iff (Ok y) is x = ((λ e. sound x (sym is ∙ ap result_ok e)), (λ h. let e : Some y ≡ Some x = is ∙ complete x h in cc))
  ok_iff (Err f) is x = ((λ e. absurd cc), (λ h. let e : None ≡ Some x = is ∙ complete x h in absurd cc))

  -- it refuses exactly where nothing is
  pub err_iff : (r : Result A E) → result_ok r ≡ read → IsErr r ↔ ((x : A) → R x → ⊥)
  err_iff (Ok y) is = ((λ e. absurd cc), (λ h. absurd (h y (sound y (sym is)))))
  err_iff (Err f) is = ((λ e x h. let e : None ≡ Some x = is ∙ complete x h in cc), (λ h. refl))
