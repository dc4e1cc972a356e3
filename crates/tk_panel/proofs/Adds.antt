-- An application that is added, or isn't.
use Rattle.std.proofs.Common.{◌≡◌, ℕ, List, [], sym, ap, ◌∙◌}
use Rattle.tk_panel.specs.ClassBindings.{with_class_bindings, without_class_bindings}
use Rattle.tk_patterns.specs.declared.binding.Binding.{Binding}
use Rattle.tk_screen.specs.Own as screens
use Rattle.tk_panel.specs.Fresh.{fresh, nothing}
use Rattle.tk_panel.specs.Panel.{Panel}

module _ (panel : Panel) (moment : ℕ) (none : panel ≡ nothing moment) where
  pub nothing_shown : panel.windowing ≡ screens.nothing
  nothing_shown = ap (λ (p : Panel). p.windowing) none

  nothing_bound : panel.bindings ≡ []
  nothing_bound = ap (λ (p : Panel). p.bindings) none

  pub added_is : (name : List ℕ) (size : ℕ × ℕ) (windowing : screens.Windowing) (bindings : List Binding) → windowing ≡ screens.added name size → bindings ≡ with_class_bindings panel.bindings
      → record panel { windowing = windowing; bindings = bindings } ≡ fresh name size moment
  unfolding fresh
  added_is name size windowing bindings shows binds =
      ap (λ (p : Panel). record p { windowing = windowing; bindings = bindings }) none
      ∙ ap (λ (s : screens.Windowing). record (nothing moment) { windowing = s; bindings = bindings }) shows
      ∙ ap (λ (b : List Binding). record (nothing moment) { windowing = screens.added name size; bindings = b }) (binds ∙ ap with_class_bindings nothing_bound)

  -- the bindings of classes are out again
  pub still_nothing : (windowing : screens.Windowing) (bindings : List Binding) → windowing ≡ panel.windowing → bindings ≡ without_class_bindings panel.bindings
      → record panel { windowing = windowing; bindings = bindings } ≡ panel
  still_nothing windowing bindings same out =
      ap (λ (s : screens.Windowing). record panel { windowing = s; bindings = bindings }) same
      ∙ ap (λ (b : List Binding). record panel { bindings = b }) (out ∙ ap without_class_bindings nothing_bound ∙ sym nothing_bound)
