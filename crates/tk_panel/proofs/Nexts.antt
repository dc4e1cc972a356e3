-- What comes next and what starts, from the scripts of the event under way.
use Rattle.std.proofs.Common.{◌≡◌, ℕ, List, [], ◌∷◌, ap, ◌∙◌, sym}
use Rattle.std.specs.Prelude.{Option, Some}
use Rattle.tcl_vars.specs.Store.{Store}
use Rattle.tk_panel.specs.declared.job.Rest.{Rest}
use Rattle.tk_panel.specs.Next.{next_event, next_rest}
use Rattle.tk_panel.specs.Panel.{Panel}
use Rattle.tk_panel.specs.Settle.{Next}
use Rattle.tk_panel.specs.Start.{Started, start_event, start_rest}

module _ (event : Option (List (List ℕ))) (rest : Rest) (panel : Panel) (scripts : List (List ℕ)) (under_way : event ≡ Some scripts) where
  -- a script of the event is next
  pub event_goes_on : (store : Store) (first : List ℕ) (more : List (List ℕ)) → scripts ≡ first ∷ more
      → (panel, Some (record { event = Some scripts; rest = rest })) ≡ next_event event rest store panel
  event_goes_on store first more is =
      ap (λ (s : List (List ℕ)). (panel, Some (record { event = Some s; rest = rest }))) is
      ∙ ap (λ o. next_event o rest store panel) (sym (under_way ∙ ap Some is))

  -- none is left of it
  pub event_ends : (store : Store) (next : Next) → scripts ≡ [] → next ≡ next_rest rest store panel → next ≡ next_event event rest store panel
  event_ends store next is same = same ∙ ap (λ o. next_event o rest store panel) (sym (under_way ∙ ap Some is))

  -- its next script starts
  pub event_starts : (script : List ℕ) (left : List (List ℕ)) → scripts ≡ script ∷ left → (panel, (script, record { event = Some left; rest = rest })) ≡ start_event event rest panel
  event_starts script left is = ap (λ o. start_event o rest panel) (sym (under_way ∙ ap Some is))

  -- it has none, so what is behind it starts
  pub rest_starts : (started : Started) → scripts ≡ [] → started ≡ start_rest rest panel → started ≡ start_event event rest panel
  rest_starts started is same = same ∙ ap (λ o. start_event o rest panel) (sym (under_way ∙ ap Some is))
