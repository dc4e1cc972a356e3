-- Queued events, one after another.
use Rattle.std.proofs.Common.{◌≡◌, ℕ, List, [], ◌∷◌, ap, ◌∙◌, sym}
use Rattle.tk_sequences.specs.declared.event.Event.{Event}
use Rattle.tk_panel.specs.Choice.{chosen}
use Rattle.tk_panel.specs.Panel.{Panel}
use Rattle.tk_panel.specs.Settle.{drained, or_later, with_queue}
use Rattle.tk_panel.proofs.Choices.{chosen_queue}

module _ (event : Event) (events : List Event) (panel after : Panel) where
  abbrev on : Panel × List (List ℕ) → Panel × List (List ℕ)
  on there = or_later (drained events) there.0 there.1

  -- the first event has no scripts
  pub drained_skips : panel.queue ≡ event ∷ events → (after, []) ≡ chosen event (with_queue events panel) → drained after.queue after ≡ drained panel.queue panel
  unfolding drained
  drained_skips is came =
      let left : after.queue ≡ events = ap (λ (there : Panel × List (List ℕ)). there.0.queue) came ∙ chosen_queue event (with_queue events panel) in
      ap (λ queue. drained queue after) left ∙ ap on came ∙ ap (λ queue. drained queue panel) (sym is)

  -- it has some
  pub drained_finds : (script : List ℕ) (scripts : List (List ℕ)) → panel.queue ≡ event ∷ events → (after, script ∷ scripts) ≡ chosen event (with_queue events panel)
      → (after, script ∷ scripts) ≡ drained panel.queue panel
  unfolding drained
  drained_finds script scripts is came = ap on came ∙ ap (λ queue. drained queue panel) (sym is)

-- no event waits
pub drained_ends : (panel : Panel) → panel.queue ≡ [] → (panel, []) ≡ drained panel.queue panel
unfolding drained
drained_ends panel is = ap (λ queue. drained queue panel) (sym is)
