-- What comes next, from what was found before it.
use Rattle.std.proofs.Common.{◌≡◌, ℕ, List, [], ◌∷◌, ap, ◌∙◌, sym}
use Rattle.std.specs.Prelude.{Option, Some, None}
use Rattle.tcl_vars.specs.Store.{Store}
use Rattle.tk_after.specs.Timers.{idle_ids}
use Rattle.tk_panel.specs.declared.job.Home.{Home}
use Rattle.tk_panel.specs.declared.job.Home.TheVariants.{LastLayout}
use Rattle.tk_panel.specs.declared.job.Job.{Job}
use Rattle.tk_panel.specs.declared.job.Rest.TheVariants.{Rounds}
use Rattle.tk_panel.specs.Changes.{laid_out}
use Rattle.tk_panel.specs.Panel.{Panel}
use Rattle.tk_panel.specs.Settle.{Next, after_round, at_home, drained, idle_round, on_event, on_round, rounds_next, still_waiting, tasks, tasks_round}

abbrev round_job : List ℕ → Home → Option Job
round_job ids home = Some (record { event = None; rest = Rounds ids home })

module _ (home : Home) (otherwise : Panel → Next) (panel after : Panel) (scripts : List (List ℕ)) (came : (after, scripts) ≡ drained panel.queue panel) where
  abbrev on : Panel × List (List ℕ) → Next
  on there = on_event home otherwise there.0 there.1

  -- an event has scripts
  pub event_next : (first : List ℕ) (rest : List (List ℕ)) → scripts ≡ first ∷ rest
      → (after, Some (record { event = Some scripts; rest = Rounds [] home })) ≡ on (drained panel.queue panel)
  event_next first rest is =
      let found : (after, first ∷ rest) ≡ drained panel.queue panel = ap (λ s. (after, s)) (sym is) ∙ came in
      ap (λ (s : List (List ℕ)). (after, Some (record { event = Some s; rest = Rounds [] home }))) is ∙ ap on found

  -- none has
  pub no_event : (next : Next) → scripts ≡ [] → next ≡ otherwise after → next ≡ on (drained panel.queue panel)
  no_event next is same = same ∙ ap (λ s. on (after, s)) (sym is) ∙ ap on came

-- the idle scripts that wait
pub round_next : (home : Home) (panel : Panel) (first : ℕ) (rest : List ℕ) → idle_ids panel.timers.entries ≡ first ∷ rest → (panel, round_job (idle_ids panel.timers.entries) home) ≡ idle_round home panel
round_next home panel first rest is = ap (λ ids. (panel, round_job ids home)) is ∙ ap (λ ids. on_round home ids panel) (sym is)

pub no_round : (home : Home) (panel : Panel) → idle_ids panel.timers.entries ≡ [] → (panel, None) ≡ idle_round home panel
no_round home panel is = ap (λ ids. on_round home ids panel) (sym is)

pub tasks_next : (store : Store) (panel : Panel) (first : ℕ) (rest : List ℕ) → idle_ids panel.timers.entries ≡ first ∷ rest → (panel, round_job (idle_ids panel.timers.entries) LastLayout) ≡ tasks store panel
tasks_next store panel first rest is = ap (λ ids. (panel, round_job ids LastLayout)) is ∙ ap (λ ids. tasks_round store ids panel) (sym is)

pub no_tasks : (store : Store) (panel after : Panel) → idle_ids panel.timers.entries ≡ [] → after ≡ laid_out store panel → (after, None) ≡ tasks store panel
no_tasks store panel after is laid = ap (λ p. (p, None)) laid ∙ ap (λ ids. tasks_round store ids panel) (sym is)

-- the rest of a round
pub rest_next : (home : Home) (store : Store) (ids left : List ℕ) (panel : Panel) (first : ℕ) (rest : List ℕ) → left ≡ still_waiting ids panel.timers.entries → left ≡ first ∷ rest
    → (panel, round_job left home) ≡ rounds_next ids home store panel
rest_next home store ids left panel first rest is found = ap (λ l. (panel, round_job l home)) found ∙ ap (λ l. after_round home store l panel) (sym found ∙ is)

pub no_rest : (home : Home) (store : Store) (ids left : List ℕ) (panel : Panel) (next : Next) → left ≡ still_waiting ids panel.timers.entries → left ≡ [] → next ≡ at_home home store panel
    → next ≡ rounds_next ids home store panel
no_rest home store ids left panel next is none same = same ∙ ap (λ l. after_round home store l panel) (sym none ∙ is)
