-- Idle scripts that leave their table.
use Rattle.std.proofs.Common.{◌≡◌, ℕ, List, [], refl, ap, ◌∙◌}
use Rattle.std.specs.Prelude.{Option, Some, None, option_map}
use Rattle.tk_after.specs.declared.waiting.WaitingScript.{WaitingScript}
use Rattle.tk_after.specs.Timers.{Timers, without}
use Rattle.tk_panel.specs.declared.job.Rest.{Rest}
use Rattle.tk_panel.specs.Panel.{Panel}
use Rattle.tk_panel.specs.Start.{Started, idle_taken, script_in, without_event}

script_found : (entry : Option WaitingScript) (script : List ℕ) → Some script ≡ option_map (λ (e : WaitingScript). e.script) entry → script ≡ script_in entry
script_found None script is = cc
script_found (Some entry) script is = cc

nothing_found : (entry : Option WaitingScript) → None ≡ option_map (λ (e : WaitingScript). e.script) entry → [] ≡ script_in entry
nothing_found None is = refl
nothing_found (Some entry) is = cc

module _ (id : ℕ) (rest : Rest) (panel : Panel) (entry : Option WaitingScript) (left : Timers) (out : left ≡ without id panel.timers) where
  abbrev with_left : List ℕ → Started
  with_left script = (record panel { timers = left }, (script, without_event rest))

  abbrev on : Timers → Started
  on timers = (record panel { timers = timers }, (script_in entry, without_event rest))

  pub idle_found : (script : List ℕ) → Some script ≡ option_map (λ (e : WaitingScript). e.script) entry → with_left script ≡ idle_taken id rest panel entry
  idle_found script is = ap with_left (script_found entry script is) ∙ ap on out

  pub idle_gone : None ≡ option_map (λ (e : WaitingScript). e.script) entry → with_left [] ≡ idle_taken id rest panel entry
  idle_gone is = ap with_left (nothing_found entry is) ∙ ap on out
