use Rattle.std.proofs.Common.{◌≡◌, None, drop, map, option_map}
use Rattle.panels_text.specs.Runners.{runner_in, runs}
use Rattle.panels_text.specs.Scripts.{said}
use Rattle.panels_text.proofs.runner.runner_among.Given as goal

-- what was found, and what is left, decide
abbrev pub invariant-loop-call : goal.invariant-loop-call
invariant-loop-call l = runner_in l.body l.by_timer (option_map runs l.found) (map said (drop l.call-index l.calls)) ≡ runner_in l.body l.by_timer None (map said l.calls)
