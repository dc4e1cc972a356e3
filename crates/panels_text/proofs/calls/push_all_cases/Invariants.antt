use Rattle.std.proofs.Common.{◌≡◌, ◌++◌, drop, map}
use Rattle.std.specs.Prelude.{flat_map}
use Rattle.panels_text.specs.Scripts.{inner_of_cases, passage_of}
use Rattle.panels_text.proofs.calls.push_all_cases.Given as goal

-- what was added, and what is left, is all
abbrev pub invariant-loop-command : goal.invariant-loop-command
invariant-loop-command l = map passage_of l.bodies.items ++ flat_map (λ command. inner_of_cases 0 (passage_of l.outer) command.words) (drop l.command-index l.commands) ≡ map passage_of l.initial.bodies.items ++ flat_map (λ command. inner_of_cases 0 (passage_of l.outer) command.words) l.commands
