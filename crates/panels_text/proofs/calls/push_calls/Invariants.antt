use Rattle.std.proofs.Common.{◌≡◌, ◌++◌, drop, map}
use Rattle.std.specs.Prelude.{flat_map}
use Rattle.panels_text.specs.Scripts.{inner_of_command, passage_of, said, said_by}
use Rattle.panels_text.proofs.calls.push_calls.Given as goal

-- what was added, and what is left, is all
abbrev pub invariant-loop-command : goal.invariant-loop-command
invariant-loop-command l = record {
  calls : map said l.calls.items ++ map (said_by (passage_of l.outer)) (drop l.command-index l.commands) ≡ map said l.initial.calls.items ++ map (said_by (passage_of l.outer)) l.commands;
  bodies : map passage_of l.bodies.items ++ flat_map (inner_of_command (passage_of l.outer)) (drop l.command-index l.commands) ≡ map passage_of l.initial.bodies.items ++ flat_map (inner_of_command (passage_of l.outer)) l.commands;
}
