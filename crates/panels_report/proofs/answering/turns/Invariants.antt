use Rattle.std.proofs.Common.{◌≡◌, ◌++◌, drop, flat_map}
use Rattle.panels_report.specs.Answers.{turn_text}
use Rattle.panels_report.proofs.answering.turns.Given as goal

abbrev pub invariant-loop-turn : goal.invariant-loop-turn
invariant-loop-turn g l = l.text.items ++ flat_map (turn_text l.panels) (drop l.turn-index l.turns) ≡ flat_map (turn_text l.panels) l.turns
