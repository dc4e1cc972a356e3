use Rattle.std.proofs.Common.{◌≡◌, drop, map}
use Rattle.panels_text.specs.Asking.{window}
use Rattle.panels_text.specs.Meant.{beside}
use Rattle.panels_text.proofs.questions.maker.Given as goal

-- none before has it
abbrev pub invariant-loop-own : goal.invariant-loop-own
invariant-loop-own l = beside l.path (map window (drop l.own-index l.windows)) ≡ beside l.path (map window l.windows)
