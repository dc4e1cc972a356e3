use Rattle.std.proofs.Common.{◌≡◌, drop}
use Rattle.panels_text.specs.Roles.{texts_of}
use Rattle.panels_text.specs.Runners.{index_of}
use Rattle.panels_text.proofs.runner.index_of.Given as goal

-- none before is it
abbrev pub invariant-loop-index : goal.invariant-loop-index
invariant-loop-index l = index_of l.index l.body (texts_of (drop l.index l.words)) ≡ index_of 0 l.body (texts_of l.words)
