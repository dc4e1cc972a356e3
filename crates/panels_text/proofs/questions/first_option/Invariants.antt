use Rattle.std.proofs.Common.{◌≡◌, drop}
use Rattle.panels_text.specs.Asking.{first_option}
use Rattle.panels_text.specs.Roles.{texts_of}
use Rattle.panels_text.proofs.questions.first_option.Given as goal

-- none before is one
abbrev pub invariant-loop-index : goal.invariant-loop-index
invariant-loop-index l = first_option l.index (texts_of (drop l.index l.words)) ≡ first_option 0 (texts_of l.words)
