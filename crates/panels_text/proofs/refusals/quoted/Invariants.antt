use Rattle.std.proofs.Common.{◌≡◌, drop}
use Rattle.panels_text.specs.Refusals.{quoted}
use Rattle.panels_text.specs.Words.{words_of}
use Rattle.panels_text.proofs.refusals.quoted.Given as goal

-- the answer begins with none of those before
abbrev pub invariant-loop-front : goal.invariant-loop-front
invariant-loop-front l = quoted (words_of (drop l.front-index l.fronts)) l.answer ≡ quoted (words_of l.fronts) l.answer
