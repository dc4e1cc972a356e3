use Rattle.std.proofs.Common.{◌≡◌, length, drop}
use Rattle.std.specs.Str.{chars}
use Rattle.panels_text.specs.Keys.{only_one}
use Rattle.panels_text.proofs.MeantLemmas.{only_from}
use Rattle.panels_text.proofs.keys.only_character.Given as goal

-- what was found, and what is left, decide
abbrev pub invariant-loop-character : goal.invariant-loop-character
invariant-loop-character l = only_from l.is_first l.only (drop (length l.yielded) (chars l.text)) ≡ only_one (chars l.text)
