use Rattle.std.proofs.Common.{◌≡◌, ℕ, drop, take, length}
use denote.Text.{Utf8}
use denote.Shadow.{shadow}
use Rattle.std.specs.Str.{chars}
use Rattle.tcl_text.specs.ListCommands.{cut_at, is_one_of}
use Rattle.tcl_text.specs.ListSteps.{onto_first}
use Rattle.tcl_text.proofs.CharacterLemmas.{IsEnd}
use Rattle.tcl_text.proofs.commands.splits.cut_at_character.Given as goal

-- none of the characters passed is a separator
abbrev pub invariant-loop-first : goal.invariant-loop-first
invariant-loop-first l =
    shadow (Utf8 l.rest) × IsEnd l.text l.rest
    × ((passed : ℕ) × (chars l.rest ≡ drop passed (chars l.text)) × (cut_at (is_one_of l.separators) (chars l.text) ≡ onto_first (take passed (chars l.text)) (cut_at (is_one_of l.separators) (chars l.rest))))

abbrev pub decreases-loop-first : goal.decreases-loop-first
decreases-loop-first l = length l.rest
