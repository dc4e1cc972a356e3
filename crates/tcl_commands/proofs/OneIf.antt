-- What the words of `if` are is one thing, which is what is cut of them.
use Rattle.std.proofs.Common.{◌≡◌, refl, sym, ℕ, List, Option, Some, None}
use Rattle.tcl_text.specs.One.{One}
use Rattle.tcl_commands.specs.IfWords.{choices_of}
use Rattle.tcl_commands.specs.Shapes.{IsIf, IsIfOrNone}
use Rattle.tcl_commands.specs.declared.branches.Choices.{Choices}
use Rattle.tcl_commands.proofs.ChoicesCut.{choices_read, choices_cut}

pub cut_is_if : (words : List (List ℕ)) (cut : Option Choices) → choices_of words ≡ cut → IsIfOrNone words cut
cut_is_if words (Some choices) same = choices_cut words choices same
cut_is_if words None same = λ choices is. let read : choices_of words ≡ Some choices = choices_read words choices is in absurd (cc)

-- what the grammar of `if` relates to words is cut of them
pub if_is_cut : (words : List (List ℕ)) (other : Option Choices) → IsIfOrNone words other → other ≡ choices_of words
if_is_cut words (Some choices) is = sym (choices_read words choices is)
if_is_cut words None none = by (choices_of words) refl
  where
    by : (cut : Option Choices) → choices_of words ≡ cut → None ≡ cut
    by None same = refl
    by (Some choices) same = absurd (none choices (choices_cut words choices same))

abbrev pub one_if : (words : List (List ℕ)) → One (IsIfOrNone words)
one_if words = record { it = choices_of words; holds = cut_is_if words (choices_of words) refl; only = λ other is. if_is_cut words other is }
