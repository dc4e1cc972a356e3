-- Meaning. The command `bind` (bind(n)): what it answers, and what the application has bound then.
use Rattle.std.specs.Prelude.{ℕ, Bool, true, false, ◌==◌, List, [], ◌∷◌, ◌++◌, map, Option, None, Some, Result, Ok, Err, if◌then◌else◌, codes, unwrap_or}
use Rattle.tcl_text.specs.Answers.{Answer, ◌>>=◌, answers, wrong_args}
use Rattle.tcl_text.specs.Readings.{list_form}
use Rattle.tk_bind_commands.specs.Words.{or_sequence_fault, tag_or_error}
use Rattle.tk_patterns.specs.declared.binding.Binding.{Binding}
use Rattle.tk_patterns.specs.Own.{refuses, script_of, sequences_of, with_binding, without_binding}
use Rattle.tk_sequences.specs.declared.sequence.Sequence.{Sequence}
use Rattle.tk_virtual.specs.Parse.{parsed}
use Rattle.tk_sequences.specs.Writing.{canonical}
use Rattle.tk_tree.specs.Own.{Tree}

-- what the application has bound after the command, and the command's answer
abbrev pub Told : Type 0
Told = List Binding × Answer

-- ---- bind tag: the sequences of the tag, in the order of registration

abbrev pub sequences_told : List ℕ → List Binding → Answer
sequences_told tag own = answers (list_form (map canonical (sequences_of tag own)))

abbrev pub list_words : Tree → List ℕ → List Binding → Answer
list_words windows word own = do
  tag ← tag_or_error windows word
  sequences_told tag own

-- ---- bind tag sequence: the script, or nothing

-- the sequence, where the tag may be one
abbrev pub sequence_words : Tree → List ℕ → List ℕ → Result Sequence (List ℕ)
sequence_words windows tag word = do
  tested ← tag_or_error windows tag
  or_sequence_fault (parsed word)

abbrev pub script_told : List ℕ → Sequence → List Binding → List ℕ
script_told tag sequence own = unwrap_or (script_of tag sequence own) []

abbrev pub script_words : Tree → List ℕ → List ℕ → List Binding → Answer
script_words windows tag word own = do
  sequence ← sequence_words windows tag word
  Ok (script_told tag sequence own)

-- ---- bind tag sequence script

-- what comes behind the script that is there and a newline, or alone where none is there
abbrev pub behind : Option (List ℕ) → List ℕ → List ℕ
behind None more = more
behind (Some script) more = script ++ (codes "\n" ++ more)

-- what stands behind a `+` in front
abbrev pub behind_plus : List ℕ → Option (List ℕ)
behind_plus [] = None
behind_plus (first ∷ rest) = if first == 43 then Some rest else None

abbrev pub behind_or_itself : Option (List ℕ) → List ℕ → Option (List ℕ) → List ℕ
behind_or_itself there word (Some more) = behind there more
behind_or_itself there word None = word

abbrev pub script_meant : Option (List ℕ) → List ℕ → List ℕ
script_meant there word = behind_or_itself there word (behind_plus word)

abbrev pub is_empty : List ℕ → Bool
is_empty [] = true
is_empty (first ∷ rest) = false

-- the empty script takes the binding out; a script past 65,536 bytes is refused, and a binding more than 4,096
abbrev pub with_script : List ℕ → Sequence → Answer → List Binding → Told
with_script tag sequence (Err text) own = (own, Err text)
with_script tag sequence (Ok script) own =
    if is_empty script then (without_binding tag sequence own, Ok [])
    else (if refuses tag sequence own then (own, Err (codes "limit reached: bindings"))
    else (with_binding tag sequence script own, Ok []))

abbrev pub with_word : List ℕ → Result Sequence (List ℕ) → List ℕ → List Binding → Told
with_word tag (Err text) word own = (own, Err text)
with_word tag (Ok sequence) word own = with_script tag sequence (answers (script_meant (script_of tag sequence own) word)) own

-- ---- the command

-- the words behind the command's name
unfoldable pub bind_words : Tree → List (List ℕ) → List Binding → Told
bind_words windows (tag ∷ []) own = (own, list_words windows tag own)
bind_words windows (tag ∷ sequence ∷ []) own = (own, script_words windows tag sequence own)
bind_words windows (tag ∷ sequence ∷ script ∷ []) own = with_word tag (sequence_words windows tag sequence) script own
bind_words windows _ own = (own, wrong_args (codes "bind tag ?sequence? ?script?"))
