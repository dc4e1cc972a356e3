-- Steps. Commands whose words are put together at once: what words and scripts in brackets come to that leave all else as it is, and, of calls, with
-- which variables.
use Rattle.std.specs.Prelude.{◌≡◌, ◌≤◌, ◌+◌, ℕ, ℤ, false, List, [], ◌∷◌, length, drop, Some, Ok}
use Rattle.std.specs.Fmt.{signed_decimal}
use Rattle.tcl_words.specs.declared.script.Word.{Word}
use Rattle.tcl_words.specs.declared.script.Piece.TheVariants.{Literal}
use Rattle.tcl_text.specs.Limits.{most_bytes}
use Rattle.tcl_text.specs.StringCommands.{concat_words}
use Rattle.tcl_vars.specs.Store.{Store}
use Rattle.tcl_table.specs.declared.builtin.Builtin.TheVariants.{Expr}
use Rattle.tcl_table.specs.declared.command.Command.TheVariants.{Builtin}
use Rattle.tcl_table.specs.Names.{plain_name}
use Rattle.tcl_table.specs.Table.{command_of}
use Rattle.tcl_control.specs.declared.code.Code.{Code}
use Rattle.tcl_control.specs.declared.code.Code.TheVariants.{Normal}
use Rattle.tcl_control.specs.declared.context.Context.{Context}
use Rattle.tcl_interp.specs.Outside.{Outside}
use Rattle.tcl_interp.specs.Evaluation.{State, Outcome, Ended, word_meaning, words_meaning}
use Rattle.tcl_interp.specs.Acts.{script_meaning, outside_meaning}
use Rattle.tcl_interp.specs.Scripts.{call_meaning}
use Rattle.tcl_interp.specs.Finish.{words_rest}
use Rattle.tcl_interp.specs.Openings.{IsInteger}
use Rattle.tcl_interp.specs.Rests.{expand_in_front, pieces_in_front}
use Rattle.tcl_interp.specs.Steps.{state_with}

-- the word in front is this text, written so
abbrev pub IsWritten : List Word → List ℕ → Type 0
IsWritten words text = (expand_in_front words ≡ false) × (pieces_in_front words ≡ Literal text ∷ [])

-- an expression of this text comes to an integer, and this is that in decimal
abbrev pub HasValue : Store → ℕ → List ℕ → List ℕ → Type 0
HasValue store level text value = (n : ℤ) × IsInteger store level text n × (value ≡ signed_decimal n)

-- an argument of `expr` is such an expression
abbrev pub Computes : Store → ℕ → List ℕ → List ℕ → Type 0
Computes store level argument value = (text : List ℕ) × (n : ℤ) × (concat_words (argument ∷ []) ≡ Ok text) × IsInteger store level text n × (value ≡ signed_decimal n)

-- `expr` with one argument, written so, gives this
abbrev pub ExprGives : Store → Context → ℕ → List Word → List ℕ → Type 0
ExprGives store context level words value =
    (name : List ℕ) × (argument : List ℕ) × (length words ≡ 2) × IsWritten words name × (length name ≤ most_bytes) × IsWritten (drop 1 words) argument
    × (length argument ≤ most_bytes) × (command_of context.commands (plain_name name) ≡ Some (Builtin Expr)) × Computes store level argument value
    × (length value ≤ most_bytes)

module _ {S K : Type 0} (outside : Outside S K) where
  -- The word in front gives this text for so many steps, where scripts in it have so much room.
  abbrev pub GivesWord : ℕ → List Word → Store → Context → ℕ → List ℕ → Type 0
  GivesWord room words store context count text =
      (expand_in_front words ≡ false)
      × ((shows : S) (left : ℕ) (after : State S → List ℕ → Outcome S)
      → word_meaning (script_meaning outside room) (pieces_in_front words) [] (state_with shows store context (count + left)) after
      ≡ after (state_with shows store context left) text)

  -- words, behind those before them, come to the words behind these for so many steps
  abbrev pub WordsLead : ℕ → Store → Context → List Word → List (List ℕ) → ℕ → List Word → List (List ℕ) → Type 0
  WordsLead room store context words before count rest whole =
      (shows : S) (left : ℕ) (after : State S → List (List ℕ) → Outcome S)
      → words_meaning (script_meaning outside room) (call_meaning (outside_meaning outside) (script_meaning outside room)) words before (state_with shows store context (count + left)) after
      ≡ words_meaning (script_meaning outside room) (call_meaning (outside_meaning outside) (script_meaning outside room)) rest whole (state_with shows store context left) after

  -- a script ends normally with this text for so many steps
  abbrev pub GivesScript : ℕ → List ℕ → Store → Context → ℕ → List ℕ → Type 0
  GivesScript room script store context count text =
      (shows : S) (left : ℕ)
      → script_meaning outside room script (state_with shows store context (count + left)) ≡ Ended (state_with shows store context left) Normal text

  -- A command that is called with these words ends at once, with these variables. The room for scripts in it may be any.
  abbrev pub EndsCall : List (List ℕ) → Store → Context → Store → Code → List ℕ → Type 0
  EndsCall words store context store' code text =
      (room : ℕ) (shows : S) (left : ℕ)
      → call_meaning (outside_meaning outside) (script_meaning outside room) words (state_with shows store context left) ≡ Ended (state_with shows store' context left) code text

  -- A command of these words ends for so many steps, with these variables, where scripts in it have so much room.
  abbrev pub CommandEnds : ℕ → List Word → Store → Context → ℕ → Store → Code → List ℕ → Type 0
  CommandEnds room words store context count store' code text =
      (shows : S) (left : ℕ)
      → words_rest outside room words [] (state_with shows store context (count + left)) ≡ Ended (state_with shows store' context left) code text
