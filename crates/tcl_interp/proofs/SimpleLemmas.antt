-- What commands come to whose words are put together at once.
use Rattle.std.proofs.Common.{◌≡◌, ℕ, zero, suc, ◌+◌, ◌<◌, ◌≤◌, Bool, true, false, cond, List, [], ◌∷◌, ◌++◌, length, drop, get_or, nat_le, Some, Result, Ok, Err, refl, ap, sym, subst, ◌∙◌, arith, add-one, append-nil}
use Rattle.std.proofs.lemmas.Bool.Decides.{nat_tests}
use Rattle.std.specs.Fmt.{signed_decimal}
use Rattle.std.specs.Prelude.{ℤ, OnErr}
use Rattle.tcl_text.specs.declared.fault.ParseFault.{ParseFault}
use Rattle.tcl_words.specs.declared.script.Command.{Command}
use Rattle.tcl_words.specs.declared.script.Word.{Word}
use Rattle.tcl_words.specs.declared.script.Piece.TheVariants.{Bracket}
use Rattle.tcl_vars.specs.Store.{Store}
use Rattle.tcl_table.specs.declared.builtin.Builtin.TheVariants as builtin
use Rattle.tcl_table.specs.declared.command.Command.TheVariants as command
use Rattle.tcl_table.specs.Names.{plain_name}
use Rattle.tcl_table.specs.Table.{command_of}
use Rattle.tcl_control.specs.declared.code.Code.{Code}
use Rattle.tcl_control.specs.declared.code.Code.TheVariants.{Normal, Error}
use Rattle.tcl_control.specs.declared.context.Context.{Context}
use Rattle.tcl_control.specs.declared.plan.Plan.TheVariants as plan
use Rattle.tcl_control.specs.Commands.{on_joined}
use Rattle.tcl_control.specs.Control.{by_command, keeps_all}
use Rattle.tcl_table.specs.Levels.{here}
use Rattle.tcl_table.specs.Source.{script_of}
use Rattle.tcl_table.specs.Texts.{limit_text}
use Rattle.tcl_interp.specs.Outside.{Outside}
use Rattle.tcl_interp.specs.Evaluation.{State, Outcome, Ended, OutOfSteps, and_then, on_normal, words_of, on_words, element_meaning, word_meaning, words_meaning, called, commands_meaning}
use Rattle.tcl_interp.specs.Expressions.{expression_meaning}
use Rattle.tcl_interp.specs.Acts.{script_meaning, outside_meaning}
use Rattle.tcl_interp.specs.Scripts.{call_meaning, called_meaning, on_parsed}
use Rattle.tcl_interp.specs.Finish.{GoesOn, Calls, Ends, Waiting, ForCommand, waits_meaning}
use Rattle.tcl_interp.specs.Moves.{Standing, word_end, moved, standing, expression_begins}
use Rattle.tcl_interp.specs.Openings.{IsInteger}
use Rattle.tcl_interp.specs.Rests.{IsSingle, words_in_front, pieces_in_front, expand_in_front, read_commands}
use Rattle.tcl_interp.specs.Simple.{CommandEnds, IsWritten, Computes, ExprGives, GivesWord, WordsLead, GivesScript, EndsCall}
use Rattle.tcl_interp.specs.Steps.{state_with, finish_from, TakesStep, TakesSteps}
use Rattle.tcl_interp.proofs.Same.{end_meaning, pieces_end, run_in, next_in, words_same, expression_same, end_same, leads_same}
use Rattle.tcl_interp.proofs.Straight.{opened_leads}

-- the command in front of those behind it
pub front_suc : (commands : List Command) (i : ℕ) → 0 < length (words_in_front (drop i commands)) → (command : Command) × (drop i commands ≡ command ∷ drop (suc i) commands)
front_suc [] zero some = absurd (omega (arith, some))
front_suc [] (suc i) some = absurd (omega (arith, some))
front_suc (command ∷ commands) zero some = (command, refl)
front_suc (command ∷ commands) (suc i) some = front_suc commands i some

-- the only command of a script
pub only_command : (read : Result (List Command) ParseFault) (commands : List Command) (command : Command) → commands ≡ read_commands read → 1 ≤ length commands → length commands < 2 → command ≡ get_or commands 0 command
    → read ≡ Ok (command ∷ [])
only_command (Ok []) commands command is some few first = absurd (omega (arith, some, ap length is))
only_command (Ok (only ∷ [])) commands command is some few first = ap (λ c. Ok (c ∷ [])) (sym (first ∙ ap (λ cs. get_or cs 0 command) is))
only_command (Ok (only ∷ more ∷ rest)) commands command is some few first = absurd (omega (arith, few, ap length is))
only_command (Err fault) commands command is some few first = absurd (omega (arith, some, ap length is))

pub drop_past : (words : List Word) (i : ℕ) → length words ≤ i → drop i words ≡ []
drop_past [] zero past = refl
drop_past [] (suc i) past = refl
drop_past (word ∷ words) zero past = absurd (omega (arith, past))
drop_past (word ∷ words) (suc i) past = drop_past words i (omega (arith, past))

none : (left : ℕ) → 0 + left ≡ left
none left = omega arith

fits : (text : List ℕ) → length text ≤ 65536 → nat_le (length text) 65536 ≡ true
fits text short = grind (arith, nat_tests, short)

-- what holds, where a call fails
pub on_err : {T E : Type 0} (r : Result T E) (Q : Type 0) → Q → OnErr r Q
on_err (Ok value) Q holds = tt
on_err (Err fault) Q holds = holds

module _ {S K : Type 0} (outside : Outside S K) where
  abbrev pub calls_in : ℕ → List (List ℕ) → State S → Outcome S
  calls_in room = call_meaning (outside_meaning outside) (run_in outside room)

  -- ── words ──

  pub word_leads_suc : (room : ℕ) (words : List Word) (i : ℕ) (store : Store) (context : Context) (count : ℕ) (text : List ℕ) (whole : List (List ℕ)) → i < length words
      → GivesWord outside room (drop i words) store context count text → WordsLead outside room store context (drop i words) whole count (drop (suc i) words) (whole ++ text ∷ [])
  word_leads_suc room [] i store context count text whole less gives = absurd (omega (arith, less))
  word_leads_suc room (word ∷ words) zero store context count text whole less gives = λ shows left after.
      let go : Bool → State S → List ℕ → Outcome S = λ e state t. on_words state (λ state' more. words_meaning (run_in outside room) (calls_in room) words (whole ++ more) state' after) (words_of e t) in
      gives.1 shows left (go word.expand) ∙ ap (λ e. go e (state_with shows store context left) text) gives.0
  word_leads_suc room (word ∷ words) (suc i) store context count text whole less gives = word_leads_suc room words i store context count text whole (omega (arith, less)) gives

  -- a word that gives its text comes to the words behind it
  pub word_leads : (room : ℕ) (words : List Word) (i : ℕ) (store : Store) (context : Context) (count : ℕ) (text : List ℕ) (whole : List (List ℕ)) → i < length words
      → GivesWord outside room (drop i words) store context count text → WordsLead outside room store context (drop i words) whole count (drop (i + 1) words) (whole ++ text ∷ [])
  word_leads room words i store context count text whole less gives = rw add-one (word_leads_suc room words i store context count text whole less gives)

  -- and so do several, one after another
  pub words_lead : (room : ℕ) (store : Store) (context : Context) (first second third : List Word) (x y z : List (List ℕ)) (m n : ℕ)
      → WordsLead outside room store context first x m second y → WordsLead outside room store context second y n third z → WordsLead outside room store context first x (m + n) third z
  words_lead room store context first second third x y z m n one two = λ shows left after.
      let sum : (m + n) + left ≡ m + (n + left) = omega arith in
      ap (λ k. words_meaning (run_in outside room) (calls_in room) first x (state_with shows store context k) after) sum ∙ one shows (n + left) after ∙ two shows left after

  -- and so does none
  pub words_stay : (room : ℕ) (store : Store) (context : Context) (words : List Word) (before : List (List ℕ)) → WordsLead outside room store context words before 0 words (before ++ [])
  words_stay room store context words before = λ shows left after.
      ap (λ n. words_meaning (run_in outside room) (calls_in room) words before (state_with shows store context n) after) (none left)
      ∙ ap (λ whole. words_meaning (run_in outside room) (calls_in room) words whole (state_with shows store context left) after) (sym (append-nil before))

  -- without a step
  pub at_once : (room : ℕ) (store : Store) (context : Context) (first second : List Word) (x y : List (List ℕ)) → WordsLead outside room store context first x 0 second y
      → (shows : S) (left : ℕ) (after : State S → List (List ℕ) → Outcome S)
      → words_meaning (run_in outside room) (calls_in room) first x (state_with shows store context left) after ≡ words_meaning (run_in outside room) (calls_in room) second y (state_with shows store context left) after
  at_once room store context first second x y leads shows left after =
      ap (λ n. words_meaning (run_in outside room) (calls_in room) first x (state_with shows store context n) after) (sym (none left)) ∙ leads shows left after

  -- a word without scripts and elements
  pub single_gives : (room level : ℕ) (words : List Word) (store : Store) (context : Context) (text : List ℕ) → level ≡ here context.levels store → IsSingle level store words text → GivesWord outside room words store context 0 text
  single_gives room level words store context text at_level (plain, end) = (
    plain,
    λ shows left after.
        let state = state_with shows store context left in
        ap (λ n. word_meaning (run_in outside room) (pieces_in_front words) [] (state_with shows store context n) after) (none left)
        ∙ pieces_end (run_in outside room) (element_meaning (run_in outside room)) after (pieces_in_front words) [] state
        ∙ ap (λ l. end_meaning (run_in outside room) (element_meaning (run_in outside room)) after state (word_end l store (pieces_in_front words) [])) (sym at_level)
        ∙ ap (end_meaning (run_in outside room) (element_meaning (run_in outside room)) after state) (sym end),
  )

  pub written_gives : (room : ℕ) (words : List Word) (store : Store) (context : Context) (text : List ℕ) → IsWritten words text → length text ≤ 65536 → GivesWord outside room words store context 0 text
  written_gives room words store context text (plain, is) short = (
    plain,
    λ shows left after.
        let state = state_with shows store context left in
        ap (λ n. word_meaning (run_in outside room) (pieces_in_front words) [] (state_with shows store context n) after) (none left)
        ∙ ap (λ ps. word_meaning (run_in outside room) ps [] state after) is
        ∙ ap (λ b. cond b (after state text) (Ended state Error limit_text)) (fits text short),
  )

  -- a script in brackets
  pub bracket_gives : (room : ℕ) (words : List Word) (store : Store) (context : Context) (count : ℕ) (script text : List ℕ) → expand_in_front words ≡ false → pieces_in_front words ≡ Bracket script ∷ [] → length text ≤ 65536
      → GivesScript outside room script store context count text → GivesWord outside room words store context count text
  bracket_gives room words store context count script text plain is short ends = (
    plain,
    λ shows left after.
        ap (λ ps. word_meaning (run_in outside room) ps [] (state_with shows store context (count + left)) after) is
        ∙ ap (λ o. and_then o (on_normal (λ s t. cond (nat_le (length t) 65536) (after s t) (Ended s Error limit_text)))) (ends shows left)
        ∙ ap (λ b. cond b (after (state_with shows store context left) text) (Ended (state_with shows store context left) Error limit_text)) (fits text short),
  )

  -- ── expressions ──

  nothing_behind : (o : Outcome S) → and_then o (waits_meaning outside []) ≡ o
  nothing_behind (Ended state code text) = refl
  nothing_behind (OutOfSteps state) = refl

  -- where straight code says the value of an expression, it is that
  expression_gives : (room level : ℕ) (store : Store) (context : Context) (text : List ℕ) (n : ℤ) → level ≡ here context.levels store → IsInteger store level text n → (shows : S) (left : ℕ)
      → expression_meaning (run_in outside room) text (state_with shows store context left) ≡ Ended (state_with shows store context left) Normal (signed_decimal n)
  expression_gives room level store context text n at_level is shows left =
      let state = state_with shows store context left in
      sym (nothing_behind (expression_meaning (run_in outside room) text state))
      ∙ expression_same outside room text [] state
      ∙ leads_same outside (standing (moved (expression_begins room text) []) store context) (standing (moved (Ends Normal (signed_decimal n)) []) store context) state (opened_leads store context room [] text level n at_level is)

  -- `expr`, written so, with one argument
  expr_command : (room level : ℕ) (store : Store) (context : Context) (words : List Word) (name argument value : List ℕ) → length words ≡ 2
      → IsWritten words name → length name ≤ 65536 → IsWritten (drop 1 words) argument → length argument ≤ 65536
      → command_of context.commands (plain_name name) ≡ Some (command.Builtin builtin.Expr) → level ≡ here context.levels store → Computes store level argument value → (shows : S) (left : ℕ)
      → words_meaning (run_in outside room) (calls_in room) words [] (state_with shows store context (suc left)) (called (run_in outside room) (calls_in room)) ≡ Ended (state_with shows store context left) Normal value
  expr_command room level store context [] name argument value two written short written' short' binding at_level computes shows left = absurd (omega (arith, two))
  expr_command room level store context (w ∷ []) name argument value two written short written' short' binding at_level computes shows left = absurd (omega (arith, two))
  expr_command room level store context (w ∷ v ∷ u ∷ words) name argument value two written short written' short' binding at_level computes shows left = absurd (omega (arith, two))
  expr_command room level store context (w ∷ v ∷ []) name argument value two written short written' short' binding at_level (text, n, joined, integer, is) shows left =
      let run = run_in outside room in
      let state = state_with shows store context left in
      at_once room store context (w ∷ v ∷ []) (v ∷ []) [] (name ∷ []) (word_leads_suc room (w ∷ v ∷ []) 0 store context 0 name [] (omega arith) (written_gives room (w ∷ v ∷ []) store context name written short)) shows (suc left) (called run (calls_in room))
      ∙ at_once room store context (v ∷ []) [] (name ∷ []) (name ∷ argument ∷ []) (word_leads_suc room (v ∷ []) 0 store context 0 argument (name ∷ []) (omega arith) (written_gives room (v ∷ []) store context argument written' short')) shows (suc left) (called run (calls_in room))
      ∙ ap (λ c. called_meaning (outside_meaning outside) run name (argument ∷ []) state (by_command name (argument ∷ []) store context c)) binding
      ∙ ap (λ a. called_meaning (outside_meaning outside) run name (argument ∷ []) state (keeps_all store context (on_joined plan.Evaluates a))) joined
      ∙ expression_gives room level store context text n at_level integer shows left
      ∙ ap (Ended state Normal) (sym is)

  expr_script : (room level : ℕ) (store : Store) (context : Context) (script : List ℕ) (only : Command) (name argument value : List ℕ) → script_of script ≡ Ok (only ∷ []) → length only.words ≡ 2
      → IsWritten only.words name → length name ≤ 65536 → IsWritten (drop 1 only.words) argument → length argument ≤ 65536
      → command_of context.commands (plain_name name) ≡ Some (command.Builtin builtin.Expr) → level ≡ here context.levels store → Computes store level argument value
      → GivesScript outside (suc room) script store context 1 value
  expr_script room level store context script only name argument value parsed two written short written' short' binding at_level computes = λ shows left.
      let state = state_with shows store context (suc left) in
      let one : 1 + left ≡ suc left = omega arith in
      ap (λ n. script_meaning outside (suc room) script (state_with shows store context n)) one
      ∙ ap (on_parsed (λ commands. commands_meaning (run_in outside room) (calls_in room) commands [] state) state) parsed
      ∙ ap (λ o. and_then o (on_normal (λ s r. commands_meaning (run_in outside room) (calls_in room) [] r s)))
      (expr_command room level store context only.words name argument value two written short written' short' binding at_level computes shows left)

  -- a script of `expr` alone, where there is room for it
  pub expr_gives : (room level : ℕ) (store : Store) (context : Context) (script : List ℕ) (only : Command) (name argument value : List ℕ) → 0 < room → script_of script ≡ Ok (only ∷ []) → length only.words ≡ 2
      → IsWritten only.words name → length name ≤ 65536 → IsWritten (drop 1 only.words) argument → length argument ≤ 65536
      → command_of context.commands (plain_name name) ≡ Some (command.Builtin builtin.Expr) → level ≡ here context.levels store → Computes store level argument value
      → GivesScript outside room script store context 1 value
  expr_gives zero level store context script only name argument value some parsed two written short written' short' binding at_level computes = absurd (omega (arith, some))
  expr_gives (suc room) level store context script only name argument value some parsed two written short written' short' binding at_level computes =
      expr_script room level store context script only name argument value parsed two written short written' short' binding at_level computes

  -- ── commands on texts ──

  -- a script of one command that ends at once with this text
  only_gives : (room : ℕ) (store : Store) (context : Context) (script : List ℕ) (only : Command) (count : ℕ) (text : List ℕ) → script_of script ≡ Ok (only ∷ [])
      → CommandEnds outside room only.words store context count store Normal text → GivesScript outside (suc room) script store context count text
  only_gives room store context script only count text parsed ends = λ shows left.
      let state = state_with shows store context (count + left) in
      ap (on_parsed (λ commands. commands_meaning (run_in outside room) (calls_in room) commands [] state) state) parsed
      ∙ ap (λ o. and_then o (on_normal (λ s r. commands_meaning (run_in outside room) (calls_in room) [] r s))) (ends shows left)

  -- where there is room for it
  pub command_gives : (room below : ℕ) (store : Store) (context : Context) (script : List ℕ) (only : Command) (count : ℕ) (text : List ℕ) → room ≡ suc below → script_of script ≡ Ok (only ∷ [])
      → CommandEnds outside below only.words store context count store Normal text → GivesScript outside room script store context count text
  command_gives room below store context script only count text is parsed ends =
      subst (λ r. GivesScript outside r script store context count text) (sym is) (only_gives below store context script only count text parsed ends)

  -- a command by its name, which is written, and the words behind it
  pub named_end : (room : ℕ) (words : List Word) (store : Store) (context : Context) (store' : Store) (name : List ℕ) (arguments : List (List ℕ)) (count : ℕ) (code : Code) (text : List ℕ)
      → IsWritten words name → length name ≤ 65536 → WordsLead outside room store context (drop 1 words) (name ∷ []) count [] (name ∷ arguments)
      → EndsCall outside (name ∷ arguments) store context store' code text → CommandEnds outside room words store context (count + 1) store' code text
  named_end room [] store context store' name arguments count code text (plain, is) short leads ends = absurd (cc)
  named_end room (word ∷ words) store context store' name arguments count code text written short leads ends = λ shows left.
      let call = called (run_in outside room) (calls_in room) in
      let sum : (count + 1) + left ≡ count + suc left = omega arith in
      ap (λ n. words_meaning (run_in outside room) (calls_in room) (word ∷ words) [] (state_with shows store context n) call) sum
      ∙ at_once room store context (word ∷ words) words [] (name ∷ []) (word_leads_suc room (word ∷ words) 0 store context 0 name [] (omega arith) (written_gives room (word ∷ words) store context name written short)) shows (count + suc left) call
      ∙ leads shows (suc left) call
      ∙ ends room shows left

  -- ── commands ──

  -- a command whose words are plain is called
  command_leads : (room : ℕ) (front : Command) (after : List Command) (previous : List ℕ) (waits : List (Waiting K)) (shows : S) (store : Store) (context : Context) (count : ℕ) (words : List (List ℕ)) (next : Standing K) (shows' : S)
      → 0 < length words → WordsLead outside room store context front.words [] count [] words
      → TakesStep outside (standing (moved (Calls room words) (ForCommand room after ∷ waits)) store context) shows next shows'
      → TakesSteps outside (count + 1) (standing (moved (GoesOn room (front ∷ after) previous) waits) store context) shows next shows'
  command_leads room front after previous waits shows store context count [] next shows' some leads step = absurd (omega (arith, some))
  command_leads room front after previous waits shows store context count (name ∷ arguments) next shows' some leads step = λ left.
      let sum : (count + 1) + left ≡ count + suc left = omega arith in
      ap (finish_from outside (standing (moved (GoesOn room (front ∷ after) previous) waits) store context) shows) sum
      ∙ ap (λ o. and_then (and_then o (next_in outside room after)) (waits_meaning outside waits)) (leads shows (suc left) (called (run_in outside room) (calls_in room)))
      ∙ words_same outside room after [] (name ∷ arguments) waits (state_with shows store context (suc left))
      ∙ step left

  -- the same at a place of a script
  pub place_leads : (room : ℕ) (commands : List Command) (i : ℕ) (previous : List ℕ) (waits : List (Waiting K)) (shows : S) (store : Store) (context : Context) (count : ℕ) (words : List (List ℕ)) (next : Standing K) (shows' : S)
      → 0 < length (words_in_front (drop i commands)) → 0 < length words → WordsLead outside room store context (words_in_front (drop i commands)) [] count [] words
      → TakesStep outside (standing (moved (Calls room words) (ForCommand room (drop (i + 1) commands) ∷ waits)) store context) shows next shows'
      → TakesSteps outside (count + 1) (standing (moved (GoesOn room (drop i commands) previous) waits) store context) shows next shows'
  place_leads room commands i previous waits shows store context count words next shows' front some leads step =
      let found = front_suc commands i front in
      let at : drop (i + 1) commands ≡ drop (suc i) commands = ap (λ k. drop k commands) (add-one i) in
      let leads' : WordsLead outside room store context found.0.words [] count [] words = rw found.1 at leads in
      let step' : TakesStep outside (standing (moved (Calls room words) (ForCommand room (drop (suc i) commands) ∷ waits)) store context) shows next shows' = rw at at step in
      rw found.1 (command_leads room found.0 (drop (suc i) commands) previous waits shows store context count words next shows' some leads' step')

  -- steps, and more steps behind them
  pub steps_on : (m n : ℕ) (first second third : Standing K) (shows shows' shows'' : S) → TakesSteps outside m first shows second shows' → TakesSteps outside n second shows' third shows'' → TakesSteps outside (m + n) first shows third shows''
  steps_on m n first second third shows shows' shows'' one two = λ left.
      let sum : (m + n) + left ≡ m + (n + left) = omega arith in
      ap (finish_from outside first shows) sum ∙ one (n + left) ∙ two left

  -- nothing was done
  pub stays : (way : Standing K) (shows : S) → TakesSteps outside 0 way shows way shows
  stays way shows = λ left. ap (finish_from outside way shows) (none left)

  -- steps behind none
  pub steps_behind : (m n : ℕ) (first second third : Standing K) (shows shows' : S) → m ≡ 0 → TakesSteps outside m first shows second shows → TakesSteps outside n second shows third shows' → TakesSteps outside n first shows third shows'
  steps_behind m n first second third shows shows' zero_steps one two =
      let sum : m + n ≡ n = omega (arith, zero_steps) in
      subst (λ k. TakesSteps outside k first shows third shows') sum (steps_on m n first second third shows shows shows' one two)
