-- Doing what is still to do lets steps only fall.
use Rattle.std.proofs.Common.{ℕ, ◌≤◌, Bool, List, [], ◌∷◌, ◌++◌, length, nat_le, Option, Some}
use Rattle.tcl_words.specs.declared.script.Command.{Command}
use Rattle.tcl_words.specs.declared.script.Piece.{Piece}
use Rattle.tcl_words.specs.declared.script.Word.{Word}
use Rattle.tcl_vars.specs.Store.{element_in}
use Rattle.tcl_control.specs.declared.code.Code.{Code}
use Rattle.tcl_control.specs.declared.code.Code.TheVariants.{Normal, Error, Return, Break, Continue}
use Rattle.tcl_control.specs.declared.loops.Loop.{Loop}
use Rattle.tcl_table.specs.Texts.{element_name, limit_text}
use Rattle.tcl_commands.specs.declared.branches.Branch.{Branch}
use Rattle.tcl_expr.specs.Resuming.{evaluation_told}
use Rattle.tcl_interp.specs.Outside.{Outside}
use Rattle.tcl_interp.specs.Evaluation.{State, Outcome, Ended, seen_frame, words_of, element_read, element_within, element_meaning, with_joined, called}
use Rattle.tcl_interp.specs.Expressions.{if_holds, choices_meaning}
use Rattle.tcl_interp.specs.Plans.{loop_ended, next_iteration}
use Rattle.tcl_interp.specs.Acts.{script_meaning, after_step, outside_meaning}
use Rattle.tcl_interp.specs.Scripts.{out_of_global, at_global, call_meaning}
use Rattle.tcl_interp.specs.Finish.{Wording, Indexing, Doing, Begins, GoesOn, Indexes, Evaluates, Calls, Tests, Steps, Resumes, Ends, Waiting, ForCommand, ForPart, ForIndex, ForValue, ForTest, ForChoice, ForBody, ForNext, ForStart, ForCatch, ForLevels, ForProcedure, ForScript, ForAll, RestToDo, Idle, Running, Spent, Broken, script_rest, words_rest, word_done, word_rest, index_rest, loop_rest, choice_rest, iteration_rest, doing_meaning, waiting_meaning, waits_meaning, finish}
use Rattle.tcl_interp.proofs.Bounds.{Bounded, Within, within_after_body, within_after_next, within_after_step, within_and_then, within_call, within_choices, within_commands, within_called, within_cond, within_element, within_element_within, within_if, within_next, within_on_normal, within_on_read, within_on_value, within_on_words, within_otherwise, within_pieces, within_run, within_script, within_stepped, within_task, within_iteration, within_iterations, within_words}

pub within_at_global : {S : Type 0} (n : ℕ) (state : State S) (code : Code) (text : List ℕ) → state.steps ≤ n → Within n (at_global state code text)
within_at_global n state Normal text w = w
within_at_global n state Error text w = w
within_at_global n state (Return code) text w = w
within_at_global n state Break text w = w
within_at_global n state Continue text w = w

module _ {S K : Type 0} (outside : Outside S K) where
  abbrev run_in : ℕ → List ℕ → State S → Outcome S
  run_in room = script_meaning outside room

  falls_in : (room : ℕ) → Bounded (run_in room)
  falls_in room = within_script outside room

  call_falls : (room : ℕ) → Bounded (call_meaning (outside_meaning outside) (run_in room))
  call_falls room = within_call outside (run_in room) (falls_in room)

  within_script_rest : (n room : ℕ) (commands : List Command) (result : List ℕ) (state : State S) → state.steps ≤ n → Within n (script_rest outside room commands result state)
  within_script_rest n room = within_commands (run_in room) (call_meaning (outside_meaning outside) (run_in room)) (falls_in room) (call_falls room) n

  within_words_rest : (n room : ℕ) (words : List Word) (whole : List (List ℕ)) (state : State S) → state.steps ≤ n → Within n (words_rest outside room words whole state)
  within_words_rest n room words whole state w =
      within_words (run_in room) (call_meaning (outside_meaning outside) (run_in room)) (falls_in room) n words whole state (called (run_in room) (call_meaning (outside_meaning outside) (run_in room))) w
      (λ state' all w'. within_called (run_in room) (call_meaning (outside_meaning outside) (run_in room)) (falls_in room) (call_falls room) n state' all w')

  within_word_rest : (n room : ℕ) (pieces : List Piece) (so_far : List ℕ) (expand : Bool) (words : List Word) (whole : List (List ℕ)) (state : State S) → state.steps ≤ n
      → Within n (word_rest outside room pieces so_far expand words whole state)
  within_word_rest n room pieces so_far expand words whole state w =
      within_pieces (run_in room) (element_meaning (run_in room)) (falls_in room) (within_element (run_in room) (falls_in room)) n pieces so_far state
      (word_done outside room expand words whole) w
      (λ state' text w'. within_on_words n state' (λ state'' more. words_rest outside room words (whole ++ more) state'') (words_of expand text) w' (λ more. within_words_rest n room words (whole ++ more) state' w'))

  within_index_rest : (n : ℕ) (x : Indexing) (so_far : List ℕ) (state : State S) → state.steps ≤ n → Within n (index_rest outside x so_far state)
  within_index_rest n x so_far state w =
      within_pieces (run_in x.room) (element_within (run_in x.room) x.depth) (falls_in x.room) (within_element_within (run_in x.room) (falls_in x.room) x.depth) n x.pieces so_far state (element_read x.name) w
      (λ state' text w'. within_on_read n (element_name x.name text) state' (λ state'' value. Ended state'' Normal value) (element_in state'.store (seen_frame state') x.name text) w' (λ value. w'))

  within_loop_rest : (n room : ℕ) (looping : Loop) (state : State S) → state.steps ≤ n → Within n (loop_rest outside room looping state)
  within_loop_rest n room looping state w = within_iterations (run_in room) (falls_in room) n looping state.steps state w

  within_iteration_rest : (n room : ℕ) (looping : Loop) (state : State S) → state.steps ≤ n → Within n (iteration_rest outside room looping state)
  within_iteration_rest n room looping state w = within_iteration (run_in room) (falls_in room) n looping (loop_rest outside room looping) (within_loop_rest n room looping) state w

  within_choice_rest : (n room : ℕ) (branches : List Branch) (otherwise : Option (List ℕ)) (holds : Bool) (state : State S) → state.steps ≤ n → Within n (choice_rest outside room branches otherwise holds state)
  within_choice_rest n room [] otherwise holds state w = within_otherwise (run_in room) (falls_in room) n otherwise state w
  within_choice_rest n room (branch ∷ branches) otherwise holds state w =
      within_if n (run_in room branch.body) (choices_meaning (run_in room) branches otherwise) (λ state' w'. falls_in room n branch.body state' w')
      (λ state' w'. within_choices (run_in room) (falls_in room) n branches otherwise state' w') holds state w

  within_doing : (n : ℕ) (doing : Doing K) (state : State S) → state.steps ≤ n → Within n (doing_meaning outside doing state)
  within_doing n (Begins room text) state w = falls_in room n text state w
  within_doing n (GoesOn room commands result) state w = within_script_rest n room commands result state w
  within_doing n (Indexes x) state w = within_index_rest n x x.so_far state w
  within_doing n (Evaluates room evaluation given) state w = within_run (run_in room) (falls_in room) n (evaluation_told evaluation given) state w
  within_doing n (Calls room words) state w = within_stepped n state.steps state (call_meaning (outside_meaning outside) (run_in room) words) w (λ state' w'. call_falls room n words state' w')
  within_doing n (Tests room looping) state w = within_loop_rest n room looping state w
  within_doing n (Steps room task) state w =
      within_stepped n state.steps state (after_step outside (run_in room) state.steps task) w (λ state' w'. within_after_step outside (run_in room) (falls_in room) n state.steps task state' w')
  within_doing n (Resumes room task code text) state w = within_task outside (run_in room) (falls_in room) n task state code text w
  within_doing n (Ends code text) state w = w

  within_part : (n : ℕ) (w : Wording) (state : State S) (piece : List ℕ) → state.steps ≤ n → Within n (waiting_meaning outside (ForPart w) state Normal piece)
  within_part n x state piece w =
      within_and_then n _ _
      (within_cond n (nat_le (length (x.so_far ++ piece)) 65536) _ _ (within_word_rest n x.room x.pieces (x.so_far ++ piece) x.expand x.words x.whole state w) w)
      (within_on_normal n _ (λ state' result w'. within_script_rest n x.room x.after result state' w'))

  within_waiting : (n : ℕ) (waiting : Waiting K) (state : State S) (code : Code) (text : List ℕ) → state.steps ≤ n → Within n (waiting_meaning outside waiting state code text)
  within_waiting n (ForCommand room after) state code text w = within_on_normal n _ (λ state' result w'. within_script_rest n room after result state' w') state code text w
  within_waiting n (ForPart x) state code text w = within_on_normal n _ (λ state' piece w'. within_part n x state' piece w') state code text w
  within_waiting n (ForIndex x) state code text w =
      within_on_normal n (λ state' piece. with_joined x.so_far piece state' (λ state'' joined. index_rest outside x joined state''))
      (λ state' piece w'. within_cond n (nat_le (length (x.so_far ++ piece)) 65536) (index_rest outside x (x.so_far ++ piece) state') (Ended state' Error limit_text)
      (within_index_rest n x (x.so_far ++ piece) state' w') w')
      state code text w
  within_waiting n (ForValue room evaluation) state code text w =
      within_on_normal n _ (λ state' value w'. within_run (run_in room) (falls_in room) n (evaluation_told evaluation (Some value)) state' w') state code text w
  within_waiting n (ForTest room looping) state code text w =
      within_on_value n (if_holds (iteration_rest outside room looping) loop_ended) (within_if n (iteration_rest outside room looping) loop_ended (within_iteration_rest n room looping) (λ state' w'. w')) state code text w
  within_waiting n (ForChoice room branches otherwise) state code text w =
      within_on_value n (choice_rest outside room branches otherwise) (within_choice_rest n room branches otherwise) state code text w
  within_waiting n (ForBody room looping) state code text w =
      within_after_body n (next_iteration (run_in room) looping.next (loop_rest outside room looping))
      (within_next (run_in room) (falls_in room) n looping.next (loop_rest outside room looping) (within_loop_rest n room looping)) state code text w
  within_waiting n (ForNext room looping) state code text w = within_after_next n (loop_rest outside room looping) (within_loop_rest n room looping) state code text w
  within_waiting n (ForStart room looping) state code text w = within_on_normal n _ (λ state' result w'. within_loop_rest n room looping state' w') state code text w
  within_waiting n (ForCatch name) state code text w = w
  within_waiting n (ForLevels levels) state code text w = w
  within_waiting n ForProcedure state code text w = w
  within_waiting n (ForScript room task) state code text w = within_task outside (run_in room) (falls_in room) n task state (out_of_global code) text w
  within_waiting n ForAll state code text w = within_at_global n state (out_of_global code) text w

  within_waits : (n : ℕ) (waits : List (Waiting K)) (state : State S) (code : Code) (text : List ℕ) → state.steps ≤ n → Within n (waits_meaning outside waits state code text)
  within_waits n [] state code text w = w
  within_waits n (waiting ∷ waits) state code text w =
      within_and_then n (waiting_meaning outside waiting state code text) (waits_meaning outside waits) (within_waiting n waiting state code text w) (within_waits n waits)

  pub within_finish : (n : ℕ) (rest : RestToDo K) (state : State S) → state.steps ≤ n → Within n (finish outside rest state)
  within_finish n Idle state w = tt
  within_finish n (Running doing waits) state w = within_and_then n (doing_meaning outside doing state) (waits_meaning outside waits) (within_doing n doing state w) (within_waits n waits)
  within_finish n Spent state w = tt
  within_finish n Broken state w = tt
