-- Steps. What an interpreter still has to do, and the outcome of doing it, innermost first.
use Rattle.std.specs.Prelude.{ℕ, Bool, List, [], ◌∷◌, ◌++◌, Option, Some}
use Rattle.tcl_words.specs.declared.script.Command.{Command}
use Rattle.tcl_words.specs.declared.script.Word.{Word}
use Rattle.tcl_words.specs.declared.script.Piece.{Piece}
use Rattle.tcl_control.specs.declared.code.Code.{Code}
use Rattle.tcl_control.specs.declared.code.Code.TheVariants.{Normal}
use Rattle.tcl_control.specs.declared.loops.Loop.{Loop}
use Rattle.tcl_commands.specs.declared.branches.Branch.{Branch}
use Rattle.tcl_expr.specs.Resuming.{Resumption, evaluation_told}
use Rattle.tcl_interp.specs.Outside.{Outside}
use Rattle.tcl_interp.specs.Evaluation.{State, Outcome, Ended, OutOfSteps, and_then, on_normal, with_step, with_joined, words_of, on_words, pieces_meaning, element_read, element_within, word_meaning, words_meaning, called, commands_meaning}
use Rattle.tcl_interp.specs.Expressions.{on_value, if_holds, otherwise_meaning, choices_meaning}
use Rattle.tcl_interp.specs.Asked.{run_meaning}
use Rattle.tcl_interp.specs.Plans.{levels_back, procedure_ended, caught, loop_ended, after_body, after_next, next_iteration, iteration_meaning, loop_meaning}
use Rattle.tcl_interp.specs.Acts.{script_meaning, task_meaning, after_step, outside_meaning}
use Rattle.tcl_interp.specs.Scripts.{call_meaning, out_of_global, at_global}
use Rattle.tcl_text.specs.Limits.{most_running}

-- a command whose words are being put together: the commands after it, the words that are whole, what there is of the next
-- one, whether that is a list of words, and what is left of it and after it
pub record Wording : Type 0 where
  pub room : ℕ
  pub after : List Command
  pub whole : List (List ℕ)
  pub so_far : List ℕ
  pub expand : Bool
  pub pieces : List Piece
  pub words : List Word

-- An element whose index is being put together: the room for scripts in it and for indices, the array's name, what there is of the index,
-- and what is left of it.
pub record Indexing : Type 0 where
  pub room : ℕ
  pub depth : ℕ
  pub name : List ℕ
  pub so_far : List ℕ
  pub pieces : List Piece

-- what is done now, with the room for scripts in it
pub data Doing (K : Type 0) : Type 0 where
  Begins : ℕ → List ℕ → Doing K
  GoesOn : ℕ → List Command → List ℕ → Doing K
  Indexes : Indexing → Doing K
  -- an evaluation, with the answer to what it asked
  Evaluates : ℕ → Resumption → Option (List ℕ) → Doing K
  Calls : ℕ → List (List ℕ) → Doing K
  Tests : ℕ → Loop → Doing K
  Steps : ℕ → K → Doing K
  Resumes : ℕ → K → Code → List ℕ → Doing K
  Ends : Code → List ℕ → Doing K

-- what waits for something to end
pub data Waiting (K : Type 0) : Type 0 where
  -- a script, for a command of it
  ForCommand : ℕ → List Command → Waiting K
  -- a command, for a bracket or an element in its words
  ForPart : Wording → Waiting K
  -- an index, for a bracket or an element in it
  ForIndex : Indexing → Waiting K
  -- an evaluation, for a bracket in it
  ForValue : ℕ → Resumption → Waiting K
  -- a loop, for the value of its condition
  ForTest : ℕ → Loop → Waiting K
  -- `if`, for the value of the first condition: its branches from there on, and its last body
  ForChoice : ℕ → List Branch → Option (List ℕ) → Waiting K
  -- a loop, for its body
  ForBody : ℕ → Loop → Waiting K
  -- a loop, for what `for` runs behind the body
  ForNext : ℕ → Loop → Waiting K
  -- a loop, for what `for` runs before it
  ForStart : ℕ → Loop → Waiting K
  -- `catch`, for its script: the name of the variable that takes the result
  ForCatch : Option (List ℕ) → Waiting K
  -- the levels that are there again after a script at fewer of them
  ForLevels : List ℕ → Waiting K
  -- a procedure, for its body
  ForProcedure : Waiting K
  -- a task, for its script
  ForScript : ℕ → K → Waiting K
  -- the interpreter, for the script at global level that it began
  ForAll : Waiting K

-- all that is still to do, innermost first
pub data RestToDo (K : Type 0) : Type 0 where
  Idle : RestToDo K
  Running : Doing K → List (Waiting K) → RestToDo K
  Spent : RestToDo K
  Broken : RestToDo K

-- a script alone at global level, with room for 200 scripts one in another
abbrev pub rest_of_script : {K : Type 0} → List ℕ → RestToDo K
rest_of_script text = Running (Begins most_running text) (ForAll ∷ [])

-- a task alone
abbrev pub rest_of_task : {K : Type 0} → K → RestToDo K
rest_of_task task = Running (Resumes most_running task Normal []) []

module _ {S K : Type 0} (outside : Outside S K) where
  -- the commands that are left of a script
  abbrev pub script_rest : ℕ → List Command → List ℕ → State S → Outcome S
  script_rest room commands result state =
      commands_meaning (script_meaning outside room) (call_meaning (outside_meaning outside) (script_meaning outside room)) commands result state

  -- what is left of the words of a command, and then its call
  abbrev pub words_rest : ℕ → List Word → List (List ℕ) → State S → Outcome S
  words_rest room words whole state =
      words_meaning (script_meaning outside room) (call_meaning (outside_meaning outside) (script_meaning outside room)) words whole state
      (called (script_meaning outside room) (call_meaning (outside_meaning outside) (script_meaning outside room)))

  -- a word is whole, and then come the words behind it
  abbrev pub word_done : ℕ → Bool → List Word → List (List ℕ) → State S → List ℕ → Outcome S
  word_done room expand words whole state text = on_words state (λ state' more. words_rest room words (whole ++ more) state') (words_of expand text)

  -- what is left of a word, and then of the words behind it
  abbrev pub word_rest : ℕ → List Piece → List ℕ → Bool → List Word → List (List ℕ) → State S → Outcome S
  word_rest room pieces so_far expand words whole state =
      word_meaning (script_meaning outside room) pieces so_far state (word_done room expand words whole)

  -- what is left of an index behind what there is of it, and then its element
  abbrev pub index_rest : Indexing → List ℕ → State S → Outcome S
  index_rest x so_far state =
      pieces_meaning (script_meaning outside x.room) (element_within (script_meaning outside x.room) x.depth) x.pieces so_far state (element_read x.name)

  abbrev pub loop_rest : ℕ → Loop → State S → Outcome S
  loop_rest room looping state = loop_meaning (script_meaning outside room) looping state

  -- what is left of an evaluation
  abbrev pub value_rest : ℕ → Resumption → Option (List ℕ) → State S → Outcome S
  value_rest room evaluation given state = run_meaning (script_meaning outside room) (evaluation_told evaluation given) state

  -- the first branch of `if`, by whether its condition holds
  abbrev pub choice_rest : ℕ → List Branch → Option (List ℕ) → Bool → State S → Outcome S
  choice_rest room [] otherwise holds state = otherwise_meaning (script_meaning outside room) otherwise state
  choice_rest room (branch ∷ branches) otherwise holds state =
      if_holds (script_meaning outside room branch.body) (choices_meaning (script_meaning outside room) branches otherwise) holds state

  -- the body of a loop, and what comes after it
  abbrev pub iteration_rest : ℕ → Loop → State S → Outcome S
  iteration_rest room looping state = iteration_meaning (script_meaning outside room) looping (loop_rest room looping) state

  abbrev pub task_rest : ℕ → K → State S → Code → List ℕ → Outcome S
  task_rest room task state code text = task_meaning outside (script_meaning outside room) task state code text

  abbrev pub doing_meaning : Doing K → State S → Outcome S
  doing_meaning (Begins room text) state = script_meaning outside room text state
  doing_meaning (GoesOn room commands result) state = script_rest room commands result state
  doing_meaning (Indexes x) state = index_rest x x.so_far state
  doing_meaning (Evaluates room evaluation given) state = value_rest room evaluation given state
  doing_meaning (Calls room words) state = with_step state (call_meaning (outside_meaning outside) (script_meaning outside room) words)
  doing_meaning (Tests room looping) state = loop_rest room looping state
  doing_meaning (Steps room task) state = with_step state (after_step outside (script_meaning outside room) state.steps task)
  doing_meaning (Resumes room task code text) state = task_rest room task state code text
  doing_meaning (Ends code text) state = Ended state code text

  abbrev pub waiting_meaning : Waiting K → State S → Code → List ℕ → Outcome S
  waiting_meaning (ForCommand room after) state code text = on_normal (λ state' result. script_rest room after result state') state code text
  waiting_meaning (ForPart w) state code text =
      on_normal (λ state' piece.
      and_then (with_joined w.so_far piece state' (λ state'' joined. word_rest w.room w.pieces joined w.expand w.words w.whole state''))
      (on_normal (λ state'' result. script_rest w.room w.after result state'')))
      state code text
  waiting_meaning (ForIndex x) state code text =
      on_normal (λ state' piece. with_joined x.so_far piece state' (λ state'' joined. index_rest x joined state'')) state code text
  waiting_meaning (ForValue room evaluation) state code text = on_normal (λ state' value. value_rest room evaluation (Some value) state') state code text
  waiting_meaning (ForTest room looping) state code text = on_value (if_holds (iteration_rest room looping) loop_ended) state code text
  waiting_meaning (ForChoice room branches otherwise) state code text = on_value (choice_rest room branches otherwise) state code text
  waiting_meaning (ForBody room looping) state code text =
      after_body (next_iteration (script_meaning outside room) looping.next (loop_rest room looping)) state code text
  waiting_meaning (ForNext room looping) state code text = after_next (loop_rest room looping) state code text
  waiting_meaning (ForStart room looping) state code text = on_normal (λ state' result. loop_rest room looping state') state code text
  waiting_meaning (ForCatch name) state code text = caught name state code text
  waiting_meaning (ForLevels levels) state code text = levels_back levels state code text
  waiting_meaning ForProcedure state code text = procedure_ended state code text
  waiting_meaning (ForScript room task) state code text = task_rest room task state (out_of_global code) text
  waiting_meaning ForAll state code text = at_global state (out_of_global code) text

  abbrev pub waits_meaning : List (Waiting K) → State S → Code → List ℕ → Outcome S
  waits_meaning [] state code text = Ended state code text
  waits_meaning (waiting ∷ waits) state code text = and_then (waiting_meaning waiting state code text) (waits_meaning waits)

  -- the outcome of doing all that is still to do
  abbrev pub finish : RestToDo K → State S → Outcome S
  finish Idle state = OutOfSteps state
  finish (Running doing waits) state = and_then (doing_meaning doing state) (waits_meaning waits)
  finish Spent state = OutOfSteps state
  finish Broken state = OutOfSteps state
