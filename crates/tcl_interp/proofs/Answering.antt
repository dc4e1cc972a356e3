-- What a reply makes of an evaluation that asked: one move.
use Rattle.std.proofs.Common.{◌≡◌, ℕ, Bool, true, false, List, ◌∷◌, Option, Some, Result, Ok, Err, IfOk, refl, ap, sym, ◌∙◌}
use Rattle.tcl_vars.specs.Store.{Store, variable_in, element_in}
use Rattle.tcl_text.specs.declared.fault.ReadFault.{ReadFault}
use Rattle.tcl_expr.specs.declared.ask.Ask.{Ask}
use Rattle.tcl_expr.specs.declared.ask.Ask.TheVariants as ask
use Rattle.tcl_expr.specs.Resuming.{Resumption, Tells, evaluation_told, is_waiting, state_after}
use Rattle.tcl_expr.specs.Machine.{AsksBy}
use Rattle.tcl_control.specs.declared.code.Code.TheVariants.{Normal, Error}
use Rattle.tcl_control.specs.declared.context.Context.{Context}
use Rattle.tcl_table.specs.Levels.{here}
use Rattle.tcl_table.specs.Texts.{element_name}
use Rattle.tcl_interp.specs.declared.expressions.Reply.{Reply}
use Rattle.tcl_interp.specs.declared.expressions.Reply.TheVariants as reply
use Rattle.tcl_interp.specs.Finish.{Begins, Evaluates, Ends, Waiting, ForValue}
use Rattle.tcl_interp.specs.Moves.{Moved, Standing, moved, standing, value_given, asked_move}
use Rattle.tcl_interp.specs.Quiet.{IsQuiet, Leads, Moves, MovesOn}
use Rattle.tcl_interp.specs.Rests.{moved_of, standing_of}
use Rattle.tcl_interp.specs.declared.machine.Frame.{Frame}
use Rattle.tcl_interp.specs.declared.machine.Now.{Now}
use Rattle.tcl_interp.specs.Replies.{found, reply_to}

-- whether the evaluation that asked waits
abbrev pub waits_for : Reply → Bool
waits_for (reply.Given text) = true
waits_for (reply.Missing text) = true
waits_for (reply.Script script) = true
waits_for (reply.Value text) = false

found_waits : (name : List ℕ) (value : Result (List ℕ) ReadFault) → true ≡ waits_for (found name value)
found_waits name (Ok text) = refl
found_waits name (Err fault) = refl

reply_waits : (level : ℕ) (store : Store) (asked : Ask) → is_waiting (state_after asked) ≡ waits_for (reply_to level store asked)
reply_waits level store (ask.Variable name) = found_waits name (variable_in store level name)
reply_waits level store (ask.Element array index) = found_waits (element_name array index) (element_in store level array index)
reply_waits level store (ask.Command script) = refl
reply_waits level store (ask.Value text) = refl

module _ {K : Type 0} where
  abbrev pub reply_move : ℕ → Resumption → List (Waiting K) → Reply → Moved K
  reply_move room next waits (reply.Given text) = moved (Evaluates room next (Some text)) waits
  reply_move room next waits (reply.Missing text) = moved (Ends Error text) waits
  reply_move room next waits (reply.Script script) = moved (Begins room script) (ForValue room next ∷ waits)
  reply_move room next waits (reply.Value text) = moved (Ends Normal text) waits

  found_move : (room : ℕ) (next : Resumption) (waits : List (Waiting K)) (name : List ℕ) (value : Result (List ℕ) ReadFault) → reply_move room next waits (found name value) ≡ moved (value_given room next name value) waits
  found_move room next waits name (Ok text) = refl
  found_move room next waits name (Err fault) = refl

  asked_moves : (level : ℕ) (store : Store) (room : ℕ) (next : Resumption) (waits : List (Waiting K)) (asked : Ask) → reply_move room next waits (reply_to level store asked) ≡ asked_move level store room next waits asked
  asked_moves level store room next waits (ask.Variable name) = found_move room next waits name (variable_in store level name)
  asked_moves level store room next waits (ask.Element array index) = found_move room next waits (element_name array index) (element_in store level array index)
  asked_moves level store room next waits (ask.Command script) = refl
  asked_moves level store room next waits (ask.Value text) = refl

  -- one move leads on by the reply
  abbrev pub RepliesBy : Store → Context → ℕ → List (Waiting K) → Resumption → Option (List ℕ) → Resumption → Reply → Type 0
  RepliesBy store context room waits evaluation given next replied =
      Moves (standing (moved (Evaluates room evaluation given) waits) store context) (standing (reply_move room next waits replied) store context) × (is_waiting next.state ≡ waits_for replied)

  pub replies_by : (store : Store) (context : Context) (room : ℕ) (waits : List (Waiting K)) (evaluation : Resumption) (given : Option (List ℕ)) (next : Resumption) (level : ℕ) (asked : Ask) (replied : Reply)
      → level ≡ here context.levels store → Tells (evaluation_told evaluation given) (Ok asked) next → AsksBy evaluation.steps asked next.steps → replied ≡ reply_to level store asked
      → RepliesBy store context room waits evaluation given next replied
  replies_by store context room waits evaluation given next level asked replied at_level tells asks is =
      let same : reply_move room next waits replied ≡ asked_move (here context.levels store) store room next waits asked = ap (reply_move room next waits) is ∙ asked_moves level store room next waits asked ∙ ap (λ n. asked_move n store room next waits asked) at_level in
      (((Ok asked, next, tells.0, asks, same), refl, refl), ap is_waiting tells.1 ∙ reply_waits level store asked ∙ sym (ap waits_for is))

  -- what begins there begins behind all moves before it
  pub begins_on : {E : Type 0} (begun : Result (Now K) E) (frames : List (Frame K)) (store : Store) (context : Context) (from between : Standing K) (next : Moved K)
      → Leads from between → IsQuiet between.moved → Moves between (standing next store context)
      → IfOk begun (λ now. moved_of now frames ≡ next) → IfOk begun (λ now. MovesOn from (standing_of now frames store context))
  begins_on (Ok now) frames store context from between next leads quiet moves is = (between, leads, quiet, rw is moves)
  begins_on (Err fault) frames store context from between next leads quiet moves is = tt
