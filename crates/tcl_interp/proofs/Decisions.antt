-- Conditions of which it is known at once whether they hold: straight code says so, also behind a script in brackets in front that is plain.
use Rattle.std.proofs.Common.{◌≡◌, ℕ, ◌+◌, Bool, List, [], ◌∷◌, Option, Some, None, Ok, refl, ap, sym, subst, ◌∙◌, arith}
use Rattle.std.specs.Prelude.{ℤ}
use Rattle.std.specs.Fmt.{signed_decimal}
use Rattle.tcl_text.specs.Readings.{integer_of}
use Rattle.tcl_vars.specs.Store.{Store, number_in}
use Rattle.tcl_expr.specs.declared.state.State.TheVariants as state
use Rattle.tcl_expr.specs.declared.step.Step.{Step}
use Rattle.tcl_expr.specs.declared.step.Step.TheVariants as step
use Rattle.tcl_expr.specs.Reading.{compiled}
use Rattle.tcl_expr.specs.Resuming.{Resumption}
use Rattle.tcl_expr.specs.Straight.{straight}
use Rattle.tcl_commands.specs.declared.branches.Branch.{Branch}
use Rattle.tcl_table.specs.Levels.{here}
use Rattle.tcl_control.specs.declared.code.Code.TheVariants.{Normal}
use Rattle.tcl_control.specs.declared.context.Context.{Context}
use Rattle.tcl_control.specs.ExpressionForms.{evaluation_begins, evaluation_begun}
use Rattle.tcl_control.specs.Expressions.{truth_of_text}
use Rattle.tcl_interp.specs.Outside.{Outside}
use Rattle.tcl_interp.specs.Evaluation.{and_then}
use Rattle.tcl_interp.specs.Finish.{Begins, Ends, Evaluates, ForChoice, ForValue, Waiting, waits_meaning}
use Rattle.tcl_interp.specs.Moves.{Standing, begun_as, choice_move, chosen_move, expression_begins, moved, standing}
use Rattle.tcl_interp.specs.Openings.{Knows}
use Rattle.tcl_interp.specs.Quiet.{Leads}
use Rattle.tcl_interp.specs.Simple.{GivesScript}
use Rattle.tcl_interp.specs.Steps.{TakesSteps, finish_from}
use Rattle.tcl_interp.specs.Whole.{Decides}
use Rattle.tcl_interp.proofs.OnwardLemmas.{end_leads, steps_lead}
use Rattle.tcl_interp.proofs.Stepping.{leads_none}
use Rattle.tcl_interp.proofs.Straight.{asks_script, given_moves, opened_leads}

-- an expression that was read begins with its steps
begun_with : (text : List ℕ) (steps : List Step) → compiled text ≡ Ok steps → evaluation_begins text ≡ Ok (record { steps = steps; stack = []; state = state.Ready })
unfolding evaluation_begins
begun_with text steps is = ap (evaluation_begun text) is

module _ {S K : Type 0} (outside : Outside S K) where
  -- straight code knows it without a step
  pub known_decides : (room level : ℕ) (store : Store) (context : Context) (text : List ℕ) (holds : Bool)
      → level ≡ here context.levels store → Knows store level text holds → Decides outside room store context text 0 holds
  known_decides room level store context text holds at_level (n, integer, truth) = (
    n,
    truth,
    λ waits shows left.
        let from : Standing K = standing (moved (expression_begins room text) waits) store context in
        let zero : 0 + left ≡ left = omega arith in
        ap (finish_from outside from shows) zero
        ∙ leads_none outside from (standing (moved (Ends Normal (signed_decimal n)) waits) store context) shows (opened_leads store context room waits text level n at_level integer) left,
  )

  -- a script in brackets gives its result to what waits for it
  script_given : (room : ℕ) (store : Store) (context : Context) (script value : List ℕ) (count : ℕ) (waits : List (Waiting K)) (shows : S)
      → GivesScript outside room script store context count value
      → TakesSteps outside count (standing (moved (Begins room script) waits) store context) shows (standing (moved (Ends Normal value) waits) store context) shows
  script_given room store context script value count waits shows gives = λ left. ap (λ o. and_then o (waits_meaning outside waits)) (gives shows left)

  -- straight code knows it behind such a script
  pub behind_decides : (room level : ℕ) (store : Store) (context : Context) (text script value : List ℕ) (rest : List Step) (first n : ℤ) (count : ℕ) (holds : Bool)
      → level ≡ here context.levels store → compiled text ≡ Ok (step.Command script ∷ rest) → GivesScript outside room script store context count value → integer_of value ≡ Some first
      → straight (number_in store level) 0 rest (first ∷ []) ≡ Some n → truth_of_text (signed_decimal n) ≡ Ok holds → Decides outside room store context text count holds
  behind_decides room level store context text script value rest first n count holds at_level read gives is comes truth = (
    n,
    truth,
    λ waits shows.
        let evaluation : Resumption = record { steps = step.Command script ∷ rest; stack = []; state = state.Ready } in
        let next : Resumption = record { steps = rest; stack = []; state = state.Waiting } in
        let from : Standing K = standing (moved (Evaluates room evaluation None) waits) store context in
        let asks : Standing K = standing (moved (Begins room script) (ForValue room next ∷ waits)) store context in
        let ended : Standing K = standing (moved (Ends Normal value) (ForValue room next ∷ waits)) store context in
        let given : Standing K = standing (moved (Evaluates room next (Some value)) waits) store context in
        let last : Standing K = standing (moved (Ends Normal (signed_decimal n)) waits) store context in
        let ran : TakesSteps outside count asks shows last shows =
        steps_lead outside count asks given last shows shows
        (steps_lead outside count asks ended given shows shows (script_given room store context script value count (ForValue room next ∷ waits) shows gives)
        (end_leads store context Normal value (ForValue room next ∷ waits) given refl))
        (given_moves store context room waits value rest level first n at_level is comes) in
        λ left.
        ap (λ r. finish_from outside (standing (moved (begun_as room r) waits) store context) shows (count + left)) (begun_with text (step.Command script ∷ rest) read)
        ∙ leads_none outside from asks shows (asks_script store context room waits script rest) (count + left) ∙ ran left,
  )

  -- the first branch of `if` is chosen by it
  pub decided_chooses : (room : ℕ) (store : Store) (context : Context) (branch : Branch) (branches : List Branch) (otherwise : Option (List ℕ)) (waits : List (Waiting K)) (shows : S) (count : ℕ) (holds : Bool)
      → Decides outside room store context branch.test count holds
      → TakesSteps outside count (standing (choice_move room (branch ∷ branches) otherwise waits) store context) shows
      (standing (chosen_move room (branch ∷ branches) otherwise waits (Ok holds)) store context) shows
  decided_chooses room store context branch branches otherwise waits shows count holds (n, truth, decides) =
      let first : Standing K = standing (choice_move room (branch ∷ branches) otherwise waits) store context in
      let ended : Standing K = standing (moved (Ends Normal (signed_decimal n)) (ForChoice room (branch ∷ branches) otherwise ∷ waits)) store context in
      let last : Standing K = standing (chosen_move room (branch ∷ branches) otherwise waits (Ok holds)) store context in
      steps_lead outside count first ended last shows shows (decides (ForChoice room (branch ∷ branches) otherwise ∷ waits) shows)
      (end_leads store context Normal (signed_decimal n) (ForChoice room (branch ∷ branches) otherwise ∷ waits) last
      (ap (λ value. standing (chosen_move room (branch ∷ branches) otherwise waits value) store context) (sym truth)))
