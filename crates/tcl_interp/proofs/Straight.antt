-- Where straight code says a value, the evaluation comes to it by moves that take no step.
use Rattle.std.proofs.Common.{◌≡◌, ◌<◌, ℕ, Bool, length, get_or, arith, List, [], ◌∷◌, ◌++◌, Option, Some, None, is_some, Result, Ok, Err, refl, ap, sym, ◌∙◌, subst, append_assoc}
use Rattle.std.specs.Int.{w64}
use Rattle.std.specs.Prelude.{ℤ, FitsSigned}
use Rattle.std.specs.Fmt.{signed_decimal}
use Rattle.tcl_text.specs.Readings.{integer_of, is_nonzero, boolean_by, boolean_of}
use Rattle.tcl_text.proofs.WrittenIntegers.{written_integer}
use Rattle.tcl_text.specs.declared.fault.ReadFault.{ReadFault}
use Rattle.tcl_vars.specs.Store.{Store, variable_in, number_read, number_in}
use Rattle.tcl_expr.specs.declared.ask.Ask.TheVariants as ask
use Rattle.tcl_expr.specs.declared.state.State.TheVariants as state
use Rattle.tcl_expr.specs.declared.step.Step.{Step}
use Rattle.tcl_expr.specs.declared.step.Step.TheVariants as step
use Rattle.tcl_expr.specs.declared.value.Value.{Value}
use Rattle.tcl_expr.specs.declared.value.Value.TheVariants.{Words}
use Rattle.tcl_expr.specs.Run.{Run, Ends as RunEnds}
use Rattle.tcl_expr.specs.Steps.{execute}
use Rattle.tcl_expr.specs.Straight.{straight, ComesTo}
use Rattle.tcl_expr.specs.Resuming.{Resumption, evaluation_told, is_waiting}
use Rattle.tcl_expr.proofs.StraightLemmas.{goes, begins_ready}
use Rattle.tcl_control.specs.declared.code.Code.TheVariants.{Normal}
use Rattle.tcl_control.specs.declared.context.Context.{Context}
use Rattle.tcl_control.specs.declared.loops.Loop.{Loop}
use Rattle.tcl_control.specs.declared.loops.Test.TheVariants.{Holds}
use Rattle.tcl_control.specs.Expressions.{truth_of_text, truth_or_text}
use Rattle.tcl_table.specs.Levels.{here}
use Rattle.tcl_commands.specs.declared.branches.Branch.{Branch}
use Rattle.tcl_interp.specs.Finish.{Begins, Evaluates, Ends, Waiting, ForTest, ForChoice, ForValue}
use Rattle.tcl_interp.specs.Moves.{Standing, moved, standing, value_given, begun_as, expression_begins, choice_move, chosen_move, iteration_move, test_move, end_move}
use Rattle.tcl_interp.specs.Openings.{IsInteger, Knows}
use Rattle.tcl_interp.specs.Quiet.{Moves, Leads, MovesOn}
use Rattle.tcl_interp.proofs.Weights.{leads_on}

module _ {K : Type 0} (store : Store) (context : Context) (room : ℕ) (waits : List (Waiting K)) (from : Standing K) where
  -- an evaluation, with an answer
  abbrev evaluates : Resumption → Option (List ℕ) → Standing K
  evaluates evaluation given = standing (moved (Evaluates room evaluation given) waits) store context

  -- what is left once something was asked
  abbrev behind : List Step → List Value → Resumption
  behind steps values = record { steps = steps; stack = values; state = state.Waiting }

  -- moves have led to an evaluation, of which these steps are left, and this is to come
  abbrev At : List Step → Run → Type 0
  At steps run =
      (evaluation : Resumption) × (given : Option (List ℕ)) × Leads from (evaluates evaluation given) × ((taken : List Step) × (evaluation.steps ≡ taken ++ steps))
      × (evaluation_told evaluation given ≡ run)

  past : (own : Step) (steps : List Step) (run next : Run) → run ≡ next → At (own ∷ steps) run → At steps next
  past own steps run next e (evaluation, given, leads, (taken, split), told) =
      (evaluation, given, leads, (taken ++ own ∷ [], split ∙ sym (append_assoc taken (own ∷ []) steps)), told ∙ e)

  -- a variable that is an integer is asked: one move
  asked : (name : List ℕ) (steps : List Step) (values : List Value) (i : ℤ) → number_in store (here context.levels store) name ≡ Some i
      → At (step.Variable name ∷ steps) (execute 0 (step.Variable name ∷ steps) values) → (text : List ℕ) × (integer_of text ≡ Some i) × At steps (execute 0 steps (Words text ∷ values))
  asked name steps values i is (evaluation, given, leads, split, told) = by (variable_in store (here context.levels store) name) refl is
    where
      by : (r : Result (List ℕ) ReadFault) → variable_in store (here context.levels store) name ≡ r → number_read r ≡ Some i
          → (text : List ℕ) × (integer_of text ≡ Some i) × At steps (execute 0 steps (Words text ∷ values))
      by (Ok text) found e =
          let next = behind steps values in
          let move : Moves (evaluates evaluation given) (evaluates next (Some text)) =
          ((Ok (ask.Variable name), next, told, split, ap (λ r. moved (value_given room next name r) waits) (sym found)), refl, refl) in
          (text, e, (next, Some text, leads_on from (evaluates evaluation given) (evaluates next (Some text)) leads move, ([], refl), refl))
      by (Err fault) found e = absurd (cc)

  -- the value is there: one move
  ends : (text : List ℕ) → At [] (RunEnds (Ok text)) → MovesOn from (standing (moved (Ends Normal text) waits) store context)
  ends text (evaluation, given, leads, split, told) =
      (evaluates evaluation given, leads, tt, ((Ok (ask.Value text), behind [] [], told, split, refl), refl, refl))

-- an evaluation of which straight code says the value ends with that, in decimal
pub straight_moves : {K : Type 0} (store : Store) (context : Context) (room : ℕ) (waits : List (Waiting K)) (evaluation : Resumption) (given : Option (List ℕ)) (level : ℕ) (n : ℤ)
    → is_some given ≡ is_waiting evaluation.state → level ≡ here context.levels store → ComesTo (number_in store level) evaluation n
    → MovesOn (standing (moved (Evaluates room evaluation given) waits) store context) (standing (moved (Ends Normal (signed_decimal n)) waits) store context)
straight_moves store context room waits evaluation given level n answered at_level (ready, empty, comes) =
    let from = standing (moved (Evaluates room evaluation given) waits) store context in
    let same = ap (λ l. straight (number_in store l) 0 evaluation.steps []) (sym at_level) ∙ comes in
    let told = begins_ready evaluation given answered ready empty in
    ends store context room waits from (signed_decimal n)
    (goes (number_in store (here context.levels store)) n (At store context room waits from) (past store context room waits from) (asked store context room waits from)
    evaluation.steps 0 [] [] tt same (evaluation, given, (0, refl), ([], refl), told))

leads_of : {K : Type 0} (m n : Standing K) → MovesOn m n → Leads m n
leads_of m n (between, leads, quiet, last) = leads_on m between n leads last

-- an evaluation whose first step is a script in brackets asks for its result
pub asks_script : {K : Type 0} (store : Store) (context : Context) (room : ℕ) (waits : List (Waiting K)) (script : List ℕ) (rest : List Step)
    → Leads (standing (moved (Evaluates room (record { steps = step.Command script ∷ rest; stack = []; state = state.Ready }) None) waits) store context)
    (standing (moved (Begins room script) (ForValue room (record { steps = rest; stack = []; state = state.Waiting }) ∷ waits)) store context)
asks_script {K} store context room waits script rest =
    let from : Standing K = standing (moved (Evaluates room (record { steps = step.Command script ∷ rest; stack = []; state = state.Ready }) None) waits) store context in
    let next : Resumption = record { steps = rest; stack = []; state = state.Waiting } in
    let move : Moves from (standing (moved (Begins room script) (ForValue room next ∷ waits)) store context) = ((Ok (ask.Command script), next, refl, ([], refl), refl), refl, refl) in
    (1, (from, refl, move))

-- and is given it, and straight code says the value of what is left
pub given_moves : {K : Type 0} (store : Store) (context : Context) (room : ℕ) (waits : List (Waiting K)) (value : List ℕ) (rest : List Step) (level : ℕ) (first n : ℤ)
    → level ≡ here context.levels store → integer_of value ≡ Some first → straight (number_in store level) 0 rest (first ∷ []) ≡ Some n
    → Leads (standing (moved (Evaluates room (record { steps = rest; stack = []; state = state.Waiting }) (Some value)) waits) store context)
    (standing (moved (Ends Normal (signed_decimal n)) waits) store context)
given_moves {K} store context room waits value rest level first n at_level is comes =
    let next : Resumption = record { steps = rest; stack = []; state = state.Waiting } in
    let from : Standing K = standing (moved (Evaluates room next (Some value)) waits) store context in
    let same = ap (λ l. straight (number_in store l) 0 rest (first ∷ [])) (sym at_level) ∙ comes in
    leads_of from (standing (moved (Ends Normal (signed_decimal n)) waits) store context)
    (ends store context room waits from (signed_decimal n)
    (goes (number_in store (here context.levels store)) n (At store context room waits from) (past store context room waits from) (asked store context room waits from)
    rest 0 (first ∷ []) (Words value ∷ []) (is, tt) same (next, Some value, (0, refl), ([], refl), refl)))

-- an expression that begins, and of which straight code says the value, has ended by such moves
pub opened_leads : {K : Type 0} (store : Store) (context : Context) (room : ℕ) (waits : List (Waiting K)) (text : List ℕ) (level : ℕ) (n : ℤ)
    → level ≡ here context.levels store → IsInteger store level text n
    → Leads (standing (moved (expression_begins room text) waits) store context) (standing (moved (Ends Normal (signed_decimal n)) waits) store context)
opened_leads store context room waits text level n at_level (evaluation, begun, comes) =
    let from = standing (moved (Evaluates room evaluation None) waits) store context in
    let to = standing (moved (Ends Normal (signed_decimal n)) waits) store context in
    subst (λ r. Leads (standing (moved (begun_as room r) waits) store context) to) (sym begun)
    (leads_of from to (straight_moves store context room waits evaluation None level n (sym (ap is_waiting comes.0)) at_level comes))

-- and what waits for it has gone on
condition_leads : {K : Type 0} (store : Store) (context : Context) (room : ℕ) (waiting : Waiting K) (waits : List (Waiting K)) (text : List ℕ) (level : ℕ) (n : ℤ)
    → level ≡ here context.levels store → IsInteger store level text n
    → Leads (standing (moved (expression_begins room text) (waiting ∷ waits)) store context) (end_move store context Normal (signed_decimal n) waiting waits)
condition_leads store context room waiting waits text level n at_level is =
    leads_on _ (standing (moved (Ends Normal (signed_decimal n)) (waiting ∷ waits)) store context) _ (opened_leads store context room (waiting ∷ waits) text level n at_level is) refl

-- the condition of a loop
pub test_leads : {K : Type 0} (store : Store) (context : Context) (room : ℕ) (looping : Loop) (waits : List (Waiting K)) (text : List ℕ) (level : ℕ) (holds : Bool)
    → level ≡ here context.levels store → looping.test ≡ Holds text → Knows store level text holds
    → Leads (test_move room looping store context waits looping.test) (standing (iteration_move room looping waits (Ok holds)) store context)
test_leads store context room looping waits text level holds at_level is (n, integer, truth) =
    subst (λ test. Leads (test_move room looping store context waits test) (standing (iteration_move room looping waits (Ok holds)) store context)) (sym is)
    (subst (λ value. Leads (test_move room looping store context waits (Holds text)) (standing (iteration_move room looping waits value) store context)) truth
    (condition_leads store context room (ForTest room looping) waits text level n at_level integer))

-- the first condition of `if`
first_choice_leads : {K : Type 0} (store : Store) (context : Context) (room : ℕ) (branch : Branch) (branches : List Branch) (otherwise : Option (List ℕ)) (waits : List (Waiting K)) (level : ℕ) (holds : Bool)
    → level ≡ here context.levels store → Knows store level branch.test holds
    → Leads (standing (choice_move room (branch ∷ branches) otherwise waits) store context) (standing (chosen_move room (branch ∷ branches) otherwise waits (Ok holds)) store context)
first_choice_leads store context room branch branches otherwise waits level holds at_level (n, integer, truth) =
    subst (λ value. Leads (standing (choice_move room (branch ∷ branches) otherwise waits) store context) (standing (chosen_move room (branch ∷ branches) otherwise waits value) store context)) truth
    (condition_leads store context room (ForChoice room (branch ∷ branches) otherwise) waits branch.test level n at_level integer)

-- and of branches of which it is the first
pub choice_leads : {K : Type 0} (store : Store) (context : Context) (room : ℕ) (branches : List Branch) (branch : Branch) (otherwise : Option (List ℕ)) (waits : List (Waiting K)) (level : ℕ) (holds : Bool)
    → 0 < length branches → branch ≡ get_or branches 0 branch → level ≡ here context.levels store → Knows store level branch.test holds
    → Leads (standing (choice_move room branches otherwise waits) store context) (standing (chosen_move room branches otherwise waits (Ok holds)) store context)
choice_leads store context room [] branch otherwise waits level holds some is at_level opens = absurd (omega (arith, some))
choice_leads store context room (first ∷ branches) branch otherwise waits level holds some is at_level opens =
    first_choice_leads store context room first branches otherwise waits level holds at_level (subst (λ (b : Branch). Knows store level b.test holds) is opens)

-- an integer is true where it isn't 0
pub integer_truth : (n : ℤ) → FitsSigned w64 n → truth_of_text (signed_decimal n) ≡ Ok (is_nonzero n)
unfolding boolean_of
integer_truth n fits = ap (λ number. truth_or_text (signed_decimal n) (boolean_by number (signed_decimal n))) (written_integer (signed_decimal n) n refl fits)
