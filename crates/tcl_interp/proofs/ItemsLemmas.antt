-- What whole turns of loops over lists come to.
use Rattle.std.proofs.Common.{◌≡◌, ℕ, ◌+◌, ◌-◌, ◌<◌, List, [], ◌∷◌, None, IsOk, refl, ap, sym, subst, ◌∙◌, arith}
use Rattle.tcl_vars.specs.Store.{Store}
use Rattle.tcl_commands.specs.declared.groups.Group.{Group}
use Rattle.tcl_control.specs.declared.code.Code.TheVariants.{Normal, Error}
use Rattle.tcl_control.specs.declared.context.Context.{Context}
use Rattle.tcl_control.specs.declared.loops.Loop.{Loop}
use Rattle.tcl_control.specs.declared.loops.Test.TheVariants.{Items}
use Rattle.tcl_control.specs.Loops.{Tested, More, NoMore, Fails, items_tested}
use Rattle.tcl_table.specs.Levels.{here}
use Rattle.tcl_table.specs.Source.{script_of}
use Rattle.tcl_interp.specs.declared.items.ItemsHalt.TheVariants as halt
use Rattle.tcl_interp.specs.declared.reach.Reach.{Reach}
use Rattle.tcl_interp.specs.declared.reach.Reach.TheVariants as reach
use Rattle.tcl_interp.specs.declared.reach.Stop.{Stop}
use Rattle.tcl_interp.specs.Outside.{Outside}
use Rattle.tcl_interp.specs.Finish.{Begins, Ends, ForBody, GoesOn, Tests, Waiting}
use Rattle.tcl_interp.specs.Items.{halted_over, looping_over}
use Rattle.tcl_interp.specs.Moves.{Standing, items_move, moved, standing}
use Rattle.tcl_interp.specs.Quiet.{Leads}
use Rattle.tcl_interp.specs.Rests.{commands_in}
use Rattle.tcl_interp.specs.Steps.{TakesSteps}
use Rattle.tcl_interp.specs.Whole.{reached_to, stopped_in}
use Rattle.tcl_interp.proofs.OnwardLemmas.{steps_lead, test_leads_on}
use Rattle.tcl_interp.proofs.SimpleLemmas.{steps_on}
use Rattle.tcl_interp.proofs.TurnLemmas.{body_tests, script_begins}

-- a loop that goes over lists, with nothing behind its body
pub looped_lists : (looping : Loop) (groups : List Group) (body : List ℕ) → looping.test ≡ Items groups → body ≡ looping.body → looping.next ≡ None → looping_over body groups ≡ looping
looped_lists looping groups body test is none =
    ap (λ b. looping_over b groups) is ∙ ap (λ t. record { test = t; body = looping.body; next = None }) (sym test)
    ∙ ap (λ n. record { test = looping.test; body = looping.body; next = n }) (sym none)

-- what a test leads to
tested_leads : {K : Type 0} (room level : ℕ) (looping : Loop) (groups : List Group) (waits : List (Waiting K)) (store : Store) (context : Context) (tested : Tested)
    → level ≡ here context.levels store → tested ≡ items_tested level groups store
    → Leads (items_move room looping context waits (items_tested (here context.levels store) groups store)) (items_move room looping context waits tested)
tested_leads room level looping groups waits store context tested at_level is =
    subst (λ l. Leads (items_move room looping context waits (items_tested l groups store)) (items_move room looping context waits tested)) at_level
    (subst (λ t. Leads (items_move room looping context waits (items_tested level groups store)) (items_move room looping context waits t)) (sym is) (0, refl))

module _ {S K : Type 0} (outside : Outside S K) where
  -- names were given their items, and the body has come so far
  turn_on : (room level : ℕ) (body : List ℕ) (groups rest : List Group) (waits : List (Waiting K)) (shows : S) (store : Store) (context : Context) (store' : Store) (steps : ℕ) (after : Standing K)
      → level ≡ here context.levels store → More store' rest ≡ items_tested level groups store → 0 < room → IsOk (script_of body)
      → TakesSteps outside steps (standing (moved (GoesOn (room - 1) (commands_in body) []) (ForBody room (looping_over body rest) ∷ waits)) store' context) shows after shows
      → TakesSteps outside (steps + 1) (standing (moved (Tests room (looping_over body groups)) waits) store context) shows after shows
  turn_on room level body groups rest waits shows store context store' steps after at_level is some read went =
      let first : Standing K = standing (moved (Tests room (looping_over body groups)) waits) store context in
      let begun : Standing K = standing (moved (Begins room body) (ForBody room (looping_over body rest) ∷ waits)) store' context in
      let second : Standing K = standing (moved (GoesOn (room - 1) (commands_in body) []) (ForBody room (looping_over body rest) ∷ waits)) store' context in
      let sum : 1 + steps ≡ steps + 1 = omega arith in
      subst (λ n. TakesSteps outside n first shows after shows) sum
      (steps_on outside 1 steps first second after shows shows shows
      (test_leads_on outside room (looping_over body groups) waits shows store context begun second
      (tested_leads room level (looping_over body groups) groups waits store context (More store' rest) at_level is)
      (script_begins room body (ForBody room (looping_over body rest) ∷ waits) store' context some read))
      went)

  -- it has ended
  pub turn_whole : (room level : ℕ) (body : List ℕ) (groups rest : List Group) (text : List ℕ) (waits : List (Waiting K)) (shows : S) (store : Store) (context : Context) (store' store'' : Store) (steps : ℕ) (way : Reach)
      → level ≡ here context.levels store → More store' rest ≡ items_tested level groups store → 0 < room → IsOk (script_of body) → way ≡ reach.Whole text
      → TakesSteps outside steps (standing (moved (GoesOn (room - 1) (commands_in body) []) (ForBody room (looping_over body rest) ∷ waits)) store' context) shows (standing (reached_to (room - 1) way (ForBody room (looping_over body rest) ∷ waits)) store'' context) shows
      → TakesSteps outside (steps + 1) (standing (moved (Tests room (looping_over body groups)) waits) store context) shows (standing (halted_over room body waits (halt.Test rest)) store'' context) shows
  turn_whole room level body groups rest text waits shows store context store' store'' steps way at_level is some read whole went =
      let second : Standing K = standing (moved (GoesOn (room - 1) (commands_in body) []) (ForBody room (looping_over body rest) ∷ waits)) store' context in
      let ended : Standing K = standing (moved (GoesOn (room - 1) [] text) (ForBody room (looping_over body rest) ∷ waits)) store'' context in
      let third : Standing K = standing (moved (Tests room (looping_over body rest)) waits) store'' context in
      turn_on room level body groups rest waits shows store context store' steps third at_level is some read
      (steps_lead outside steps second ended third shows shows
      (subst (λ w. TakesSteps outside steps second shows (standing (reached_to (room - 1) w (ForBody room (looping_over body rest) ∷ waits)) store'' context) shows) whole went)
      (body_tests room (room - 1) (looping_over body rest) text waits store'' context refl))

  -- or it has stopped
  pub turn_stopped : (room level : ℕ) (body : List ℕ) (groups rest : List Group) (stop : Stop) (waits : List (Waiting K)) (shows : S) (store : Store) (context : Context) (store' store'' : Store) (steps : ℕ) (way : Reach)
      → level ≡ here context.levels store → More store' rest ≡ items_tested level groups store → 0 < room → IsOk (script_of body) → way ≡ reach.Stopped stop
      → TakesSteps outside steps (standing (moved (GoesOn (room - 1) (commands_in body) []) (ForBody room (looping_over body rest) ∷ waits)) store' context) shows (standing (reached_to (room - 1) way (ForBody room (looping_over body rest) ∷ waits)) store'' context) shows
      → TakesSteps outside (steps + 1) (standing (moved (Tests room (looping_over body groups)) waits) store context) shows (standing (halted_over room body waits (halt.Body rest stop)) store'' context) shows
  turn_stopped room level body groups rest stop waits shows store context store' store'' steps way at_level is some read stopped went =
      let second : Standing K = standing (moved (GoesOn (room - 1) (commands_in body) []) (ForBody room (looping_over body rest) ∷ waits)) store' context in
      turn_on room level body groups rest waits shows store context store' steps (standing (stopped_in stop (ForBody room (looping_over body rest) ∷ waits)) store'' context) at_level is some read
      (subst (λ w. TakesSteps outside steps second shows (standing (reached_to (room - 1) w (ForBody room (looping_over body rest) ∷ waits)) store'' context) shows) stopped went)

  -- no items were left
  pub turn_over : (room level : ℕ) (body : List ℕ) (groups : List Group) (waits : List (Waiting K)) (shows : S) (store : Store) (context : Context) (store' : Store)
      → level ≡ here context.levels store → NoMore store' ≡ items_tested level groups store
      → TakesSteps outside 1 (standing (moved (Tests room (looping_over body groups)) waits) store context) shows (standing (halted_over room body waits halt.Over) store' context) shows
  turn_over room level body groups waits shows store context store' at_level is =
      let last : Standing K = standing (moved (Ends Normal []) waits) store' context in
      test_leads_on outside room (looping_over body groups) waits shows store context last last
      (tested_leads room level (looping_over body groups) groups waits store context (NoMore store') at_level is) (0, refl)

  -- a name couldn't be given its item
  pub turn_fails : (room level : ℕ) (body : List ℕ) (groups : List Group) (text : List ℕ) (waits : List (Waiting K)) (shows : S) (store : Store) (context : Context) (store' : Store)
      → level ≡ here context.levels store → Fails store' text ≡ items_tested level groups store
      → TakesSteps outside 1 (standing (moved (Tests room (looping_over body groups)) waits) store context) shows (standing (halted_over room body waits (halt.Failed text)) store' context) shows
  turn_fails room level body groups text waits shows store context store' at_level is =
      let last : Standing K = standing (moved (Ends Error text) waits) store' context in
      test_leads_on outside room (looping_over body groups) waits shows store context last last
      (tested_leads room level (looping_over body groups) groups waits store context (Fails store' text) at_level is) (0, refl)
