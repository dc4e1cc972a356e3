-- What whole turns of loops come to.
use Rattle.std.proofs.Common.{◌≡◌, ℕ, zero, suc, ◌+◌, ◌-◌, ◌<◌, ◌≤◌, Bool, true, false, List, [], ◌∷◌, length, drop, Option, Some, None, Result, Ok, Err, IsOk, refl, ap, sym, subst, ◌∙◌, arith}
use Rattle.tcl_words.specs.declared.script.Command.{Command}
use Rattle.tcl_text.specs.declared.fault.ParseFault.{ParseFault}
use Rattle.tcl_vars.specs.Store.{Store}
use Rattle.tcl_control.specs.declared.code.Code.TheVariants.{Normal}
use Rattle.tcl_control.specs.declared.context.Context.{Context}
use Rattle.tcl_control.specs.declared.loops.Loop.{Loop}
use Rattle.tcl_control.specs.declared.loops.Test.{Test}
use Rattle.tcl_control.specs.declared.loops.Test.TheVariants.{Holds, Items}
use Rattle.tcl_table.specs.Levels.{here}
use Rattle.tcl_table.specs.Source.{script_of}
use Rattle.tcl_interp.specs.declared.turns.Halt.TheVariants as halt
use Rattle.tcl_interp.specs.declared.reach.Reach.{Reach}
use Rattle.tcl_interp.specs.declared.reach.Reach.TheVariants as reach
use Rattle.tcl_interp.specs.declared.reach.Stop.{Stop}
use Rattle.tcl_interp.specs.Outside.{Outside}
use Rattle.tcl_interp.specs.Finish.{Begins, Ends, ForBody, ForNext, GoesOn, Tests, Waiting}
use Rattle.tcl_interp.specs.Moves.{Standing, begin_move, moved, next_move, parsed_move, standing}
use Rattle.tcl_interp.specs.Openings.{Knows}
use Rattle.tcl_interp.specs.Quiet.{Leads}
use Rattle.tcl_interp.specs.Rests.{commands_in, read_commands}
use Rattle.tcl_interp.specs.Steps.{TakesSteps}
use Rattle.tcl_interp.specs.Turns.{KnowsTest, halted}
use Rattle.tcl_interp.specs.Whole.{reached_to, stopped_in}
use Rattle.tcl_interp.proofs.OnwardLemmas.{begin_leads, script_leads, steps_lead, test_leads_on}
use Rattle.tcl_interp.proofs.Same.{begin_some}
use Rattle.tcl_interp.proofs.SimpleLemmas.{stays, steps_behind, steps_on}
use Rattle.tcl_interp.proofs.Straight.{test_leads}
use Rattle.tcl_interp.proofs.Weights.{leads_all}

module _ {K : Type 0} where
  parsed_ok : (room : ℕ) (waits : List (Waiting K)) (read : Result (List Command) ParseFault) → IsOk read → parsed_move room waits read ≡ moved (GoesOn room (read_commands read) []) waits
  parsed_ok room waits (Ok commands) is = refl
  parsed_ok room waits (Err fault) is = absurd (cc)

  begins : (room : ℕ) (script : List ℕ) (waits : List (Waiting K)) → 0 < room → IsOk (script_of script) → begin_move room script waits ≡ moved (GoesOn (room - 1) (commands_in script) []) waits
  begins zero script waits some read = absurd (omega (arith, some))
  begins (suc room) script waits some read =
      let less : suc room - 1 ≡ room = omega arith in
      begin_some room script waits ∙ parsed_ok room waits (script_of script) read ∙ ap (λ r. moved (GoesOn r (commands_in script) []) waits) (sym less)

  -- a script that can be read begins
  pub script_begins : (room : ℕ) (script : List ℕ) (waits : List (Waiting K)) (store : Store) (context : Context) → 0 < room → IsOk (script_of script)
      → Leads (standing (moved (Begins room script) waits) store context) (standing (moved (GoesOn (room - 1) (commands_in script) []) waits) store context)
  script_begins room script waits store context some read = begin_leads room script script waits store context context (GoesOn (room - 1) (commands_in script) []) refl refl (sym (begins room script waits some read))

  -- the body of `while` has ended
  pub body_tests : (room inner : ℕ) (looping : Loop) (text : List ℕ) (waits : List (Waiting K)) (store : Store) (context : Context) → looping.next ≡ None
      → Leads (standing (moved (GoesOn inner [] text) (ForBody room looping ∷ waits)) store context) (standing (moved (Tests room looping) waits) store context)
  body_tests room inner looping text waits store context none =
      script_leads inner [] 0 text store context (ForBody room looping ∷ waits) (standing (moved (Tests room looping) waits) store context) (omega arith) (ap (λ n. standing (next_move room looping waits n) store context) (sym none))

  -- the body of `for` has ended, and what it runs behind it begins
  pub body_goes : (room inner : ℕ) (looping : Loop) (next text : List ℕ) (waits : List (Waiting K)) (store : Store) (context : Context) → looping.next ≡ Some next → 0 < room → IsOk (script_of next)
      → Leads (standing (moved (GoesOn inner [] text) (ForBody room looping ∷ waits)) store context) (standing (moved (GoesOn (room - 1) (commands_in next) []) (ForNext room looping ∷ waits)) store context)
  body_goes room inner looping next text waits store context is some read =
      let between : Standing K = standing (moved (Begins room next) (ForNext room looping ∷ waits)) store context in
      leads_all (standing (moved (GoesOn inner [] text) (ForBody room looping ∷ waits)) store context) between _
      (script_leads inner [] 0 text store context (ForBody room looping ∷ waits) between (omega arith) (ap (λ n. standing (next_move room looping waits n) store context) (sym is)))
      (script_begins room next (ForNext room looping ∷ waits) store context some read)

  -- and that has ended
  pub next_tests : (room inner : ℕ) (looping : Loop) (text : List ℕ) (waits : List (Waiting K)) (store : Store) (context : Context)
      → Leads (standing (moved (GoesOn inner [] text) (ForNext room looping ∷ waits)) store context) (standing (moved (Tests room looping) waits) store context)
  next_tests room inner looping text waits store context =
      script_leads inner [] 0 text store context (ForNext room looping ∷ waits) (standing (moved (Tests room looping) waits) store context) (omega arith) refl

-- a test that is known is a condition
condition_known : (store : Store) (level : ℕ) (test : Test) (holds : Bool) → KnowsTest store level test holds → (condition : List ℕ) × (test ≡ Holds condition) × Knows store level condition holds
condition_known store level (Holds condition) holds knows = (condition, refl, knows)
condition_known store level (Items groups) holds never = absurd never

module _ {S K : Type 0} (outside : Outside S K) where
  -- the condition of a loop holds, and its body begins
  pub body_begins : (room : ℕ) (looping : Loop) (condition : List ℕ) (waits : List (Waiting K)) (shows : S) (store : Store) (context : Context) (level : ℕ)
      → level ≡ here context.levels store → looping.test ≡ Holds condition → Knows store level condition true → 0 < room → IsOk (script_of looping.body)
      → TakesSteps outside 1 (standing (moved (Tests room looping) waits) store context) shows (standing (moved (GoesOn (room - 1) (commands_in looping.body) []) (ForBody room looping ∷ waits)) store context) shows
  body_begins room looping condition waits shows store context level at_level is knows some read =
      test_leads_on outside room looping waits shows store context (standing (moved (Begins room looping.body) (ForBody room looping ∷ waits)) store context) _
      (test_leads store context room looping waits condition level true at_level is knows) (script_begins room looping.body (ForBody room looping ∷ waits) store context some read)

  -- or it doesn't hold, and the loop has ended
  pub loop_ends : (room : ℕ) (looping : Loop) (condition : List ℕ) (waits : List (Waiting K)) (shows : S) (store : Store) (context : Context) (level : ℕ)
      → level ≡ here context.levels store → looping.test ≡ Holds condition → Knows store level condition false
      → TakesSteps outside 1 (standing (moved (Tests room looping) waits) store context) shows (standing (moved (Ends Normal []) waits) store context) shows
  loop_ends room looping condition waits shows store context level at_level is knows =
      test_leads_on outside room looping waits shows store context (standing (moved (Ends Normal []) waits) store context) (standing (moved (Ends Normal []) waits) store context)
      (test_leads store context room looping waits condition level false at_level is knows) (0, refl)

  -- the body has ended, and `for` runs nothing behind it
  pub behind_none : (room inner : ℕ) (looping : Loop) (text : List ℕ) (waits : List (Waiting K)) (shows : S) (store : Store) (context : Context) → looping.next ≡ None
      → TakesSteps outside 0 (standing (moved (GoesOn inner [] text) (ForBody room looping ∷ waits)) store context) shows (standing (halted room looping waits halt.Test) store context) shows
  behind_none room inner looping text waits shows store context none =
      let first : Standing K = standing (moved (GoesOn inner [] text) (ForBody room looping ∷ waits)) store context in
      steps_lead outside 0 first first (standing (moved (Tests room looping) waits) store context) shows shows (stays outside first shows) (body_tests room inner looping text waits store context none)

  -- or it runs a script, which has come so far
  behind_next : (room inner : ℕ) (looping : Loop) (next text : List ℕ) (waits : List (Waiting K)) (shows : S) (store : Store) (context : Context) (steps : ℕ) (after : Standing K)
      → looping.next ≡ Some next → 0 < room → IsOk (script_of next)
      → TakesSteps outside steps (standing (moved (GoesOn (room - 1) (commands_in next) []) (ForNext room looping ∷ waits)) store context) shows after shows
      → TakesSteps outside steps (standing (moved (GoesOn inner [] text) (ForBody room looping ∷ waits)) store context) shows after shows
  behind_next room inner looping next text waits shows store context steps after is some read went =
      let first : Standing K = standing (moved (GoesOn inner [] text) (ForBody room looping ∷ waits)) store context in
      let second : Standing K = standing (moved (GoesOn (room - 1) (commands_in next) []) (ForNext room looping ∷ waits)) store context in
      steps_behind outside 0 steps first second after shows shows refl
      (steps_lead outside 0 first first second shows shows (stays outside first shows) (body_goes room inner looping next text waits store context is some read)) went

  pub behind_whole : (room inner : ℕ) (looping : Loop) (next text last : List ℕ) (waits : List (Waiting K)) (shows : S) (store : Store) (context : Context) (store' : Store) (steps : ℕ) (way : Reach)
      → looping.next ≡ Some next → 0 < room → IsOk (script_of next) → way ≡ reach.Whole last
      → TakesSteps outside steps (standing (moved (GoesOn (room - 1) (commands_in next) []) (ForNext room looping ∷ waits)) store context) shows (standing (reached_to (room - 1) way (ForNext room looping ∷ waits)) store' context) shows
      → TakesSteps outside steps (standing (moved (GoesOn inner [] text) (ForBody room looping ∷ waits)) store context) shows (standing (halted room looping waits halt.Test) store' context) shows
  behind_whole room inner looping next text last waits shows store context store' steps way is some read whole went =
      let first : Standing K = standing (moved (GoesOn inner [] text) (ForBody room looping ∷ waits)) store context in
      let start : Standing K = standing (moved (GoesOn (room - 1) (commands_in next) []) (ForNext room looping ∷ waits)) store context in
      let second : Standing K = standing (moved (GoesOn (room - 1) [] last) (ForNext room looping ∷ waits)) store' context in
      steps_lead outside steps first second (standing (moved (Tests room looping) waits) store' context) shows shows
      (behind_next room inner looping next text waits shows store context steps second is some read
      (subst (λ w. TakesSteps outside steps start shows (standing (reached_to (room - 1) w (ForNext room looping ∷ waits)) store' context) shows) whole went))
      (next_tests room (room - 1) looping last waits store' context)

  pub behind_stopped : (room inner : ℕ) (looping : Loop) (next text : List ℕ) (stop : Stop) (waits : List (Waiting K)) (shows : S) (store : Store) (context : Context) (store' : Store) (steps : ℕ) (way : Reach)
      → looping.next ≡ Some next → 0 < room → IsOk (script_of next) → way ≡ reach.Stopped stop
      → TakesSteps outside steps (standing (moved (GoesOn (room - 1) (commands_in next) []) (ForNext room looping ∷ waits)) store context) shows (standing (reached_to (room - 1) way (ForNext room looping ∷ waits)) store' context) shows
      → TakesSteps outside steps (standing (moved (GoesOn inner [] text) (ForBody room looping ∷ waits)) store context) shows (standing (halted room looping waits (halt.Next stop)) store' context) shows
  behind_stopped room inner looping next text stop waits shows store context store' steps way is some read stopped went =
      let start : Standing K = standing (moved (GoesOn (room - 1) (commands_in next) []) (ForNext room looping ∷ waits)) store context in
      behind_next room inner looping next text waits shows store context steps (standing (stopped_in stop (ForNext room looping ∷ waits)) store' context) is some read
      (subst (λ w. TakesSteps outside steps start shows (standing (reached_to (room - 1) w (ForNext room looping ∷ waits)) store' context) shows) stopped went)

  -- a test, and what comes behind it
  pub turn_goes : (room : ℕ) (looping : Loop) (waits : List (Waiting K)) (shows : S) (store : Store) (context : Context) (level : ℕ) (steps : ℕ) (after : Standing K)
      → level ≡ here context.levels store → KnowsTest store level looping.test true → 0 < room → IsOk (script_of looping.body)
      → TakesSteps outside steps (standing (moved (GoesOn (room - 1) (commands_in looping.body) []) (ForBody room looping ∷ waits)) store context) shows after shows
      → TakesSteps outside (steps + 1) (standing (moved (Tests room looping) waits) store context) shows after shows
  turn_goes room looping waits shows store context level steps after at_level knows some read went =
      let first : Standing K = standing (moved (Tests room looping) waits) store context in
      let second : Standing K = standing (moved (GoesOn (room - 1) (commands_in looping.body) []) (ForBody room looping ∷ waits)) store context in
      let sum : 1 + steps ≡ steps + 1 = omega arith in
      let known = condition_known store level looping.test true knows in
      subst (λ n. TakesSteps outside n first shows after shows) sum
      (steps_on outside 1 steps first second after shows shows shows (body_begins room looping known.0 waits shows store context level at_level known.1 known.2 some read) went)

  -- a test that doesn't hold
  pub turn_ends : (room : ℕ) (looping : Loop) (waits : List (Waiting K)) (shows : S) (store : Store) (context : Context) (level : ℕ)
      → level ≡ here context.levels store → KnowsTest store level looping.test false
      → TakesSteps outside 1 (standing (moved (Tests room looping) waits) store context) shows (standing (halted room looping waits halt.Over) store context) shows
  turn_ends room looping waits shows store context level at_level knows =
      let known = condition_known store level looping.test false knows in
      loop_ends room looping known.0 waits shows store context level at_level known.1 known.2
