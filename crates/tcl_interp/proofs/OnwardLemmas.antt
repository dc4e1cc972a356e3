-- What the ends of scripts and commands lead to, and scripts that begin and were read before.
use Rattle.std.proofs.Common.{◌≡◌, ℕ, suc, ◌+◌, ◌≤◌, List, [], length, drop, refl, ap, sym, subst, ◌∙◌, arith}
use Rattle.std.proofs.lemmas.List.{drop_all}
use Rattle.tcl_words.specs.declared.script.Command.{Command}
use Rattle.tcl_vars.specs.Store.{Store}
use Rattle.tcl_control.specs.declared.code.Code.{Code}
use Rattle.tcl_control.specs.declared.code.Code.TheVariants.{Normal}
use Rattle.tcl_control.specs.declared.context.Context.{Context}
use Rattle.tcl_control.specs.declared.loops.Loop.{Loop}
use Rattle.tcl_interp.specs.Outside.{Outside}
use Rattle.tcl_interp.specs.Finish.{Begins, Doing, Ends, GoesOn, Tests, Waiting}
use Rattle.tcl_interp.specs.Moves.{Standing, begin_move, moved, standing, test_move}
use Rattle.tcl_interp.specs.Quiet.{Leads, ends_move}
use Rattle.tcl_interp.specs.Steps.{TakesStep, TakesSteps, finish_from}
use Rattle.tcl_interp.proofs.Stepping.{leads_none, test_given}

module _ {K : Type 0} where
  -- what waits for something that ends goes on, by one move
  pub end_leads : (store : Store) (context : Context) (code : Code) (text : List ℕ) (waits : List (Waiting K)) (next : Standing K)
      → next ≡ ends_move store context code text waits → Leads (standing (moved (Ends code text) waits) store context) next
  end_leads store context code text waits next is = (1, (standing (moved (Ends code text) waits) store context, refl, is))

  -- a script of which all commands have run ends, by two
  pub script_leads : (room : ℕ) (commands : List Command) (place : ℕ) (text : List ℕ) (store : Store) (context : Context) (waits : List (Waiting K)) (next : Standing K)
      → length commands ≤ place → next ≡ ends_move store context Normal text waits → Leads (standing (moved (GoesOn room (drop place commands) text) waits) store context) next
  script_leads room commands place text store context waits next past is =
      let from : Standing K = standing (moved (GoesOn room [] text) waits) store context in
      let leads : Leads from next = (2, (standing (moved (Ends Normal text) waits) store context, (from, refl, refl), is)) in
      subst (λ left. Leads (standing (moved (GoesOn room left text) waits) store context) next) (sym (drop_all place commands past)) leads

  -- a script that was read begins, by one
  pub begin_leads : (room : ℕ) (script : List ℕ) (known : List ℕ) (waits : List (Waiting K)) (store : Store) (before context : Context) (doing : Doing K)
      → known ≡ script → context ≡ before → moved doing waits ≡ begin_move room known waits
      → Leads (standing (moved (Begins room script) waits) store before) (standing (moved doing waits) store context)
  begin_leads room script known waits store before context doing same kept begun = (
    1,
    (
      standing (moved (Begins room script) waits) store before,
      refl,
      ap (λ m. standing m store context) (begun ∙ ap (λ text. begin_move room text waits) same) ∙ ap (λ c. standing (begin_move room script waits) store c) kept,
    ),
  )

module _ {S K : Type 0} (outside : Outside S K) where
  -- moves without a step behind those that took some
  pub steps_lead : (n : ℕ) (first second third : Standing K) (shows shows' : S) → TakesSteps outside n first shows second shows' → Leads second third → TakesSteps outside n first shows third shows'
  steps_lead n first second third shows shows' steps leads = λ left. steps left ∙ leads_none outside second third shows' leads left

  -- a loop is tested, and moves without a step are made
  pub test_leads_on : (room : ℕ) (looping : Loop) (waits : List (Waiting K)) (shows : S) (store : Store) (context : Context) (second third : Standing K)
      → Leads (test_move room looping store context waits looping.test) second → Leads second third
      → TakesSteps outside 1 (standing (moved (Tests room looping) waits) store context) shows third shows
  test_leads_on room looping waits shows store context second third tested leads =
      let from : Standing K = standing (moved (Tests room looping) waits) store context in
      let step : TakesStep outside from shows second shows = test_given outside room looping waits shows store context second tested in
      λ left. ap (finish_from outside from shows) (let one : 1 + left ≡ suc left = omega arith in one) ∙ step left ∙ leads_none outside second third shows leads left
