use Rattle.std.proofs.Common.{◌≡◌, ℕ, List, sym, ap, subst, ◌∙◌}
use Rattle.std.proofs.lemmas.Result.{IfOk-weaker}
use Rattle.tcl_vars.specs.Store.{Store}
use Rattle.tcl_commands.specs.declared.groups.Group.{Group}
use Rattle.tcl_control.specs.declared.context.Context.{Context}
use Rattle.tcl_control.specs.declared.loops.Loop.{Loop}
use Rattle.tcl_control.specs.declared.loops.Test.TheVariants.{Items}
use Rattle.tcl_table.specs.Levels.{here}
use Rattle.tcl_control.specs.Loops.{items_tested}
use Rattle.tcl_interp.specs.Finish.{Waiting}
use Rattle.tcl_interp.specs.Moves.{Standing, standing, items_move, test_move}
use Rattle.tcl_interp.specs.Openings.{Knows}
use Rattle.tcl_interp.specs.Quiet.{Leads}
use Rattle.tcl_interp.specs.Rests.{standing_of, waits_of}
use Rattle.tcl_interp.proofs.Straight.{test_leads}
use Rattle.tcl_interp.proofs.steps.test.Goals as goal

pub returns-in-Known : goal.returns-in-Known
returns-in-Known g c =
    let waits = waits_of c.args.frames.now.items in
    let knows : Knows c.args.scopes.now c.here-level.result c.in-Holds.expression c.in-Known.holds = rw c.in-Known.is at c.in_ok-holds-in-Holds.ensures in
    IfOk-weaker c.iteration_by.result _ _ (λ now iterations.
    subst (λ m. Leads (test_move c.args.room c.args.looping c.args.scopes.now c.args.context.now waits c.args.looping.test) (standing m c.args.scopes.now c.args.context.now)) (sym iterations)
    (test_leads c.args.scopes.now c.args.context.now c.args.room c.args.looping waits c.in-Holds.expression c.here-level.result c.in-Known.holds c.here-level.ensures.value
    (ap (λ (looping : Loop). looping.test) (sym c.get.ensures) ∙ c.in-Holds.is) knows)) c.iteration_by.ensures

-- a loop over items, taken out of its box
items_led : {K : Type 0} (room : ℕ) (store : Store) (context : Context) (waits : List (Waiting K)) (loop looping : Loop) (groups : List Group) (after : Standing K) → loop ≡ looping → loop.test ≡ Items groups
    → after ≡ items_move room (record { test = Items groups; body = loop.body; next = loop.next }) context waits (items_tested (here context.levels store) groups store)
    → Leads (test_move room looping store context waits looping.test) after
items_led room store context waits loop looping groups after same is e =
    subst (λ (t : Loop). Leads (test_move room t store context waits t.test) after) same (
      0,
      e ∙ ap (λ test. items_move room (record { test = test; body = loop.body; next = loop.next }) context waits (items_tested (here context.levels store) groups store)) (sym is)
          ∙ ap (λ test. test_move room loop store context waits test) (sym is),
    )

pub returns-in-Items-test : goal.returns-in-Items-test
returns-in-Items-test g c =
    IfOk-weaker c.test_items.result _ _ (λ now tested.
    items_led c.args.room c.args.scopes.now c.args.context.now (waits_of c.args.frames.now.items) c.into_inner-test.result c.args.looping c.in-Items-test.groups
    (standing_of now c.test_items.new.frames.items c.test_items.new.scopes c.args.context.now) c.into_inner-test.ensures c.in-Items-test.is tested) c.test_items.ensures
