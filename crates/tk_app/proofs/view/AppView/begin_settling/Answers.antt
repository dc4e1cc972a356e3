use Rattle.std.proofs.Common.{◌≡◌, List, ◌<◌, set, ap, ◌∙◌, subst, length, arith, refl}
use Rattle.tk_app.specs.Part.{Part, settling_as}
use Rattle.tk_panel.specs.Shared.{panel_of}
use Rattle.tk_app.specs.Turns.{Applications, BeginsIn, Program, part_of, parts_from}
use Rattle.tk_app.proofs.Slots.{in_range}
use Rattle.tk_app.proofs.Views.{one_changed, one_was, slot_held}
use Rattle.tk_app.proofs.view.AppView.begin_settling.Goals as goal

pub index_mut-runner-requires : goal.index_mut-runner-requires
index_mut-runner-requires g c = let lt = in_range _ _ c.shared.view_is c.args.self.now.held in omega (arith, lt)

pub invariant_of-self : goal.invariant_of-self
invariant_of-self g c = record { held = slot_held _ _ _ _ c.shared.view_is c.args.self.now.held refl }

pub returns-clause-begun : goal.returns-clause-begun
returns-clause-begun g c =
    let i = c.args.self.now.slot in
    let old = c.shared.inside in
    let r : Program _ = c.index_mut-runner.result.now in
    let after : Program _ = c.begin.new.self in
    let lt : i < length old.runners.items = in_range _ _ c.shared.view_is c.args.self.now.held in
    let begun : after ≡ record r { work = settling_as r.state r.work } = c.in_ok-begin.ensures.ok in
    let held : List (Part _) → Applications _ = λ parts. record { moment = old.tables.clock; parts = parts; turns = old.turns.items; refused = old.refused } in
    let parts = parts_from 0 old.tables old.runners.items in
    subst (λ (h : Applications _). BeginsIn i h (held (parts_from 0 old.tables (set old.runners.items i after)))) c.shared.view_is (record {
      before = part_of (panel_of i old.tables) r;
      was = one_was i old.tables old.tables old.runners.items r after c.shared.invariant.0 lt c.index_mut-runner.ensures.value refl;
      changed = ap held (one_changed i old.tables old.tables old.runners.items r after c.shared.invariant.0 lt c.index_mut-runner.ensures.value refl
          ∙ ap (λ (p : Program _). set parts i (part_of (panel_of i old.tables) p)) begun);
    })
