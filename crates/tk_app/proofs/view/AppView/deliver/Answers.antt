use Rattle.std.proofs.Common.{◌<◌, set, ap, ◌∙◌, subst, length, arith, sym, false}
use Rattle.tk_panel.specs.Shared.{panel_of}
use Rattle.tk_app.specs.Part.{Part}
use Rattle.tk_app.specs.Turns.{Applications, DeliversIn, Program, part_of, parts_from}
use Rattle.tk_app.proofs.Slots.{in_range, part_at}
use Rattle.tk_app.proofs.Views.{changes_part, held_kept, one_changed, one_was, part_same, slot_held}
use Rattle.tk_app.proofs.view.AppView.deliver.Goals as goal

pub returns-then-shared-clause-only : goal.returns-then-shared-clause-only
returns-then-shared-clause-only g c = part_same c.args.self.now.slot c.args.self.now.shared.now c.args.self.now.held

pub index_mut-runner-requires : goal.index_mut-runner-requires
index_mut-runner-requires g c = let lt = in_range _ _ c.shared.view_is c.args.self.now.held in omega (arith, lt)

pub deliver-requires : goal.deliver-requires
deliver-requires g c = record {
  moment = c.requires.moment ∙ ap (λ (h : Applications _). h.moment) (sym c.shared.view_is);
  may = c.requires.may (part_of (panel_of c.args.self.now.slot c.shared.inside.tables) c.index_mut-runner.result.now) (part_at _ _ c.shared.view_is c.args.self.now.held c.index_mut-runner.ensures.value);
}

pub invariant_of-shared : goal.invariant_of-shared
invariant_of-shared g c = held_kept _ _ _ _ c.shared.view_is c.args.self.now.held c.deliver.ensures.others c.shared.invariant c.deliver.ensures.clock

pub invariant_of-self-in-Break-1 : goal.invariant_of-self-in-Break-1
invariant_of-self-in-Break-1 g c = record { held = slot_held _ _ _ _ c.shared.view_is c.args.self.now.held c.deliver.ensures.others }

pub invariant_of-shared-2 : goal.invariant_of-shared-2
invariant_of-shared-2 g c = held_kept _ _ _ _ c.shared.view_is c.args.self.now.held c.deliver.ensures.others c.shared.invariant c.deliver.ensures.clock

pub invariant_of-self-2 : goal.invariant_of-self-2
invariant_of-self-2 g c = record { held = slot_held _ _ _ _ c.shared.view_is c.args.self.now.held c.deliver.ensures.others }

pub returns-in_err-deliver-clause-only : goal.returns-in_err-deliver-clause-only
returns-in_err-deliver-clause-only g c =
    changes_part _ _ _ _ c.shared.view_is c.args.self.now.held c.deliver.ensures.others c.shared.invariant.0 c.index_mut-runner.ensures.value c.deliver.ensures.budget c.deliver.ensures.steps c.deliver.ensures.clock

pub returns-clause-only : goal.returns-clause-only
returns-clause-only g c =
    changes_part _ _ _ _ c.shared.view_is c.args.self.now.held c.deliver.ensures.others c.shared.invariant.0 c.index_mut-runner.ensures.value c.deliver.ensures.budget c.deliver.ensures.steps c.deliver.ensures.clock

pub returns-clause-delivered : goal.returns-clause-delivered
returns-clause-delivered g c =
    let i = c.args.self.now.slot in
    let old = c.shared.inside in
    let r : Program _ = c.index_mut-runner.result.now in
    let new = c.deliver.new in
    let lt : i < length old.runners.items = in_range _ _ c.shared.view_is c.args.self.now.held in
    let before : Part _ = part_of (panel_of i old.tables) r in
    let held : Applications _ = record { moment = new.tables.clock; parts = parts_from 0 new.tables (set old.runners.items i new.runner); turns = old.turns.items; refused = false } in
    subst (λ (h : Applications _). DeliversIn i c.args.event h held) c.shared.view_is (record {
      before = before;
      was = one_was i old.tables new.tables old.runners.items r new.runner c.shared.invariant.0 lt c.index_mut-runner.ensures.value c.deliver.ensures.others;
      changed = ap (λ m. record held { moment = m }) c.deliver.ensures.clock
          ∙ ap (λ b. record held { moment = old.tables.clock; refused = b }) (sym c.if-shared.false)
          ∙ ap (λ ps. record { moment = old.tables.clock; parts = ps; turns = old.turns.items; refused = old.refused })
          (one_changed i old.tables new.tables old.runners.items r new.runner c.shared.invariant.0 lt c.index_mut-runner.ensures.value c.deliver.ensures.others
          ∙ ap (λ p. set (parts_from 0 old.tables old.runners.items) i p) c.in_ok-deliver.ensures.own);
    })
