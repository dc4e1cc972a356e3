use Rattle.std.proofs.Common.{◌++◌, min, ap, ◌∙◌, subst, arith}
use Rattle.tk_app.specs.Rounds.{one_turn}
use Rattle.tk_panel.specs.Shared.{panel_of}
use Rattle.tk_app.specs.Turns.{Applications, Program, TakesTurn, part_of}
use Rattle.tk_app.specs.Part.{needs, settling_begun}
use Rattle.tk_app.proofs.Slots.{in_range}
use Rattle.tk_app.proofs.Views.{changes_only, held_kept, is_another, only_same, slot_held, was_one}
use Rattle.tk_app.proofs.view.AppView.settle.Goals as goal

pub returns-then-shared-clause-only : goal.returns-then-shared-clause-only
returns-then-shared-clause-only g c = only_same c.args.steps c.args.self.now.slot c.args.self.now.shared.now c.args.self.now.held

pub index_mut-runner-requires : goal.index_mut-runner-requires
index_mut-runner-requires g c = let lt = in_range _ _ c.shared.view_is c.args.self.now.held in omega (arith, lt)

pub invariant_of-shared : goal.invariant_of-shared
invariant_of-shared g c = held_kept _ _ _ _ c.shared.view_is c.args.self.now.held c.take_turn.ensures.others c.shared.invariant c.take_turn.ensures.clock

pub invariant_of-self-in-Break-1 : goal.invariant_of-self-in-Break-1
invariant_of-self-in-Break-1 g c = record { held = slot_held _ _ _ _ c.shared.view_is c.args.self.now.held c.take_turn.ensures.others }

pub returns-in_err-end-clause-only : goal.returns-in_err-end-clause-only
returns-in_err-end-clause-only g c =
    let turn = c.take_turn.ensures in
    changes_only _ _ _ _ c.shared.view_is c.args.self.now.held turn.others c.shared.invariant.0 c.index_mut-runner.ensures.value turn.budget turn.fewer turn.most turn.told turn.clock

pub invariant_of-shared-2 : goal.invariant_of-shared-2
invariant_of-shared-2 g c = held_kept _ _ _ _ c.shared.view_is c.args.self.now.held c.take_turn.ensures.others c.shared.invariant c.take_turn.ensures.clock

pub invariant_of-self-2 : goal.invariant_of-self-2
invariant_of-self-2 g c = record { held = slot_held _ _ _ _ c.shared.view_is c.args.self.now.held c.take_turn.ensures.others }

pub returns-clause-only : goal.returns-clause-only
returns-clause-only g c =
    let turn = c.take_turn.ensures in
    changes_only _ _ _ _ c.shared.view_is c.args.self.now.held turn.others c.shared.invariant.0 c.index_mut-runner.ensures.value turn.budget turn.fewer turn.most turn.told turn.clock

pub returns-clause-settled : goal.returns-clause-settled
returns-clause-settled g c =
    let i = c.args.self.now.slot in
    let r : Program _ = c.index_mut-runner.result.now in
    let before = part_of (panel_of i c.shared.inside.tables) r in
    let after = part_of (panel_of i c.take_turn.new.tables) c.take_turn.new.runner in
    let now = ap (λ (h : Applications _). h.moment) c.shared.view_is in
    let turn = c.in_ok-end.ensures.turn in
    record {
      before = before;
      after = after;
      was = was_one _ _ _ c.take_turn.new.runner c.shared.view_is c.args.self.now.held c.take_turn.ensures.others c.shared.invariant.0 c.index_mut-runner.ensures.value;
      changed = is_another _ _ _ _ c.shared.view_is c.args.self.now.held c.take_turn.ensures.others c.shared.invariant.0 c.index_mut-runner.ensures.value;
      turn = subst (λ moment. TakesTurn g.M.AliasMeaning.answer moment c.args.steps c.in_ok-end.end (settling_begun before) after) now turn;
      told = c.take_turn.ensures.told ∙ ap (λ n. c.shared.inside.turns.items ++ one_turn i n) turn.taken
          ∙ ap (λ (h : Applications _). h.turns ++ one_turn i (min c.args.steps (needs g.M.AliasMeaning.answer h.moment (settling_begun before)))) c.shared.view_is;
      moment = c.take_turn.ensures.clock ∙ now;
    }
