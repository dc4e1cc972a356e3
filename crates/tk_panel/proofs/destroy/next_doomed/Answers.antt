use Rattle.std.proofs.Common.{ℕ, List, sym, ap, ◌∙◌}
use Rattle.std.specs.Prelude.{Some}
use Rattle.tk_panel.specs.Destroy.{Doomed, next_doomed}
use Rattle.tk_panel.specs.Shared.{panel_of}
use Rattle.tk_panel.proofs.Dooms.{doomed_goes, doomed_waits}
use Rattle.tk_panel.proofs.Heads.{first_seen, none_seen}
use Rattle.tk_panel.proofs.Others.{others_then}
use Rattle.tk_panel.proofs.destroy.next_doomed.Goals as goal

pub returns-then-is_some-clause-own : goal.returns-then-is_some-clause-own
returns-then-is_some-clause-own c =
    let before = panel_of c.args.slot c.loop-number.tables in
    let after = panel_of c.args.slot c.choose_destroy.new.tables in
    let numbers = c.take_next.new.self in
    let number = c.in-Some.number in
    let scripts = c.in_ok-scripts.scripts in
    let first = first_seen c.next.result scripts c.is_some.result c.next.ensures c.is_some.ensures c.if-is_some.true in
    let left = rw c.in-Some.is at c.take_next.ensures in
    let doomed : List (List ℕ) → Doomed = λ s. record { panel = after; found = Some (number, s); rest = numbers } in
    ap doomed first.2
    ∙ doomed_waits number numbers before after first.0 first.1 (ap (λ (s : List (List ℕ)). (after, s)) (sym first.2) ∙ c.in_ok-scripts.ensures.own)
    ∙ ap (λ ns. next_doomed ns before) (sym left)
    ∙ c.loop-number.invariant.same

pub loop-number-preserved : goal.loop-number-preserved
loop-number-preserved c =
    let before = panel_of c.args.slot c.loop-number.tables in
    let after = panel_of c.args.slot c.choose_destroy.new.tables in
    let numbers = c.take_next.new.self in
    let number = c.in-Some.number in
    let scripts = c.in_ok-scripts.scripts in
    let none = none_seen c.next.result scripts c.is_some.result c.next.ensures c.is_some.ensures c.if-is_some.false in
    let left = rw c.in-Some.is at c.take_next.ensures in
    record {
      same =
          ap (next_doomed numbers) c.in_ok-remove.ensures.own
          ∙ doomed_goes number numbers before after (ap (λ (s : List (List ℕ)). (after, s)) (sym none) ∙ c.in_ok-scripts.ensures.own)
          ∙ ap (λ ns. next_doomed ns before) (sym left)
          ∙ c.loop-number.invariant.same;
      others = others_then _ _ _ _ c.loop-number.invariant.others (others_then _ _ _ _ c.in_ok-scripts.ensures.others c.in_ok-remove.ensures.others);
    }
