use Rattle.std.proofs.Common.{◌≡◌, ℕ, List, Some, Ok, length, arith, rules, sym, ap, ◌∙◌}
use Rattle.tk_dispatch.specs.Queue.{own_of}
use Rattle.tk_panel.specs.Panel.{Panel}
use Rattle.tk_panel.specs.Shared.{panel_of}
use Rattle.tk_panel.specs.Settle.{with_queue}
use Rattle.tk_panel.proofs.Choices.{chosen_queue}
use Rattle.tk_panel.proofs.Drains.{drained_finds, drained_skips}
use Rattle.tk_panel.proofs.Heads.{first_seen, none_seen}
use Rattle.tk_panel.proofs.Others.{others_queue, others_then}
use Rattle.tk_panel.proofs.settle.drain.Goals as goal

pub returns-then-is_some-clause-own : goal.returns-then-is_some-clause-own
returns-then-is_some-clause-own c =
    let before = panel_of c.args.slot c.loop-event.tables in
    let after = panel_of c.args.slot c.choose.new.tables in
    let scripts = c.in_ok-scripts-in-Ok-Some.scripts in
    let first = first_seen c.next.result scripts c.is_some.result c.next.ensures c.is_some.ensures c.if-is_some.true in
    let popped : c.pop.result ≡ Ok (Some c.in-Ok-Some.event) = search rules in
    let waits = rw popped at c.pop.ensures.event in
    ap (λ (s : List (List ℕ)). (after, s)) first.2
    ∙ drained_finds c.in-Ok-Some.event (own_of c.args.slot c.pop.new.self) before after first.0 first.1 waits (ap (λ (s : List (List ℕ)). (after, s)) (sym first.2) ∙ c.in_ok-scripts-in-Ok-Some.ensures.own)
    ∙ c.loop-event.invariant.same

pub loop-event-smaller : goal.loop-event-smaller
loop-event-smaller c =
    let before = panel_of c.args.slot c.loop-event.tables in
    let left : (panel_of c.args.slot c.choose.new.tables).queue ≡ own_of c.args.slot c.pop.new.self =
    ap (λ (there : Panel × List (List ℕ)). there.0.queue) c.in_ok-scripts-in-Ok-Some.ensures.own ∙ chosen_queue c.in-Ok-Some.event (with_queue (own_of c.args.slot c.pop.new.self) before) in
    let popped : c.pop.result ≡ Ok (Some c.in-Ok-Some.event) = search rules in
    let waits = rw popped at c.pop.ensures.event in
    omega (arith, ap length left, ap length waits)

pub loop-event-preserved : goal.loop-event-preserved
loop-event-preserved c =
    let before = panel_of c.args.slot c.loop-event.tables in
    let after = panel_of c.args.slot c.choose.new.tables in
    let scripts = c.in_ok-scripts-in-Ok-Some.scripts in
    let none = none_seen c.next.result scripts c.is_some.result c.next.ensures c.is_some.ensures c.if-is_some.false in
    let popped : c.pop.result ≡ Ok (Some c.in-Ok-Some.event) = search rules in
    let waits = rw popped at c.pop.ensures.event in
    record {
      same = drained_skips c.in-Ok-Some.event (own_of c.args.slot c.pop.new.self) before after waits (ap (λ (s : List (List ℕ)). (after, s)) (sym none) ∙ c.in_ok-scripts-in-Ok-Some.ensures.own) ∙ c.loop-event.invariant.same;
      others = others_then _ _ _ _ c.loop-event.invariant.others (others_then _ _ _ _ (others_queue _ _ _ c.pop.ensures.others) c.in_ok-scripts-in-Ok-Some.ensures.others);
    }
