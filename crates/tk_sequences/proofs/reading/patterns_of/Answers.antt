use Rattle.std.proofs.Common.{◌≡◌, ℕ, List, sym, ap, ◌∙◌, arith, subst, drop, ◌-◌}
use Rattle.tk_sequences.specs.Reading.{behind_white, CutsOff}
use Rattle.tk_sequences.proofs.PieceLemmas.{read_first, read_more}
use Rattle.tk_sequences.proofs.reading.patterns_of.Goals as goal

pub loop-rest-init : goal.loop-rest-init
loop-rest-init c = read_first c.args.whole.now c.behind_white-rest.result.now c.new-patterns.result.items c.new-patterns.ensures.items
    (c.behind_white-rest.ensures ∙ ap behind_white c.as_str.ensures.bytes) c.behind_white-rest.utf8

pub loop-rest-preserved : goal.loop-rest-preserved
loop-rest-preserved c =
    let behind = drop c.in_ok-pattern.length c.loop-rest.rest.now in
    read_more c.args.whole.now c.loop-rest.rest.now behind c.behind_white-rest-in-loop-rest.result.now c.loop-rest.patterns.items c.push.new.self.items c.in_ok-pattern.pattern c.loop-rest.room
    (c.loop-rest.room - c.times-times.result) c.loop-rest.invariant c.in_ok-pattern.ensures.ok (omega arith) c.in_ok-push.ensures.items (ap (λ n. c.loop-rest.room - n) c.times-times.ensures.value)
    (c.behind_white-rest-in-loop-rest.ensures ∙ ap behind_white c.range_from.ensures.value) c.behind_white-rest-in-loop-rest.utf8
