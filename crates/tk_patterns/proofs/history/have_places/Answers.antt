use Rattle.std.proofs.Common.{◌+◌, take, drop, sym, ap, ◌∙◌, arith}
use Rattle.tk_patterns.proofs.MatchLemmas.{walk_none, walk_far, walk_on}
use Rattle.tk_patterns.proofs.CopyLemmas.{rest_at}
use Rattle.tk_patterns.specs.Matches.{earlier_at}
use Rattle.tk_patterns.specs.Copies.{all_copies}
use Rattle.tk_patterns.specs.Walk.{walk}
use Rattle.tk_patterns.proofs.history.have_places.Goals as goal

pub returns-in_default-nearest : goal.returns-in_default-nearest
returns-in_default-nearest c =
    let copies = all_copies c.args.patterns.now in
    let before = earlier_at c.args.event.now.number (take c.loop-place.end c.args.events.now.items) in
    let later = c.loop-place.later.now in
    let rest = rest_at copies c.loop-place.place c.in-Some.copy (sym c.in-Some.ensures) in
    sym (walk_none c.in-Some.copy (drop (c.loop-place.place + 1) copies) before later (sym c.in_default-nearest.ensures.found))
    ∙ ap (λ copies. walk copies before later) (sym rest)
    ∙ c.loop-place.invariant.same

pub returns-then-not-is_near_enough : goal.returns-then-not-is_near_enough
returns-then-not-is_near_enough c =
    let copies = all_copies c.args.patterns.now in
    let before = earlier_at c.args.event.now.number (take c.loop-place.end c.args.events.now.items) in
    let later = c.loop-place.later.now in
    let rest = rest_at copies c.loop-place.place c.in-Some.copy (sym c.in-Some.ensures) in
    sym (walk_far c.in-Some.copy (drop (c.loop-place.place + 1) copies) before later c.in-Some-nearest.here.now (earlier_at c.args.event.now.number (take c.in-Some-nearest.found c.args.events.now.items)) (sym c.in-Some-nearest.ensures.found) (sym c.if-not-is_near_enough.ensures))
    ∙ ap (λ copies. walk copies before later) (sym rest)
    ∙ c.loop-place.invariant.same

pub loop-place-preserved : goal.loop-place-preserved
loop-place-preserved c =
    let copies = all_copies c.args.patterns.now in
    let before = earlier_at c.args.event.now.number (take c.loop-place.end c.args.events.now.items) in
    let later = c.loop-place.later.now in
    let rest = rest_at copies c.loop-place.place c.in-Some.copy (sym c.in-Some.ensures) in
    let found = c.in-Some-nearest.ensures.place in
    let within = c.loop-place.invariant.within in
    record {
      within = omega arith;
      same = sym (walk_on c.in-Some.copy (drop (c.loop-place.place + 1) copies) before later c.in-Some-nearest.here.now (earlier_at c.args.event.now.number (take c.in-Some-nearest.found c.args.events.now.items)) (sym c.in-Some-nearest.ensures.found) (sym c.if-not-is_near_enough.ensures))
          ∙ ap (λ copies. walk copies before later) (sym rest)
          ∙ c.loop-place.invariant.same;
    }
