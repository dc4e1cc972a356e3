use Rattle.std.proofs.Common.{◌<◌, ◌≤◌, ◌-◌, sym, ap, ◌∙◌, slice_get, arith}
use Rattle.tk_patterns.proofs.CopyLemmas.{copy_there, copies_past}
use Rattle.tk_patterns.specs.Copies.{all_copies}
use Rattle.tk_sequences.specs.Patterns.{times_of}
use Rattle.tk_patterns.proofs.copies.copy_at.Goals as goal

pub returns-then-left-times : goal.returns-then-left-times
returns-then-left-times c =
    let last = c.in-Some.ensures.cases.0 in
    let times = c.times-times.ensures.value in
    let below : c.loop-pattern.left < times_of c.in-Some.pattern.now.times = omega arith in
    sym (copy_there c.in-Some.pattern.now c.in-Some.earlier.now c.loop-pattern.left below)
    ∙ ap (λ patterns. slice_get (all_copies patterns) c.loop-pattern.left) (sym last)
    ∙ c.loop-pattern.invariant

pub loop-pattern-preserved : goal.loop-pattern-preserved
loop-pattern-preserved c =
    let last = c.in-Some.ensures.cases.0 in
    let times = c.times-times.ensures.value in
    let above : times_of c.in-Some.pattern.now.times ≤ c.loop-pattern.left = omega arith in
    ap (λ n. slice_get (all_copies c.in-Some.earlier.now) (c.loop-pattern.left - n)) times
    ∙ sym (copies_past c.in-Some.pattern.now c.in-Some.earlier.now c.loop-pattern.left above)
    ∙ ap (λ patterns. slice_get (all_copies patterns) c.loop-pattern.left) (sym last)
    ∙ c.loop-pattern.invariant
