use Rattle.std.proofs.Common.{arith}
use Rattle.std.proofs.lemmas.Grind.{common_steps}
use Rattle.tk_screen.proofs.Escapes.{behind, escaped-plain, escaped-step}
use Rattle.tk_screen.proofs.fields.push_escaped.Goals as goal

pub loop-place-preserved : goal.loop-place-preserved
loop-place-preserved c =
    let rest = c.loop-place.rest.now in
    let found = c.in-Some.ensures in
    let step = escaped-step c.loop-place.out.items c.args.out.now.items c.args.text.now rest c.in-Some.place found.0.high
    (λ k below. found.0.before k (omega arith) below) c.loop-place.invariant in
    rw (c.in_ok-push_escaped_byte.ensures, c.in_ok-extend_from_slice.ensures.items, behind rest c.in-Some.place) step

pub returns : goal.returns
returns c =
    let rest = c.loop-place.rest.now in
    let plain = escaped-plain rest (λ k within. c.in_default.ensures k (omega arith) within) in
    let so_far = c.loop-place.invariant in
    grind (arith, common_steps, plain, so_far)
