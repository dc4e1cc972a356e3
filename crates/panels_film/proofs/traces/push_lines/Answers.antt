use Rattle.std.proofs.Common.{string_bytes}
use Rattle.std.specs.Option.{option_copied}
use Rattle.panels_film.proofs.Tracing.{one_number}
use Rattle.panels_film.proofs.traces.push_lines.Goals as goal

pub loop-number-preserved : goal.loop-number-preserved
loop-number-preserved c =
    let at = c.loop-number in
    one_number c.args.story (option_copied c.args.span.before) c.args.span.last at.number c.args.behind (string_bytes at.text) (string_bytes c.push_gesture.new.text)
    (string_bytes c.push_bindings-in-loop-number.new.text) _ c.loop-number-test.true c.in_ok-push_gesture.ensures c.in_ok-push_bindings-2.ensures at.invariant
