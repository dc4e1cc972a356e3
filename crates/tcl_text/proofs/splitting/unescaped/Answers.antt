use Rattle.std.proofs.Common.{◌+◌, ◌<◌, ◌≤◌, length, arith}
use Rattle.std.proofs.lemmas.List.{take_rest}
use Rattle.tcl_text.specs.Escaped.{escape_seen}
use Rattle.tcl_text.specs.Splitting.{Unescapes}
use Rattle.tcl_text.proofs.SplittingLemmas.{Unescapes-run_read, Unescapes-escape_read}
use Rattle.tcl_text.proofs.splitting.unescaped.Goals as goal

pub returns-then-at-text-clause-read : goal.returns-then-at-text-clause-read
returns-then-at-text-clause-read c =
    let text = c.args.text.now in
    let at = c.loop-bytes.at in
    Unescapes-run_read c.args.quoted text _ _ _ at c.run_len-run.result (take_rest text at) c.loop-bytes.invariant c.run_len-run.ensures.fits c.run_len-run.ensures.reads c.in_ok-extend_from_slice.ensures.items

pub loop-bytes-preserved : goal.loop-bytes-preserved
loop-bytes-preserved c =
    let text = c.args.text.now in
    let quoted = c.args.quoted in
    let at = c.loop-bytes.at in
    let stop = at + c.run_len-run.result in
    let bytes = c.extend_from_slice.new.self.items in
    let run : Unescapes quoted text bytes stop =
    Unescapes-run_read quoted text _ _ _ at c.run_len-run.result (take_rest text at) c.loop-bytes.invariant c.run_len-run.ensures.fits c.run_len-run.ensures.reads c.in_ok-extend_from_slice.ensures.items
    in
    let inside : stop < length text = (let within : stop ≤ length text = run.fits in omega arith) in
    Unescapes-escape_read quoted text bytes _ _ stop (escape_seen c.escape_behind-escape.result) (take_rest text (stop + 1)) run inside (omega arith) c.escape_behind-escape.ensures.exact c.in_ok-push_meaning.ensures
