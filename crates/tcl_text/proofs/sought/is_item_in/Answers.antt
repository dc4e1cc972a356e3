use Rattle.std.proofs.Common.{◌+◌, ◌<◌, ◌≤◌, length, arith}
use Rattle.std.proofs.lemmas.List.{take_rest}
use Rattle.tcl_text.proofs.SoughtLemmas.{ComparesTo, compares_start, compares_run, compares_escape, compares_told}
use Rattle.tcl_text.proofs.sought.is_item_in.Goals as goal

pub loop-at-init : goal.loop-at-init
loop-at-init c = record { within = omega arith; compares = compares_start c.args.quoted c.args.text.now c.args.item }

pub returns-then-at-text-clause-read : goal.returns-then-at-text-clause-read
returns-then-at-text-clause-read c =
    let text = c.args.text.now in
    let at = c.loop-at.at in
    compares_told c.args.quoted c.args.item.now text (at + c.run_len-run.result) c.behind_bytes-left.result c.is_whole.result
    (compares_run c.args.quoted c.args.item.now text _ at c.run_len-run.result c.loop-at.left c.behind_bytes-left.result (take_rest text at) c.loop-at.invariant.compares c.run_len-run.ensures.fits c.run_len-run.ensures.reads c.behind_bytes-left.ensures)
    c.is_whole.ensures

pub loop-at-preserved : goal.loop-at-preserved
loop-at-preserved c =
    let text = c.args.text.now in
    let quoted = c.args.quoted in
    let item = c.args.item.now in
    let at = c.loop-at.at in
    let stop = at + c.run_len-run.result in
    let run : ComparesTo quoted item text stop c.behind_bytes-left.result =
    compares_run quoted item text _ at c.run_len-run.result c.loop-at.left c.behind_bytes-left.result (take_rest text at) c.loop-at.invariant.compares c.run_len-run.ensures.fits c.run_len-run.ensures.reads c.behind_bytes-left.ensures
    in
    let inside : stop < length text = (let within : stop ≤ length text = run.reads.fits in omega arith) in
    let next =
    compares_escape quoted item text _ stop c.behind_escape-length.result.1 c.behind_bytes-left.result c.behind_escape-length.result.0 (take_rest text (stop + 1)) run inside (omega arith) c.behind_escape-length.ensures.taken c.behind_escape-length.ensures.goes_on
    in
    record { within = next.reads.fits; compares = next }
