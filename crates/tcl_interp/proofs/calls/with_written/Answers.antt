use Rattle.std.proofs.Common.{drop}
use Rattle.tcl_interp.specs.Simple.{GivesWord}
use Rattle.tcl_interp.proofs.SimpleLemmas.{written_gives}
use Rattle.tcl_interp.proofs.WholeLemmas.{one_ends}
use Rattle.tcl_interp.proofs.calls.with_written.Goals as goal

pub returns-clause-ok : goal.returns-clause-ok
returns-clause-ok g c =
    let outside = g.T.Tasks.outside in
    let words = c.args.words.now in
    let store = c.args.scopes.now in
    let context = c.args.context.now in
    let word = c.args.word.now in
    let gives : GivesWord outside c.args.room (drop 1 words) store context 0 word = written_gives outside c.args.room (drop 1 words) store context word c.requires.word.0 c.requires.word.1 in
    one_ends outside c.args.room words store context c.call_one.new.scopes c.args.name.now word 0 c.in_ok-code.field-0.code c.in_ok-code.field-0.text c.requires.two c.requires.name.0 c.requires.name.1 gives c.in_ok-code.ensures
