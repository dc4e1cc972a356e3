use Rattle.std.proofs.Common.{drop}
use Rattle.tcl_interp.specs.Simple.{GivesWord}
use Rattle.tcl_interp.proofs.WholeLemmas.{two_end}
use Rattle.tcl_interp.proofs.calls.with_two.Goals as goal

pub returns-clause-ok : goal.returns-clause-ok
returns-clause-ok g c =
    let outside = g.T.Tasks.outside in
    let first = c.in-Some.first in
    let second = c.in-Some-second.second in
    let one : GivesWord outside c.args.room (drop 1 c.args.words.now) c.args.scopes.now c.args.context.now first.steps first.text = rw c.in-Some.is at c.in_ok-first.ensures.gives in
    let other : GivesWord outside c.args.room (drop 2 c.args.words.now) c.args.scopes.now c.args.context.now second.steps second.text = rw c.in-Some-second.is at c.in_ok-second.ensures.gives in
    two_end outside c.args.room c.args.words.now c.args.scopes.now c.args.context.now c.call_variable.new.scopes c.args.name.now first.text second.text first.steps second.steps c.in_ok-code.field-0.code c.in_ok-code.field-0.text
    c.requires.three c.requires.name.0 c.requires.name.1 one other c.in_ok-code.ensures
