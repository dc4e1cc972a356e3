use Rattle.std.proofs.Common.{drop}
use Rattle.tcl_interp.specs.Simple.{GivesWord}
use Rattle.tcl_interp.proofs.WholeLemmas.{one_ends}
use Rattle.tcl_interp.proofs.calls.with_one.Goals as goal

pub returns-clause-ok : goal.returns-clause-ok
returns-clause-ok g c =
    let outside = g.T.Tasks.outside in
    let first = c.in-Some.first in
    let gives : GivesWord outside c.args.room (drop 1 c.args.words.now) c.args.scopes.now c.args.context.now first.steps first.text = rw c.in-Some.is at c.in_ok-first.ensures.gives in
    one_ends outside c.args.room c.args.words.now c.args.scopes.now c.args.context.now c.call_variable.new.scopes c.args.name.now first.text first.steps c.in_ok-code.field-0.code c.in_ok-code.field-0.text
    c.requires.two c.requires.name.0 c.requires.name.1 gives c.in_ok-code.ensures
