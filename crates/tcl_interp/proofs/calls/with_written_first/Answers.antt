use Rattle.std.proofs.Common.{◌≡◌, ◌+◌, drop, subst, arith}
use Rattle.tcl_interp.specs.Simple.{CommandEnds, GivesWord}
use Rattle.tcl_interp.proofs.SimpleLemmas.{written_gives}
use Rattle.tcl_interp.proofs.WholeLemmas.{two_end}
use Rattle.tcl_interp.proofs.calls.with_written_first.Goals as goal

pub returns-clause-ok : goal.returns-clause-ok
returns-clause-ok g c =
    let outside = g.T.Tasks.outside in
    let room = c.args.room in
    let words = c.args.words.now in
    let store = c.args.scopes.now in
    let store' = c.call_two.new.scopes in
    let context = c.args.context.now in
    let word = c.args.word.now in
    let second = c.in-Some.second in
    let end = c.in_ok-code.field-0 in
    let one : GivesWord outside room (drop 1 words) store context 0 word = written_gives outside room (drop 1 words) store context word c.requires.word.0 c.requires.word.1 in
    let other : GivesWord outside room (drop 2 words) store context second.steps second.text = rw c.in-Some.is at c.in_ok-second.ensures.gives in
    let sum : 0 + second.steps + 1 ≡ second.steps + 1 = omega arith in
    subst (λ n. CommandEnds outside room words store context n store' end.code end.text) sum
    (two_end outside room words store context store' c.args.name.now word second.text 0 second.steps end.code end.text c.requires.three c.requires.name.0 c.requires.name.1 one other c.in_ok-code.ensures)
