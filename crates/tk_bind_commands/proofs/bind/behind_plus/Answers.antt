use Rattle.std.proofs.Common.{◌≡◌, ◌++◌}
use Rattle.std.specs.Prelude.{codes}
use Rattle.tk_bind_commands.proofs.PlusLemmas.{plus_some, plus_none}
use Rattle.tk_bind_commands.proofs.bind.behind_plus.Goals as goal

pub returns-in-Some : goal.returns-in-Some
returns-in-Some c =
    let front : c.args.word.now ≡ codes "+" ++ c.in-Some.more.now = let h = c.in-Some.ensures.cases in cc in
    plus_some c.args.word.now c.in-Some.more.now front

pub returns-in-None : goal.returns-in-None
returns-in-None c = plus_none c.args.word.now c.in-None.ensures.cases
