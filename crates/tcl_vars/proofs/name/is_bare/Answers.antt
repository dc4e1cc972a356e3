use Rattle.std.proofs.Common.{◌≡◌, arith, slice_index_or}
use Rattle.std.proofs.lemmas.Bool.Decides.{nat_tests}
use Rattle.tcl_vars.proofs.NameLemmas.{apart, bare_place}
use Rattle.tcl_vars.proofs.name.is_bare.Goals as goal

pub returns-then-first-ne58 : goal.returns-then-first-ne58
returns-then-first-ne58 c = λ last.
    let head : slice_index_or c.args.name.now 0 0 ≡ 58 → ⊥ = first_of (search (c.if-first-ne58.true), search (apart, c.if-first-ne58.true), grind (arith, nat_tests, c.if-first-ne58.true)) in
    bare_place c.args.name.now head last

pub returns-else-first-ne58 : goal.returns-else-first-ne58
returns-else-first-ne58 c = λ differs.
    let same : slice_index_or c.args.name.now 0 0 ≡ 58 = first_of (search (c.if-first-ne58.false), grind (arith, nat_tests, c.if-first-ne58.false)) in
    absurd (apart (slice_index_or c.args.name.now 0 0) 58 differs same)
