use Rattle.std.proofs.Common.{◌≡◌, ℤ, FitsSigned, to_z, of_z, subst, arith}
use Rattle.std.proofs.lemmas.Int.{ints}
use Rattle.std.specs.Int.{w64, w128}
use Rattle.tk_alias.proofs.SumLemmas.{out_of_range}
use Rattle.tk_alias.proofs.summing.whole.Goals as goal

pub returns-in-Err : goal.returns-in-Err
returns-in-Err c =
    let same : to_z w128 (of_z w128 c.args.total) ≡ c.args.total = omega (arith, ints) in
    let Beyond : ℤ → Type 0 = λ z. FitsSigned w64 z → ⊥ in
    rw (out_of_range c.args.total (subst Beyond same c.in-Err.ensures)) c.too_large.ensures
