use Rattle.std.proofs.Common.{◌≡◌, ap, arith, eqb, length, sym, vec_len, ◌∙◌}
use Rattle.panels_bench.proofs.TableLemmas.{unless_full}
use Rattle.panels_bench.proofs.seeing.unless_empty.Goals as goal

pub returns : goal.returns
returns c =
    let same : length c.args.looks.items ≡ vec_len c.args.looks = omega (arith, c.args.looks.ok.0) in
    unless_full c.args.may_be c.args.looks.items (ap (λ count. eqb count 0) same ∙ (sym c.is_empty.ensures ∙ c.if-is_empty.false))
