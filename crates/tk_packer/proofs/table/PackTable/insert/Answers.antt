use Rattle.std.proofs.Common.{nat_eq, sym, ap, ◌∙◌}
use Rattle.std.specs.Map.{set_value}
use Rattle.std.proofs.lemmas.Map.Steps.{set_value_same}
use Rattle.std.proofs.lemmas.Result.{on_err_weaker}
use Rattle.tk_packer.specs.Packs.{Packing}
use Rattle.tk_packer.proofs.table.PackTable.insert.Goals as goal

-- nothing was written: what was found goes back
pub returns-in-Some-clause-err : goal.returns-in-Some-clause-err
returns-in-Some-clause-err c =
    let entries = c.self.inside.owners.entries in
    on_err_weaker c.put.result
    (λ same. (c.get_mut.follows.holds c.put.new.self).0 ∙ ap (λ (own : Packing). set_value (nat_eq c.args.owner) entries own) same
    ∙ set_value_same (nat_eq c.args.owner) entries c.in-Some.own.now (sym c.in-Some.ensures.value) ∙ c.self.view_is)
    c.put.ensures.err
