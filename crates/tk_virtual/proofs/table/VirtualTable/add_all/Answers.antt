use Rattle.std.proofs.Common.{sym, ◌∙◌}
use Rattle.std.proofs.lemmas.Result.{on_err_weaker}
use Rattle.tk_virtual.proofs.WrittenBack.{written_back}
use Rattle.tk_virtual.proofs.table.VirtualTable.add_all.Goals as goal

pub returns-in-Some-clause-err : goal.returns-in-Some-clause-err
returns-in-Some-clause-err c =
    on_err_weaker c.add_all.result
    (λ same. written_back c.args.owner _ _ c.in-Some.own.now _ (c.get_mut.follows.holds c.add_all.new.self).0 (sym c.in-Some.ensures.value) same ∙ c.self.view_is) c.add_all.ensures.err
