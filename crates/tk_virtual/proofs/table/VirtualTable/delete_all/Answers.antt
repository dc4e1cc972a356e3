-- What goes is what the words spell, which all have the name.
use Rattle.std.proofs.lemmas.Result.{err_from_is_err_and}
use Rattle.tk_virtual.specs.Shared.{own_of}
use Rattle.tk_virtual.proofs.SeveralLemmas.{all_meant, name_refused}
use Rattle.tk_virtual.proofs.table.VirtualTable.delete_all.Goals as goal

pub returns-in_err-meant-clause-refused : goal.returns-in_err-meant-clause-refused
returns-in_err-meant-clause-refused c =
    let p = err_from_is_err_and c.from_residual.result c.from_residual.ensures.1 in
    rw (p.1, p.2)
    (λ other. name_refused c.args.name.now c.args.sequences.now c.in_err-meant.field-0.0 (own_of c.args.owner c.args.self.now) c.requires (c.in_err-meant.ensures.refused other))

pub returns-clause-ok : goal.returns-clause-ok
returns-clause-ok c =
    all_meant c.args.name.now c.in_ok-meant.meant c.args.sequences.now c.in_ok-wanted.wanted.keys (own_of c.args.owner c.args.self.now) (own_of c.args.owner c.delete_pairs.new.self)
    c.in_ok-meant.ensures.ok c.in_ok-wanted.ensures.ok c.delete_pairs.ensures.own
