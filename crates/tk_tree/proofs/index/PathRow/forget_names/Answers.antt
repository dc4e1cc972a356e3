use Rattle.std.proofs.Common.{None, refl, sym}
use Rattle.std.proofs.lemmas.Bool.{ne_eqb}
use Rattle.tk_tree.proofs.IndexLemmas.{text_set, text_kept}
use Rattle.tk_tree.proofs.index.PathRow.forget_names.Goals as goal

pub returns : goal.returns
returns c = record {
  key_is = c.remove.ensures.updates.1;
  number_is = text_set c.args.path.now c.args.self.now.numbers c.remove-2.new.self None c.remove-2.ensures.updates;
  keys = λ n differ. c.remove.ensures.updates.2 n (ne_eqb c.args.number n (λ e. differ (sym e)));
  numbers = text_kept c.args.path.now c.args.self.now.numbers c.remove-2.new.self None c.remove-2.ensures.updates;
  children = λ n. refl;
}
