use Rattle.std.proofs.Common.{◌≡◌, string_bytes, Some, refl, sym, ◌∙◌, subst}
use Rattle.std.specs.HashMap.{get_by_text}
use Rattle.std.proofs.lemmas.Bool.{ne_eqb}
use Rattle.tk_tree.proofs.IndexLemmas.{text_set, text_kept}
use Rattle.tk_tree.proofs.index.PathRow.add_names.Goals as goal
use Rattle.tk_tree.proofs.index.PathRow.add_names.Goals.{in-Ok, in-Err}

pub returns-clause-ok : goal.returns-clause-ok
returns-clause-ok c =
    elim c.match-insert.branch [
      | in-Ok w ↦ rw (w.result-is, w.self-is)
          (record {
            key_is = c.in_ok-insert.ensures.updates.1;
            number_is = subst (λ p. get_by_text c.insert-2.new.self p ≡ Some c.args.number) c.in_ok-name.ensures.ok (text_set (string_bytes c.in_ok-name.name) c.args.self.now.numbers c.insert-2.new.self (Some c.args.number) w.in-Ok.ensures.updates);
            keys = λ n differ. c.in_ok-insert.ensures.updates.2 n (ne_eqb c.args.number n (λ e. differ (sym e)));
            numbers = λ p differ. text_kept (string_bytes c.in_ok-name.name) c.args.self.now.numbers c.insert-2.new.self (Some c.args.number) w.in-Ok.ensures.updates p (λ e. differ (e ∙ c.in_ok-name.ensures.ok));
            children = λ n. refl;
          })
      | in-Err w ↦ rw w.result-is tt
    ]
