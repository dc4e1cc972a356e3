use Rattle.std.proofs.Common.{ℕ, List, ◌&&◌, cond, filter, sym, ap, ◌∙◌}
use Rattle.std.specs.List.{list_any}
use Rattle.tk_virtual.specs.Classes.{is_of_class, listed_in}
use Rattle.tk_virtual.specs.Several.{is_left_in, without_these}
use Rattle.tk_virtual.specs.declared.pair.Pair.{Pair}
use Rattle.tk_virtual.proofs.ClassLemmas.{filed_without_these}
use Rattle.tk_virtual.proofs.pairs.VirtualPairs.delete_pairs.Goals as goal

pub invariant_of-self : goal.invariant_of-self
invariant_of-self c =
    let name = c.args.name.now in
    let wanted = c.args.wanted.now.keys in
    let old : ℕ → List Pair = λ class. listed_in class c.self.inside.classes.entries in (
      c.self.invariant.0,
      λ class. filed_without_these c.self.inside.pairs old (λ class. listed_in class c.delete_pairs_in.new.classes.entries) c.self.invariant.1 name wanted
          (λ class. c.delete_pairs_in.ensures class
          ∙ ap (λ l. cond (list_any (λ pair. is_of_class class pair && is_left_in name wanted (old class) pair) l) (without_these name wanted (old class)) (old class)) c.named.ensures) class
          ∙ ap (filter (is_of_class class)) (sym c.delete_pairs.ensures),
    )
