use Rattle.std.proofs.Common.{◌≡◌, ◌∷◌, [], ◌++◌, map, sym, ap, ◌∙◌, arith}
use Rattle.std.proofs.lemmas.Grind.{common_steps}
use Rattle.std.proofs.lemmas.List.{map_push}
use Rattle.tk_patterns.specs.Filed.{numbers_of}
use Rattle.tk_patterns.specs.Filing.{filed_under}
use Rattle.tk_patterns.specs.Marks.{all_marked}
use Rattle.tk_patterns.proofs.MarkLemmas.{marked_more, marked_still}
use Rattle.tk_patterns.proofs.own.OwnBindings.add.Goals as goal

-- where nothing is added the marks that were are still there
pub invariant_of-self : goal.invariant_of-self
invariant_of-self c =
    let own = c.self.inside.bindings.items in
    let marks = c.mark_binding.new.marks in
    let same = c.in_err-add.ensures.err in (
      c.self.invariant.0 ∙ sym (ap (map filed_under) same),
      ap (all_marked marks) same ∙ marked_still c.self.inside.marks marks own c.mark_binding.ensures.others c.self.invariant.1,
    )

pub invariant_of-self-in-Ok : goal.invariant_of-self-in-Ok
invariant_of-self-in-Ok c =
    let own = c.self.inside.bindings.items in
    let marks = c.mark_binding.new.marks in
    let more = c.in_ok-add.ensures.ok in (
      c.in-Ok.ensures.ok
          ∙ ap (λ numbers. numbers ++ c.filed_under-numbers.result ∷ []) c.self.invariant.0
          ∙ ap (λ number. map filed_under own ++ number ∷ []) c.filed_under-numbers.ensures
          ∙ sym (map_push filed_under own c.args.binding)
          ∙ sym (ap (map filed_under) more),
      ap (all_marked marks) more ∙ marked_more c.self.inside.marks marks own c.args.binding c.mark_binding.ensures.others c.mark_binding.ensures.own c.self.invariant.1,
    )

pub invariant_of-self-in-Err : goal.invariant_of-self-in-Err
invariant_of-self-in-Err c =
    let own = c.self.inside.bindings.items in
    let marks = c.mark_binding.new.marks in
    let same : c.pop.new.self.items ≡ own = grind (arith, common_steps) in (
      ap numbers_of c.in-Err.ensures.err ∙ c.self.invariant.0 ∙ sym (ap (map filed_under) same),
      ap (all_marked marks) same ∙ marked_still c.self.inside.marks marks own c.mark_binding.ensures.others c.self.invariant.1,
    )
