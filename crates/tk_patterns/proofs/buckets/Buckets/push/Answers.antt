use Rattle.std.proofs.Common.{◌+◌, ◌++◌, sym, ap, ◌∙◌, subst, arith}
use Rattle.tk_patterns.specs.declared.filed.Filed.{Filed}
use Rattle.tk_patterns.specs.declared.filed.Numbers.{Numbers}
use Rattle.tk_patterns.specs.Filed.{stamps_of, has_class, has_whole, stamp_under, IsRising, AllBelow}
use Rattle.tk_patterns.proofs.FiledLemmas.{rising_more, below_more, under_more}
use Rattle.tk_patterns.proofs.buckets.Buckets.push.Goals as goal

pub invariant_of-self-in-Ok : goal.invariant_of-self-in-Ok
invariant_of-self-in-Ok c =
    let list = c.self.inside.list.items in
    let next = c.self.inside.next in
    let numbers = c.args.numbers in
    let new : Filed = record { stamp = next; numbers = numbers } in
    let items = c.in_ok-push.ensures.items in
    let was = c.self.invariant in (
      (
        subst IsRising (sym items) (rising_more list new was.0.0 was.0.1),
        subst (AllBelow (next + 1)) (sym items) (below_more list new (next + 1) was.0.1 (omega arith)),
      ),
      λ n. c.in-Ok.ensures.classes n ∙ ap (λ stamps. stamps ++ stamp_under n numbers.class next) (was.1 n) ∙ sym (under_more (λ (k : Numbers). k.class) n list new) ∙ ap (stamps_of (has_class n)) (sym items),
      λ n. c.in-Ok.ensures.wholes n ∙ ap (λ stamps. stamps ++ stamp_under n numbers.whole next) (was.2 n) ∙ sym (under_more (λ (k : Numbers). k.whole) n list new) ∙ ap (stamps_of (has_whole n)) (sym items),
    )
