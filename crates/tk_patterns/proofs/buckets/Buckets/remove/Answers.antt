use Rattle.std.proofs.Common.{◌<◌, length, sym, ap, ◌∙◌, subst}
use Rattle.tk_patterns.specs.declared.filed.Numbers.{Numbers}
use Rattle.tk_patterns.specs.Filed.{stamps_of, has_class, has_whole, bucket_in, IsRising, AllBelow}
use Rattle.tk_patterns.proofs.FiledLemmas.{rising_less, below_less, buckets_less}
use Rattle.tk_patterns.proofs.buckets.Buckets.remove.Goals as goal

pub invariant_of-self : goal.invariant_of-self
invariant_of-self c =
    let list = c.self.inside.list.items in
    let place = c.args.place in
    let filed = c.remove-filed.result in
    let items = c.remove-filed.ensures.items in
    let was = c.self.invariant in
    let below = subst (λ l. place < length l) (sym c.self.view_is) c.requires in (
      (
        subst IsRising (sym items) (rising_less list place was.0.0),
        subst (AllBelow c.self.inside.next) (sym items) (below_less list place c.self.inside.next was.0.1),
      ),
      λ n. buckets_less (λ (k : Numbers). k.class) list place filed (bucket_in c.self.inside.classes) (bucket_in c.take_out.new.buckets) was.0.0 below c.remove-filed.ensures.value was.1 c.take_out.ensures.own c.take_out.ensures.others n
          ∙ ap (stamps_of (has_class n)) (sym items),
      λ n. buckets_less (λ (k : Numbers). k.whole) list place filed (bucket_in c.self.inside.wholes) (bucket_in c.take_out-2.new.buckets) was.0.0 below c.remove-filed.ensures.value was.2 c.take_out-2.ensures.own c.take_out-2.ensures.others n
          ∙ ap (stamps_of (has_whole n)) (sym items),
    )
