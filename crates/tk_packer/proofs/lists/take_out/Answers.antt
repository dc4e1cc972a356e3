use Rattle.std.proofs.Common.{◌≡◌, ◌≢◌, List, ◌<◌, length, sym, subst, ◌∙◌}
use Rattle.std.specs.List.{AllWithin, HoldsAt}
use Rattle.tk_packer.specs.declared.packed.Packed.{Packed}
use Rattle.tk_packer.proofs.Ties.{removed_is, all_stay}
use Rattle.tk_packer.proofs.lists.take_out.Goals as goal

pub returns-in-Some-clause-items : goal.returns-in-Some-clause-items
returns-in-Some-clause-items c =
    let number = c.args.number in
    let place = c.in-Some.place in
    c.remove.ensures.items
    ∙ removed_is number c.args.slaves.now.items place c.requires
    (subst (λ (slaves : List Packed). place < length slaves) c.as_slice.ensures c.in-Some.ensures.0)
    (subst (λ (slaves : List Packed). HoldsAt (λ packed. packed.number ≡ number) slaves place) c.as_slice.ensures c.in-Some.ensures.1)

pub returns-in_default-clause-items : goal.returns-in_default-clause-items
returns-in_default-clause-items c =
    let number = c.args.number in
    sym (all_stay number c.args.slaves.now.items
    (subst (λ (slaves : List Packed). AllWithin (λ packed. packed.number ≢ number) slaves 0 (length slaves)) c.as_slice.ensures c.in_default.ensures))
