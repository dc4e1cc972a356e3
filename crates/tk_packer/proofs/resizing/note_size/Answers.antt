use Rattle.std.proofs.Common.{ℕ, List, set, sym, subst}
use Rattle.std.specs.BTreeSet.{contains}
use Rattle.std.specs.Ordering.{nat_cmp}
use Rattle.tk_packer.specs.Standing.{IsSizeNow, IsStanding, Standing, standing_of}
use Rattle.tk_packer.proofs.Changing.{asked_changed, is_sized, sized_now}
use Rattle.tk_packer.proofs.Sets.{removed}
use Rattle.tk_packer.proofs.resizing.note_size.Goals as goal

pub returns-clause-standing : goal.returns-clause-standing
returns-clause-standing c =
    let s : Standing = standing_of c.mark_master.new.windows in
    let known = c.in_ok-mark_master.ensures in
    let now : IsSizeNow s c.args.place c.args.size = subst (λ (x : Standing). IsSizeNow x c.args.place c.args.size) (sym known.parts) c.requires.size in
    let less = removed c.mark_master.new.windows.resize c.remove-2.new.self c.args.place c.remove-2.ensures.updates in
    subst (λ (asked : List (ℕ × ℕ)). IsStanding (record s { asked = asked; resize = contains nat_cmp c.remove-2.new.self })) (sym c.put_size.ensures)
    (is_sized (record s { asked = set s.asked c.args.place c.args.size })
    (asked_changed s known.standing c.args.place c.args.size known.waits (known.more c.args.place c.requires.marked)) c.args.place (contains nat_cmp c.remove-2.new.self) less.others
    (sized_now s known.standing c.args.place c.args.size now))
