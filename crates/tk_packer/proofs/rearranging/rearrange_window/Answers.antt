use Rattle.std.proofs.Common.{sym, subst}
use Rattle.std.specs.BTreeSet.{contains}
use Rattle.std.specs.Ordering.{nat_cmp}
use Rattle.tk_packer.specs.Standing.{ArePlacesNow, Standing, standing_of}
use Rattle.tk_packer.proofs.Changing.{is_arranged}
use Rattle.tk_packer.proofs.Rooms.{arranged_by}
use Rattle.tk_packer.proofs.Sets.{removed}
use Rattle.tk_packer.proofs.rearranging.rearrange_window.Goals as goal

pub returns-clause-standing : goal.returns-clause-standing
returns-clause-standing c =
    let s : Standing = standing_of c.args.windows.now in
    let s1 : Standing = standing_of c.put_all.new.windows in
    let known = c.in_ok-put_all.ensures in
    let less = removed c.put_all.new.windows.rearrange c.remove.new.self c.args.place c.remove.ensures.updates in
    let wanted : ArePlacesNow s c.args.place c.as_slice.result.now = subst (ArePlacesNow s c.args.place) (sym c.as_slice.ensures.value) c.in_ok-places.ensures in
    is_arranged s1 known.standing c.args.place (contains nat_cmp c.remove.new.self) less.others (λ q is. (less.fewer q is).1)
    (arranged_by s s1 c.args.place c.as_slice.result.now known.parts known.own known.placed wanted)
