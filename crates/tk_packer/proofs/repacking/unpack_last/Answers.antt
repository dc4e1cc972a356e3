use Rattle.std.proofs.Common.{◌≡◌, List, Option, None, set, ap, ◌∙◌, sym, subst}
use Rattle.tk_base.specs.declared.rect.Rect.{Rect}
use Rattle.tk_packer.specs.declared.standing.Slot.{Slot}
use Rattle.tk_packer.specs.Standing.{Standing, StandsWith, standing_of}
use Rattle.tk_packer.proofs.Emptying.{last_out, none_last}
use Rattle.tk_packer.proofs.Sets.{inserted}
use Rattle.tk_packer.proofs.repacking.unpack_last.Goals as goal

pub returns-in_default-clause-standing : goal.returns-in_default-clause-standing
returns-in_default-clause-standing c = none_last (standing_of c.args.windows.now) c.args.master c.args.left c.requires.standing c.in_default.ensures

pub returns-clause-standing : goal.returns-clause-standing
returns-clause-standing c =
    let s : Standing = standing_of c.args.windows.now in
    let new : Standing = standing_of c.unpack.new.windows in
    let known = c.in_ok-unpack.ensures in
    let place = c.in-Some.position in
    let now : new ≡ record s { places = set s.places place None; slots = set s.slots place None; rearrange = new.rearrange; moved = new.moved } =
    known.parts
    ∙ ap (λ (places : List (Option Rect)). record s { places = places; slots = new.slots; rearrange = new.rearrange; moved = new.moved }) known.places
    ∙ ap (λ (slots : List (Option Slot)). record s { places = set s.places place None; slots = slots; rearrange = new.rearrange; moved = new.moved }) known.slots in
    subst (StandsWith c.args.master c.args.left) (sym now)
    (last_out s c.args.master c.args.left c.requires.standing place new.rearrange new.moved c.in-Some.ensures c.requires.resize c.requires.rearrange
    (inserted c.args.windows.now.rearrange c.unpack.new.windows.rearrange place known.rearrange) (inserted c.args.windows.now.moved c.unpack.new.windows.moved place known.moved))

pub returns-clause-rearrange : goal.returns-clause-rearrange
returns-clause-rearrange c =
    let more = inserted c.args.windows.now.rearrange c.unpack.new.windows.rearrange c.in-Some.position c.in_ok-unpack.ensures.rearrange in
    more.more c.args.master c.requires.rearrange
