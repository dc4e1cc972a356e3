use Rattle.std.specs.BTreeSet.{contains}
use Rattle.std.specs.Ordering.{nat_cmp}
use Rattle.tk_screen.specs.Shared.{own_of}
use Rattle.tk_screen.proofs.KeptPlaces.{packed_now, same_changes, seen_laid, settled_laid}
use Rattle.tk_screen.proofs.Looking.{seen_now}
use Rattle.tk_screen.proofs.Repacking.{seen_with}
use Rattle.tk_packer.proofs.Inputs.{told_of}
use Rattle.tk_packer.specs.Standing.{Inputs}
use Rattle.tk_screen.specs.Seen.{IsWith}
use Rattle.tk_screen.proofs.layout.changes_since.Goals as goal

pub look_at_all-requires : goal.look_at_all-requires
look_at_all-requires c =
    let mark = c.args.mark in
    let own = own_of c.args.slot c.args.screen.now in
    let marked = c.requires.marked in
    seen_now own own.packs.packs marked.0 c.args.scopes.now (contains nat_cmp mark.touched) (contains nat_cmp c.add_changed.new.touched) mark.reads.entries c.in_ok-add_changed.ensures c.in-Some.layout
    (seen_with own marked.1.0 marked.0 (contains nat_cmp mark.touched) mark.reads.entries mark.repacked mark.layout c.in-Some.layout marked.1.1.0
    (told_of c.in_ok-layout.field-0 c.in-Some.layout (IsWith mark.repacked own.packs.packs mark.layout) c.in-Some.is c.in_ok-layout.ensures) marked.1.1.1)

pub returns-clause-changes : goal.returns-clause-changes
returns-clause-changes c =
    let looked = c.look_at_all.new in
    let known = c.in_ok-look_at_all.ensures in
    same_changes (own_of c.args.slot c.args.screen.now) c.args.scopes.now (contains nat_cmp looked.touched) looked.reads.entries looked.layout known.seen known.none c.in_ok-changes.changes.items c.in_ok-changes.ensures.changes

pub returns-clause-marked : goal.returns-clause-marked
returns-clause-marked c =
    let looked = c.look_at_all.new in
    let known = c.in_ok-look_at_all.ensures in (
      c.args.scopes.now,
      packed_now (own_of c.args.slot c.args.screen.now) c.args.scopes.now (contains nat_cmp looked.touched) looked.reads.entries c.lay_out.new.self
          (seen_laid (own_of c.args.slot c.args.screen.now) c.args.scopes.now (contains nat_cmp looked.touched) looked.reads.entries looked.layout known.seen known.none c.requires.sound c.lay_out.new.self c.in_ok-changes.ensures.own)
          (settled_laid (own_of c.args.slot c.args.screen.now) c.args.scopes.now (contains nat_cmp looked.touched) looked.reads.entries looked.layout known.seen known.none c.requires.sound c.lay_out.new.self c.in_ok-changes.ensures.own),
    )
