use Rattle.std.proofs.Common.{false, ap, refl}
use Rattle.std.specs.BTreeSet.{contains}
use Rattle.std.specs.Ordering.{nat_cmp}
use Rattle.tk_packer.proofs.Sets.{has}
use Rattle.tk_screen.specs.Shared.{own_of}
use Rattle.tk_screen.proofs.KeptPlaces.{packed_now, same_changes, seen_first, seen_laid, settled_laid}
use Rattle.tk_screen.proofs.layout.changes_anew.Goals as goal

pub returns-clause-changes : goal.returns-clause-changes
returns-clause-changes c =
    let own = own_of c.args.slot c.args.screen.now in
    let store = c.args.scopes.now in
    let found = c.in_ok-shapes.field-0 in
    let seen = seen_first own store (λ n. false) found.reads.entries c.in_ok-layout.field-0 c.in-Some.layout c.size_of-size.result found.shapes.items c.in-Some.is c.in_ok-layout.ensures
    c.size_of-size.ensures c.in_ok-shapes.ensures.shapes c.in_ok-shapes.ensures.reads in
    same_changes own store (λ n. false) found.reads.entries c.in-Some.layout seen (λ n. refl) c.in_ok-changes.changes.items c.in_ok-changes.ensures.changes

pub returns-clause-marked : goal.returns-clause-marked
returns-clause-marked c =
    let own = own_of c.args.slot c.args.screen.now in
    let store = c.args.scopes.now in
    let found = c.in_ok-shapes.field-0 in
    let touched = contains nat_cmp c.new-2.result in
    let seen = seen_first own store touched found.reads.entries c.in_ok-layout.field-0 c.in-Some.layout c.size_of-size.result found.shapes.items c.in-Some.is c.in_ok-layout.ensures
    c.size_of-size.ensures c.in_ok-shapes.ensures.shapes c.in_ok-shapes.ensures.reads in (
      store,
      packed_now own store touched found.reads.entries c.lay_out.new.self
          (seen_laid own store touched found.reads.entries c.in-Some.layout seen (λ n. ap (has n) c.new-2.ensures.empty) c.requires c.lay_out.new.self c.in_ok-changes.ensures.own)
          (settled_laid own store touched found.reads.entries c.in-Some.layout seen (λ n. ap (has n) c.new-2.ensures.empty) c.requires c.lay_out.new.self c.in_ok-changes.ensures.own),
    )
