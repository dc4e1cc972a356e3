use Rattle.std.proofs.Common.{ℕ, List, subst, sym}
use Rattle.std.specs.BTreeSet.{contains}
use Rattle.std.specs.Ordering.{nat_cmp}
use Rattle.tk_packer.proofs.Sets.{has, none_popped}
use Rattle.tk_screen.specs.Seen.{IsSeen}
use Rattle.tk_screen.specs.Shared.{own_of}
use Rattle.tk_screen.proofs.Looking.{popped, seen_again}
use Rattle.tk_screen.proofs.again.look_at_all.Goals as goal

pub loop-number-preserved : goal.loop-number-preserved
loop-number-preserved c =
    let own = own_of c.args.slot c.args.screen.now in
    let now = c.loop-number in
    seen_again own own.packs.packs c.args.scopes.now (contains nat_cmp now.touched) (contains nat_cmp c.pop_first.new.self) now.reads.entries c.look_at.new.reads.entries now.layout c.look_at.new.layout c.in-Some.number
    (popped now.touched c.pop_first.new.self c.in-Some.number c.in-Some.ensures.updates) c.in_ok-look_at.ensures.shape c.in_ok-look_at.ensures.read now.invariant

pub returns-clause-seen : goal.returns-clause-seen
returns-clause-seen c =
    let now = c.loop-number in
    subst (λ (keys : List ℕ). IsSeen (own_of c.args.slot c.args.screen.now) (own_of c.args.slot c.args.screen.now).packs.packs c.args.scopes.now (λ n. has n keys) now.reads.entries now.layout) (sym c.in_default.ensures.unchanged) now.invariant

pub returns-clause-none : goal.returns-clause-none
returns-clause-none c = none_popped c.loop-number.touched c.pop_first.new.self c.in_default.ensures.variant.1 c.in_default.ensures.unchanged
