use Rattle.std.proofs.Common.{◌≡◌, ◌<◌, false, None, option_map, MatchOption, sym, ap, ◌∙◌, subst}
use Rattle.tk_tree.specs.Arena.{held_by}
use Rattle.tk_tree.specs.Create.{with_window}
use Rattle.tk_tree.specs.Own.{at_path, is_full}
use Rattle.tk_tree.specs.Shared.{own_of}
use Rattle.tk_tree.specs.Window.{number_of}
use Rattle.tk_tree.proofs.Added.{Inserted, inserted, undone}
use Rattle.tk_tree.proofs.Looks.{number_is, next_unused}
use Rattle.tk_tree.proofs.Rising.{adds_rising}
use Rattle.tk_tree.proofs.windows.Windows.insert.Goals as goal
use Rattle.tk_tree.proofs.windows.Windows.insert.Goals.{After-insert_reserved}

-- what there is with the window
done : (c : After-insert_reserved)
    → Inserted c.add.new.self c.self.inside.slab.slots c.insert_reserved.new.self.slots c.self.inside.counters.entries c.set_counter.new.counters.entries c.args.owner c.args.path.now c.args.kind c.args.parent
done c =
    inserted c.self.inside.index c.add.new.self c.self.inside.slab.slots c.reserve.new.self.slots c.insert_reserved.new.self.slots c.self.inside.counters.entries c.set_counter.new.counters.entries c.args.owner c.vacant_key-key.result c.reserve.new.self.vacant_key c.insert_reserved.result c.counter_of-number.result.next c.counter_of-number.result.count c.args.path.now c.as_str.result.now c.args.kind c.args.parent c.in_ok-window.window
    c.self.invariant
    (ap (λ s. s.slots) c.in_ok-reserve.ensures.rest_kept)
    c.in_ok-add.ensures.ok
    c.as_str.ensures.bytes
    c.in_ok-window.ensures
    c.vacant_key-key.ensures.value
    c.insert_reserved.ensures.key
    c.vacant_key-key.ensures.vacant
    c.insert_reserved.ensures.updates.changed
    c.insert_reserved.ensures.updates.others
    c.in-Ok.ensures.ok
    c.counter_of-number.ensures.next
    c.counter_of-number.ensures.count
    (subst (λ held. is_full (own_of c.args.owner held) ≡ false) (sym c.self.view_is) c.requires.room)
    (subst (λ held. MatchOption c.args.parent (Unit {0}) (λ number. number < (own_of c.args.owner held).next_number)) (sym c.self.view_is) c.requires.older)
    (subst (λ held. at_path c.args.path.now (own_of c.args.owner held) ≡ None) (sym c.self.view_is) c.requires.new)

pub remove-requires : goal.remove-requires
remove-requires c =
    adds_rising c.self.inside.index c.self.inside.slab.slots c.self.inside.counters.entries c.args.owner c.self.invariant
    c.add.new.self c.vacant_key-key.result c.counter_of-number.result.next c.as_str.result.now c.args.parent c.in_ok-add.ensures.ok c.counter_of-number.ensures.next

pub add-requires-clause-number : goal.add-requires-clause-number
add-requires-clause-number c = next_unused c.self.inside.index c.self.inside.slab.slots c.self.inside.counters.entries c.self.invariant c.args.owner c.counter_of-number.result.next c.counter_of-number.ensures.next

pub add-requires-clause-path : goal.add-requires-clause-path
add-requires-clause-path c =
    number_is c.self.inside.index c.self.inside.slab.slots c.self.inside.counters.entries c.self.invariant c.args.owner c.as_str.result.now
    ∙ ap (λ p. option_map number_of (at_path p (own_of c.args.owner (held_by c.self.inside.slab.slots c.self.inside.counters.entries)))) c.as_str.ensures.bytes
    ∙ ap (λ held. option_map number_of (at_path c.args.path.now (own_of c.args.owner held))) c.self.view_is
    ∙ ap (option_map number_of) c.requires.new

pub invariant_of-self-in-Err : goal.invariant_of-self-in-Err
invariant_of-self-in-Err c =
    undone c.self.inside.index c.add.new.self c.remove.new.self c.self.inside.slab.slots c.reserve.new.self.slots c.self.inside.counters.entries c.set_counter.new.counters.entries c.args.owner c.vacant_key-key.result c.counter_of-number.result.next c.args.path.now c.as_str.result.now c.as_str-in-Err.result.now c.args.parent
    c.self.invariant
    (ap (λ s. s.slots) c.in_ok-reserve.ensures.rest_kept)
    c.in-Err.ensures.err
    c.in_ok-add.ensures.ok
    c.as_str.ensures.bytes
    c.remove.ensures
    c.as_str-in-Err.ensures.bytes
    c.counter_of-number.ensures.next
    (subst (λ held. at_path c.args.path.now (own_of c.args.owner held) ≡ None) (sym c.self.view_is) c.requires.new)

pub invariant_of-self-2 : goal.invariant_of-self-2
invariant_of-self-2 c = (done c).kept

pub returns-clause-ok : goal.returns-clause-ok
returns-clause-ok c = (done c).own ∙ ap (λ held. with_window c.args.path.now c.args.kind c.args.parent (own_of c.args.owner held)) c.self.view_is

pub returns-clause-others : goal.returns-clause-others
returns-clause-others c = λ other differ. (done c).others other differ ∙ ap (own_of other) c.self.view_is
