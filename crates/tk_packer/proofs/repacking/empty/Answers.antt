use Rattle.std.proofs.Common.{◌≡◌, ℕ, ◌+◌, ◌-◌, [], List, length, set, refl, ap, ◌∙◌, sym, subst, arith}
use Rattle.tk_packer.specs.declared.standing.Slave.{Slave}
use Rattle.tk_packer.specs.Standing.{IsStanding, Standing, StandsWith, standing_of}
use Rattle.tk_packer.proofs.Emptying.{all_left, none_left}
use Rattle.tk_packer.proofs.Gets.{within_get}
use Rattle.tk_packer.proofs.repacking.empty.Goals as goal

pub loop-left-init : goal.loop-left-init
loop-left-init c =
    let marked = c.in_ok-mark.ensures in
    record {
      standing = all_left (standing_of c.mark.new.windows) marked.standing c.args.master c.count_at-left.result c.count_at-left.ensures;
      parts = refl;
      marked = marked.rearrange;
    }

pub unpack_last-requires-clause-standing : goal.unpack_last-requires-clause-standing
unpack_last-requires-clause-standing c =
    let above : c.loop-left.left ≡ c.loop-left.left - 1 + 1 = omega arith in
    subst (λ (n : ℕ). StandsWith c.args.master n (standing_of c.loop-left.windows)) above c.loop-left.invariant.standing

pub unpack_last-requires-clause-resize : goal.unpack_last-requires-clause-resize
unpack_last-requires-clause-resize c = ap (λ (x : Standing). x.resize c.args.master) c.loop-left.invariant.parts ∙ c.in_ok-mark.ensures.resize

pub loop-left-preserved : goal.loop-left-preserved
loop-left-preserved c =
    let s : Standing = standing_of c.unpack_last.new.windows in
    let known = c.in_ok-unpack_last.ensures in
    record {
      standing = known.standing;
      parts = known.parts ∙ ap (λ (x : Standing). record x { places = s.places; slots = s.slots; rearrange = s.rearrange; moved = s.moved }) c.loop-left.invariant.parts;
      marked = known.rearrange;
    }

pub returns-clause-standing : goal.returns-clause-standing
returns-clause-standing c =
    let s : Standing = standing_of c.loop-left.windows in
    let parts = c.loop-left.invariant.parts ∙ ap (λ (x : Standing). record x { places = s.places; slots = s.slots; rearrange = s.rearrange; moved = s.moved }) c.in_ok-mark.ensures.parts in
    let slaves : s.slaves ≡ c.args.windows.now.slaves.items = ap (λ (x : Standing). x.slaves) parts in
    let long : length c.args.windows.now.slaves.items ≡ length c.args.windows.now.shapes.items = c.requires.standing.lengths.slaves in
    let same : length s.slaves ≡ length c.args.windows.now.slaves.items = ap length slaves in
    let list = within_get s.slaves c.args.master (omega (arith, c.requires.within, long, same)) in
    subst (λ (slaves : List (List Slave)). IsStanding (record s { slaves = slaves })) (sym (c.set_slaves.ensures ∙ ap (set s.slaves c.args.master) c.new.ensures.items))
    (none_left s c.args.master c.loop-left.left list.0 list.1 (omega arith) c.loop-left.invariant.standing)

pub returns-clause-slaves : goal.returns-clause-slaves
returns-clause-slaves c =
    let s : Standing = standing_of c.loop-left.windows in
    let parts = c.loop-left.invariant.parts ∙ ap (λ (x : Standing). record x { places = s.places; slots = s.slots; rearrange = s.rearrange; moved = s.moved }) c.in_ok-mark.ensures.parts in
    let slaves : s.slaves ≡ c.args.windows.now.slaves.items = ap (λ (x : Standing). x.slaves) parts in
    c.set_slaves.ensures ∙ ap (set s.slaves c.args.master) c.new.ensures.items ∙ ap (λ (xs : List (List Slave)). set xs c.args.master []) slaves
