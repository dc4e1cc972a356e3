use Rattle.std.proofs.Common.{◌≡◌, ◌⊎◌, inl, inr, ◌+◌, ◌<◌, ℕ, true, arith, subst, sym}
use Rattle.std.specs.BTreeSet.{contains}
use Rattle.std.specs.Ordering.{nat_cmp}
use Rattle.tk_packer.specs.declared.standing.KeptWindows.{KeptWindows}
use Rattle.tk_packer.specs.Standing.{Standing, standing_of}
use Rattle.tk_packer.proofs.Rooms.{ArePlaced, below_next, none_more, one_more, to_be_placed}
use Rattle.tk_packer.proofs.rearranging.put_all.Goals as goal
use Rattle.tk_packer.proofs.rearranging.put_all.Goals.{in-Some+in_ok-put_place, in_default}

behind : (master position q : ℕ) (P Q : Type 0) → master < position → (P → (master < q) ⊎ Q) → (q ≡ position) ⊎ P → (master < q) ⊎ Q
behind master position q P Q below before (inl same) = inl (omega (arith, below, same))
behind master position q P Q below before (inr was) = before was

pub put_place-requires-clause-slave : goal.put_place-requires-clause-slave
put_place-requires-clause-slave c =
    to_be_placed (standing_of c.args.windows.now) (standing_of c.loop-index.windows) c.args.master c.args.places.now c.loop-index.index c.loop-index.invariant c.in-Some.position c.in-Some.ensures

pub returns-in_err-put_place-clause-only : goal.returns-in_err-put_place-clause-only
returns-in_err-put_place-clause-only c = λ q is.
    behind c.args.master c.in-Some.position q (contains nat_cmp c.loop-index.windows.rearrange q ≡ true) (contains nat_cmp c.args.windows.now.rearrange q ≡ true)
    (below_next (standing_of c.args.windows.now) (standing_of c.loop-index.windows) c.args.master c.args.places.now c.loop-index.index c.loop-index.invariant c.in-Some.position c.in-Some.ensures)
    (c.loop-index.invariant.only q) (c.in_err-put_place.ensures.only q is)

pub loop-index-preserved : goal.loop-index-preserved
loop-index-preserved c =
    let s0 : Standing = standing_of c.args.windows.now in
    let s : Standing = standing_of c.loop-index.windows in
    elim c.match-position_of.branch [
      | in-Some+in_ok-put_place w ↦
          subst (λ (windows : KeptWindows). ArePlaced s0 (standing_of windows) c.args.master c.args.places.now (c.loop-index.index + 1)) (sym w.windows-is)
          (one_more s0 s c.args.master c.args.places.now c.loop-index.index c.loop-index.invariant (standing_of w.put_place.new.windows) w.in-Some.position _ w.in-Some.ensures c.loop-index-test.true
          w.in_ok-put_place.ensures.standing w.in_ok-put_place.ensures.parts w.in_ok-put_place.ensures.placed w.in_ok-put_place.ensures.more w.in_ok-put_place.ensures.only)
      | in_default w ↦
          subst (λ (windows : KeptWindows). ArePlaced s0 (standing_of windows) c.args.master c.args.places.now (c.loop-index.index + 1)) (sym w.windows-is)
          (none_more s0 s c.args.master c.args.places.now c.loop-index.index c.loop-index.invariant w.in_default.ensures)
    ]
