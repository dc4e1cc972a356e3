use Rattle.std.proofs.Common.{◌≡◌, ◌<◌, [], List, length, Some, arith, ap, ◌∙◌, sym}
use Rattle.std.specs.Prelude.{slice_get}
use Rattle.tk_packer.specs.declared.shape.Shape.{Shape}
use Rattle.tk_packer.specs.declared.standing.Slave.{Slave}
use Rattle.tk_packer.specs.Groups.{slaves_in}
use Rattle.tk_packer.specs.Standing.{Standing, standing_of}
use Rattle.tk_packer.proofs.Adding.{empty_at, empty_behind, packed_before}
use Rattle.tk_packer.proofs.Gets.{get_within}
use Rattle.tk_packer.proofs.building.add_all.Goals as goal

pub add_slaves-requires-clause-none : goal.add_slaves-requires-clause-none
add_slaves-requires-clause-none c =
    let s : Standing = standing_of c.loop-place.windows in
    let known = c.loop-place.invariant in
    let long : length s.shapes ≡ length c.args.windows.now.shapes.items = ap length known.shapes in
    empty_at s known.standing c.loop-place.place (omega (arith, c.loop-place-test.true, c.len-place-end.ensures, c.args.windows.now.shapes.ok.0, long)) known.behind

pub loop-place-preserved : goal.loop-place-preserved
loop-place-preserved c =
    let s : Standing = standing_of c.loop-place.windows in
    let known = c.loop-place.invariant in
    let added = c.in_ok-add_slaves.ensures in
    let list = added.slaves c.if-not-branch.false in
    let long : length s.shapes ≡ length c.args.windows.now.shapes.items = ap length known.shapes in
    let lt : c.loop-place.place < length s.shapes = omega (arith, c.loop-place-test.true, c.len-place-end.ensures, c.args.windows.now.shapes.ok.0, long) in
    let none : slice_get s.slaves c.loop-place.place ≡ Some [] = empty_at s known.standing c.loop-place.place lt known.behind in
    record {
      standing = added.standing c.if-not-branch.false;
      size = added.size ∙ known.size;
      shapes = added.shapes ∙ known.shapes;
      before = λ q shape l at_lt at_q at_l.
          packed_before s.shapes s.slaves c.loop-place.place list.0 (slaves_in c.args.owner c.args.packs.now) c.slaves_at-slaves.result.now (get_within s.slaves c.loop-place.place [] none) list.1.1
          c.slaves_at-slaves.ensures known.before q shape l at_lt (ap (λ (xs : List Shape). slice_get xs q) (sym added.shapes) ∙ at_q)
          (ap (λ (xs : List (List Slave)). slice_get xs q) (sym list.1.0) ∙ at_l);
      behind = λ q l le at_l. empty_behind s.slaves c.loop-place.place list.0 known.behind q l le (ap (λ (xs : List (List Slave)). slice_get xs q) (sym list.1.0) ∙ at_l);
    }

pub returns-clause-packs : goal.returns-clause-packs
returns-clause-packs c = λ fits q shape l at_q at_l.
    (let known = c.loop-place.invariant in
    let lt = get_within c.loop-place.windows.shapes.items q shape at_q in
    let long : length c.loop-place.windows.shapes.items ≡ length c.args.windows.now.shapes.items = ap length known.shapes in
    known.before q shape l (omega (arith, lt, long, c.loop-place-test.false, c.len-place-end.ensures, c.args.windows.now.shapes.ok.0)) at_q at_l)
