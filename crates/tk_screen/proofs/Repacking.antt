-- Other windows are packed in an application, or packed otherwise.
use Rattle.std.proofs.Common.{◌≡◌, ℕ, Bool, true, false, List, Option, None, Some, refl, sym, ap, ◌∙◌, subst}
use Rattle.std.specs.Prelude.{map}
use Rattle.std.specs.BTreeSet.{BTreeSet, contains}
use Rattle.std.specs.Ordering.{nat_cmp}
use Rattle.tcl_vars.specs.Store.{Store}
use Rattle.tk_packer.specs.declared.packed.Packed.{Packed}
use Rattle.tk_packer.specs.declared.shape.Shape.{Shape}
use Rattle.tk_packer.specs.Packs.{Packing, slaves_of}
use Rattle.tk_packer.specs.Standing.{Inputs}
use Rattle.tk_screen.specs.declared.marks.Mark.{Mark}
use Rattle.tk_screen.specs.declared.marks.Marks.{Marks}
use Rattle.tk_screen.specs.declared.screen.Screen.{Screen}
use Rattle.tk_screen.specs.Marks.{mark_of, IsRepacked, IsRepackedMark, LeavesOtherMarks}
use Rattle.tk_screen.specs.Own.{Windowing}
use Rattle.tk_screen.specs.Reads.{IsKept, Reads}
use Rattle.tk_screen.specs.Seen.{AllMarked, AreAlike, IsMarked, IsSeen, IsSettled, IsWith}
use Rattle.tk_screen.specs.Shapes.{shape_of, shapes}
use Rattle.tk_screen.specs.Shared.{own_of, LeavesOthers}
use Rattle.tk_screen.specs.Touch.{IsPacking}
use Rattle.tk_screen.proofs.KeptMarks.{all_marked}

-- a layout with what is packed now
pub seen_with : (own : Windowing) (packed : List Packed) (store : Store) (touched : ℕ → Bool) (reads : Reads) (repacked : Bool) (layout now : Inputs)
    → (repacked ≡ false → packed ≡ own.packs.packs) → IsWith repacked own.packs.packs layout now → IsSeen own packed store touched reads layout
    → IsSeen own own.packs.packs store touched reads now
seen_with own packed store touched reads true layout now same is seen = record {
  size = ap (λ (i : Inputs). i.size) is ∙ seen.size;
  packs = ap (λ (i : Inputs). i.packs) is ∙ sym (ap (λ (i : Inputs). map (λ s. slaves_of s.number own.packs.packs) i.shapes) is);
  alike = subst (λ (i : Inputs). AreAlike touched (IsKept own store reads) i.shapes (shapes own store)) (sym is) seen.alike;
}
seen_with own packed store touched reads false layout now same is seen =
    subst (λ (i : Inputs). IsSeen own own.packs.packs store touched reads i) (sym is) (subst (λ (ps : List Packed). IsSeen own ps store touched reads layout) (same refl) seen)

-- windows look alike where the same propagate
shapes_packed : (own : Windowing) (packs : Packing) (store : Store) → packs.rigid ≡ own.packs.rigid → shapes (record own { packs = packs }) store ≡ shapes own store
unfolding shapes shape_of
shapes_packed own packs store same = ap (λ (rigid : List ℕ). shapes (record own { packs = record packs { rigid = rigid } }) store) same

seen_packed : (own : Windowing) (packs : Packing) (packed : List Packed) (store : Store) (touched : ℕ → Bool) (reads : Reads) (layout : Inputs) → packs.rigid ≡ own.packs.rigid
    → IsSeen own packed store touched reads layout → IsSeen (record own { packs = packs }) packed store touched reads layout
seen_packed own packs packed store touched reads layout same seen = record {
  size = seen.size;
  packs = seen.packs;
  alike = subst (λ (ss : List Shape). AreAlike touched (IsKept own store reads) layout.shapes ss) (sym (shapes_packed own packs store same)) seen.alike;
}

marked_packed : (own later : Windowing) (old new : Mark) → IsPacking own later → IsRepackedMark old new → IsMarked old own → IsMarked new later
marked_packed own later old new packing is marked =
    let packed : List Packed = marked.1.0 in
    let now : Windowing = record own { packs = packing.0 } in
    let seen = seen_packed own packing.0 packed marked.0 (contains nat_cmp old.touched) old.reads.entries old.layout packing.1.1 marked.1.1.1 in (
      marked.0,
      (
        packed,
        (
          (λ same. let never : true ≡ false = sym is.repacked ∙ same in absurd (cc)),
          subst (λ (w : Windowing). IsSeen w packed marked.0 (contains nat_cmp new.touched) new.reads.entries new.layout) (sym packing.1.0)
              (subst (λ (l : Inputs). IsSeen now packed marked.0 (contains nat_cmp new.touched) new.reads.entries l) (sym is.layout)
              (subst (λ (r : Reads). IsSeen now packed marked.0 (contains nat_cmp new.touched) r old.layout) (sym is.reads)
              (subst (λ (t : BTreeSet ℕ). IsSeen now packed marked.0 (contains nat_cmp t) old.reads.entries old.layout) (sym is.touched) seen))),
          subst IsSettled (sym is.layout) marked.1.1.2,
        ),
      ),
    )

-- a mark by which other windows may be packed
pub repacked_marked : (slot : ℕ) (old new : Marks) (before now : Screen) → AllMarked old before → IsRepacked (mark_of slot old) (mark_of slot new) → LeavesOtherMarks slot old new
    → LeavesOthers slot before now → IsPacking (own_of slot before) (own_of slot now) → AllMarked new now
repacked_marked slot old new before now marked repacked marks parts packing =
    all_marked slot old new before now marked marks parts (λ mark told. by mark (mark_of slot old) refl (subst (IsRepacked (mark_of slot old)) told repacked))
  where
    by : (mark : Mark) (was : Option Mark) → mark_of slot old ≡ was → IsRepacked (mark_of slot old) (Some mark) → IsMarked mark (own_of slot now)
    by mark None is repacked_of = absurd (subst (λ (o : Option Mark). IsRepacked o (Some mark)) is repacked_of)
    by mark (Some was) is repacked_of =
        marked_packed (own_of slot before) (own_of slot now) was mark packing (subst (λ (o : Option Mark). IsRepacked o (Some mark)) is repacked_of) (marked slot was is)
