use Rattle.std.proofs.Common.{◌≡◌, ℕ, ◌++◌, List, Option, None, Some, set, append_assoc, refl, rules, ap, ◌∙◌, sym, subst}
use Rattle.std.specs.Prelude.{slice_get}
use Rattle.std.specs.BTreeSet.{contains}
use Rattle.std.specs.Ordering.{nat_cmp}
use Rattle.tk_base.specs.declared.rect.Rect.{Rect}
use Rattle.tk_packer.specs.Changes.{changes_at, changes_of, laid, laid_out_shapes}
use Rattle.tk_packer.specs.Standing.{IsStanding, Standing, standing_of}
use Rattle.tk_packer.specs.declared.changes.PlaceChange.{PlaceChange}
use Rattle.tk_packer.specs.declared.shape.Shape.{Shape}
use Rattle.tk_packer.proofs.Adding.{numbers_in, numbers_set}
use Rattle.tk_packer.proofs.Changing.{shown_now}
use Rattle.tk_packer.proofs.Sets.{removed}
use Rattle.tk_packer.proofs.Shown.{AreShown, laid_first, shown_before, told_first}
use Rattle.tk_packer.proofs.showing.tell_window.Goals as goal
use Rattle.tk_packer.proofs.showing.tell_window.Goals.{After-remove-2}

number_laid : (shape : Shape) (own : Option Rect) → (laid shape own).number ≡ shape.number
number_laid shape None = refl
number_laid shape (Some rect) = refl

told_by : (shapes new : List Shape) (places : List (Option Rect)) (i : ℕ) (shape : Shape) (own : Option Rect) (before told : List PlaceChange) → slice_get shapes i ≡ Some shape
    → slice_get places i ≡ Some own → AreShown i shapes places → new ≡ set shapes i (laid shape own) → told ≡ before ++ changes_at shape own
    → told ++ changes_of new places ≡ before ++ changes_of shapes places
told_by shapes new places i shape own before told at_shape at_place shown now is =
    ap (λ (changes : List PlaceChange). changes ++ changes_of new places) is ∙ append_assoc before (changes_at shape own) (changes_of new places)
    ∙ ap (λ (xs : List Shape). before ++ (changes_at shape own ++ changes_of xs places)) now
    ∙ ap (λ (changes : List PlaceChange). before ++ changes) (sym (told_first shapes places i shape own at_shape at_place shown))

at_shape : (c : After-remove-2) → slice_get c.args.windows.now.shapes.items c.args.place ≡ Some c.in-Some.shape
at_shape c = first_of (assumption (c.in-Some.ensures), assumption (c.in-Some.ensures.0 ∙ ap Some c.in-Some.shape-is), assumption (c.in-Some.ensures.0 ∙ ap Some (sym c.in-Some.shape-is)), search (rules, c.in-Some.ensures))

at_place : (c : After-remove-2) → slice_get c.args.windows.now.places.items c.args.place ≡ Some c.in-Some.own
at_place c = first_of (assumption (c.in-Some.ensures), assumption (c.in-Some.ensures.1 ∙ ap Some c.in-Some.own-is), assumption (c.in-Some.ensures.1 ∙ ap Some (sym c.in-Some.own-is)), search (rules, c.in-Some.ensures))

now : (c : After-remove-2) → c.set_shape.new.shapes.items ≡ set c.args.windows.now.shapes.items c.args.place (laid c.in-Some.shape c.in-Some.own)
now c = c.set_shape.ensures ∙ ap (set c.args.windows.now.shapes.items c.args.place) c.laid.ensures

pub returns-clause-standing : goal.returns-clause-standing
returns-clause-standing c =
    let s : Standing = standing_of c.args.windows.now in
    let less = removed c.args.windows.now.moved c.remove-2.new.self c.args.place c.remove-2.ensures.updates in
    subst (λ (shapes : List Shape). IsStanding (record s { shapes = shapes; moved = contains nat_cmp c.remove-2.new.self })) (sym (now c))
    (shown_now s c.requires.standing c.args.place c.in-Some.shape c.in-Some.own (at_shape c) (at_place c) (contains nat_cmp c.remove-2.new.self) less.others)

pub returns-clause-told : goal.returns-clause-told
returns-clause-told c =
    let s : Standing = standing_of c.args.windows.now in
    told_by s.shapes c.set_shape.new.shapes.items s.places c.args.place c.in-Some.shape c.in-Some.own c.args.changes.now.items c.tell.new.changes.items (at_shape c) (at_place c)
    (shown_before s c.requires.standing c.args.place c.requires.first) (now c) c.in_ok-tell.ensures

pub returns-clause-laid : goal.returns-clause-laid
returns-clause-laid c =
    let s : Standing = standing_of c.args.windows.now in
    ap (λ (shapes : List Shape). laid_out_shapes shapes s.places) (now c) ∙ laid_first s.shapes s.places c.args.place c.in-Some.shape c.in-Some.own (at_shape c) (at_place c)

pub returns-clause-numbers : goal.returns-clause-numbers
returns-clause-numbers c =
    let shapes : List Shape = c.args.windows.now.shapes.items in
    ap numbers_in (now c)
    ∙ numbers_set shapes c.args.place c.in-Some.shape (laid c.in-Some.shape c.in-Some.own) (at_shape c) (number_laid c.in-Some.shape c.in-Some.own)
