use Rattle.std.proofs.Common.{◌≡◌, ◌++◌, [], List, Option, append-nil, ap, ◌∙◌, sym}
use Rattle.tk_base.specs.declared.rect.Rect.{Rect}
use Rattle.tk_packer.specs.Changes.{changes_of, laid_out_shapes}
use Rattle.tk_packer.specs.Standing.{Standing, standing_of}
use Rattle.tk_packer.specs.declared.changes.PlaceChange.{PlaceChange}
use Rattle.tk_packer.proofs.Shown.{none_laid, none_told}
use Rattle.tk_packer.proofs.showing.tell_all.Goals as goal

pub returns-clause-changes : goal.returns-clause-changes
returns-clause-changes c =
    let s : Standing = standing_of c.loop-place.windows in
    let known = c.loop-place.invariant in
    let changes : List PlaceChange = c.loop-place.changes.items in
    let none : changes_of s.shapes s.places ≡ [] =
    none_told s.shapes s.places (λ q shape place lt at_q at_p. known.standing.shown q (c.in_default.ensures q) shape place at_q at_p) in
    let places : s.places ≡ c.args.windows.now.places.items = ap (λ (x : Standing). x.places) known.parts in
    sym (append-nil changes) ∙ ap (λ (cs : List PlaceChange). changes ++ cs) (sym none) ∙ ap (λ (ps : List (Option Rect)). changes ++ changes_of s.shapes ps) places ∙ known.told

pub returns-clause-laid : goal.returns-clause-laid
returns-clause-laid c =
    let s : Standing = standing_of c.loop-place.windows in
    let known = c.loop-place.invariant in
    let places : s.places ≡ c.args.windows.now.places.items = ap (λ (x : Standing). x.places) known.parts in
    sym (none_laid s.shapes s.places (λ q shape place lt at_q at_p. known.standing.shown q (c.in_default.ensures q) shape place at_q at_p))
    ∙ ap (laid_out_shapes s.shapes) places ∙ known.laid
