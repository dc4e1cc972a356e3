use Rattle.std.proofs.Common.{◌≡◌, ℕ, List, None, Some, ap, ◌∙◌, sym, subst}
use Rattle.std.specs.Prelude.{map, nat_eq}
use Rattle.std.specs.Map.{lookup}
use Rattle.tk_packer.specs.declared.shape.Shape.{Shape}
use Rattle.tk_packer.specs.declared.standing.KeptWindows.{KeptWindows}
use Rattle.tk_packer.specs.Standing.{Inputs, IsIndex, IsStanding, Standing, inputs_of, packed_of, standing_of, with_shape}
use Rattle.tk_packer.proofs.Gets.{get_within}
use Rattle.tk_packer.proofs.Inputs.{put_indexed, put_nowhere, put_stands, put_there, same_inputs}
use Rattle.tk_packer.proofs.kept_layout.KeptLayout.set_shape.Goals as goal

pub returns-in_default-clause-set : goal.returns-in_default-clause-set
returns-in_default-clause-set c =
    let entries : List (ℕ × ℕ) = c.self.inside.index.entries in
    let none : lookup (nat_eq c.args.shape.number) entries ≡ None = sym c.get.ensures.value ∙ sym c.copied.ensures ∙ c.in_default.is in
    let same : with_shape c.args.shape c.args.self.now.shapes ≡ c.args.self.now.shapes =
    ap (λ (x : Inputs). with_shape c.args.shape x.shapes) (sym c.self.view_is) ∙ put_nowhere entries c.self.inside.windows.shapes.items c.args.shape c.self.invariant.1 none
    ∙ ap (λ (x : Inputs). x.shapes) c.self.view_is in
    ap (λ (shapes : List Shape). record c.args.self.now { shapes = shapes }) (sym same)

pub mark_window-requires-clause-within : goal.mark_window-requires-clause-within
mark_window-requires-clause-within c =
    let found = c.self.invariant.1.found c.args.shape.number c.in-Some.place (sym c.get.ensures.value ∙ sym c.copied.ensures ∙ c.in-Some.is) in
    get_within c.self.inside.windows.shapes.items c.in-Some.place found.0 found.1.0

pub invariant_of-self-2 : goal.invariant_of-self-2
invariant_of-self-2 c =
    let entries : List (ℕ × ℕ) = c.self.inside.index.entries in
    let s : Standing = standing_of c.mark_window.new.windows in
    let known = c.in_ok-mark_window.ensures in
    let at_number : lookup (nat_eq c.args.shape.number) entries ≡ Some c.in-Some.place = sym c.get.ensures.value ∙ sym c.copied.ensures ∙ c.in-Some.is in
    let index : IsIndex entries s.shapes = subst (IsIndex entries) (sym (ap (λ (x : Standing). x.shapes) known.parts)) c.self.invariant.1 in (
      subst (λ (shapes : List Shape). IsStanding (record s { shapes = shapes })) (sym c.set_shape.ensures)
          (put_stands s known.standing entries c.in-Some.place c.args.shape index at_number known.resize known.rearrange known.moved),
      subst (IsIndex entries) (sym c.set_shape.ensures) (put_indexed entries s.shapes c.in-Some.place c.args.shape index at_number),
    )

pub returns-clause-set : goal.returns-clause-set
returns-clause-set c =
    let entries : List (ℕ × ℕ) = c.self.inside.index.entries in
    let windows : KeptWindows = record c.mark_window.new.windows { shapes = c.set_shape.new.shapes } in
    let s : Standing = standing_of c.mark_window.new.windows in
    let known = c.in_ok-mark_window.ensures in
    let at_number : lookup (nat_eq c.args.shape.number) entries ≡ Some c.in-Some.place = sym c.get.ensures.value ∙ sym c.copied.ensures ∙ c.in-Some.is in
    let index : IsIndex entries s.shapes = subst (IsIndex entries) (sym (ap (λ (x : Standing). x.shapes) known.parts)) c.self.invariant.1 in
    let view = c.self.view_is in
    same_inputs (inputs_of windows) (record c.args.self.now { shapes = with_shape c.args.shape c.args.self.now.shapes }) (ap (λ (x : Standing). x.size) known.parts ∙ ap (λ (x : Inputs). x.size) view)
    (c.set_shape.ensures ∙ put_there entries s.shapes c.in-Some.place c.args.shape index at_number
    ∙ ap (λ (x : Standing). with_shape c.args.shape x.shapes) known.parts ∙ ap (λ (x : Inputs). with_shape c.args.shape x.shapes) view)
    (ap (λ (x : Standing). map packed_of x.slaves) known.parts ∙ ap (λ (x : Inputs). x.packs) view)
