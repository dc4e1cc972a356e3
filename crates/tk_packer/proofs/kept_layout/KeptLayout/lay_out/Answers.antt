use Rattle.std.proofs.Common.{List, ap, ◌∙◌}
use Rattle.tk_packer.specs.Changes.{changes_of, laid_out_shapes}
use Rattle.tk_packer.specs.declared.shape.Shape.{Shape}
use Rattle.tk_packer.specs.declared.standing.KeptWindows.{KeptWindows}
use Rattle.tk_packer.specs.Standing.{Inputs, Standing, inputs_of, places_by, standing_of}
use Rattle.tk_packer.proofs.Adding.{index_stays, numbers_in}
use Rattle.tk_packer.proofs.Inputs.{laid_inputs, laid_places, same_placed}
use Rattle.tk_packer.proofs.kept_layout.KeptLayout.lay_out.Goals as goal

pub invariant_of-self-in_err-changes : goal.invariant_of-self-in_err-changes
invariant_of-self-in_err-changes c =
    let old : KeptWindows = c.self.inside.windows in
    let same = same_placed (standing_of old) (standing_of c.resize_all.new.windows) (standing_of c.rearrange_all.new.windows) c.in_ok-resize_all.ensures.same c.in_ok-rearrange_all.ensures.parts in
    (c.tell_all.ensures.standing, index_stays c.self.inside.index.entries old.shapes.items c.tell_all.new.windows.shapes.items (c.tell_all.ensures.numbers ∙ ap numbers_in same.shapes) c.self.invariant.1)

pub invariant_of-self-2 : goal.invariant_of-self-2
invariant_of-self-2 c =
    let old : KeptWindows = c.self.inside.windows in
    let same = same_placed (standing_of old) (standing_of c.resize_all.new.windows) (standing_of c.rearrange_all.new.windows) c.in_ok-resize_all.ensures.same c.in_ok-rearrange_all.ensures.parts in
    (c.tell_all.ensures.standing, index_stays c.self.inside.index.entries old.shapes.items c.tell_all.new.windows.shapes.items (c.tell_all.ensures.numbers ∙ ap numbers_in same.shapes) c.self.invariant.1)

pub returns-clause-changes : goal.returns-clause-changes
returns-clause-changes c =
    let old : KeptWindows = c.self.inside.windows in
    let new : KeptWindows = c.rearrange_all.new.windows in
    let known = c.in_ok-rearrange_all.ensures in
    let same = same_placed (standing_of old) (standing_of c.resize_all.new.windows) (standing_of new) c.in_ok-resize_all.ensures.same known.parts in
    c.in_ok-changes.ensures.changes
    ∙ ap (changes_of new.shapes.items) (laid_places old new same known.standing (λ q. ap (λ (x : Standing). x.resize q) known.parts ∙ c.in_ok-resize_all.ensures.done q) known.done)
    ∙ ap (λ (shapes : List Shape). changes_of shapes (places_by (inputs_of old))) same.shapes
    ∙ ap (λ (x : Inputs). changes_of x.shapes (places_by x)) c.self.view_is

pub returns-clause-own : goal.returns-clause-own
returns-clause-own c =
    let old : KeptWindows = c.self.inside.windows in
    let new : KeptWindows = c.rearrange_all.new.windows in
    let known = c.in_ok-rearrange_all.ensures in
    let told = c.in_ok-changes.ensures in
    let same = same_placed (standing_of old) (standing_of c.resize_all.new.windows) (standing_of new) c.in_ok-resize_all.ensures.same known.parts in
    laid_inputs old c.tell_all.new.windows (places_by (inputs_of old)) (ap (λ (x : Standing). x.size) told.parts ∙ same.size) (ap (λ (x : Standing). x.slaves) told.parts ∙ same.slaves)
    (told.laid
    ∙ ap (laid_out_shapes new.shapes.items) (laid_places old new same known.standing (λ q. ap (λ (x : Standing). x.resize q) known.parts ∙ c.in_ok-resize_all.ensures.done q) known.done)
    ∙ ap (λ (shapes : List Shape). laid_out_shapes shapes (places_by (inputs_of old))) same.shapes)
    ∙ ap (λ (x : Inputs). record x { shapes = laid_out_shapes x.shapes (places_by x) }) c.self.view_is
