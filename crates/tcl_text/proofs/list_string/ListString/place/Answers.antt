use Rattle.std.proofs.Common.{◌≡◌, ◌∙◌, arith, length, string_bytes}
use Rattle.std.proofs.lemmas.Grind.{common_steps}
use Rattle.tcl_text.specs.ListString.{KeepsList}
use Rattle.tcl_text.proofs.KeptViews.{kept, place_behind, place_short, seen_count}
use Rattle.tcl_text.proofs.list_string.ListString.place.Goals as goal

pub index-requires : goal.index-requires
index-requires c =
    let n : length c.self.inside.ends.items ≡ length c.args.self.now = seen_count _ _ _ (kept _ _ _ _ c.self.invariant.0 c.self.view_is) in
    grind (arith, common_steps, n)

pub returns-else-number-eq0-clause-value : goal.returns-else-number-eq0-clause-value
returns-else-number-eq0-clause-value c =
    let keeps : KeepsList (string_bytes c.self.inside.string) c.self.inside.ends.items c.args.self.now = kept _ _ _ _ c.self.invariant.0 c.self.view_is in
    c.index.ensures ∙ place_behind _ _ _ c.args.number c.index.result.now keeps (omega arith) c.requires

pub returns-else-number-eq0-clause-within : goal.returns-else-number-eq0-clause-within
returns-else-number-eq0-clause-within c =
    let keeps : KeepsList (string_bytes c.self.inside.string) c.self.inside.ends.items c.args.self.now = kept _ _ _ _ c.self.invariant.0 c.self.view_is in
    place_short _ _ _ c.args.number c.index.result.now keeps (c.index.ensures ∙ place_behind _ _ _ c.args.number c.index.result.now keeps (omega arith) c.requires)
