use Rattle.std.proofs.Common.{string_bytes}
use Rattle.tcl_text.specs.ListString.{KeepsList}
use Rattle.tcl_text.proofs.KeptViews.{kept, seen_width}
use Rattle.tcl_text.proofs.list_string.ListString.width.Goals as goal

pub returns-clause-value : goal.returns-clause-value
returns-clause-value c =
    let keeps : KeepsList (string_bytes c.self.inside.string) c.self.inside.ends.items c.args.self.now = kept _ _ _ _ c.self.invariant.0 c.self.view_is in
    (seen_width _ _ c.as_str.result.now _ keeps c.as_str.ensures.value).0

pub returns-clause-within : goal.returns-clause-within
returns-clause-within c =
    let keeps : KeepsList (string_bytes c.self.inside.string) c.self.inside.ends.items c.args.self.now = kept _ _ _ _ c.self.invariant.0 c.self.view_is in
    (seen_width _ _ c.as_str.result.now _ keeps c.as_str.ensures.value).1
