use Rattle.std.proofs.Common.{string_bytes}
use Rattle.tcl_text.specs.ListString.{KeepsList}
use Rattle.tcl_text.proofs.AsciiMarks.{marked_form}
use Rattle.tcl_text.proofs.KeptViews.{kept, seen_form}
use Rattle.tcl_text.proofs.list_string.ListString.is_ascii.Goals as goal

pub returns : goal.returns
returns c =
    let keeps : KeepsList (string_bytes c.self.inside.string) c.self.inside.ends.items c.args.self.now = kept _ _ _ _ c.self.invariant.0 c.self.view_is in
    marked_form _ _ _ c.args.self.now c.self.invariant.1 keeps.forms (seen_form _ _ _ keeps)
