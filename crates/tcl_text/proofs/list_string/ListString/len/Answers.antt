use Rattle.std.proofs.Common.{◌≡◌, arith, length}
use Rattle.std.proofs.lemmas.Grind.{common_steps}
use Rattle.tcl_text.proofs.KeptViews.{kept, seen_count}
use Rattle.tcl_text.proofs.list_string.ListString.len.Goals as goal

pub returns : goal.returns
returns c =
    let n : length c.self.inside.ends.items ≡ length c.args.self.now = seen_count _ _ _ (kept _ _ _ _ c.self.invariant.0 c.self.view_is) in
    grind (arith, common_steps, n)
