use Rattle.std.proofs.Common.{rules, not, chars, string_bytes}
use Rattle.indexmap.proofs.CallerLemmas.{filter-RetainsPairs}
use Rattle.tcl_text.specs.Glob.{glob_matches}
use Rattle.tcl_vars.proofs.table.leave_out.Goals as goal

pub returns : goal.returns
returns g c =
    filter-RetainsPairs _ (λ entry. not (glob_matches (chars c.args.pattern.now) (chars (string_bytes entry.0)))) _ (λ k v b w g call. search rules) _ _ c.retain.ensures.filtered
