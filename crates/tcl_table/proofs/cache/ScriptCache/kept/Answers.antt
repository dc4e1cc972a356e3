use Rattle.std.proofs.Common.{bytes_eq, sym, ap, ◌∙◌}
use Rattle.std.specs.List.{list_any}
use Rattle.tcl_table.specs.Kept.{is_kept}
use Rattle.tcl_table.specs.Entries.{texts_of}
use Rattle.tcl_table.proofs.KeptLemmas.{any_lookup}
use Rattle.tcl_table.proofs.cache.ScriptCache.kept.Goals as goal

pub returns : goal.returns
returns c =
    let entries = c.self.inside.scripts.entries in
    c.contains.ensures ∙ sym (any_lookup c.as_str.result.now entries) ∙ ap (λ t. list_any (bytes_eq t) (texts_of entries)) c.as_str.ensures.bytes ∙ ap (is_kept c.args.text.now) c.self.view_is
