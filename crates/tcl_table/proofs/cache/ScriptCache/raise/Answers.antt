use Rattle.std.proofs.Common.{ap, ◌∙◌}
use Rattle.tcl_table.specs.Kept.{Kept, is_kept}
use Rattle.tcl_table.proofs.KeptLemmas.{is_key, raised, theirs_promoted}
use Rattle.tcl_table.proofs.cache.ScriptCache.raise.Goals as goal

pub invariant_of-self : goal.invariant_of-self
invariant_of-self c = rw c.promote.ensures.entries (theirs_promoted (is_key c.args.text.now) c.self.inside.scripts.entries c.self.invariant.0, c.self.invariant.1)

pub returns : goal.returns
returns c =
    let scripts = c.self.inside.scripts in
    rw (c.promote.ensures.entries, ← c.self.view_is)
    (ap (λ ts. let kept : Kept = record { texts = ts; capacity = scripts.cap } in kept)
    (raised c.args.text.now scripts.entries scripts.cap c.len.ensures.valid.0 c.len.ensures.valid.1 (ap (is_kept c.args.text.now) c.self.view_is ∙ c.requires)))
