use Rattle.std.proofs.Common.{◌≡◌, ◌-◌, false, string_bytes, bytes_eq, sym, ap, ◌∙◌}
use Rattle.std.specs.List.{list_any}
use Rattle.tcl_table.specs.Kept.{Kept, is_kept}
use Rattle.tcl_table.specs.Entries.{texts_of}
use Rattle.tcl_table.proofs.KeptLemmas.{put_is, put_new, theirs_taken}
use Rattle.tcl_table.proofs.cache.ScriptCache.keep.Goals as goal

pub invariant_of-self-2 : goal.invariant_of-self-2
invariant_of-self-2 c =
    let scripts = c.self.inside.scripts in
    let key = c.in_ok-key.key in
    let none : list_any (bytes_eq (string_bytes key)) (texts_of scripts.entries) ≡ false =
    ap (λ t. list_any (bytes_eq t) (texts_of scripts.entries)) c.in_ok-key.ensures.ok ∙ ap (is_kept c.args.text.now) c.self.view_is ∙ c.requires.none in
    rw (c.in_ok-put.ensures.entries, put_is scripts key c.in_ok-script.script none) ((c.in_ok-script.ensures.ok ∙ c.requires.theirs ∙ sym c.in_ok-key.ensures.ok, theirs_taken (scripts.cap - 1) scripts.entries c.self.invariant.0), c.self.invariant.1)

pub returns-clause-ok : goal.returns-clause-ok
returns-clause-ok c =
    let scripts = c.self.inside.scripts in
    let key = c.in_ok-key.key in
    let absent = ap (is_kept c.args.text.now) c.self.view_is ∙ c.requires.none in
    let none : list_any (bytes_eq (string_bytes key)) (texts_of scripts.entries) ≡ false = ap (λ t. list_any (bytes_eq t) (texts_of scripts.entries)) c.in_ok-key.ensures.ok ∙ absent in
    rw (c.in_ok-put.ensures.entries, put_is scripts key c.in_ok-script.script none, ← c.self.view_is)
    (ap (λ ts. let kept : Kept = record { texts = ts; capacity = scripts.cap } in kept)
    (put_new c.args.text.now key c.in_ok-script.script scripts.entries scripts.cap c.self.invariant.1 c.in_ok-key.ensures.ok absent))
