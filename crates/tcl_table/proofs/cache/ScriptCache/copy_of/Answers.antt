use Rattle.std.proofs.Common.{IsOk, is_some, refl, subst, sym, ap, ◌∙◌}
use Rattle.tcl_words.specs.Reading.{commands_of}
use Rattle.tcl_table.specs.Kept.{is_kept}
use Rattle.tcl_table.proofs.KeptLemmas.{any_lookup, theirs_found}
use Rattle.tcl_table.proofs.cache.ScriptCache.copy_of.Goals as goal

pub returns-in_ok-copy-in-Some : goal.returns-in_ok-copy-in-Some
returns-in_ok-copy-in-Some c =
    let entries = c.self.inside.scripts.entries in
    let same = theirs_found c.args.text.now c.in-Some.script.now entries c.self.invariant.0 (sym c.in-Some.ensures) in
    let ok : IsOk (commands_of c.in-Some.script.now) = rw c.commands-commands.ensures.walk refl in (
      c.in_ok-copy-in-Some.ensures.ok ∙ same,
      subst (λ t. IsOk (commands_of t)) same ok,
      sym (ap (is_kept c.args.text.now) c.self.view_is) ∙ any_lookup c.args.text.now entries ∙ ap is_some (sym c.in-Some.ensures),
    )

pub returns-in-None : goal.returns-in-None
returns-in-None c =
    sym (ap (is_kept c.args.text.now) c.self.view_is) ∙ any_lookup c.args.text.now c.self.inside.scripts.entries ∙ ap is_some (sym c.in-None.ensures)
