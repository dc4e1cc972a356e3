use Rattle.std.proofs.Common.{rules, ◌≡◌, ◌∙◌, subst, IsOk}
use Rattle.tcl_table.specs.Source.{script_of}
use Rattle.tcl_table.proofs.SourceLemmas.{script_read}
use Rattle.tcl_table.proofs.kept.script_at.Goals as goal

-- what is kept is a script, and so is the same text
pub returns-in_ok-copy-in-Some-Some : goal.returns-in_ok-copy-in-Some-Some
returns-in_ok-copy-in-Some-Some c =
    let same : c.in-Some-Some.script ≡ c.args.text.now = search rules in
    (c.in_ok-copy-in-Some-Some.ensures.ok ∙ same, subst (λ t. IsOk (script_of t)) same (script_read c.in-Some-Some.script c.commands-commands.result.now c.commands-commands.ensures.walk))
