use Rattle.std.proofs.Common.{ℕ, ◌∙◌, ap, length, take, rules}
use Rattle.tcl_text.specs.Indices.{through}
use Rattle.tcl_text.specs.declared.commands.indices.Index.{Index}
use Rattle.tcl_text.proofs.IndexLemmas.{part_of_front}
use Rattle.tcl_text.proofs.commands.strings.ascii_front.Goals as goal

pub returns-then-is_ascii-clause-part : goal.returns-then-is_ascii-clause-part
returns-then-is_ascii-clause-part c =
    let text = c.args.text.now in
    let first_is = c.in-FromStart-FromStart.is-0 in
    let last_is = c.in-FromStart-FromStart.is-1 in
    let reach = c.through.ensures ∙ ap (λ (last : Index). through last (length text)) last_is in
    rw (first_is, last_is)
    (part_of_front c.in-FromStart-FromStart.field-0-0 c.in-FromStart-FromStart.field-0-1 text c.in_ok-front.front.now (search rules) c.if-is_ascii.ensures.cases (c.in_ok-front.ensures.front ∙ ap (λ (n : ℕ). take n text) reach))
