use Rattle.std.proofs.Common.{◌∙◌, sym, ap, ◌++◌, List, ℕ, replicate, string_bytes}
use Rattle.std.specs.List.{concat}
use Rattle.std.proofs.lemmas.List.{append_assoc}
use Rattle.tcl_text.proofs.StringLemmas.{copies_step}
use Rattle.tcl_text.proofs.commands.strings.push_copies.Goals as goal

pub loop-copy-preserved : goal.loop-copy-preserved
loop-copy-preserved c =
    c.in_ok-push_str.ensures.bytes ∙ ap (λ (t : List ℕ). t ++ c.args.text.now) c.loop-copy.invariant
    ∙ append_assoc (string_bytes c.args.string.now) (concat (replicate c.loop-copy._copy c.args.text.now)) c.args.text.now
    ∙ ap (λ (t : List ℕ). string_bytes c.args.string.now ++ t) (sym (copies_step c.loop-copy._copy c.args.text.now))
