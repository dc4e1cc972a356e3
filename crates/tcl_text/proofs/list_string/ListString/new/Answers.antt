use Rattle.std.proofs.Common.{◌≡◌, ◌∙◌, Err, rules}
use Rattle.tcl_text.proofs.FaultLemmas.{fault_told}
use Rattle.tcl_text.proofs.KeptSteps.{KeepsList-new, new_items, new_long}
use Rattle.tcl_text.proofs.list_string.ListString.new.Goals as goal

pub returns-in_err-push_forms-clause-too_long : goal.returns-in_err-push_forms-clause-too_long
returns-in_err-push_forms-clause-too_long c =
    let same : c.from_residual-in_err-push_forms.result ≡ Err c.in_err-push_forms.field-0.0 = search rules in
    fault_told _ _ _ same (λ n. new_long _ c.args.items.now c.new-string.ensures.bytes (c.in_err-push_forms.ensures.too_long n))

pub of_string-requires : goal.of_string-requires
of_string-requires c =
    KeepsList-new _ _ _ _ c.args.items.now c.in_ok-push_forms.ensures.forms c.in_ok-push_forms.ensures.places c.new-string.ensures.bytes c.in_ok-ends.ensures.items c.in_ok-push_forms.ensures.short

pub returns-clause-ok : goal.returns-clause-ok
returns-clause-ok c = c.of_string.ensures ∙ new_items _ _ c.args.items.now c.in_ok-push_forms.ensures.forms c.new-string.ensures.bytes
