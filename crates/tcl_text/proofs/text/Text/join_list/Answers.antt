use Rattle.std.proofs.Common.{◌≡◌, ◌≤◌, ◌∙◌, ℕ, List, length, Err, ap, subst, rules}
use Rattle.tcl_text.specs.Readings.{list_form}
use Rattle.tcl_text.proofs.FaultLemmas.{Joins-refused}
use Rattle.tcl_text.proofs.text.Text.join_list.Goals as goal

pub returns-in_err-list : goal.returns-in_err-list
returns-in_err-list c =
    let same : c.from_residual.result ≡ Err c.in_err-list.field-0.0 = search rules in
    Joins-refused _ _ _ same c.in_err-list.ensures.too_long

pub returns : goal.returns
returns c =
    let is = c.in_ok-list.ensures.ok in
    (c.in_ok-of_list.ensures.form ∙ ap list_form is, subst (λ (t : List (List ℕ)). length (list_form t) ≤ 65536) is c.of_list.ensures.short)
