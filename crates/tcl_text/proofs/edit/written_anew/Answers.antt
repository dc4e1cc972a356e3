use Rattle.std.proofs.Common.{List, ℕ, ap, sym, ◌∙◌}
use Rattle.std.proofs.lemmas.Result.{IfOk-weaker, IfErr-weaker}
use Rattle.tcl_text.specs.Edit.{within_limit}
use Rattle.tcl_text.specs.Readings.{list_form}
use Rattle.tcl_text.proofs.EditLemmas.{anew_ok}
use Rattle.tcl_text.proofs.edit.written_anew.Goals as goal

pub returns-clause-ok : goal.returns-clause-ok
returns-clause-ok c =
    IfOk-weaker c.list_text.result _ _ (λ _ written.
    anew_ok _ _ c.in_ok-all.ensures.ok ∙ ap (λ (items : List (List ℕ)). within_limit (list_form items)) (sym c.as_slice.ensures) ∙ written) c.list_text.ensures.ok

pub returns-clause-refused : goal.returns-clause-refused
returns-clause-refused c =
    IfErr-weaker c.list_text.result _ _ (λ _ refused other.
    anew_ok _ _ c.in_ok-all.ensures.ok ∙ ap (λ (items : List (List ℕ)). within_limit (list_form items)) (sym c.as_slice.ensures) ∙ refused other) c.list_text.ensures.refused
