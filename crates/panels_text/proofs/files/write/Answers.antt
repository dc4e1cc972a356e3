use Rattle.std.proofs.Common.{ℕ, List, ◌∙◌, subst}
use Rattle.std.specs.Prelude.{codes}
use Rattle.panels_text.specs.Places.{IsFault, fault_text}
use Rattle.panels_text.proofs.files.write.Goals as goal

pub returns-in_ok-format-in-Err : goal.returns-in_ok-format-in-Err
returns-in_ok-format-in-Err g c =
    let P : List ℕ → Type 0 = λ words. IsFault (fault_text (codes "panels") 0 words) c.fault.result in
    subst P (c.as_str.ensures.value ∙ c.in_ok-format-in-Err.ensures.ok) c.fault.ensures
