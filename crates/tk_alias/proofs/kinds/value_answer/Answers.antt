use Rattle.std.proofs.Common.{◌≡◌, ℕ, List, ◌++◌, Option, None, Err, subst}
use Rattle.std.specs.Prelude.{codes}
use Rattle.tcl_text.specs.Answers.{Gives, Refuses, bounded, quoted}
use Rattle.tcl_text.proofs.AnswerLemmas.{given_error}
use Rattle.tk_alias.specs.Services as spec
use Rattle.tk_alias.proofs.kinds.value_answer.Goals as goal

pub returns-in-None : goal.returns-in-None
returns-in-None c =
    let key = c.args.key.now in
    let none : None ≡ spec.value_of key c.args.items.now = rw c.in-None.is at c.value_of.ensures in
    let refused : Refuses c.quoting_error.result (bounded (codes "no such key " ++ quoted key)) = rw c.as_str.ensures.bytes at c.quoting_error.ensures in
    let P : Option (List ℕ) → Type 0 = λ found. Gives {T = List ℕ} (Err c.quoting_error.result) (spec.value_or_error key found) in
    subst P none (given_error (List ℕ) c.quoting_error.result (bounded (codes "no such key " ++ quoted key)) refused)
