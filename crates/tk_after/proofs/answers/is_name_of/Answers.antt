use Rattle.std.proofs.Common.{List, ℕ, sym, ap, ◌∙◌}
use Rattle.std.specs.Prelude.{codes}
use Rattle.std.specs.Fmt.{decimal}
use Rattle.std.specs.Str.{bytes_eq}
use Rattle.tk_after.specs.After.{name_of}
use Rattle.tk_after.proofs.Names.{front_differs, front_same}
use Rattle.tk_after.proofs.answers.is_name_of.Goals as goal

pub returns-in-Some : goal.returns-in-Some
unfolding name_of
returns-in-Some c =
    let same = front_same (codes "after#") (decimal c.args.id) c.args.characters.now c.as_slice.result.now c.as_bytes.result.now c.in-Some.digits.now c.as_slice.ensures c.as_bytes.ensures.value c.in-Some.ensures.cases.0 c.in-Some.ensures.cases.1 in
    c.eq.ensures ∙ ap (λ (text : List ℕ). bytes_eq text c.in-Some.digits.now) (c.as_bytes-in-Some.ensures.value ∙ c.format.ensures.text) ∙ sym same

pub returns-in-None : goal.returns-in-None
unfolding name_of
returns-in-None c =
    sym (front_differs (codes "after#") (decimal c.args.id) c.args.characters.now c.as_slice.result.now c.as_bytes.result.now c.as_slice.ensures c.as_bytes.ensures.value c.in-None.ensures.cases)
