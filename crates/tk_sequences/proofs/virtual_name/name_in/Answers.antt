use Rattle.std.proofs.Common.{◌≡◌, ◌++◌, ℕ, List, drop, false, true, sym, ap, ◌∙◌}
use Rattle.std.specs.Prelude.{codes}
use Rattle.tk_sequences.specs.Words.{in_brackets, is_name}
use Rattle.tk_sequences.proofs.NameLemmas.{name_in_some, name_in_none, name_in_false}
use Rattle.tk_sequences.proofs.virtual_name.name_in.Goals as goal

pub returns-in-Some-strip_suffix-clause-value : goal.returns-in-Some-strip_suffix-clause-value
returns-in-Some-strip_suffix-clause-value c =
    let front : c.args.text.now ≡ codes "<<" ++ c.in-Some.behind.now = let h = c.in-Some.ensures.cases in cc in
    let back : c.in-Some.behind.now ≡ c.in-Some-strip_suffix.name.now ++ codes ">>" = let h = c.in-Some-strip_suffix.ensures.cases in cc in
    name_in_some c.args.text.now c.in-Some-strip_suffix.name.now (front ∙ ap (λ (rest : List ℕ). codes "<<" ++ rest) back) (sym c.is_name.ensures ∙ c.if-is_name.true)

pub returns-in-None-clause-value : goal.returns-in-None-clause-value
returns-in-None-clause-value c = let h = c.in-None.ensures.cases in name_in_none c.args.text.now (λ name is same. h (name ++ codes ">>") same)

pub returns-in-Some-2-clause-value : goal.returns-in-Some-2-clause-value
returns-in-Some-2-clause-value c =
    let front : c.args.text.now ≡ codes "<<" ++ c.in-Some.behind.now = let h = c.in-Some.ensures.cases in cc in
    let back : c.in-Some.behind.now ≡ c.in-Some-strip_suffix.name.now ++ codes ">>" = let h = c.in-Some-strip_suffix.ensures.cases in cc in
    name_in_false c.args.text.now c.in-Some-strip_suffix.name.now (front ∙ ap (λ (rest : List ℕ). codes "<<" ++ rest) back) (sym c.is_name.ensures ∙ c.if-is_name.false)

pub returns-in-None-strip_suffix-clause-value : goal.returns-in-None-strip_suffix-clause-value
returns-in-None-strip_suffix-clause-value c =
    let front : c.args.text.now ≡ codes "<<" ++ c.in-Some.behind.now = let h = c.in-Some.ensures.cases in cc in
    let lacks = c.in-None-strip_suffix.ensures.cases in
    name_in_none c.args.text.now (λ name is same. lacks name (ap (drop 2) (sym front ∙ same)))
