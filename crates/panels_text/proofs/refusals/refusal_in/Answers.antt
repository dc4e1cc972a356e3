use Rattle.std.proofs.Common.{◌≡◌, false, cond, Some, None, option_map, ap, sym, ◌∙◌}
use Rattle.std.specs.List.{starts_with}
use Rattle.std.specs.Prelude.{codes, nat_eq}
use Rattle.panels_text.specs.Refusals.{quoted, quoting, refused_as, words_asked}
use Rattle.panels_text.specs.Words.{words_of}
use Rattle.panels_text.proofs.refusals.refusal_in.Goals as goal

pub returns-in-Some-clause-word : goal.returns-in-Some-clause-word
unfolding quoting
returns-in-Some-clause-word c =
    let answer = c.args.answer.now in
    let words = words_asked c.args.question.now in
    let found : quoted quoting answer ≡ Some c.in-Some.word.now = ap (λ fronts. quoted (words_of fronts) answer) (sym c.as_slice.ensures) ∙ (sym c.quoted.ensures ∙ ap (option_map (λ word. word.now)) c.in-Some.is) in
    let other : starts_with nat_eq answer (codes "wrong # args: ") ≡ false = sym c.begins.ensures ∙ c.if-begins.false in
    c.refused_as.ensures.word ∙ (ap (refused_as words answer) (sym found) ∙ sym (ap (λ b. cond b None (refused_as words answer (quoted quoting answer))) other))

pub returns-in-None-clause-word : goal.returns-in-None-clause-word
unfolding quoting
returns-in-None-clause-word c =
    let answer = c.args.answer.now in
    let words = words_asked c.args.question.now in
    let found : quoted quoting answer ≡ None = ap (λ fronts. quoted (words_of fronts) answer) (sym c.as_slice.ensures) ∙ (sym c.quoted.ensures ∙ ap (option_map (λ word. word.now)) c.in-None.is) in
    let other : starts_with nat_eq answer (codes "wrong # args: ") ≡ false = sym c.begins.ensures ∙ c.if-begins.false in
    ap (refused_as words answer) (sym found) ∙ sym (ap (λ b. cond b None (refused_as words answer (quoted quoting answer))) other)
