-- Texts joined in order.
use Rattle.std.proofs.Common.{◌≡◌, ℕ, ◌+◌, ◌<◌, List, [], ◌∷◌, ◌++◌, length, get_or, take, Ok, Err, refl, sym, ap, ◌∙◌, append_assoc, arith}
use Rattle.std.proofs.lemmas.List.{append-nil, length-append, take_more}
use Rattle.std.specs.List.{concat}
use Rattle.tcl_text.specs.Answers.{Answer, ◌>>=◌, answers, limit_text, Gives, Refuses}
use Rattle.tcl_text.specs.declared.commands.answers.Refusal.{Refusal}
use Rattle.tcl_text.proofs.AnswerLemmas.{answers_beyond, given_error}

concat-append : (xs ys : List (List ℕ)) → concat (xs ++ ys) ≡ concat xs ++ concat ys
concat-append [] ys = refl
concat-append (x ∷ xs) ys = ap (λ t. x ++ t) (concat-append xs ys) ∙ sym (append_assoc x (concat xs) (concat ys))

-- one text more
pub concat_step : (texts : List (List ℕ)) (i : ℕ) (text : List ℕ) → i < length texts → text ≡ get_or texts i text
    → concat (take (i + 1) texts) ≡ concat (take i texts) ++ text
concat_step texts i text within is =
    ap concat (take_more texts i text within ∙ ap (λ (last : List ℕ). take i texts ++ last ∷ []) (sym is))
    ∙ concat-append (take i texts) (text ∷ []) ∙ ap (λ t. concat (take i texts) ++ t) (append-nil text)

pub ruleset concats = (concat_step, append_assoc)

-- what is too long by itself is too long behind any value
pub beyond_value : (refusal : Refusal) (value more : List ℕ) (held : Answer) → held ≡ Ok value → 65536 < length more → Refuses refusal limit_text
    → Gives {T = List ℕ} (Err refusal) (held >>= λ text. answers (text ++ more))
beyond_value refusal value more held is long told =
    let beyond : answers (value ++ more) ≡ Err limit_text = answers_beyond (value ++ more) (omega (arith, length-append value more, long)) in
    rw (is, beyond) (given_error (List ℕ) refusal limit_text told)
