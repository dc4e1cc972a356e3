-- Lengths that are added up before a text is built.
use Rattle.std.proofs.Common.{◌≡◌, ℕ, zero, suc, ◌+◌, ◌<◌, ◌≤◌, List, [], ◌∷◌, ◌++◌, length, take, drop, get_or, Err, refl, sym, ap, ◌∙◌, arith}
use Rattle.std.specs.List.{concat}
use Rattle.std.proofs.lemmas.List.{append-nil, append_assoc, length-append, take_more, take-append-drop}
use Rattle.tcl_text.specs.Answers.{answers, limit_text, Gives, Refuses}
use Rattle.tcl_text.specs.declared.commands.answers.Refusal.{Refusal}
use Rattle.tcl_text.specs.ListCommands.{joined}
use Rattle.tcl_text.specs.ListSteps.{each_behind}
use Rattle.tcl_text.specs.StringCommands.{concatenated, trimmed}
use Rattle.tcl_text.specs.StringSteps.{with_word, word_added}
use Rattle.tcl_text.proofs.AnswerLemmas.{answers_beyond, given_error}
use Rattle.tcl_text.proofs.ListLemmas.{joined-behind, behind_step}
use Rattle.tcl_text.proofs.StringLemmas.{concatenated-more, concatenated_step}

-- a text that is too long is refused for that
pub refused_long : (refusal : Refusal) (text : List ℕ) → 65536 < length text → Refuses refusal limit_text → Gives {T = List ℕ} (Err refusal) (answers text)
refused_long refusal text long told = rw (answers_beyond text long) (given_error (List ℕ) refusal limit_text told)

-- a row of texts, one behind another
concat-append : (xs ys : List (List ℕ)) → concat (xs ++ ys) ≡ concat xs ++ concat ys
concat-append [] ys = refl
concat-append (x ∷ xs) ys = ap (λ (t : List ℕ). x ++ t) (concat-append xs ys) ∙ sym (append_assoc x (concat xs) (concat ys))

concat_step : (texts : List (List ℕ)) (i : ℕ) (text : List ℕ) → i < length texts → text ≡ get_or texts i text → concat (take (i + 1) texts) ≡ concat (take i texts) ++ text
concat_step texts i text within is =
    ap concat (take_more texts i text within ∙ ap (λ (last : List ℕ). take i texts ++ last ∷ []) (sym is)) ∙ concat-append (take i texts) (text ∷ []) ∙ ap (λ (t : List ℕ). concat (take i texts) ++ t) (append-nil text)

pub total_step : (texts : List (List ℕ)) (i : ℕ) (text : List ℕ) → i < length texts → text ≡ get_or texts i text → length (concat (take (i + 1) texts)) ≡ length (concat (take i texts)) + length text
total_step texts i text within is = ap length (concat_step texts i text within is) ∙ length-append (concat (take i texts)) text

pub total_within : (texts : List (List ℕ)) (i : ℕ) → length (concat (take i texts)) ≤ length (concat texts)
total_within texts i =
    let whole : length (concat texts) ≡ length (concat (take i texts)) + length (concat (drop i texts)) =
    ap (λ (t : List (List ℕ)). length (concat t)) (sym (take-append-drop i texts)) ∙ ap length (concat-append (take i texts) (drop i texts)) ∙ length-append (concat (take i texts)) (concat (drop i texts))
    in
    omega (arith, whole)

-- the same of texts that stand behind another
each_behind-append : (between : List ℕ) (xs ys : List (List ℕ)) → each_behind between (xs ++ ys) ≡ each_behind between xs ++ each_behind between ys
each_behind-append between [] ys = refl
each_behind-append between (x ∷ xs) ys =
    ap (λ (t : List ℕ). (between ++ x) ++ t) (each_behind-append between xs ys) ∙ sym (append_assoc (between ++ x) (each_behind between xs) (each_behind between ys))

pub behind_length : (between : List ℕ) (items : List (List ℕ)) (i : ℕ) (item : List ℕ) → i < length items → item ≡ get_or items i item → length (each_behind between (take (i + 1) items)) ≡ (length (each_behind between (take i items)) + length between) + length item
behind_length between items i item within is =
    ap length (behind_step between items i item within is) ∙ length-append (each_behind between (take i items) ++ between) item ∙ ap (λ (n : ℕ). n + length item) (length-append (each_behind between (take i items)) between)

pub behind_within : (between : List ℕ) (items : List (List ℕ)) (i : ℕ) → length (each_behind between (take i items)) ≤ length (each_behind between items)
behind_within between items i =
    let whole : length (each_behind between items) ≡ length (each_behind between (take i items)) + length (each_behind between (drop i items)) =
    ap (λ (t : List (List ℕ)). length (each_behind between t)) (sym (take-append-drop i items)) ∙ ap length (each_behind-append between (take i items) (drop i items)) ∙ length-append (each_behind between (take i items)) (each_behind between (drop i items))
    in
    omega (arith, whole)

pub joined_length : (between x : List ℕ) (xs : List (List ℕ)) → length (joined between (x ∷ xs)) ≡ length x + length (each_behind between xs)
joined_length between x xs = ap length (joined-behind between x xs) ∙ length-append x (each_behind between xs)

-- words that are joined by blanks
pub with_word_length : (text word : List ℕ) → length (with_word text word) ≡ word_added (length text) (length word)
with_word_length text [] = refl
with_word_length [] (c ∷ cs) = refl
with_word_length (t ∷ ts) (c ∷ cs) = length-append (t ∷ ts) (32 ∷ c ∷ cs)

pub added_first : (text word : ℕ) → text ≡ 0 → word_added text word ≡ text + word
added_first zero zero e = omega arith
added_first zero (suc word) e = omega arith
added_first (suc text) word e = absurd (omega arith)

pub added_none : (text word : ℕ) → word ≡ 0 → word_added text word ≡ text + word
added_none text zero e = omega arith
added_none text (suc word) e = absurd (omega arith)

pub added_some : (text word : ℕ) → (text ≡ 0 → ⊥) → (word ≡ 0 → ⊥) → word_added text word ≡ (text + 1) + word
added_some zero word some more = absurd (some refl)
added_some (suc text) zero some more = absurd (more refl)
added_some (suc text) (suc word) some more = omega arith

pub ruleset added = (added_first, added_none, added_some)

added_grows : (text word : ℕ) → text ≤ word_added text word
added_grows text zero = omega arith
added_grows zero (suc word) = omega arith
added_grows (suc text) (suc word) = omega arith

pub concatenated_length : (words : List (List ℕ)) (i : ℕ) (word : List ℕ) → i < length words → word ≡ get_or words i word → length (concatenated (take (i + 1) words)) ≡ word_added (length (concatenated (take i words))) (length (trimmed word))
concatenated_length words i word within is = ap length (concatenated_step words i word within is) ∙ with_word_length (concatenated (take i words)) (trimmed word)

more_words : (behind words : List (List ℕ)) → length (concatenated words) ≤ length (concatenated (words ++ behind))
more_words [] words = let same = ap (λ (t : List (List ℕ)). length (concatenated t)) (append-nil words) in omega (arith, same)
more_words (word ∷ behind) words =
    let one : length (concatenated (words ++ word ∷ [])) ≡ word_added (length (concatenated words)) (length (trimmed word)) = ap length (concatenated-more words word) ∙ with_word_length (concatenated words) (trimmed word) in
    let grows = added_grows (length (concatenated words)) (length (trimmed word)) in
    let rest = more_words behind (words ++ word ∷ []) in
    let same = ap (λ (t : List (List ℕ)). length (concatenated t)) (append_assoc words (word ∷ []) behind) in
    omega (arith, one, grows, rest, same)

pub concatenated_within : (words : List (List ℕ)) (i : ℕ) → length (concatenated (take i words)) ≤ length (concatenated words)
concatenated_within words i =
    let more = more_words (drop i words) (take i words) in
    let same = ap (λ (t : List (List ℕ)). length (concatenated t)) (take-append-drop i words) in
    omega (arith, more, same)
