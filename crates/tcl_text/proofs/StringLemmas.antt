-- Facts about the commands of string(n) and concat(n).
use Rattle.std.proofs.Common.{◌≡◌, ℕ, zero, suc, ◌+◌, ◌*◌, ◌/◌, ◌%◌, ◌<◌, ◌≤◌, Bool, true, false, List, [], ◌∷◌, ◌++◌, Some, None, Ok, Err, length, take, get_or, map, replicate, refl, sym, ap, ◌∙◌, arith, add-one}
use Rattle.std.specs.List.{concat, join_with_byte}
use Rattle.std.specs.Prelude.{not, ◌==◌, filter, nat_eq}
use Rattle.std.specs.Cmp.Lexicographic.{same_text, pointwise}
use Rattle.std.proofs.lemmas.Bool.{ne_eqb}
use Rattle.std.specs.Str.{chars}
use Rattle.std.proofs.lemmas.List.{append-nil, append_assoc, length-append, map_push, take_more}
use Rattle.std.proofs.lemmas.List.Elements.{filter-append}
use Rattle.std.proofs.Math.Nat.{div-lt_iff_lt-mul}
use Rattle.memchr.specs.Find.{FindsNeedle}
use Rattle.tcl_text.specs.Answers.{answers, limit_text}
use Rattle.tcl_text.specs.StringCommands.{characters_before, concatenated, trimmed}
use Rattle.tcl_text.specs.StringSteps.{with_word}
use Rattle.tcl_text.proofs.AnswerLemmas.{answers_beyond, answers_within}
use Rattle.tcl_text.proofs.FindLemmas.{first_place-found}

-- string first
pub characters_before-none : (needle text : List ℕ) → FindsNeedle text needle 0 None → None ≡ characters_before needle text
characters_before-none [] text h = refl
characters_before-none (c ∷ cs) text h = rw (← first_place-found text (c ∷ cs) None h) refl

pub characters_before-some : (needle text : List ℕ) (k : ℕ) → (length needle ≡ 0 → ⊥) → FindsNeedle text needle 0 (Some k) → Some (length (chars (take k text))) ≡ characters_before needle text
characters_before-some [] text k some h = absurd (some refl)
characters_before-some (c ∷ cs) text k some h = rw (← first_place-found text (c ∷ cs) (Some k) h) refl

-- string repeat
copies_more : (n : ℕ) (text : List ℕ) → concat (replicate n text) ++ text ≡ text ++ concat (replicate n text)
copies_more zero text = sym (append-nil text)
copies_more (suc n) text = append_assoc text (concat (replicate n text)) text ∙ ap (λ (t : List ℕ). text ++ t) (copies_more n text)

pub copies_step : (n : ℕ) (text : List ℕ) → concat (replicate (n + 1) text) ≡ concat (replicate n text) ++ text
copies_step n text = rw add-one (sym (copies_more n text))

same_copies : (n m : ℕ) (text : List ℕ) → n ≡ m → concat (replicate n text) ≡ concat (replicate m text)
same_copies n m text same = ap (λ (k : ℕ). concat (replicate k text)) same

copies_join : (n m : ℕ) (text : List ℕ) → concat (replicate n text) ++ concat (replicate m text) ≡ concat (replicate (n + m) text)
copies_join zero m text = same_copies m (zero + m) text (omega arith)
copies_join (suc n) m text =
    append_assoc text (concat (replicate n text)) (concat (replicate m text)) ∙ ap (λ (t : List ℕ). text ++ t) (copies_join n m text)
    ∙ same_copies (suc (n + m)) (suc n + m) text (omega arith)

copies_of_copies : (n k : ℕ) (text : List ℕ) → concat (replicate n (concat (replicate k text))) ≡ concat (replicate (n * k) text)
copies_of_copies zero k text = same_copies zero (zero * k) text (omega arith)
copies_of_copies (suc n) k text =
    ap (λ (t : List ℕ). concat (replicate k text) ++ t) (copies_of_copies n k text) ∙ copies_join k (n * k) text
    ∙ same_copies (k + n * k) (suc n * k) text (omega arith)

-- 64 copies stand in one block first
pub copies_in_blocks : (n : ℕ) (text : List ℕ) → concat (replicate (n / 64) (concat (replicate 64 text))) ++ concat (replicate (n % 64) text) ≡ concat (replicate n text)
copies_in_blocks n text =
    ap (λ (t : List ℕ). t ++ concat (replicate (n % 64) text)) (copies_of_copies (n / 64) 64 text) ∙ copies_join (n / 64 * 64) (n % 64) text
    ∙ same_copies (n / 64 * 64 + n % 64) n text (omega arith)

pub copies_in_none : (n : ℕ) (text : List ℕ) → n < 64 → concat (replicate (n % 64) text) ≡ concat (replicate n text)
copies_in_none n text few = same_copies (n % 64) n text (omega arith)

pub ruleset block_copies = (copies_in_blocks, copies_in_none)

copies_of_nothing : (n : ℕ) → concat (replicate n []) ≡ []
copies_of_nothing zero = refl
copies_of_nothing (suc n) = copies_of_nothing n

length_copies : (n : ℕ) (text : List ℕ) → length (concat (replicate n text)) ≡ n * length text
length_copies zero text = omega arith
length_copies (suc n) text = length-append text (concat (replicate n text)) ∙ omega (arith, length_copies n text)

pub no_copies : (n : ℕ) (text : List ℕ) → length text ≡ 0 → answers (concat (replicate n text)) ≡ answers []
no_copies n [] e = ap answers (copies_of_nothing n)
no_copies n (c ∷ cs) e = absurd (omega arith)

pub too_many_copies : (n : ℕ) (text : List ℕ) → 0 < length text → 65536 / length text < n → answers (concat (replicate n text)) ≡ Err limit_text
too_many_copies n text some many =
    answers_beyond (concat (replicate n text)) (rw (length_copies n text) ((div-lt_iff_lt-mul some).0 many))

pub ruleset repeats = (no_copies, too_many_copies)

-- concat
join_push : (x : List ℕ) (xs : List (List ℕ)) (k : List ℕ) → join_with_byte 32 ((x ∷ xs) ++ k ∷ []) ≡ join_with_byte 32 (x ∷ xs) ++ 32 ∷ k
join_push x [] k = refl
join_push x (y ∷ ys) k = ap (λ (t : List ℕ). x ++ 32 ∷ t) (join_push y ys k) ∙ sym (append_assoc x (32 ∷ join_with_byte 32 (y ∷ ys)) (32 ∷ k))

abbrev kept : List (List ℕ) → List (List ℕ)
kept texts = filter (λ word. not (length word == 0)) texts

long : (c : ℕ) (cs : List ℕ) → (length (c ∷ cs) == 0) ≡ false
long c cs = ne_eqb (length (c ∷ cs)) 0 (λ e. omega arith)

-- a row that doesn't begin with an empty text
BeginsLong : List (List ℕ) → Type 0
BeginsLong [] = Unit {0}
BeginsLong (x ∷ xs) = x ≡ [] → ⊥

kept-begins : (texts : List (List ℕ)) → BeginsLong (kept texts)
unfolding BeginsLong
kept-begins [] = tt
kept-begins ([] ∷ texts) = kept-begins texts
kept-begins ((c ∷ cs) ∷ texts) = rw (long c cs) (λ e. cc)

with_word-long : (b : ℕ) (bs : List ℕ) (xs : List (List ℕ)) (c : ℕ) (cs : List ℕ) → join_with_byte 32 ((b ∷ bs) ∷ xs) ++ 32 ∷ (c ∷ cs) ≡ with_word (join_with_byte 32 ((b ∷ bs) ∷ xs)) (c ∷ cs)
with_word-long b bs [] c cs = refl
with_word-long b bs (x ∷ xs) c cs = refl

join_more : (texts : List (List ℕ)) → BeginsLong texts → (text : List ℕ) → join_with_byte 32 (texts ++ kept (text ∷ [])) ≡ with_word (join_with_byte 32 texts) text
unfolding BeginsLong
join_more texts h [] = ap (join_with_byte 32) (append-nil texts)
join_more [] h (c ∷ cs) = rw (long c cs) refl
join_more ([] ∷ xs) h (c ∷ cs) = absurd (h refl)
join_more ((b ∷ bs) ∷ xs) h (c ∷ cs) = rw (long c cs) (join_push (b ∷ bs) xs (c ∷ cs) ∙ with_word-long b bs xs c cs)

pub concatenated-more : (words : List (List ℕ)) (word : List ℕ) → concatenated (words ++ word ∷ []) ≡ with_word (concatenated words) (trimmed word)
concatenated-more words word =
    ap (λ (texts : List (List ℕ)). join_with_byte 32 (kept texts)) (map_push trimmed words word) ∙ ap (join_with_byte 32) (filter-append (λ word. not (length word == 0)) (map trimmed words) (trimmed word ∷ [])) ∙ join_more (kept (map trimmed words)) (kept-begins (map trimmed words)) (trimmed word)

pub concatenated_step : (words : List (List ℕ)) (i : ℕ) (item : List ℕ) → i < length words → item ≡ get_or words i item → concatenated (take (i + 1) words) ≡ with_word (concatenated (take i words)) (trimmed item)
concatenated_step words i item within is =
    ap concatenated (take_more words i item within ∙ ap (λ (word : List ℕ). take i words ++ word ∷ []) (sym is)) ∙ concatenated-more (take i words) item

-- a word without white space around it is joined with nothing
concatenated_one : (word : List ℕ) → trimmed word ≡ word → concatenated (word ∷ []) ≡ word
concatenated_one [] is = refl
concatenated_one (c ∷ cs) is = ap (λ (text : List ℕ). join_with_byte 32 (kept (text ∷ []))) is ∙ rw (long c cs) refl

pub single_word : (word : List ℕ) → trimmed word ≡ word → length word ≤ 65536 → answers (concatenated (word ∷ [])) ≡ Ok word
single_word word is short = ap answers (concatenated_one word is) ∙ answers_within word short

pub single_answer : (words : List (List ℕ)) (word first again cut : List ℕ) (is_same : Bool) → 1 ≤ length words → length words < 2 → word ≡ get_or words 0 word → first ≡ word → again ≡ word → length word ≤ 65536
    → cut ≡ trimmed first → is_same ≡ pointwise nat_eq cut again → is_same ≡ true → answers (concatenated words) ≡ Ok word
single_answer [] word first again cut is_same long short is f g bound c e t = absurd (omega (arith, long))
single_answer (y ∷ z ∷ zs) word first again cut is_same long short is f g bound c e t = absurd (omega (arith, short))
single_answer (y ∷ []) word first again cut is_same long short is f g bound c e t =
    let same : cut ≡ again = same_text cut again (sym t ∙ e) in
    let whole : trimmed word ≡ word = ap trimmed (sym f) ∙ sym c ∙ same ∙ g in
    ap (λ (w : List ℕ). answers (concatenated (w ∷ []))) (sym is) ∙ single_word word whole bound
