-- Lemmas on the commands of scripts, and on their words.
use Rattle.std.proofs.Common.{◌≡◌, ℕ, Bool, get_or, zero, suc, ◌+◌, ◌-◌, ◌<◌, List, [], ◌∷◌, ◌++◌, length, drop, reverse, Option, Some, None, map, option_map, slice_get, refl, sym, ap, subst, ◌∙◌, append_assoc, string_bytes, arith}
use Rattle.std.proofs.lemmas.List.{append-nil, drop_more, reverse-append}
use Rattle.std.proofs.lemmas.Option.{slice_get-map}
use Rattle.std.specs.Prelude.{String, flat_map}
use Rattle.std.specs.declared.alloc.Global.{Global}
use Rattle.panels_text.specs.Asking.{Asks, pair, pairs}
use Rattle.panels_text.specs.Roles.{Texts, text_or_empty, texts_of, word_at}
use Rattle.panels_text.specs.Runners.{Runs, better, runner_in, runs_in}
use Rattle.panels_text.specs.Scripts.{Passage, Said, inner_as, passages_in, said}
use Rattle.panels_text.specs.declared.calls.Call.{Call}

-- the text of a word that is there, and of one that isn't
pub word_found : (words : List (Option (String Global))) (index : ℕ) (word : Option (String Global)) → slice_get words index ≡ Some word → text_or_empty (Some (option_map string_bytes word)) ≡ word_at (texts_of words) index
word_found words index word is = sym (ap text_or_empty (slice_get-map (option_map string_bytes) words index ∙ ap (option_map (option_map string_bytes)) is))

pub word_missing : (words : List (Option (String Global))) (index : ℕ) → slice_get words index ≡ None → [] ≡ word_at (texts_of words) index
word_missing words index is = sym (ap text_or_empty (slice_get-map (option_map string_bytes) words index ∙ ap (option_map (option_map string_bytes)) is))

passages_none : (most : ℕ) → passages_in most [] ≡ []
unfolding passages_in
passages_none zero = refl
passages_none (suc most) = refl

-- what is told of each passage that is read: no body is left
pub told_end : {A : Type 0} (f : Passage → List A) (most : ℕ) (told : List A) (stack : List Passage) (all : List A) → stack ≡ [] → told ++ flat_map f (passages_in most (reverse stack)) ≡ all → told ≡ all
told_end f most told stack all none same =
    let P : List Passage → Type 0 = λ left. told ++ flat_map f (passages_in most (reverse left)) ≡ all in
    let empty : [] ≡ flat_map f (passages_in most []) = ap (flat_map f) (sym (passages_none most)) in
    sym (append-nil told) ∙ (ap (λ rest. told ++ rest) empty ∙ subst P none same)

-- as many were read as are read at most
pub told_full : {A : Type 0} (f : Passage → List A) (most i : ℕ) (told : List A) (stack : List Passage) (all : List A) → i ≡ most → told ++ flat_map f (passages_in (most - i) stack) ≡ all → told ≡ all
unfolding passages_in
told_full f most i told stack all is same =
    let none : most - i ≡ 0 = omega arith in
    let P : ℕ → Type 0 = λ n. told ++ flat_map f (passages_in n stack) ≡ all in
    sym (append-nil told) ∙ subst P none same

-- one body more
pub told_more : {A : Type 0} (f : Passage → List A) (most i : ℕ) (told next : List A) (stack popped after : List Passage) (first : Passage) (all : List A) → i < most → stack ≡ popped ++ first ∷ []
    → after ≡ popped ++ inner_as first.form first → next ≡ told ++ f first → told ++ flat_map f (passages_in (most - i) (reverse stack)) ≡ all → next ++ flat_map f (passages_in (most - (i + 1)) (reverse after)) ≡ all
unfolding passages_in
told_more f most i told next stack popped after first all lt is grown one same =
    let left : most - i ≡ suc (most - (i + 1)) = omega arith in
    let top : reverse stack ≡ first ∷ reverse popped = ap reverse is ∙ reverse-append popped (first ∷ []) in
    let under : reverse after ≡ reverse (inner_as first.form first) ++ reverse popped = ap reverse grown ∙ reverse-append popped (inner_as first.form first) in
    let P : ℕ → Type 0 = λ n. told ++ flat_map f (passages_in n (reverse stack)) ≡ all in
    let Q : List Passage → Type 0 = λ passages. told ++ flat_map f (passages_in (suc (most - (i + 1))) passages) ≡ all in
    let here : told ++ (f first ++ flat_map f (passages_in (most - (i + 1)) (reverse (inner_as first.form first) ++ reverse popped))) ≡ all = subst Q top (subst P left same) in
    ap (λ front. front ++ flat_map f (passages_in (most - (i + 1)) (reverse after))) one
    ∙ ap (λ passages. (told ++ f first) ++ flat_map f (passages_in (most - (i + 1)) passages)) under
    ∙ append_assoc told (f first) (flat_map f (passages_in (most - (i + 1)) (reverse (inner_as first.form first) ++ reverse popped)))
    ∙ here

-- options with their values, from one on
pub pairs_more : (call : Said) (front : List (List ℕ)) (words : Texts) (place : ℕ) → place < length words
    → pairs call front (drop place words) ≡ pair call front (word_at words place) (word_at words (place + 1)) ++ pairs call front (drop (place + 2) words)
pairs_more call front [] place lt = absurd (omega arith)
pairs_more call front (option ∷ []) zero lt = sym (append-nil _)
pairs_more call front (option ∷ value ∷ rest) zero lt = refl
pairs_more call front (option ∷ rest) (suc place) lt =
    let one : suc place + 1 ≡ suc (place + 1) = omega arith in
    let two : suc place + 2 ≡ suc (place + 2) = omega arith in
    rw (one, two) (pairs_more call front rest place (omega arith))

pub pairs_step : (call : Said) (front : List (List ℕ)) (words : Texts) (place : ℕ) (option value : List ℕ) (before next all : List Asks) → place < length words → option ≡ word_at words place
    → value ≡ word_at words (place + 1) → next ≡ before ++ pair call front option value → before ++ pairs call front (drop place words) ≡ all → next ++ pairs call front (drop (place + 2) words) ≡ all
pairs_step call front words place option value before next all lt one two is same =
    let rest = pairs call front (drop (place + 2) words) in
    let here = pair call front (word_at words place) (word_at words (place + 1)) in
    let P : List Asks → Type 0 = λ left. before ++ left ≡ all in
    let whole : before ++ (here ++ rest) ≡ all = subst P (pairs_more call front words place lt) same in
    ap (λ told. told ++ rest) (is ∙ ap (λ word. before ++ pair call front word value) one ∙ ap (λ word. before ++ pair call front (word_at words place) word) two)
    ∙ append_assoc before here rest
    ∙ whole

-- one command more is looked at for what runs a script
pub runner_step : (body : List ℕ) (by_timer : Bool) (found next : Option Runs) (calls : List Call) (i : ℕ) (d : Call) (all : Option Runs) → i < length calls → next ≡ better by_timer found (runs_in body (said (get_or calls i d)))
    → runner_in body by_timer found (map said (drop i calls)) ≡ all → runner_in body by_timer next (map said (drop (i + 1) calls)) ≡ all
runner_step body by_timer found next calls i d all lt is same =
    let P : List Call → Type 0 = λ left. runner_in body by_timer found (map said left) ≡ all in
    ap (λ own. runner_in body by_timer own (map said (drop (i + 1) calls))) is ∙ subst P (drop_more calls i d lt) same
