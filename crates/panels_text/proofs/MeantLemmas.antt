-- Lemmas on words that may be meant: the nearest of a list, and each word once.
use Rattle.std.proofs.Common.{◌≡◌, ℕ, suc, ◌+◌, ◌<◌, ◌≤◌, Bool, true, false, not, ◌&&◌, ◌||◌, cond, List, [], ◌∷◌, ◌++◌, length, get_or, take, drop, map, Option, Some, None, Bor, refl, sym, ap, subst, append_assoc, ⊎_elim, ◌∙◌, arith}
use Rattle.std.proofs.lemmas.Bool.{cases_Bool}
use Rattle.std.proofs.lemmas.Bool.Decides.{leb_tells, nat_tests}
use Rattle.std.proofs.lemmas.List.{append-nil, drop_more, length-map, length_push, map-append, take-append-le, take_all}
use Rattle.std.proofs.lemmas.List.Elements.{filter-append, filter_agree}
use Rattle.std.proofs.lemmas.List.Folds.{list_any-append}
use Rattle.std.proofs.lemmas.Slice.Eq.{bytes_eq-Decides}
use Rattle.std.specs.List.{filter, list_any}
use Rattle.std.specs.Str.{bytes_eq}
use Rattle.std.specs.Prelude.{flat_map}
use Rattle.tk_base.specs.declared.kind.Kind.{Kind}
use Rattle.tk_options.specs.Names.{name_of}
use Rattle.tk_options.specs.Rows.{row as option_row}
use Rattle.tk_options.specs.declared.rows.OptionRow.{OptionRow}
use Rattle.panels_text.specs.Keys.{only_one}
use Rattle.panels_text.specs.Meant.{Found, distinct, found_words, is_likely, likely_in, most_tried, with_word, words_of_kind}
use Rattle.panels_text.specs.Words.{distance, is_known, is_near, nearer, nearest, words_of}
use Rattle.panels_text.proofs.TableLemmas.{known_words}

-- those of a list that may be meant, one after another
pub likely_in-append : (word : List ℕ) (xs ys : List (List ℕ)) → likely_in word (xs ++ ys) ≡ likely_in word xs ++ likely_in word ys
likely_in-append word xs ys =
    ap (map (λ other. (distance word other, other))) (filter-append (is_likely word) xs ys) ∙ map-append (λ other. (distance word other, other)) (filter (is_likely word) xs) (filter (is_likely word) ys)

both : {A : Type 0} (p q : A → Bool) (xs : List A) → filter p (filter q xs) ≡ filter (λ y. q y && p y) xs
both p q [] = refl
both {A} p q (x ∷ xs) =
    let step : (b : Bool) → filter p (cond b (x ∷ filter q xs) (filter q xs)) ≡ cond (b && p x) (x ∷ filter (λ y. q y && p y) xs) (filter (λ y. q y && p y) xs) =
    λ b. elim b as (λ v. filter p (cond v (x ∷ filter q xs) (filter q xs)) ≡ cond (v && p x) (x ∷ filter (λ y. q y && p y) xs) (filter (λ y. q y && p y) xs))
    [ true ↦ ap (λ rest. cond (p x) (x ∷ rest) rest) (both p q xs) | false ↦ both p q xs ] in
    step (q x)

-- the words that aren't among others
abbrev pub fresh : List (List ℕ) → List (List ℕ) → List (List ℕ)
fresh seen words = filter (λ word. not (list_any (λ other. bytes_eq other word) seen)) words

within : (x y : List ℕ) (seen : List (List ℕ)) → list_any (λ other. bytes_eq other x) seen ≡ true
    → (not (bytes_eq x y) && not (list_any (λ other. bytes_eq other y) seen)) ≡ not (list_any (λ other. bytes_eq other y) seen)
within x y seen is =
    ⊎_elim
    (λ same. let e : x ≡ y = (bytes_eq-Decides x y).0 same in
    let P : List ℕ → Type 0 = λ z. list_any (λ other. bytes_eq other z) seen ≡ true in
    let there = subst P e is in rw (same, there) refl)
    (λ other. rw other refl)
    (cases_Bool (bytes_eq x y))

-- a word that was seen adds nothing
pub fresh-seen : (x : List ℕ) (xs seen : List (List ℕ)) → list_any (λ other. bytes_eq other x) seen ≡ true → fresh seen (distinct (x ∷ xs)) ≡ fresh seen (distinct xs)
fresh-seen x xs seen is =
    rw is (both (λ word. not (list_any (λ other. bytes_eq other word) seen)) (λ other. not (bytes_eq x other)) (distinct xs)
    ∙ filter_agree (λ y. not (bytes_eq x y) && not (list_any (λ other. bytes_eq other y) seen)) (λ word. not (list_any (λ other. bytes_eq other word) seen)) (λ y. within x y seen is) (distinct xs))

pushed : (a b : Bool) → (not b && not a) ≡ not (a || (b || false))
pushed true true = refl
pushed true false = refl
pushed false true = refl
pushed false false = refl

-- one that wasn't stands next
pub fresh-new : (x : List ℕ) (xs seen : List (List ℕ)) → list_any (λ other. bytes_eq other x) seen ≡ false → fresh seen (distinct (x ∷ xs)) ≡ x ∷ fresh (seen ++ x ∷ []) (distinct xs)
fresh-new x xs seen is =
    rw is (ap (λ rest. x ∷ rest) (both (λ word. not (list_any (λ other. bytes_eq other word) seen)) (λ other. not (bytes_eq x other)) (distinct xs)
    ∙ filter_agree (λ y. not (bytes_eq x y) && not (list_any (λ other. bytes_eq other y) seen)) (λ word. not (list_any (λ other. bytes_eq other word) (seen ++ x ∷ [])))
    (λ y. pushed (list_any (λ other. bytes_eq other y) seen) (bytes_eq x y) ∙ ap not (sym (list_any-append (λ other. bytes_eq other y) seen (x ∷ [])))) (distinct xs)))

-- the nearest of what was found and what is left
abbrev pub onto : List ℕ → Option (List ℕ) → Option (List ℕ) → Option (List ℕ)
onto word None left = left
onto word (Some one) left = Some (nearer word one left)

-- of three in a row
pub nearer-nearer : (word one two : List ℕ) (left : Option (List ℕ)) → distance word two < distance word one → nearer word one (Some (nearer word two left)) ≡ nearer word two left
nearer-nearer word one two None lt = grind (arith, nat_tests)
nearer-nearer word one two (Some three) lt = grind (arith, nat_tests)

pub nearer-stays : (word one two : List ℕ) (left : Option (List ℕ)) → distance word one ≤ distance word two → nearer word one (Some (nearer word two left)) ≡ nearer word one left
nearer-stays word one two None le = grind (arith, nat_tests)
nearer-stays word one two (Some three) le = grind (arith, nat_tests)

-- one more that is looked at
pub likely_step : {A : Type 0} (text : A → List ℕ) (word : List ℕ) (all : List A) (i : ℕ) (d : A) (before next : List (ℕ × List ℕ)) (end : List (ℕ × List ℕ)) → i < length all
    → next ≡ before ++ likely_in word (text (get_or all i d) ∷ []) → before ++ likely_in word (map text (drop i all)) ≡ end → next ++ likely_in word (map text (drop (i + 1) all)) ≡ end
likely_step text word all i d before next end lt is same =
    let P : List (List ℕ) → Type 0 = λ left. before ++ likely_in word left ≡ end in
    let here = subst P (ap (map text) (drop_more all i d lt)) same in
    rw is (append_assoc before (likely_in word (text (get_or all i d) ∷ [])) (likely_in word (map text (drop (i + 1) all)))
    ∙ (ap (λ found. before ++ found) (sym (likely_in-append word (text (get_or all i d) ∷ []) (map text (drop (i + 1) all)))) ∙ here))

take_step : (x : List ℕ) (xs seen all : List (List ℕ)) (most : ℕ) → list_any (λ other. bytes_eq other x) seen ≡ false → take most (seen ++ fresh seen (distinct (x ∷ xs))) ≡ all
    → take most ((seen ++ x ∷ []) ++ fresh (seen ++ x ∷ []) (distinct xs)) ≡ all
take_step x xs seen all most new same =
    ap (take most) (append_assoc seen (x ∷ []) (fresh (seen ++ x ∷ []) (distinct xs)) ∙ ap (λ left. seen ++ left) (sym (fresh-new x xs seen new))) ∙ same

seen_step : (x : List ℕ) (xs seen all : List (List ℕ)) (most : ℕ) → list_any (λ other. bytes_eq other x) seen ≡ true → take most (seen ++ fresh seen (distinct (x ∷ xs))) ≡ all → take most (seen ++ fresh seen (distinct xs)) ≡ all
seen_step x xs seen all most old same = ap (λ left. take most (seen ++ left)) (sym (fresh-seen x xs seen old)) ∙ same

full_step : (seen one two all : List (List ℕ)) (most : ℕ) → most ≤ length seen → take most (seen ++ one) ≡ all → take most (seen ++ two) ≡ all
full_step seen one two all most full same = take-append-le most seen two full ∙ (sym (take-append-le most seen one full) ∙ same)

-- those that were taken, and those of what is left that weren't, are all of which the first are meant
abbrev pub Takes : List (Bor (List ℕ)) → List Found → List (List ℕ) → Type 0
Takes words left all = take most_tried (words_of words ++ fresh (words_of words) (distinct (found_words left))) ≡ all

fresh-none : (words : List (List ℕ)) → fresh [] words ≡ words
fresh-none [] = refl
fresh-none (word ∷ words) = ap (λ rest. word ∷ rest) (fresh-none words)

pub takes_begin : (words : List (Bor (List ℕ))) (found : List Found) → words ≡ [] → Takes words found (take most_tried (distinct (found_words found)))
takes_begin words found none =
    let P : List (Bor (List ℕ)) → Type 0 = λ seen. Takes seen found (take most_tried (distinct (found_words found))) in
    subst P (sym none) (ap (take most_tried) (fresh-none (distinct (found_words found))))

-- one more is looked at: it is taken, or was before, or enough are
pub takes_step : (found : List Found) (i : ℕ) (d : Found) (words next : List (Bor (List ℕ))) (all : List (List ℕ)) → i < length found → words_of next ≡ with_word (get_or found i d).1.now words
    → Takes words (drop i found) all → Takes next (drop (i + 1) found) all
takes_step found i d words next all lt is same =
    let x : List ℕ = (get_or found i d).1.now in
    let rest : List (List ℕ) = found_words (drop (i + 1) found) in
    let seen : List (List ℕ) = words_of words in
    let P : List Found → Type 0 = λ left. Takes words left all in
    let here : take most_tried (seen ++ fresh seen (distinct (x ∷ rest))) ≡ all = subst P (drop_more found i d lt) same in
    let R : List (List ℕ) → Type 0 = λ front. take most_tried (front ++ fresh front (distinct rest)) ≡ all in
    let choice : Bool → Bool → List (List ℕ) = λ few old. cond (few && not old) (seen ++ x ∷ []) seen in
    ⊎_elim
    (λ few.
    ⊎_elim
    (λ old. subst R (sym (is ∙ (ap (λ b. choice b (is_known x words)) few.0 ∙ ap (choice true) old))) (seen_step x rest seen all most_tried (sym (known_words x words) ∙ old) here))
    (λ new. subst R (sym (is ∙ (ap (λ b. choice b (is_known x words)) few.0 ∙ ap (choice true) new))) (take_step x rest seen all most_tried (sym (known_words x words) ∙ new) here))
    (cases_Bool (is_known x words)))
    (λ many. subst R (sym (is ∙ ap (λ b. choice b (is_known x words)) many.0)) (full_step seen _ _ all most_tried (omega (arith, length-map words (λ (other : Bor (List ℕ)). other.now), many.1)) here))
    (leb_tells (suc (length words)) most_tried)

-- no more are taken than are tried
pub few_step : (word : List ℕ) (words next : List (Bor (List ℕ))) → words_of next ≡ with_word word words → length words ≤ most_tried → length next ≤ most_tried
few_step word words next is few =
    let count : length next ≡ length (with_word word words) = sym (length-map next (λ (other : Bor (List ℕ)). other.now)) ∙ ap length is in
    let choice : Bool → Bool → List (List ℕ) = λ room old. cond (room && not old) (words_of words ++ word ∷ []) (words_of words) in
    let one = length_push (words_of words) word in
    let same = length-map words (λ (other : Bor (List ℕ)). other.now) in
    ⊎_elim
    (λ room.
    ⊎_elim
    (λ old. let e : length next ≡ length (words_of words) = count ∙ ap length (ap (λ b. choice b (is_known word words)) room.0 ∙ ap (choice true) old) in omega arith)
    (λ new. let e : length next ≡ length (words_of words ++ word ∷ []) = count ∙ ap length (ap (λ b. choice b (is_known word words)) room.0 ∙ ap (choice true) new) in omega (arith, room.1))
    (cases_Bool (is_known word words)))
    (λ full. let e : length next ≡ length (words_of words) = count ∙ ap length (ap (λ b. choice b (is_known word words)) full.0) in omega arith)
    (leb_tells (suc (length words)) most_tried)

pub takes_end : (words : List (Bor (List ℕ))) (left : List Found) (all : List (List ℕ)) → left ≡ [] → length words ≤ most_tried → Takes words left all → words_of words ≡ all
takes_end words left all gone few same =
    let P : List Found → Type 0 = λ rest. Takes words rest all in
    let whole = subst P gone same in
    sym (take_all most_tried (words_of words) (omega (arith, length-map words (λ (other : Bor (List ℕ)). other.now)))) ∙ (ap (take most_tried) (sym (append-nil (words_of words))) ∙ whole)

-- one turn of a search for the nearest: a candidate that is nearer, one that isn't, and one that isn't near
pub turn-first : (word one : List ℕ) (rest : List (List ℕ)) (all : Option (List ℕ)) → is_near word one ≡ true → nearest word (one ∷ rest) ≡ all → Some (nearer word one (nearest word rest)) ≡ all
turn-first word one rest all near same = let P : Bool → Type 0 = λ b. cond b (Some (nearer word one (nearest word rest))) (nearest word rest) ≡ all in subst P near same

pub turn-nearer : (word one two : List ℕ) (rest : List (List ℕ)) (all : Option (List ℕ)) → is_near word two ≡ true → distance word two < distance word one
    → Some (nearer word one (nearest word (two ∷ rest))) ≡ all → Some (nearer word two (nearest word rest)) ≡ all
turn-nearer word one two rest all near lt same =
    let P : Bool → Type 0 = λ b. Some (nearer word one (cond b (Some (nearer word two (nearest word rest))) (nearest word rest))) ≡ all in
    ap Some (sym (nearer-nearer word one two (nearest word rest) lt)) ∙ subst P near same

pub turn-stays : (word one two : List ℕ) (rest : List (List ℕ)) (all : Option (List ℕ)) → is_near word two ≡ true → distance word one ≤ distance word two
    → Some (nearer word one (nearest word (two ∷ rest))) ≡ all → Some (nearer word one (nearest word rest)) ≡ all
turn-stays word one two rest all near le same =
    let P : Bool → Type 0 = λ b. Some (nearer word one (cond b (Some (nearer word two (nearest word rest))) (nearest word rest))) ≡ all in
    ap Some (sym (nearer-stays word one two (nearest word rest) le)) ∙ subst P near same

pub turn-far : (word one : List ℕ) (rest : List (List ℕ)) (found all : Option (List ℕ)) → is_near word one ≡ false → onto word found (nearest word (one ∷ rest)) ≡ all → onto word found (nearest word rest) ≡ all
turn-far word one rest found all far same = let P : Bool → Type 0 = λ b. onto word found (cond b (Some (nearer word one (nearest word rest))) (nearest word rest)) ≡ all in subst P far same

-- the character of a text that is one: what was found of those before, and those that are left, decide
abbrev pub only_from : Bool → Option ℕ → List ℕ → Option ℕ
only_from true only (one ∷ []) = Some one
only_from true only (one ∷ two ∷ rest) = None
only_from true only [] = only
only_from false only [] = only
only_from false only (one ∷ rest) = None

pub only_begin : (all : List ℕ) → only_from true None all ≡ only_one all
only_begin [] = refl
only_begin (one ∷ []) = refl
only_begin (one ∷ two ∷ rest) = refl

pub only_step : (first : Bool) (only : Option ℕ) (one : ℕ) (rest : List ℕ) → only_from first only (one ∷ rest) ≡ only_from false (cond first (Some one) None) rest
only_step true only one [] = refl
only_step true only one (two ∷ rest) = refl
only_step false only one [] = refl
only_step false only one (two ∷ rest) = refl

-- the options of a kind, by their rows
pub named_rows : (rows : List OptionRow) → map (λ row. name_of row.option) (map (λ row. option_row row.0 row.1 row.2.now) rows) ≡ map (λ row. name_of row.0) rows
named_rows [] = refl
named_rows (one ∷ rows) = ap (λ rest. name_of one.0 ∷ rest) (named_rows rows)

-- one more kind whose options are looked at
pub kind_step : (word : List ℕ) (kinds : List Kind) (i : ℕ) (d : Kind) (before next : List (ℕ × List ℕ)) (named : List (List ℕ)) (all : List (ℕ × List ℕ)) → i < length kinds
    → next ≡ before ++ likely_in word named → named ≡ words_of_kind (get_or kinds i d)
    → before ++ likely_in word (flat_map words_of_kind (drop i kinds)) ≡ all → next ++ likely_in word (flat_map words_of_kind (drop (i + 1) kinds)) ≡ all
kind_step word kinds i d before next named all lt is are same =
    let rest = flat_map words_of_kind (drop (i + 1) kinds) in
    let P : List Kind → Type 0 = λ left. before ++ likely_in word (flat_map words_of_kind left) ≡ all in
    let here : before ++ likely_in word (words_of_kind (get_or kinds i d) ++ rest) ≡ all = subst P (drop_more kinds i d lt) same in
    let Q : List (List ℕ) → Type 0 = λ front. before ++ likely_in word (front ++ rest) ≡ all in
    rw is (append_assoc before (likely_in word named) (likely_in word rest) ∙ (ap (λ found. before ++ found) (sym (likely_in-append word named rest)) ∙ subst Q (sym are) here))

pub only_turn : (first : Bool) (only found : Option ℕ) (one : ℕ) (left rest : List ℕ) (all : Option ℕ) → left ≡ one ∷ rest → found ≡ cond first (Some one) None → only_from first only left ≡ all → only_from false found rest ≡ all
only_turn first only found one left rest all here is same = let P : List ℕ → Type 0 = λ xs. only_from first only xs ≡ all in rw is (sym (only_step first only one rest) ∙ subst P here same)

only_last : (first : Bool) (only : Option ℕ) → only_from first only [] ≡ only
only_last true only = refl
only_last false only = refl

pub only_end : (first : Bool) (only : Option ℕ) (left : List ℕ) (all : Option ℕ) → left ≡ [] → only_from first only left ≡ all → only ≡ all
only_end first only left all gone same = let P : List ℕ → Type 0 = λ xs. only_from first only xs ≡ all in sym (only_last first only) ∙ subst P gone same
