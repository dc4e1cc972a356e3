-- Words without separators and brackets.
use Rattle.std.proofs.Common.{◌≡◌, ◌≢◌, ℕ, ◌<◌, ◌==◌, ◌&&◌, Bool, true, false, cond, not, filter, List, [], ◌∷◌, refl, ap, ◌∙◌, subst, arith}
use Rattle.std.specs.List.{list_all}
use Rattle.std.proofs.lemmas.List.Splits.{slice_split_none}
use Rattle.std.proofs.lemmas.List.Sums.{AllPass-from_list_all}
use Rattle.std.proofs.lemmas.Option.{unwrap_or-slice_get}
use Rattle.tk_base.proofs.NamesLemmas.{length_all_names}
use Rattle.tk_base.specs.Names.{all_names, name_of}
use Rattle.tk_sequences.specs.Reading.{fields}
use Rattle.tk_sequences.specs.Words.{is_separator, is_some_text}

-- what may stand between the brackets of a pattern
abbrev pub is_inside : ℕ → Bool
is_inside byte = not (byte == 60) && not (byte == 62)

abbrev pub is_in_word : ℕ → Bool
is_in_word byte = not (is_separator byte) && is_inside byte

abbrev pub is_word : List ℕ → Bool
is_word word = is_some_text word && list_all is_in_word word

pub both_first : (a b : Bool) → (a && b) ≡ true → a ≡ true
both_first true b h = refl
both_first false b h = absurd (cc)

pub both_second : (a b : Bool) → (a && b) ≡ true → b ≡ true
both_second true b h = h
both_second false b h = absurd (cc)

pub isnt : (a : Bool) → not a ≡ true → a ≡ false
isnt true h = absurd (cc)
isnt false h = refl

pub not_closing : (byte : ℕ) → is_inside byte ≡ true → byte ≢ 62
not_closing byte h same = absurd (let e : is_inside 62 ≡ true = subst (λ b. is_inside b ≡ true) same h in cc)

pub inside_word : (word : List ℕ) → list_all is_in_word word ≡ true → list_all is_inside word ≡ true
inside_word [] h = refl
inside_word (byte ∷ bytes) h =
    let first = both_second (not (is_separator byte)) (is_inside byte) (both_first (is_in_word byte) (list_all is_in_word bytes) h) in
    let rest = inside_word bytes (both_second (is_in_word byte) (list_all is_in_word bytes) h) in
    ap (λ (t : Bool). t && list_all is_inside bytes) first ∙ rest

-- a word is one field
pub word_field : (word : List ℕ) → is_word word ≡ true → fields word ≡ word ∷ []
unfolding fields
word_field word h =
    let within = AllPass-from_list_all is_in_word word (both_second (is_some_text word) (list_all is_in_word word) h) in
    ap (filter is_some_text) (slice_split_none is_separator word (λ k d less. isnt _ (both_first _ _ (within k d less))))
    ∙ ap (λ (t : Bool). cond t (word ∷ []) []) (both_first (is_some_text word) (list_all is_in_word word) h)

names_are_words : list_all is_word all_names ≡ true
unfolding all_names
names_are_words = refl

pub name_is_word : (key : ℕ) → key < 128 → is_word (name_of key) ≡ true
name_is_word key below =
    ap is_word (unwrap_or-slice_get all_names key []) ∙ AllPass-from_list_all is_word all_names names_are_words key [] (omega (arith, length_all_names))
