-- What the words of the tables are: none of one table is in another that is asked before it, and none has a bracket.
use Rattle.std.proofs.Common.{◌≡◌, ◌≢◌, ◌⊎◌, inl, inr, ℕ, zero, suc, ◌+◌, ◌-◌, ◌<◌, ◌==◌, ◌&&◌, ◌||◌, nat_le, Bool, true, false, cond, not, List, [], ◌∷◌, length, get_or, Option, Some, None, eqb-true, refl, sym, ap, ◌∙◌, subst, arith}
use Rattle.std.specs.List.{list_all}
use Rattle.std.specs.Option.{is_some, option_map, option_or}
use Rattle.std.specs.Str.{bytes_eq}
use Rattle.std.proofs.lemmas.Bool.{ne_eqb, eqb-false}
use Rattle.std.proofs.lemmas.List.Quantifiers.{position-Some}
use Rattle.std.proofs.lemmas.List.Sums.{AllPass-from_list_all}
use Rattle.std.proofs.lemmas.Slice.Eq.{bytes_eq-Decides}
use Rattle.tk_base.specs.Names.{all_names, key_named, key_of_character}
use Rattle.tk_sequences.proofs.ReadLemmas.{if_by, always}
use Rattle.tk_sequences.proofs.WordLemmas.{is_inside, both_first, both_second}
use Rattle.tk_sequences.specs.Grammar.{IsKey, IsCounted}
use Rattle.tk_sequences.specs.Grammar.IsKey.{by_name, by_character}
use Rattle.tk_sequences.specs.Lookup.{looked_up}
use Rattle.tk_sequences.specs.Modifiers.{modifier_words, modifier_named}
use Rattle.tk_sequences.specs.Patterns.{repetition_words, repetition_named}
use Rattle.tk_sequences.specs.Reading.{prefix_named, key_of_one, key_meant, may_repeat}
use Rattle.tk_sequences.specs.Words.{button_words, button_named, is_single}
use Rattle.tk_sequences.specs.Types.{type_words, type_named, is_key_type, is_button_type}
use Rattle.tk_sequences.specs.declared.event_type.EventType.{EventType}
use Rattle.tk_sequences.specs.declared.modifier.Modifier.{Modifier}
use Rattle.tk_sequences.specs.declared.pattern.Repetition.{Repetition}
use Rattle.tk_sequences.specs.declared.pattern.Repetition.TheVariants.{Single, Double, Triple, Quadruple}
use Rattle.tk_sequences.specs.declared.reading.Prefix.TheVariants as prefixes

abbrev pub is_inside_word : List ℕ → Bool
is_inside_word word = list_all is_inside word

abbrev is_no_prefix : List ℕ → Bool
is_no_prefix word = not (is_some (prefix_named word))

abbrev is_no_type : List ℕ → Bool
is_no_type word = not (is_some (type_named word))

is_none : {T : Type 0} (found : Option T) → not (is_some found) ≡ true → found ≡ None
is_none None h = refl
is_none (Some x) h = absurd (cc)

-- what holds of all words of a table holds of a word that is found in it
found_by : {T : Type 0} (test : List ℕ → Bool) (word : List ℕ) (table : List (List ℕ × T)) (x : T) → list_all (λ entry. test entry.0) table ≡ true → looked_up word table ≡ Some x → test word ≡ true
found_by test word [] x all h = absurd (cc)
found_by test word (entry ∷ entries) x all h =
    if_by (bytes_eq word entry.0) (Some entry.1) (looked_up word entries) (Some x) h
    (λ t h. subst (λ w. test w ≡ true) (sym ((bytes_eq-Decides word entry.0).0 t)) (both_first (test entry.0) (list_all (λ entry. test entry.0) entries) all))
    (λ t h. found_by test word entries x (both_second (test entry.0) (list_all (λ entry. test entry.0) entries) all) h)

-- ── types, buttons and prefixes ──
pub type_inside : (word : List ℕ) (kind : EventType) → type_named word ≡ Some kind → is_inside_word word ≡ true
type_inside word kind h = found_by is_inside_word word type_words kind refl h

pub type_no_prefix : (word : List ℕ) (kind : EventType) → type_named word ≡ Some kind → prefix_named word ≡ None
type_no_prefix word kind h = is_none (prefix_named word) (found_by is_no_prefix word type_words kind refl h)

pub button_inside : (word : List ℕ) (button : ℕ) → button_named word ≡ Some button → is_inside_word word ≡ true
button_inside word button h = found_by is_inside_word word button_words button refl h

pub button_no_prefix : (word : List ℕ) (button : ℕ) → button_named word ≡ Some button → prefix_named word ≡ None
button_no_prefix word button h = is_none (prefix_named word) (found_by is_no_prefix word button_words button refl h)

pub button_no_type : (word : List ℕ) (button : ℕ) → button_named word ≡ Some button → type_named word ≡ None
button_no_type word button h = is_none (type_named word) (found_by is_no_type word button_words button refl h)

pub modifier_inside : (word : List ℕ) (modifier : Modifier) → modifier_named word ≡ Some modifier → is_inside_word word ≡ true
modifier_inside word modifier h = found_by is_inside_word word modifier_words modifier refl h

pub modifier_prefix : (word : List ℕ) (modifier : Modifier) → modifier_named word ≡ Some modifier → prefix_named word ≡ Some (prefixes.Modifier modifier)
modifier_prefix word modifier h = ap (λ found. option_or (option_map prefixes.Modifier found) (option_map prefixes.Repetition (repetition_named word))) h

pub repetition_inside : (word : List ℕ) (times : Repetition) → repetition_named word ≡ Some times → is_inside_word word ≡ true
repetition_inside word times h = found_by is_inside_word word repetition_words times refl h

abbrev is_no_modifier : List ℕ → Bool
is_no_modifier word = not (is_some (modifier_named word))

pub repetition_prefix : (word : List ℕ) (times : Repetition) → repetition_named word ≡ Some times → prefix_named word ≡ Some (prefixes.Repetition times)
repetition_prefix word times h =
    ap (λ found. option_or (option_map prefixes.Modifier found) (option_map prefixes.Repetition (repetition_named word))) (is_none (modifier_named word) (found_by is_no_modifier word repetition_words times refl h))
    ∙ ap (option_map prefixes.Repetition) h

-- no prefix at all
pub none_prefix : (word : List ℕ) → modifier_named word ≡ None → repetition_named word ≡ None → prefix_named word ≡ None
none_prefix word no_modifier no_repetition =
    ap (λ found. option_or (option_map prefixes.Modifier found) (option_map prefixes.Repetition (repetition_named word))) no_modifier ∙ ap (option_map prefixes.Repetition) no_repetition

-- ── keys ──
abbrev is_long : List ℕ → Bool
is_long [] = false
is_long (byte ∷ []) = false
is_long (byte ∷ other ∷ bytes) = true

and_false : (t : Bool) → (t && false) ≡ false
and_false true = refl
and_false false = refl

one_differs : (byte : ℕ) (word : List ℕ) → is_long word ≡ true → bytes_eq (byte ∷ []) word ≡ false
one_differs byte [] h = absurd (cc)
one_differs byte (first ∷ []) h = absurd (cc)
one_differs byte (first ∷ other ∷ bytes) h = and_false (byte == first)

-- one character is none of longer words
one_none : {T : Type 0} (byte : ℕ) (table : List (List ℕ × T)) → list_all (λ entry. is_long entry.0) table ≡ true → looked_up (byte ∷ []) table ≡ None
one_none byte [] all = refl
one_none byte (entry ∷ entries) all =
    ap (λ (t : Bool). cond t (Some entry.1) (looked_up (byte ∷ []) entries)) (one_differs byte entry.0 (both_first (is_long entry.0) (list_all (λ entry. is_long entry.0) entries) all))
    ∙ one_none byte entries (both_second (is_long entry.0) (list_all (λ entry. is_long entry.0) entries) all)

pub record IsKeyWord (word : List ℕ) : Type 0 where
  pub inside : is_inside_word word ≡ true
  pub no_prefix : prefix_named word ≡ None
  pub no_type : type_named word ≡ None

no_bracket : (a b c : Bool) → (a || (b || c)) ≡ false → ((not b && not c) && true) ≡ true
no_bracket true b c h = absurd (cc)
no_bracket false true c h = absurd (cc)
no_bracket false false true h = absurd (cc)
no_bracket false false false h = refl

one_word : (word : List ℕ) (key : ℕ) → key_of_one word ≡ Some key → IsKeyWord word
one_word [] key h = absurd (cc)
one_word (byte ∷ []) key h =
    if_by (byte == 45 || (byte == 60 || byte == 62)) None (key_of_character byte) (Some key) h (λ t h. absurd (cc))
    (λ t h. record {
      inside = no_bracket (byte == 45) (byte == 60) (byte == 62) t;
      no_prefix = none_prefix (byte ∷ []) (one_none byte modifier_words refl) (one_none byte repetition_words refl);
      no_type = one_none byte type_words refl;
    })
one_word (byte ∷ other ∷ bytes) key h = absurd (cc)

names_inside : list_all is_inside_word all_names ≡ true
unfolding all_names
names_inside = refl

names_no_prefix : list_all is_no_prefix all_names ≡ true
unfolding all_names
names_no_prefix = refl

names_no_type : list_all is_no_type all_names ≡ true
unfolding all_names
names_no_type = refl

named_by : (test : List ℕ → Bool) (word : List ℕ) (place : ℕ) → list_all test all_names ≡ true → key_named word ≡ Some place → test word ≡ true
named_by test word place all h =
    let found = position-Some (λ known. bytes_eq known word) all_names place [] h in
    let same : get_or all_names place [] ≡ word = (bytes_eq-Decides (get_or all_names place []) word).0 found.1 in
    subst (λ w. test w ≡ true) same (AllPass-from_list_all test all_names all place [] found.0)

key_word_by : (word : List ℕ) (key : ℕ) (found : Option ℕ) → key_named word ≡ found → option_or found (key_of_one word) ≡ Some key → IsKeyWord word
key_word_by word key None is h = one_word word key h
key_word_by word key (Some place) is h = record {
  inside = named_by is_inside_word word place names_inside is;
  no_prefix = is_none (prefix_named word) (named_by is_no_prefix word place names_no_prefix is);
  no_type = is_none (type_named word) (named_by is_no_type word place names_no_type is);
}

pub key_word : (word : List ℕ) (key : ℕ) → key_meant word ≡ Some key → IsKeyWord word
unfolding key_meant
key_word word key h = key_word_by word key (key_named word) refl h

-- ── keys, by name or character ──
-- the names of one character are those of printing characters
abbrev ones_at : ℕ → List (List ℕ) → Bool
ones_at place [] = true
ones_at place ([] ∷ names) = ones_at (suc place) names
ones_at place ((byte ∷ []) ∷ names) = (byte == place + 32) && ones_at (suc place) names
ones_at place ((byte ∷ other ∷ bytes) ∷ names) = ones_at (suc place) names

names_ones : ones_at 0 all_names ≡ true
unfolding all_names
names_ones = refl

ones_first : (place byte : ℕ) (name : List ℕ) (names : List (List ℕ)) → ones_at place (name ∷ names) ≡ true → name ≡ byte ∷ [] → (byte == place + 32) ≡ true
ones_first place byte [] names all same = absurd (cc)
ones_first place byte (first ∷ []) names all same =
    let e : first ≡ byte = cc in subst (λ b. (b == place + 32) ≡ true) e (both_first (first == place + 32) (ones_at (suc place) names) all)
ones_first place byte (first ∷ other ∷ bytes) names all same = absurd (cc)

ones_rest : (place : ℕ) (name : List ℕ) (names : List (List ℕ)) → ones_at place (name ∷ names) ≡ true → ones_at (suc place) names ≡ true
ones_rest place [] names all = all
ones_rest place (byte ∷ []) names all = both_second (byte == place + 32) (ones_at (suc place) names) all
ones_rest place (byte ∷ other ∷ bytes) names all = all

one_at : (place byte : ℕ) (names : List (List ℕ)) (at : ℕ) → ones_at place names ≡ true → at < length names → get_or names at [] ≡ byte ∷ [] → byte ≡ place + at + 32
one_at place byte [] at all less same = absurd (omega arith)
one_at place byte (name ∷ names) zero all less same = let e = eqb-true byte (place + 32) (ones_first place byte name names all same) in omega arith
one_at place byte (name ∷ names) (suc at) all less same = let e = one_at (suc place) byte names at (ones_rest place name names all) (omega arith) same in omega arith

-- a name of one character is the key of that character
named_character : (byte place key : ℕ) → key_named (byte ∷ []) ≡ Some place → key_of_character byte ≡ Some key → place ≡ key
named_character byte place key named keyed =
    let found = position-Some (λ known. bytes_eq known (byte ∷ [])) all_names place [] named in
    let same : get_or all_names place [] ≡ byte ∷ [] = (bytes_eq-Decides (get_or all_names place []) (byte ∷ [])).0 found.1 in
    let at : byte ≡ 0 + place + 32 = one_at 0 byte all_names place names_ones found.0 same in
    if_by (nat_le 32 byte && nat_le byte 126) (Some (byte - 32)) None (Some key) keyed
    (λ t h. let is : byte - 32 ≡ key = cc in omega (arith, at, is)) (λ t h. absurd (cc))

character_by : (byte key : ℕ) (found : Option ℕ) → key_named (byte ∷ []) ≡ found → byte ≢ 45 → byte ≢ 60 → byte ≢ 62 → key_of_character byte ≡ Some key → option_or found (key_of_one (byte ∷ [])) ≡ Some key
character_by byte key None named no_minus no_opening no_closing keyed =
    ap (λ (t : Bool). cond (t || (byte == 60 || byte == 62)) None (key_of_character byte)) (ne_eqb byte 45 no_minus)
    ∙ ap (λ (t : Bool). cond (t || byte == 62) None (key_of_character byte)) (ne_eqb byte 60 no_opening)
    ∙ ap (λ (t : Bool). cond t None (key_of_character byte)) (ne_eqb byte 62 no_closing)
    ∙ keyed
character_by byte key (Some place) named no_minus no_opening no_closing keyed = ap (λ k. Some k) (named_character byte place key named keyed)

pub key_is : {word : List ℕ} {key : ℕ} → IsKey word key → key_meant word ≡ Some key
unfolding key_meant
key_is (by_name {word} {key} named) = ap (λ found. option_or found (key_of_one word)) named
key_is (by_character byte {key} no_minus no_opening no_closing keyed) = character_by byte key (key_named (byte ∷ [])) refl no_minus no_opening no_closing keyed

no_byte : (a b c : Bool) → (a || (b || c)) ≡ false → (a ≡ false) × (b ≡ false) × (c ≡ false)
no_byte true b c h = absurd (cc)
no_byte false true c h = absurd (cc)
no_byte false false true h = absurd (cc)
no_byte false false false h = (refl, refl, refl)

one_is_key : (word : List ℕ) (key : ℕ) → key_of_one word ≡ Some key → IsKey word key
one_is_key [] key h = absurd (cc)
one_is_key (byte ∷ []) key h =
    if_by (byte == 45 || (byte == 60 || byte == 62)) None (key_of_character byte) (Some key) h (λ t h. absurd (cc))
    (λ t h. let none = no_byte (byte == 45) (byte == 60) (byte == 62) t in by_character byte (eqb-false byte 45 none.0) (eqb-false byte 60 none.1) (eqb-false byte 62 none.2) h)
one_is_key (byte ∷ other ∷ bytes) key h = absurd (cc)

is_key_by : (word : List ℕ) (key : ℕ) (found : Option ℕ) → key_named word ≡ found → option_or found (key_of_one word) ≡ Some key → IsKey word key
is_key_by word key None named h = one_is_key word key h
is_key_by word key (Some place) named h = by_name (named ∙ h)

pub is_key : (word : List ℕ) (key : ℕ) → key_meant word ≡ Some key → IsKey word key
unfolding key_meant
is_key word key h = is_key_by word key (key_named word) refl h

pub none_is_key : (word : List ℕ) → key_meant word ≡ None → (key : ℕ) → IsKey word key → ⊥
none_is_key word none key is = let f : Some key ≡ None = sym (key_is is) ∙ none in cc

none_meant_by : (word : List ℕ) (found : Option ℕ) → key_meant word ≡ found → ((key : ℕ) → IsKey word key → ⊥) → found ≡ None
none_meant_by word None meant none = refl
none_meant_by word (Some key) meant none = absurd (none key (is_key word key meant))

pub none_meant : (word : List ℕ) → ((key : ℕ) → IsKey word key → ⊥) → key_meant word ≡ None
none_meant word none = none_meant_by word (key_meant word) refl none

-- ── how often events may come ──
pub single_is : (times : Repetition) → is_single times ≡ true → times ≡ Single
single_is Single h = refl
single_is Double h = absurd (cc)
single_is Triple h = absurd (cc)
single_is Quadruple h = absurd (cc)

pub isnt_single : (times : Repetition) → is_single times ≡ false → times ≢ Single
isnt_single times h same = let f : is_single Single ≡ false = subst (λ t. is_single t ≡ false) same h in absurd (cc)

pub single_isnt : (times : Repetition) → times ≢ Single → is_single times ≡ false
single_isnt Single h = absurd (h refl)
single_isnt Double h = refl
single_isnt Triple h = refl
single_isnt Quadruple h = refl

pub may_repeat_is : (kind : EventType) → IsCounted kind → may_repeat kind ≡ true
may_repeat_is kind (inl is) = ap (λ (t : Bool). t || is_button_type kind) is
may_repeat_is kind (inr is) = ap (λ (t : Bool). is_key_type kind || t) is ∙ always (is_key_type kind)

pub may_come_is : (times : Repetition) (kind : EventType) → (times ≡ Single) ⊎ IsCounted kind → (is_single times || may_repeat kind) ≡ true
may_come_is times kind (inl is) = ap (λ t. is_single t || may_repeat kind) is
may_come_is times kind (inr is) = ap (λ (t : Bool). is_single times || t) (may_repeat_is kind is) ∙ always (is_single times)

counted_by : (kind : EventType) (k b : Bool) → is_key_type kind ≡ k → is_button_type kind ≡ b → (k || b) ≡ true → IsCounted kind
counted_by kind true b is_key is_button h = inl is_key
counted_by kind false true is_key is_button h = inr is_button
counted_by kind false false is_key is_button h = absurd (cc)

pub is_counted : (kind : EventType) → may_repeat kind ≡ true → IsCounted kind
is_counted kind h = counted_by kind (is_key_type kind) (is_button_type kind) refl refl h

pub may_repeat_isnt : (kind : EventType) → (IsCounted kind → ⊥) → may_repeat kind ≡ false
may_repeat_isnt kind none = by (may_repeat kind) refl
  where
    by : (t : Bool) → may_repeat kind ≡ t → t ≡ false
    by true h = absurd (none (is_counted kind h))
    by false h = refl

pub isnt_counted : (kind : EventType) → may_repeat kind ≡ false → IsCounted kind → ⊥
isnt_counted kind h is = let f : true ≡ false = sym (may_repeat_is kind is) ∙ h in cc
