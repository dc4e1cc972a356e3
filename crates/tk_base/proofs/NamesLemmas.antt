-- What the list of names has: 128 names, each once, and the table has the same.
use Rattle.std.proofs.Common.{◌≡◌, ℕ, ◌<◌, ◌≤◌, ◌+◌, ◌-◌, ◌⊎◌, inl, inr, length, List, [], ◌∷◌, Option, Some, None, unwrap_or, slice_get, map, get_or, refl, ap, sym, ◌∙◌, zero-add, arith}
use Rattle.std.specs.Prelude.{nat_le}
use Rattle.std.proofs.lemmas.Bool.Decides.{nat_tests}
use Rattle.std.proofs.lemmas.List.FromFn.{length-enumerate_from, get_or-enumerate_from, get_or-map-range_with_len}
use Rattle.std.proofs.lemmas.List.Quantifiers.{position-Some}
use Rattle.std.proofs.lemmas.Option.{slice_get-map, slice_get-get_or, unwrap_or-slice_get}
use Rattle.std.proofs.lemmas.Slice.Eq.{bytes_eq-Decides}
use Rattle.std.specs.Char.{IsAsciiAlphanumeric}
use Rattle.std.specs.List.{enumerate_from, range_with_len}
use Rattle.std.specs.Option.{option_map}
use Rattle.std.specs.Str.{bytes_eq}
use Rattle.tk_base.specs.Names.{all_names, key_named, key_of_character, name_of, is_modifier}
use Rattle.tk_base.specs.Table.{key_names}

pub length_all_names : length all_names ≡ 128
unfolding all_names
length_all_names = refl

-- the table that the code looks keys up in has these names
pub table_names : key_names ≡ all_names
unfolding key_names all_names
table_names = refl

-- each name leads to its own place
places : map key_named all_names ≡ map (λ numbered. Some numbered.0) (enumerate_from 0 all_names)
unfolding all_names
places = refl

-- what leads each item of a list to its place leads the item at a place there
leads_back : (f : List ℕ → Option ℕ) (names : List (List ℕ)) → map f names ≡ map (λ numbered. Some numbered.0) (enumerate_from 0 names)
    → (key : ℕ) → key < length names → f (unwrap_or (slice_get names key) []) ≡ Some key
leads_back f names same key inside =
    let first : ℕ × List ℕ → Option ℕ = λ numbered. Some numbered.0 in
    let numbered_inside : key < length (enumerate_from 0 names) = omega (arith, length-enumerate_from 0 names) in
    let name = slice_get-get_or names key [] inside in
    let numbered = slice_get-get_or (enumerate_from 0 names) key (0, []) numbered_inside
    ∙ ap Some (get_or-enumerate_from 0 names key (0, []) inside) in
    let led = sym (slice_get-map f names key ∙ ap (option_map f) name)
    ∙ ap (λ (list : List (Option ℕ)). slice_get list key) same
    ∙ slice_get-map first (enumerate_from 0 names) key ∙ ap (option_map first) numbered in
    let zero = zero-add key in
    rw name (cc)

pub named-name : (key : ℕ) → key < 128 → key_named (name_of key) ≡ Some key
named-name key inside = leads_back key_named all_names places key (omega (arith, length_all_names))

pub name-named : (name : List ℕ) (key : ℕ) → key_named name ≡ Some key → name_of key ≡ name
name-named name key led =
    unwrap_or-slice_get all_names key []
    ∙ (bytes_eq-Decides _ _).0 (position-Some (λ known. bytes_eq known name) all_names key [] led).1

-- the characters from one on lead as names to the keys that type them
Leads : ℕ → ℕ → Type 0
Leads first count = map (λ byte. key_named (byte ∷ [])) (range_with_len first count) ≡ map key_of_character (range_with_len first count)

digits : Leads 48 10
unfolding Leads all_names
digits = refl

capitals : Leads 65 26
unfolding Leads all_names
capitals = refl

letters : Leads 97 26
unfolding Leads all_names
letters = refl

leads : (first count byte : ℕ) → Leads first count → first ≤ byte → byte < first + count → key_named (byte ∷ []) ≡ key_of_character byte
unfolding Leads
leads first count byte same from to =
    let inside : byte - first < count = omega (arith, from, to) in
    let there : first + (byte - first) ≡ byte = omega (arith, from) in
    sym (get_or-map-range_with_len (λ byte. key_named (byte ∷ [])) first count (byte - first) byte None inside there)
    ∙ ap (λ (list : List (Option ℕ)). get_or list (byte - first) None) same
    ∙ get_or-map-range_with_len key_of_character first count (byte - first) byte None inside there

-- a letter or a digit is the name of the key that types it
pub of_sign : (byte : ℕ) → IsAsciiAlphanumeric byte → key_named (byte ∷ []) ≡ key_of_character byte
of_sign byte (inl (inl digit)) = leads 48 10 byte digits digit.0 (omega (arith, digit.1))
of_sign byte (inl (inr capital)) = leads 65 26 byte capitals capital.0 (omega (arith, capital.1))
of_sign byte (inr letter) = leads 97 26 byte letters letter.0 (omega (arith, letter.1))

-- the keys that modify others stand behind all others
pub modifiers_last : (key : ℕ) → key < 128 → nat_le 121 key ≡ is_modifier key
modifiers_last key inside = grind (arith, nat_tests)
