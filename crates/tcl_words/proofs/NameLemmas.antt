-- What a `$` is before names of variables.
use Rattle.std.proofs.Common.{◌-◌, take, ◌⊎◌, eqb-true, ◌≡◌, ◌≢◌, ℕ, suc, ◌+◌, Bool, true, false, ◌==◌, ◌&&◌, ◌||◌, List, [], ◌∷◌, ◌++◌, length, drop, nat_eq, refl, sym, ap, ◌∙◌, inl, inr, arith, Some, None}
use Rattle.std.specs.List.{starts_with, slice_range}
use Rattle.std.proofs.lemmas.Bool.Decides.{nat_tests}
use Rattle.tcl_words.specs.Kinds.{name_bytes, past_colons, name_length, to_brace, dollar_braced, dollar_named, dollar_of}
use Rattle.tcl_words.specs.Classes.{is_name_byte}
use Rattle.tcl_words.specs.Grammar.{begins, begins_name_byte, begins_name, AreNameBytes, IsName, HasNoBrace}
use Rattle.tcl_words.specs.declared.kind.Dollar.TheVariants.{Alone, Named, Indexed, Braced, Unclosed}

pub letters_read : (own text : List ℕ) → AreNameBytes own → begins_name_byte text ≡ false → name_bytes (own ++ text) ≡ length own
letters_read [] [] h stops = refl
letters_read [] (b ∷ text) h stops = rw stops refl
letters_read (b ∷ own) text (is, h) stops = rw is (ap (λ n. suc n) (letters_read own text h stops))

no_letters : (text : List ℕ) → begins_name_byte text ≡ false → name_bytes text ≡ 0
no_letters [] h = refl
no_letters (b ∷ text) h = rw h refl

pub drop_front : (own text : List ℕ) → drop (length own) (own ++ text) ≡ text
drop_front [] text = refl
drop_front (b ∷ own) text = drop_front own text

case_of : (t : Bool) → (t ≡ true) ⊎ (t ≡ false)
case_of true = inl refl
case_of false = inr refl

-- a letter is none of these bytes
not_letter : (b c : ℕ) → is_name_byte b ≡ true → is_name_byte c ≡ false → nat_eq c b ≡ false
not_letter b c is other = elim (case_of (nat_eq c b)) [
  | inl e ↦ (let same : c ≡ b = eqb-true c b e in let k : true ≡ false = sym is ∙ ap is_name_byte (sym same) ∙ other in cc)
  | inr e ↦ e
]

name_plain : (b : ℕ) (own text : List ℕ) → is_name_byte b ≡ true → AreNameBytes own → begins_name_byte text ≡ false → name_length (b ∷ (own ++ text)) ≡ suc (length own)
name_plain b own text is are stops = rw (not_letter b 58 is refl, is) (ap (λ n. suc n) (letters_read own text are stops))

name_colons : (b : ℕ) (own text : List ℕ) → is_name_byte b ≡ true → AreNameBytes own → begins_name_byte text ≡ false → name_length (58 ∷ 58 ∷ b ∷ (own ++ text)) ≡ suc (suc (suc (length own)))
name_colons b own text is are stops = rw is (let e : name_bytes (own ++ text) ≡ length own = letters_read own text are stops in omega arith)

pub name_read : (name text : List ℕ) → IsName name → begins_name_byte text ≡ false → name_length (name ++ text) ≡ length name
name_read name text (b, own, is, are, inl e) stops = ap (λ t. name_length (t ++ text)) e ∙ name_plain b own text is are stops ∙ ap length (sym e)
name_read name text (b, own, is, are, inr e) stops = ap (λ t. name_length (t ++ text)) e ∙ name_colons b own text is are stops ∙ ap length (sym e)

name_no_brace : (name text : List ℕ) → IsName name → starts_with nat_eq (name ++ text) (123 ∷ []) ≡ false
name_no_brace name text (b, own, is, are, inl e) = ap (λ t. starts_with nat_eq (t ++ text) (123 ∷ [])) e ∙ (rw (not_letter b 123 is refl) refl)
name_no_brace name text (b, own, is, are, inr e) = ap (λ t. starts_with nat_eq (t ++ text) (123 ∷ [])) e

dollar_at : (text behind : List ℕ) (n : ℕ) → starts_with nat_eq text (123 ∷ []) ≡ false → name_length text ≡ n → drop n text ≡ behind → dollar_of text ≡ dollar_named n behind
unfolding dollar_of
dollar_at text behind n none is rest =
    rw none (ap (λ m. dollar_named m (drop m text)) is ∙ ap (dollar_named n) rest)

some_name : (name : List ℕ) → IsName name → (n : ℕ) × (length name ≡ suc n)
some_name name (b, own, is, are, inl e) = (length own, ap length e)
some_name name (b, own, is, are, inr e) = (suc (suc (length own)), ap length e)

named_alone : (text : List ℕ) → begins 40 text ≡ false → starts_with nat_eq text (40 ∷ []) ≡ false
named_alone [] h = refl
named_alone (b ∷ text) h = elim (case_of (nat_eq 40 b)) [
  | inl e ↦ (let same : 40 ≡ b = eqb-true 40 b e in absurd (grind (arith, nat_tests)))
  | inr e ↦ (rw e refl)
]

pub dollar-named : (name text : List ℕ) → IsName name → begins_name_byte text ≡ false → begins 40 text ≡ false → dollar_of (name ++ text) ≡ Named (length name)
dollar-named name text is stops none =
    let some = some_name name is in
    let e : starts_with nat_eq text (40 ∷ []) ≡ false = named_alone text none in
    dollar_at (name ++ text) text (length name) (name_no_brace name text is) (name_read name text is stops) (drop_front name text)
    ∙ ap (λ n. dollar_named n text) some.1
    ∙ (rw e refl)
    ∙ ap (λ n. Named n) (sym some.1)

pub dollar-indexed : (name text : List ℕ) → IsName name → dollar_of (name ++ 40 ∷ text) ≡ Indexed (length name)
dollar-indexed name text is =
    let some = some_name name is in
    dollar_at (name ++ 40 ∷ text) (40 ∷ text) (length name) (name_no_brace name (40 ∷ text) is) (name_read name (40 ∷ text) is refl) (drop_front name (40 ∷ text))
    ∙ ap (λ n. dollar_named n (40 ∷ text)) some.1
    ∙ ap (λ n. Indexed n) (sym some.1)

or_false : (a b : Bool) → (a || b) ≡ false → (a ≡ false) × (b ≡ false)
or_false true b h = cc
or_false false b h = (refl, h)

no_name_case : (t : Bool) (text : List ℕ) → starts_with nat_eq text (58 ∷ 58 ∷ []) ≡ t → begins_name_byte text ≡ false → (t && begins_name_byte (drop 2 text)) ≡ false → name_length text ≡ 0
no_name_case true text e h k = rw e (ap past_colons (no_letters (drop 2 text) k))
no_name_case false text e h k = rw e (no_letters text h)

no_name : (text : List ℕ) → begins_name text ≡ false → name_length text ≡ 0
no_name text h =
    let two = or_false (begins_name_byte text) (starts_with nat_eq text (58 ∷ 58 ∷ []) && begins_name_byte (drop 2 text)) h in
    no_name_case (starts_with nat_eq text (58 ∷ 58 ∷ [])) text refl two.0 two.1

not_byte : (b c : ℕ) → b ≢ c → (b == c) ≡ false
not_byte b c other = elim (case_of (b == c)) [ inl e ↦ absurd (other (eqb-true b c e)) | inr e ↦ e ]

no_brace_first : (text : List ℕ) → begins 123 text ≡ false → starts_with nat_eq text (123 ∷ []) ≡ false
no_brace_first [] h = refl
no_brace_first (b ∷ text) h = elim (case_of (nat_eq 123 b)) [
  | inl e ↦ (let same : 123 ≡ b = eqb-true 123 b e in absurd (grind (arith, nat_tests)))
  | inr e ↦ (rw e refl)
]

pub dollar-alone : (text : List ℕ) → begins_name text ≡ false → begins 123 text ≡ false → dollar_of text ≡ Alone
dollar-alone text h none = dollar_at text text 0 (no_brace_first text none) (no_name text h) refl

brace_found : (name text : List ℕ) → HasNoBrace name → to_brace (name ++ 125 ∷ text) ≡ Some (length name)
brace_found [] text h = refl
brace_found (b ∷ name) text (other, h) = rw (not_byte b 125 other, brace_found name text h) refl

brace_missing : (text : List ℕ) → HasNoBrace text → to_brace text ≡ None
brace_missing [] h = refl
brace_missing (b ∷ text) (other, h) = rw (not_byte b 125 other, brace_missing text h) refl

pub dollar-braced : (name text : List ℕ) → HasNoBrace name → dollar_of (123 ∷ (name ++ 125 ∷ text)) ≡ Braced (length name)
unfolding dollar_of
dollar-braced name text h = ap dollar_braced (brace_found name text h)

pub dollar-unclosed : (text : List ℕ) → HasNoBrace text → dollar_of (123 ∷ text) ≡ Unclosed
unfolding dollar_of
dollar-unclosed text h = ap dollar_braced (brace_missing text h)

pub take_front : (own text : List ℕ) → take (length own) (own ++ text) ≡ own
take_front [] text = refl
take_front (b ∷ own) text = ap (λ t. b ∷ t) (take_front own text)

-- the text between the braces of a name
pub slice_braced : (name text : List ℕ) → slice_range (123 ∷ (name ++ 125 ∷ text)) 1 (suc (length name)) ≡ name
slice_braced name text = let e : suc (length name) - 1 ≡ length name = omega arith in ap (λ n. take n (name ++ 125 ∷ text)) e ∙ take_front name (125 ∷ text)

-- the text between the parentheses of an index
pub slice_index_text : (name own text : List ℕ) → slice_range (name ++ 40 ∷ (own ++ 41 ∷ text)) (suc (length name)) (suc (length name) + length own) ≡ own
slice_index_text name own text =
    let e : (suc (length name) + length own) - suc (length name) ≡ length own = omega arith in
    ap (λ n. take n (drop (suc (length name)) (name ++ 40 ∷ (own ++ 41 ∷ text)))) e
    ∙ ap (take (length own)) (drop_past name 40 (own ++ 41 ∷ text))
    ∙ take_front own (41 ∷ text)
  where
    drop_past : (front : List ℕ) (c : ℕ) (behind : List ℕ) → drop (suc (length front)) (front ++ c ∷ behind) ≡ behind
    drop_past [] c behind = refl
    drop_past (b ∷ front) c behind = drop_past front c behind
