-- The names of variables at the front of a text.
use Rattle.std.proofs.Common.{◌≡◌, ℕ, ◌⊎◌, inl, inr, Bool, true, false, ◌&&◌, ◌||◌, List, [], ◌∷◌, ◌++◌, drop, nat_eq, refl, sym, ap, subst, ◌∙◌, eqb-true}
use Rattle.std.specs.List.{starts_with}
use Rattle.tcl_words.specs.Classes.{is_name_byte}
use Rattle.tcl_words.specs.Grammar.{begins_name_byte, begins_name, AreNameBytes, IsName, HasNoBrace}
use Rattle.tcl_words.proofs.WordsRead.{both}
use Rattle.tcl_words.proofs.BracesCut.{decided, same_or_other}

letters_cut : (text : List ℕ) → (letters : List ℕ) × (rest : List ℕ) × (text ≡ letters ++ rest) × AreNameBytes letters × (begins_name_byte rest ≡ false)
letters_cut [] = ([], [], refl, tt, refl)
letters_cut (b ∷ text) = elim (decided (is_name_byte b)) [
  | inl e ↦ (let more = letters_cut text in (b ∷ more.0, more.1, ap (λ t. b ∷ t) more.2, (e, more.3), more.4))
  | inr e ↦ ([], b ∷ text, refl, tt, e)
]

abbrev pub NameCut : List ℕ → Type 0
NameCut text = (name : List ℕ) × (rest : List ℕ) × (text ≡ name ++ rest) × IsName name × (begins_name_byte rest ≡ false)

letter_cut : (text : List ℕ) → begins_name_byte text ≡ true → NameCut text
letter_cut [] h = cc
letter_cut (b ∷ text) h = let more = letters_cut text in (b ∷ more.0, more.1, ap (λ t. b ∷ t) more.2, (b, more.0, h, more.3, inl refl), more.4)

colons_cut : (text : List ℕ) → begins_name_byte text ≡ true → NameCut (58 ∷ 58 ∷ text)
colons_cut [] h = cc
colons_cut (b ∷ text) h = let more = letters_cut text in (58 ∷ 58 ∷ b ∷ more.0, more.1, ap (λ t. 58 ∷ 58 ∷ b ∷ t) more.2, (b, more.0, h, more.3, inr refl), more.4)

-- two colons are in front
two_colons : (text : List ℕ) → starts_with nat_eq text (58 ∷ 58 ∷ []) ≡ true → text ≡ 58 ∷ 58 ∷ drop 2 text
two_colons [] h = cc
two_colons (b ∷ []) h = let two = both (nat_eq 58 b) false h in let k : false ≡ true = two.1 in cc
two_colons (b ∷ c ∷ text) h =
    let two = both (nat_eq 58 b) (nat_eq 58 c && true) h in
    let more = both (nat_eq 58 c) true two.1 in
    let e : 58 ≡ b = eqb-true 58 b two.0 in
    let f : 58 ≡ c = eqb-true 58 c more.0 in
    ap (λ x. x ∷ c ∷ text) (sym e) ∙ ap (λ x. 58 ∷ x ∷ text) (sym f)

pub name_cut : (text : List ℕ) → begins_name text ≡ true → NameCut text
name_cut text h = go (begins_name_byte text) refl h
  where
    go : (t : Bool) → begins_name_byte text ≡ t → (t || (starts_with nat_eq text (58 ∷ 58 ∷ []) && begins_name_byte (drop 2 text))) ≡ true → NameCut text
    go true e k = letter_cut text e
    go false e k =
        let two = both (starts_with nat_eq text (58 ∷ 58 ∷ [])) (begins_name_byte (drop 2 text)) k in
        subst NameCut (sym (two_colons text two.0)) (colons_cut (drop 2 text) two.1)

-- the first `}`
pub name_end : (text : List ℕ) → ((name : List ℕ) × (rest : List ℕ) × (text ≡ name ++ 125 ∷ rest) × HasNoBrace name) ⊎ HasNoBrace text
name_end [] = inr tt
name_end (b ∷ text) = elim (same_or_other b 125) [
  | inl e ↦ inl ([], text, ap (λ c. c ∷ text) e, tt)
  | inr other ↦ elim (name_end text) [ inl (name, rest, e, h) ↦ inl (b ∷ name, rest, ap (λ t. b ∷ t) e, (other, h)) | inr h ↦ inr (other, h) ]
]
