-- Lemmas on the escapes of sections.
use Rattle.std.proofs.Common.{◌≡◌, ℕ, ◌++◌, cond, Bool, true, false, eqb, List, [], ◌∷◌, refl, sym, ap, subst, append_assoc, ◌∙◌}
use Rattle.std.proofs.lemmas.Bool.{eqb-true}
use Rattle.std.proofs.lemmas.List.{append-nil}
use Rattle.std.specs.Prelude.{encode_utf8, encode_utf8_all}
use Rattle.panels_text.specs.Rows.{escaped, meant_by, unescaped}

pub unescaped-plain : (one : ℕ) (others : List ℕ) → eqb one 92 ≡ false → unescaped (one ∷ others) ≡ one ∷ unescaped others
unescaped-plain one [] plain = rw plain refl
unescaped-plain one (next ∷ others) plain = rw plain refl

by_tests : (one : ℕ) (others : List ℕ) (backslash line return : Bool) → eqb one 92 ≡ backslash → eqb one 10 ≡ line → eqb one 13 ≡ return → unescaped (escaped others) ≡ others
    → unescaped (escaped (one ∷ others)) ≡ one ∷ others
by_tests one others true line return h k m same = rw (h, same) (ap (λ x. x ∷ others) (sym (eqb-true one 92 h)))
by_tests one others false true return h k m same = rw (h, k, same) (ap (λ x. x ∷ others) (sym (eqb-true one 10 k)))
by_tests one others false false true h k m same = rw (h, k, m, same) (ap (λ x. x ∷ others) (sym (eqb-true one 13 m)))
by_tests one others false false false h k m same = rw (h, k, m) (unescaped-plain one (escaped others) h ∙ ap (λ x. one ∷ x) same)

-- the escapes of a section are read back
pub unescaped-escaped : (characters : List ℕ) → unescaped (escaped characters) ≡ characters
unescaped-escaped [] = refl
unescaped-escaped (one ∷ others) = by_tests one others (eqb one 92) (eqb one 10) (eqb one 13) refl refl refl (unescaped-escaped others)

-- one turn of the reading: what was read, whether a backslash stands before the rest, and all that is read
pub escaped_step : (plain : List ℕ) (behind : Bool) (rest others all : List ℕ) (one : ℕ) → behind ≡ true → rest ≡ one ∷ others
    → plain ++ encode_utf8_all (unescaped (cond behind (92 ∷ rest) rest)) ≡ all → (plain ++ encode_utf8 (meant_by one)) ++ encode_utf8_all (unescaped others) ≡ all
escaped_step plain behind rest others all one is here same =
    let P : Bool → Type 0 = λ b. plain ++ encode_utf8_all (unescaped (cond b (92 ∷ rest) rest)) ≡ all in
    let Q : List ℕ → Type 0 = λ r. plain ++ encode_utf8_all (unescaped (92 ∷ r)) ≡ all in
    let next : plain ++ (encode_utf8 (meant_by one) ++ encode_utf8_all (unescaped others)) ≡ all = subst Q here (subst P is same) in
    append_assoc plain (encode_utf8 (meant_by one)) (encode_utf8_all (unescaped others)) ∙ next

pub backslash_step : (plain : List ℕ) (behind : Bool) (rest others all : List ℕ) (one : ℕ) → behind ≡ false → one ≡ 92 → rest ≡ one ∷ others
    → plain ++ encode_utf8_all (unescaped (cond behind (92 ∷ rest) rest)) ≡ all → plain ++ encode_utf8_all (unescaped (92 ∷ others)) ≡ all
backslash_step plain behind rest others all one is backslash here same =
    let P : Bool → Type 0 = λ b. plain ++ encode_utf8_all (unescaped (cond b (92 ∷ rest) rest)) ≡ all in
    let Q : List ℕ → Type 0 = λ r. plain ++ encode_utf8_all (unescaped r) ≡ all in
    let R : ℕ → Type 0 = λ o. plain ++ encode_utf8_all (unescaped (o ∷ others)) ≡ all in
    subst R backslash (subst Q here (subst P is same))

pub plain_step : (plain : List ℕ) (behind : Bool) (rest others all : List ℕ) (one : ℕ) → behind ≡ false → eqb one 92 ≡ false → rest ≡ one ∷ others
    → plain ++ encode_utf8_all (unescaped (cond behind (92 ∷ rest) rest)) ≡ all → (plain ++ encode_utf8 one) ++ encode_utf8_all (unescaped others) ≡ all
plain_step plain behind rest others all one is other here same =
    let P : Bool → Type 0 = λ b. plain ++ encode_utf8_all (unescaped (cond b (92 ∷ rest) rest)) ≡ all in
    let Q : List ℕ → Type 0 = λ r. plain ++ encode_utf8_all (unescaped r) ≡ all in
    let S : List ℕ → Type 0 = λ l. plain ++ encode_utf8_all l ≡ all in
    let next : plain ++ (encode_utf8 one ++ encode_utf8_all (unescaped others)) ≡ all = subst S (unescaped-plain one others other) (subst Q here (subst P is same)) in
    append_assoc plain (encode_utf8 one) (encode_utf8_all (unescaped others)) ∙ next

pub last_step : (plain : List ℕ) (behind : Bool) (rest all : List ℕ) → rest ≡ [] → plain ++ encode_utf8_all (unescaped (cond behind (92 ∷ rest) rest)) ≡ all → plain ≡ all
last_step plain true rest all none same =
    let Q : List ℕ → Type 0 = λ r. plain ++ encode_utf8_all (unescaped (92 ∷ r)) ≡ all in
    let next : plain ++ [] ≡ all = subst Q none same in
    sym (append-nil plain) ∙ next
last_step plain false rest all none same =
    let Q : List ℕ → Type 0 = λ r. plain ++ encode_utf8_all (unescaped r) ≡ all in
    let next : plain ++ [] ≡ all = subst Q none same in
    sym (append-nil plain) ∙ next
