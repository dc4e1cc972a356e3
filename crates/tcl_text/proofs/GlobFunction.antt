-- The function on patterns and texts is the relation.
use Rattle.std.proofs.Common.{◌≡◌, ◌≢◌, ℕ, zero, suc, ◌⊎◌, inl, inr, Bool, true, false, ◌||◌, ◌&&◌, eqb, List, [], ◌∷◌, ◌++◌, length, drop, refl, sym, ap, subst, ◌∙◌, arith}
use Rattle.std.proofs.lemmas.Bool.{false≢true, ne_eqb}
use Rattle.std.proofs.lemmas.Bool.Decides.{eqb_tells, same_from_decides}
use Rattle.std.proofs.lemmas.List.{append-nil, append_assoc}
use Rattle.tcl_text.specs.Glob.{in_class, Lacks, AllowsFirst, GlobMatches, PatternPlace, first_passes, some_end_passes, glob_from, glob_matches}
use Rattle.tcl_text.specs.Glob.GlobMatches.{nothing_left, allows}
use Rattle.tcl_text.specs.Glob.PatternPlace.{at_part, behind_backslash, inside_class}
use Rattle.tcl_text.proofs.GlobLemmas.{GlobMatches-empty, GlobMatches-part, GlobMatches-star, star_skips}

-- the text begins with a character that passes, and the rest is matched
record Begins (test : ℕ → Bool) (rest text : List ℕ) : Type 0 where
  c : ℕ
  left : List ℕ
  cut : text ≡ c ∷ left
  passes : test c ≡ true
  matches : GlobMatches rest left

-- what the places mean
record InClass (class ps text : List ℕ) : Type 0 where
  members : List ℕ
  rest : List ℕ
  lacks : Lacks 93 members
  cut : ps ≡ members ++ 93 ∷ rest
  begins : Begins (in_class (class ++ members)) rest text

abbrev Means : PatternPlace → List ℕ → List ℕ → Type 0
Means at_part ps text = GlobMatches ps text
Means behind_backslash ps text = GlobMatches (92 ∷ ps) text
Means (inside_class class) ps text = InClass class ps text

and_left : (a b : Bool) → (a && b) ≡ true → a ≡ true
and_left true b e = refl
and_left false b e = e

and_right : (a b : Bool) → (a && b) ≡ true → b ≡ true
and_right true b e = e
and_right false b e = absurd (false≢true e)

or_cases : (a b : Bool) → (a || b) ≡ true → (a ≡ true) ⊎ (b ≡ true)
or_cases true b e = inl refl
or_cases false b e = inr e

or_right : (a b : Bool) → b ≡ true → (a || b) ≡ true
or_right true b e = refl
or_right false b e = e

record Later (test : List ℕ → Bool) (text : List ℕ) : Type 0 where
  skipped : ℕ
  passes : test (drop skipped text) ≡ true

later_from : (test : List ℕ → Bool) (text : List ℕ) → some_end_passes test text ≡ true → Later test text
later_from test [] e = record { skipped = 0; passes = e }
later_from test (c ∷ cs) e = elim (or_cases (test (c ∷ cs)) (some_end_passes test cs) e) [
  | inl here ↦ record { skipped = 0; passes = here }
  | inr below ↦ let later = later_from test cs below in record { skipped = suc later.skipped; passes = later.passes }
]

later_gives : (test : List ℕ → Bool) (text : List ℕ) (skipped : ℕ) → test (drop skipped text) ≡ true → some_end_passes test text ≡ true
later_gives test [] zero e = e
later_gives test [] (suc skipped) e = e
later_gives test (c ∷ cs) zero e = rw e refl
later_gives test (c ∷ cs) (suc skipped) e = or_right (test (c ∷ cs)) (some_end_passes test cs) (later_gives test cs skipped e)

first_from : (test : ℕ → Bool) (rest text : List ℕ) (next : List ℕ → Bool) → ((left : List ℕ) → next left ≡ true → GlobMatches rest left) → first_passes test next text ≡ true → Begins test rest text
first_from test rest [] next read e = absurd (false≢true e)
first_from test rest (c ∷ cs) next read e =
    record { c = c; left = cs; cut = refl; passes = and_left (test c) (next cs) e; matches = read cs (and_right (test c) (next cs) e) }

first_gives : (test : ℕ → Bool) (text : List ℕ) (c : ℕ) (left : List ℕ) (next : List ℕ → Bool) → text ≡ c ∷ left → test c ≡ true → next left ≡ true → first_passes test next text ≡ true
first_gives test text c left next cut passes e = rw (cut, passes) e

eqb_yes : (a b : ℕ) → eqb a b ≡ true → a ≡ b
eqb_yes a b e = elim (eqb_tells a b) [ inl w ↦ w.1 | inr w ↦ absurd (false≢true (sym w.0 ∙ e)) ]

-- a class that a first character was read from is the rest of a class
longer_class : (class : List ℕ) (p : ℕ) (ps text : List ℕ) → p ≢ 93 → InClass (class ++ p ∷ []) ps text → InClass class (p ∷ ps) text
longer_class class p ps text other m = record {
  members = p ∷ m.members;
  rest = m.rest;
  lacks = (other, m.lacks);
  cut = ap (λ (t : List ℕ). p ∷ t) m.cut;
  begins = subst (λ (t : List ℕ). Begins (in_class t) m.rest text) (append_assoc class (p ∷ []) m.members) m.begins;
}

-- a part for one character, as the relation has it
allowed : (p : ℕ) (ps text rest : List ℕ) (test : ℕ → Bool) (b : Begins test rest text) → AllowsFirst (p ∷ ps) b.c rest → GlobMatches (p ∷ ps) text
allowed p ps text rest test b a = subst (λ (t : List ℕ). GlobMatches (p ∷ ps) t) (sym b.cut) (allows a b.matches)

sound : (place : PatternPlace) (ps text : List ℕ) → glob_from place ps text ≡ true → Means place ps text
sound at_part [] [] e = nothing_left
sound at_part [] (c ∷ cs) e = let none : length (c ∷ cs) ≡ 0 = eqb_yes (length (c ∷ cs)) 0 e in absurd (omega arith)
sound at_part (p ∷ ps) text e = elim (eqb_tells p 42) [
  | inl star ↦
      let later = later_from (glob_from at_part ps) text (rw star.0 at e) in
      subst (λ (q : ℕ). GlobMatches (q ∷ ps) text) (sym star.1) (star_skips ps text later.skipped (sound at_part ps (drop later.skipped text) later.passes))
  | inr no_star ↦ elim (eqb_tells p 63) [
    | inl any ↦
        let b = first_from (λ _. true) ps text (glob_from at_part ps) (λ left f. sound at_part ps left f) (rw (no_star.0, any.0) at e) in
        allowed p ps text ps (λ _. true) b (inl (any.1, refl))
    | inr no_any ↦ elim (eqb_tells p 91) [
      | inl class ↦
          let m : InClass [] ps text = sound (inside_class []) ps text (rw (no_star.0, no_any.0, class.0) at e) in
          allowed p ps text m.rest (in_class m.members) m.begins (inr (inr (inl (class.1, (m.members, m.lacks, m.cut, m.begins.passes)))))
      | inr no_class ↦ elim (eqb_tells p 92) [
        | inl escape ↦
            subst (λ (q : ℕ). GlobMatches (q ∷ ps) text) (sym escape.1) (sound behind_backslash ps text (rw (no_star.0, no_any.0, no_class.0, escape.0) at e))
        | inr plain ↦
            let b = first_from (λ c. eqb p c) ps text (glob_from at_part ps) (λ left f. sound at_part ps left f) (rw (no_star.0, no_any.0, no_class.0, plain.0) at e) in
            allowed p ps text ps (λ c. eqb p c) b (inr (inr (inr (no_star.1, no_any.1, no_class.1, plain.1, eqb_yes p b.c b.passes, refl))))
      ]
    ]
  ]
]
sound behind_backslash [] text e = absurd (false≢true e)
sound behind_backslash (p ∷ ps) text e =
    let b = first_from (λ c. eqb p c) ps text (glob_from at_part ps) (λ left f. sound at_part ps left f) e in
    allowed 92 (p ∷ ps) text ps (λ c. eqb p c) b (inr (inl (refl, ap (λ (c : ℕ). c ∷ ps) (eqb_yes p b.c b.passes))))
sound (inside_class class) [] text e = absurd (false≢true e)
sound (inside_class class) (p ∷ ps) text e = elim (eqb_tells p 93) [
  | inl closed ↦
      let b = first_from (in_class class) ps text (glob_from at_part ps) (λ left f. sound at_part ps left f) (rw closed.0 at e) in
      record { members = []; rest = ps; lacks = tt; cut = ap (λ (c : ℕ). c ∷ ps) closed.1; begins = subst (λ (t : List ℕ). Begins (in_class t) ps text) (sym (append-nil class)) b }
  | inr other ↦ longer_class class p ps text other.1 (sound (inside_class (class ++ p ∷ [])) ps text (rw other.0 at e))
]

nothing_cons : (c : ℕ) (rest : List ℕ) → [] ≡ c ∷ rest → ⊥
nothing_cons c rest e = cc

cons_head : (a b : ℕ) (xs ys : List ℕ) → a ∷ xs ≡ b ∷ ys → a ≡ b
cons_head a b xs ys e = cc

cons_tail : (a b : ℕ) (xs ys : List ℕ) → a ∷ xs ≡ b ∷ ys → ys ≡ xs
cons_tail a b xs ys e = cc

nothing_cut : (xs ys : List ℕ) (y : ℕ) → [] ≡ xs ++ y ∷ ys → ⊥
nothing_cut [] ys y e = cc
nothing_cut (x ∷ xs) ys y e = cc

-- a class ends here, or has one more character
class_read : (class : List ℕ) (p : ℕ) (ps text members rest : List ℕ) → Lacks 93 members → p ∷ ps ≡ members ++ 93 ∷ rest → Begins (in_class (class ++ members)) rest text → ((p ≡ 93) × Begins (in_class class) ps text) ⊎ ((p ≢ 93) × InClass (class ++ p ∷ []) ps text)
class_read class p ps text [] rest lacks cut b =
    let same : rest ≡ ps = cc in
    inl (cc, subst (λ (t : List ℕ). Begins (in_class t) ps text) (append-nil class) (subst (λ (r : List ℕ). Begins (in_class (class ++ [])) r text) same b))
class_read class p ps text (m ∷ ms) rest lacks cut b =
    let same : m ≡ p = cc in
    inr (
      subst (λ (x : ℕ). x ≢ 93) same lacks.0,
      record {
        members = ms;
        rest = rest;
        lacks = lacks.1;
        cut = cc;
        begins = subst (λ (t : List ℕ). Begins (in_class t) rest text) (ap (λ (x : ℕ). class ++ x ∷ ms) same ∙ sym (append_assoc class (p ∷ []) ms)) b;
      },
    )

eqb_same : (a b : ℕ) → a ≡ b → eqb a b ≡ true
eqb_same a b e = elim (eqb_tells a b) [ inl w ↦ w.0 | inr w ↦ absurd (w.1 e) ]

complete : (place : PatternPlace) (ps text : List ℕ) → Means place ps text → glob_from place ps text ≡ true
complete at_part [] text m = rw (GlobMatches-empty m refl) refl
complete at_part (p ∷ ps) text m = elim (eqb_tells p 42) [
  | inl star ↦
      let later = GlobMatches-star m ps (ap (λ (q : ℕ). q ∷ ps) star.1) in
      rw star.0 (later_gives (glob_from at_part ps) text later.skipped (complete at_part ps (drop later.skipped text) later.matches))
  | inr no_star ↦
      let part = GlobMatches-part m no_star.1 in
      elim part.allowed [
        | inl any ↦
            let is : eqb p 63 ≡ true = ap (λ (q : ℕ). eqb q 63) any.0 in
            rw (no_star.0, is) (first_gives (λ _. true) text part.c part.left (glob_from at_part ps) part.cut refl (complete at_part ps part.left (subst (λ (r : List ℕ). GlobMatches r part.left) (sym any.1) part.matches)))
        | inr (inl escape) ↦
            let no_any : eqb p 63 ≡ false = ap (λ (q : ℕ). eqb q 63) escape.0 in
            let no_class : eqb p 91 ≡ false = ap (λ (q : ℕ). eqb q 91) escape.0 in
            let is : eqb p 92 ≡ true = ap (λ (q : ℕ). eqb q 92) escape.0 in
            rw (no_star.0, no_any, no_class, is) (complete behind_backslash ps text (subst (λ (q : ℕ). GlobMatches (q ∷ ps) text) escape.0 m))
        | inr (inr (inl class)) ↦
            let no_any : eqb p 63 ≡ false = ap (λ (q : ℕ). eqb q 63) class.0 in
            let is : eqb p 91 ≡ true = ap (λ (q : ℕ). eqb q 91) class.0 in
            let m : InClass [] ps text = record {
              members = class.1.0;
              rest = part.rest;
              lacks = class.1.1;
              cut = class.1.2;
              begins = record { c = part.c; left = part.left; cut = part.cut; passes = class.1.3; matches = part.matches };
            } in
            rw (no_star.0, no_any, is) (complete (inside_class []) ps text m)
        | inr (inr (inr plain)) ↦
            rw (no_star.0, ne_eqb p 63 plain.1, ne_eqb p 91 plain.2, ne_eqb p 92 plain.3) (first_gives (λ c. eqb p c) text part.c part.left (glob_from at_part ps) part.cut (eqb_same p part.c plain.4) (complete at_part ps part.left (subst (λ (r : List ℕ). GlobMatches r part.left) (sym plain.5) part.matches)))
      ]
]
complete behind_backslash [] text m =
    let part = GlobMatches-part m (λ e. omega arith) in
    elim part.allowed [
      | inl any ↦ absurd (omega arith)
      | inr (inl escape) ↦ absurd (nothing_cons part.c part.rest escape.1)
      | inr (inr (inl class)) ↦ absurd (omega arith)
      | inr (inr (inr plain)) ↦ absurd (plain.3 refl)
    ]
complete behind_backslash (p ∷ ps) text m =
    let part = GlobMatches-part m (λ e. omega arith) in
    elim part.allowed [
      | inl any ↦ absurd (omega arith)
      | inr (inl escape) ↦
          let head : p ≡ part.c = cons_head p part.c ps part.rest escape.1 in
          let tail : part.rest ≡ ps = cons_tail p part.c ps part.rest escape.1 in
          first_gives (λ c. eqb p c) text part.c part.left (glob_from at_part ps) part.cut (eqb_same p part.c head) (complete at_part ps part.left (subst (λ (r : List ℕ). GlobMatches r part.left) tail part.matches))
      | inr (inr (inl class)) ↦ absurd (omega arith)
      | inr (inr (inr plain)) ↦ absurd (plain.3 refl)
    ]
complete (inside_class class) [] text m = absurd (nothing_cut m.members m.rest 93 m.cut)
complete (inside_class class) (p ∷ ps) text m = elim (class_read class p ps text m.members m.rest m.lacks m.cut m.begins) [
  | inl closed ↦
      let is : eqb p 93 ≡ true = eqb_same p 93 closed.0 in
      rw is (first_gives (in_class class) text closed.1.c closed.1.left (glob_from at_part ps) closed.1.cut closed.1.passes (complete at_part ps closed.1.left closed.1.matches))
  | inr other ↦ rw (ne_eqb p 93 other.0) (complete (inside_class (class ++ p ∷ [])) ps text other.1)
]

-- a test that is the relation is the function
pub glob_value : (pattern text : List ℕ) (r : Bool) → (r ≡ true → GlobMatches pattern text) × (GlobMatches pattern text → r ≡ true) → r ≡ glob_matches pattern text
unfolding glob_matches
glob_value pattern text r h = same_from_decides r (glob_from at_part pattern text) h (sound at_part pattern text, complete at_part pattern text)
