-- The first place of a needle in a text.
use Rattle.std.proofs.Common.{◌≡◌, ℕ, zero, suc, ◌+◌, ◌<◌, ◌≤◌, Bool, true, false, List, [], ◌∷◌, Option, Some, None, length, take, drop, get_or, nat_eq, refl, sym, ap, ◌∙◌, arith}
use Rattle.std.specs.List.{starts_with}
use Rattle.std.specs.Str.{IsUtf8, IsCharBoundary}
use Rattle.std.proofs.lemmas.Bool.{false≢true}
use Rattle.std.proofs.lemmas.List.{length-take, length-drop}
use Rattle.std.proofs.lemmas.Slice.Eq.{bytes_eq-Decides}
use Rattle.std.proofs.lemmas.Str.{IsCharBoundary-start}
use Rattle.memchr.specs.Find.{OccursAt, FindsNeedle}
use Rattle.memchr.proofs.lemmas.MatchLemmas.{OccursAt-part, OccursAt-from_part}
use Rattle.tcl_text.specs.StringCommands.{first_place}

-- an occurrence is a place at which the text begins with the needle
starts_at : (needle text : List ℕ) (k : ℕ) → OccursAt text needle k → starts_with nat_eq (drop k text) needle ≡ true
starts_at needle text k h = (bytes_eq-Decides needle (take (length needle) (drop k text))).1 (sym (OccursAt-part text needle k h))

occurs_where : (needle text : List ℕ) (k : ℕ) → k ≤ length text → starts_with nat_eq (drop k text) needle ≡ true → OccursAt text needle k
occurs_where needle text k within e =
    let same : needle ≡ take (length needle) (drop k text) = (bytes_eq-Decides needle (take (length needle) (drop k text))).0 e in
    let long : length needle ≡ length (take (length needle) (drop k text)) = ap length same in
    OccursAt-from_part text needle k (omega (arith, length-take (length needle) (drop k text), length-drop k text)) (sym same)

misses_at : (needle text : List ℕ) (k : ℕ) → k ≤ length text → (OccursAt text needle k → ⊥) → starts_with nat_eq (drop k text) needle ≡ false
misses_at needle text k within none = go (starts_with nat_eq (drop k text) needle) refl where
  go : (b : Bool) → starts_with nat_eq (drop k text) needle ≡ b → starts_with nat_eq (drop k text) needle ≡ false
  go true e = absurd (none (occurs_where needle text k within e))
  go false e = e

-- the first place, by the places before it
first_place-at : (needle text : List ℕ) (k : ℕ) → starts_with nat_eq (drop k text) needle ≡ true → ((j : ℕ) → j < k → starts_with nat_eq (drop j text) needle ≡ false) → first_place needle text ≡ Some k
first_place-at needle [] zero e none = rw e refl
first_place-at needle [] (suc k) e none = absurd (false≢true (sym (none 0 (omega arith)) ∙ e))
first_place-at needle (c ∷ cs) zero e none = rw e refl
first_place-at needle (c ∷ cs) (suc k) e none =
    rw (none 0 (omega arith), first_place-at needle cs k e (λ j l. none (suc j) (omega arith))) refl

first_place-none : (needle text : List ℕ) → ((j : ℕ) → j ≤ length text → starts_with nat_eq (drop j text) needle ≡ false) → first_place needle text ≡ None
first_place-none needle [] none = rw (none 0 (omega arith)) refl
first_place-none needle (c ∷ cs) none =
    rw (none 0 (omega arith), first_place-none needle cs (λ j l. none (suc j) (omega arith))) refl

pub first_place-found : (text needle : List ℕ) (r : Option ℕ) → FindsNeedle text needle 0 r → r ≡ first_place needle text
first_place-found text needle None h = sym (first_place-none needle text (λ j l. misses_at needle text j l (h j (omega arith) (omega arith))))
first_place-found text needle (Some k) h = sym (first_place-at needle text k (starts_at needle text k h.1) (λ j l. let high = h.0.high in misses_at needle text j (omega arith) (h.0.before j (omega arith) l)))

-- a needle that is text and isn't empty stands at a place where a text may be cut
pub OccursAt-boundary : (text needle : List ℕ) (k : ℕ) → IsUtf8 needle → 0 < length needle → OccursAt text needle k → IsCharBoundary text k
OccursAt-boundary text needle k utf8 some h =
    let start = IsCharBoundary-start needle utf8 in
    let fits = h.fits in
    let here : k + 0 ≡ k = omega arith in
    let first : get_or text k 0 ≡ get_or needle 0 0 = ap (λ (i : ℕ). get_or text i 0) (sym here) ∙ h.reads 0 some in
    (omega arith, λ within high. omega (arith, start.1 some (omega arith)))
