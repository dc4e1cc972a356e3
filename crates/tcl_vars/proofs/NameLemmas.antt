-- Facts on names.
use Rattle.std.proofs.Common.{◌≡◌, ℕ, ◌-◌, Bool, true, false, true≢false, not, ◌&&◌, if◌then◌else◌, List, [], ◌∷◌, ◌++◌, length, take, drop, get_or, nat_eq, None, refl, sym, ap, ◌∙◌, arith, ⊎_elim}
use Rattle.std.specs.List.{starts_with, ends_with}
use Rattle.std.specs.Cmp.Lexicographic.{bytes_decides, pointwise}
use Rattle.std.proofs.lemmas.Bool.Decides.{eqb_tells}
use Rattle.std.proofs.lemmas.List.{take-append-drop, get_or_push, length-append}
use Rattle.tcl_text.specs.Bytes.{open_paren}
use Rattle.tcl_vars.specs.Name.{around_first, place_in_frame, place_of, place_of_parts}
use Rattle.tcl_vars.specs.Store.{variable_place}

-- a text that is no front with c behind it doesn't end with c
pub ends_with-false : (c : ℕ) (text : List ℕ) → ((front : List ℕ) → text ≡ front ++ c ∷ [] → ⊥) → ends_with nat_eq text (c ∷ []) ≡ false
ends_with-false c text never = by (ends_with nat_eq text (c ∷ [])) refl
  where
    by : (b : Bool) → ends_with nat_eq text (c ∷ []) ≡ b → b ≡ false
    by false e = refl
    by true e =
        let last : c ∷ [] ≡ drop (length text - 1) text = (bytes_decides (c ∷ []) (drop (length text - 1) text)).0 e in
        absurd (never (take (length text - 1) text) (sym (take-append-drop (length text - 1) text) ∙ ap (λ l. take (length text - 1) text ++ l) (sym last)))

-- numbers that a test tells apart
pub apart : (a b : ℕ) → not (nat_eq a b) ≡ true → a ≡ b → ⊥
apart a b differs same = ⊎_elim (λ equal. true≢false (sym differs ∙ ap not equal.0)) (λ other. other.1 same) (eqb_tells a b)

-- a text that begins with no colon has none of two in front
no_colons : (x : ℕ) (text : List ℕ) → (x ≡ 58 → ⊥) → starts_with nat_eq (x ∷ text) (58 ∷ 58 ∷ []) ≡ false
no_colons x text other =
    let differs : nat_eq 58 x ≡ false = ⊎_elim (λ same. absurd (other (sym same.1))) (λ differs. differs.0) (eqb_tells 58 x) in
    ap (λ b. b && pointwise nat_eq (58 ∷ []) (take 1 text)) differs

-- a name that begins with no colon and ends with no bracket means a variable of the frame that it is used in
pub bare_place : (name : List ℕ) → (get_or name 0 0 ≡ 58 → ⊥) → not (nat_eq (get_or name (length name - 1) 0) 41) ≡ true → (frame : ℕ) → place_of frame name ≡ variable_place frame name
bare_place [] head last frame = refl
bare_place (x ∷ text) head last frame =
    let end : (front : List ℕ) → x ∷ text ≡ front ++ 41 ∷ [] → ⊥ = λ front is.
    let place : length (x ∷ text) - 1 ≡ length front = omega (arith, ap length is, length-append front (41 ∷ [])) in
    apart (get_or (x ∷ text) (length (x ∷ text) - 1) 0) 41 last
    (ap (λ n. get_or (x ∷ text) n 0) place ∙ ap (λ t. get_or t (length front) 0) is ∙ get_or_push front 41 0 (length front) refl) in
    ap (λ b. if b then place_in_frame 0 (drop 2 (x ∷ text)) else place_in_frame frame (x ∷ text)) (no_colons x text head)
    ∙ ap (λ b. place_of_parts frame (x ∷ text) (if b then around_first open_paren (take (length (x ∷ text) - 1) (x ∷ text)) else None)) (ends_with-false 41 (x ∷ text) end)
