-- Texts that are told line by line.
use Rattle.std.proofs.Common.{◌≡◌, ℕ, suc, ◌+◌, ◌-◌, ◌<◌, cond, ltb, List, [], ◌∷◌, ◌++◌, length, map, Option, Some, None, Ok, Err, slice_get, ap, sym, subst, ◌∙◌, append_assoc, ⊎_elim, arith}
use Rattle.std.proofs.lemmas.Bool.{cases_Bool, ltb-true}
use Rattle.std.proofs.lemmas.List.{append-nil, map-append}
use Rattle.std.specs.List.{cons_option, filter_map}
use Rattle.tcl_text.specs.Limits.{most_bytes}
use Rattle.panels_film.specs.declared.film.Frame.{Frame}
use Rattle.panels_film.specs.declared.traces.Story.{Story}
use Rattle.panels_film.specs.Bindings.{Noted, note_in}
use Rattle.panels_film.specs.Traces.{bindings_text, line_text, numbers_text}

-- one number more
pub one_number : (story : Story) (before : Option Frame) (last number behind : ℕ) (text between next all : List ℕ) → number < behind
    → between ≡ text ++ line_text story number (slice_get story.events.now number) → next ≡ between ++ bindings_text story before last (number + 1)
    → text ++ numbers_text story before last number (behind - number) ≡ all → next ++ numbers_text story before last (number + 1) (behind - (number + 1)) ≡ all
one_number story before last number behind text between next all lt one two same =
    let line = line_text story number (slice_get story.events.now number) in
    let ran = bindings_text story before last (number + 1) in
    let rest = numbers_text story before last (number + 1) (behind - (number + 1)) in
    let e : behind - number ≡ suc (behind - (number + 1)) = omega arith in
    let P : ℕ → Type 0 = λ n. text ++ numbers_text story before last number n ≡ all in
    let here : text ++ ((line ++ ran) ++ rest) ≡ all = subst P e same in
    ap (λ (t : List ℕ). t ++ rest) (two ∙ ap (λ (t : List ℕ). t ++ ran) one ∙ append_assoc text line ran) ∙ append_assoc text (line ++ ran) rest ∙ here

module _ {A : Type 0} (f : A → Noted) where
  -- a line that is a note
  pub note_more : (found next : List A) (note : A) (line : List ℕ) (lines rest : List (List ℕ)) (all : List Noted) → lines ≡ line ∷ rest → Some (f note) ≡ note_in line
      → next ≡ found ++ note ∷ [] → map f found ++ filter_map note_in lines ≡ all → map f next ++ filter_map note_in rest ≡ all
  note_more found next note line lines rest all here is pushed same =
      let P : List (List ℕ) → Type 0 = λ ls. map f found ++ filter_map note_in ls ≡ all in
      let Q : Option Noted → Type 0 = λ o. map f found ++ cons_option o (filter_map note_in rest) ≡ all in
      let told : map f found ++ (f note ∷ filter_map note_in rest) ≡ all = subst Q (sym is) (subst P here same) in
      ap (λ (ns : List A). map f ns ++ filter_map note_in rest) pushed
      ∙ ap (λ (ns : List Noted). ns ++ filter_map note_in rest) (map-append f found (note ∷ []))
      ∙ append_assoc (map f found) (f note ∷ []) (filter_map note_in rest)
      ∙ told

  -- and one that is none
  pub note_none : (found : List A) (line : List ℕ) (lines rest : List (List ℕ)) (all : List Noted) → lines ≡ line ∷ rest → None ≡ note_in line
      → map f found ++ filter_map note_in lines ≡ all → map f found ++ filter_map note_in rest ≡ all
  note_none found line lines rest all here is same =
      let P : List (List ℕ) → Type 0 = λ ls. map f found ++ filter_map note_in ls ≡ all in
      let Q : Option Noted → Type 0 = λ o. map f found ++ cons_option o (filter_map note_in rest) ≡ all in
      subst Q (sym is) (subst P here same)

  pub note_end : (found : List A) (lines : List (List ℕ)) (all : List Noted) → lines ≡ [] → map f found ++ filter_map note_in lines ≡ all → map f found ≡ all
  note_end found lines all none same =
      let P : List (List ℕ) → Type 0 = λ ls. map f found ++ filter_map note_in ls ≡ all in
      sym (append-nil (map f found)) ∙ subst P none same

pub no_error : {T E : Type 0} (value : T) (error : E) → Ok value ≡ Err error → ⊥
no_error value error same = absurd (cc)

-- a script behind a front, which is short enough
pub behind_front : (front script text both : List ℕ) → text ≡ front ++ script → both ≡ text → ¬ (most_bytes < length text)
    → both ≡ cond (ltb most_bytes (length (front ++ script))) script (front ++ script)
behind_front front script text both whole same short =
    let P : List ℕ → Type 0 = λ t. ¬ (most_bytes < length t) in
    let fits : ¬ (most_bytes < length (front ++ script)) = subst P whole short in
    ⊎_elim (λ long. absurd (fits (ltb-true most_bytes (length (front ++ script)) long))) (λ isnt. rw isnt (same ∙ whole)) (cases_Bool (ltb most_bytes (length (front ++ script))))
