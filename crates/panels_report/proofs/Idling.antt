-- Which case is told who got a line, of cases and of what they tell.
use Rattle.std.proofs.Common.{◌≡◌, ℕ, ◌<◌, get_or, set, ◌+◌, Bool, not, cond, ltb, List, [], ◌∷◌, length, map, slice_get, Option, Some, None, option_map, refl, ap, sym, subst, ◌∙◌}
use Rattle.std.proofs.lemmas.Bool.{lt-ltb}
use Rattle.std.proofs.lemmas.List.{length-map, map-set}
use Rattle.std.proofs.lemmas.Option.{slice_get-get_or, slice_get-map}
use Rattle.std.specs.List.{position, prefix_len}
use Rattle.tk_session.specs.declared.session.AppBlock.{AppBlock}
use Rattle.tk_session.specs.declared.session.EventLine.{EventLine}
use Rattle.panels_film.specs.Getters.{Told as Getter, slot_of}
use Rattle.panels_film.specs.declared.notes.Note.{Note}
use Rattle.panels_text.specs.declared.cases.Case.{Case}
use Rattle.panels_report.specs.Cases.{Told, told}
use Rattle.panels_report.specs.Idle.{Telling, case_for, has_problem, idle_words, more_problems, own_case, tell, tell_idle, tell_line, tell_lines, telling, with_more, with_problem}

prefix_len-map : {A B : Type 0} (f : A → B) (p : B → Bool) (xs : List A) → prefix_len p (map f xs) ≡ prefix_len (λ x. p (f x)) xs
prefix_len-map f p [] = refl
prefix_len-map f p (x ∷ xs) = ap (λ n. cond (p (f x)) (1 + n) 0) (prefix_len-map f p xs)

position-map : {A B : Type 0} (f : A → B) (p : B → Bool) (xs : List A) → position p (map f xs) ≡ position (λ x. p (f x)) xs
position-map f p xs =
    ap (λ n. cond (ltb n (length (map f xs))) (Some n) None) (prefix_len-map f (λ y. not (p y)) xs)
    ∙ ap (λ n. cond (ltb (prefix_len (λ x. not (p (f x))) xs) n) (Some (prefix_len (λ x. not (p (f x))) xs)) None) (length-map xs f)

own_case-map : {A B : Type 0} (f : A → B) (p : B → Bool) (slot : ℕ) (x : Option A) → own_case p slot (option_map f x) ≡ own_case (λ a. p (f a)) slot x
own_case-map f p slot None = refl
own_case-map f p slot (Some x) = refl

-- which of what cases tell is told, is told of the cases
pub case_for-map : {A B : Type 0} (f : A → B) (p : B → Bool) (xs : List A) (slot : Option ℕ) → case_for p (map f xs) slot ≡ case_for (λ x. p (f x)) xs slot
case_for-map f p xs None = position-map f p xs
case_for-map f p xs (Some slot) = ap (own_case p slot) (slice_get-map f xs slot) ∙ own_case-map f p slot (slice_get xs slot)

module _ (panels : List AppBlock) (notes : List Note) where
  -- one line more
  pub lines_more : (number : ℕ) (left next : List EventLine) (event : EventLine) (now later all : Telling) → left ≡ event ∷ next
      → later ≡ tell_line panels event (slice_get notes number) now → tell_lines panels notes number left now ≡ all → tell_lines panels notes (number + 1) next later ≡ all
  lines_more number left next event now later all here is before =
      let P : List EventLine → Type 0 = λ es. tell_lines panels notes number es now ≡ all in
      ap (tell_lines panels notes (number + 1) next) is ∙ subst P here before

-- a problem of a case that is there
pub problem_here : (cases : List Case) (number : ℕ) (words : List ℕ) (case new : Case) → number < length cases → told new ≡ more_problems words (told (get_or cases number case))
    → map told (set cases number new) ≡ with_problem words number (map told cases)
problem_here cases number words case new within more =
    let P : Option Told → Type 0 = λ o. map told (set cases number new) ≡ with_more words number (map told cases) o in
    let here : slice_get (map told cases) number ≡ Some (told (get_or cases number case)) =
    slice_get-map told cases number ∙ ap (option_map told) (slice_get-get_or cases number case within) in
    subst P (sym here) (map-set told cases number new ∙ ap (set (map told cases) number) more)

-- a line that is told, and one that isn't as no case fails
pub idle_told : (panels : List AppBlock) (event : EventLine) (getter : Getter) (count : ℕ) (cases : List Case) (slot : Option ℕ) (number : ℕ) (text : List ℕ) (later : List Told) → count < 5
    → slot ≡ slot_of getter → Some number ≡ case_for (λ case. has_problem (told case)) cases slot → text ≡ idle_words panels event getter → later ≡ with_problem text number (map told cases)
    → telling (count + 1) later ≡ tell_idle panels event (Some getter) (telling count (map told cases))
idle_told panels event getter count cases slot number text later few own here words is =
    let P : Option ℕ → Type 0 = λ n. telling (count + 1) later ≡ tell (idle_words panels event getter) n (telling count (map told cases)) in
    let found : Some number ≡ case_for has_problem (map told cases) (slot_of getter) =
    here ∙ ap (case_for (λ case. has_problem (told case)) cases) own ∙ sym (case_for-map told has_problem cases (slot_of getter)) in
    rw (lt-ltb count 5 few) (subst P found (ap (telling (count + 1)) (is ∙ ap (λ (w : List ℕ). with_problem w number (map told cases)) words)))

pub idle_untold : (panels : List AppBlock) (event : EventLine) (getter : Getter) (count : ℕ) (cases : List Case) (slot : Option ℕ) → count < 5 → slot ≡ slot_of getter
    → None ≡ case_for (λ case. has_problem (told case)) cases slot → telling count (map told cases) ≡ tell_idle panels event (Some getter) (telling count (map told cases))
idle_untold panels event getter count cases slot few own none =
    let P : Option ℕ → Type 0 = λ n. telling count (map told cases) ≡ tell (idle_words panels event getter) n (telling count (map told cases)) in
    let found : None ≡ case_for has_problem (map told cases) (slot_of getter) =
    none ∙ ap (case_for (λ case. has_problem (told case)) cases) own ∙ sym (case_for-map told has_problem cases (slot_of getter)) in
    rw (lt-ltb count 5 few) (subst P found refl)
