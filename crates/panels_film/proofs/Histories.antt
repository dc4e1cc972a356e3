-- What a host has come through, and what it was told, line by line.
use Rattle.std.proofs.Common.{◌≡◌, ℕ, zero, suc, Option, Some, add-one, slice_get, ◌+◌, ◌<◌, Bool, ◌&&◌, List, [], ◌∷◌, ◌++◌, length, get_or, map, take, refl, ap, sym, ◌∙◌, append_assoc}
use Rattle.std.proofs.lemmas.List.{take_more}
use Rattle.std.specs.Cmp.Lexicographic.{pointwise}
use Rattle.tk_app.specs.Seen.{Meaning}
use Rattle.tk_host.specs.Held.{Call, HostState, LineAt, held_after}
use Rattle.tk_session.specs.declared.session.EventLine.{EventLine}
use Rattle.tkhost.specs.Calls.{lining}
use Rattle.panels_film.specs.Films.{handed}
use Rattle.panels_film.specs.Getters.{Told}
use Rattle.panels_film.specs.Notes.{Came, getter_told, note_of, notes_from, told}
use Rattle.panels_film.specs.declared.notes.Note.{Note}
use Rattle.panels_film.specs.Screens.{Known, after, taken}

-- one line more than so many
pub one_more : {A : Type 0} (xs : List A) (i : ℕ) (x : A) → i < length xs → x ≡ get_or xs i x → take (i + 1) xs ≡ take i xs ++ x ∷ []
one_more xs i x within is = take_more xs i x within ∙ ap (λ y. take i xs ++ y ∷ []) (sym is)

take-suc-at : {A : Type 0} (xs : List A) (i : ℕ) (x : A) → slice_get xs i ≡ Some x → take (suc i) xs ≡ take i xs ++ x ∷ []
take-suc-at [] i x at = absurd (cc)
take-suc-at (y ∷ ys) zero x at = let same : y ≡ x = cc in ap (λ z. z ∷ []) same
take-suc-at (y ∷ ys) (suc i) x at = ap (λ l. y ∷ l) (take-suc-at ys i x at)

-- the one behind so many
pub one_there : {A : Type 0} (xs : List A) (i : ℕ) (x : A) → slice_get xs i ≡ Some x → take (i + 1) xs ≡ take i xs ++ x ∷ []
one_there xs i x at = rw add-one (take-suc-at xs i x at)

module _ {M : Type 0} where
  lining-push : (events : List EventLine) (event : EventLine) → lining {M = M} (events ++ event ∷ []) ≡ lining events ++ LineAt event.moment event.line ∷ []
  lining-push [] event = refl
  lining-push (first ∷ events) event = ap (λ rest. LineAt first.moment first.line ∷ rest) (lining-push events event)

module _ {M : Type 0} (answer : M → Meaning) where
  -- a host that has come through lines, and then through the next
  pub one_handed : (events : List EventLine) (i : ℕ) (event : EventLine) (calls : List (Call M)) (after : HostState M) → i < length events → event ≡ get_or events i event
      → after ≡ held_after answer ((calls ++ lining (take i events)) ++ LineAt event.moment event.line ∷ [])
      → after ≡ held_after answer (calls ++ lining (take (i + 1) events))
  one_handed events i event calls after within is now =
      now
      ∙ ap (held_after answer) (append_assoc calls (lining (take i events)) (LineAt event.moment event.line ∷ [])
      ∙ ap (λ rest. calls ++ rest) (sym (lining-push (take i events) event) ∙ ap (λ front. lining front) (sym (one_more events i event within is))))

module _ {M : Type 0} where
  -- the calls behind lines, each of which has its moment reached before
  abbrev pub calls_behind : List (Call M) → List EventLine → List (Call M)
  calls_behind calls [] = calls
  calls_behind calls (event ∷ events) = calls_behind (handed calls event) events

  calls_behind-push : (calls : List (Call M)) (events : List EventLine) (event : EventLine)
      → calls_behind calls (events ++ event ∷ []) ≡ handed (calls_behind calls events) event
  calls_behind-push calls [] event = refl
  calls_behind-push calls (first ∷ events) event = calls_behind-push (handed calls first) events event

after-push : (events : List EventLine) (event : EventLine) (known : Known) → after (events ++ event ∷ []) known ≡ taken event.line (after events known)
after-push [] event known = refl
after-push (first ∷ events) event known = after-push events event (taken first.line known)

-- what is told of a note
pub came_is : (note : Note) (now : Came) → getter_told note ≡ now.getter → note.changed ≡ now.changed → told note ≡ now
came_is note now of_getter of_changed =
    ap (λ (g : Option Told). let it : Came = record { getter = g; changed = note.changed } in it) of_getter
    ∙ ap (λ (c : Bool). let it : Came = record { getter = now.getter; changed = c } in it) of_changed

-- two lists of sections are the same where their bytes are
pub pointwise-map : {A B : Type 0} (f : A → B) (same : B → B → Bool) (xs ys : List A) → pointwise (λ x y. same (f x) (f y)) xs ys ≡ pointwise same (map f xs) (map f ys)
pointwise-map f same [] [] = refl
pointwise-map f same [] (y ∷ ys) = refl
pointwise-map f same (x ∷ xs) [] = refl
pointwise-map f same (x ∷ xs) (y ∷ ys) = ap (λ b. same (f x) (f y) && b) (pointwise-map f same xs ys)

module _ {M : Type 0} (answer : M → Meaning) (panels : ℕ) where
  notes_from-push : (calls : List (Call M)) (known : Known) (events : List EventLine) (event : EventLine)
      → notes_from answer panels calls known (events ++ event ∷ []) ≡ notes_from answer panels calls known events ++ note_of answer panels (calls_behind calls events) (after events known) event ∷ []
  notes_from-push calls known [] event = refl
  notes_from-push calls known (first ∷ events) event =
      ap (λ rest. note_of answer panels calls known first ∷ rest)
      (notes_from-push (handed calls first) (taken first.line known) events event)

  -- so many lines were handed on, and what came of each was told
  pub record Noted (known : Known) (events : List EventLine) (count : ℕ) (start held : HostState M) (screen : Known) (notes : List Came) : Type 0 where
    pub screen_is : screen ≡ after (take count events) known
    pub history : (calls : List (Call M)) → start ≡ held_after answer calls → held ≡ held_after answer (calls_behind calls (take count events))
    pub notes_are : (calls : List (Call M)) → start ≡ held_after answer calls → notes ≡ notes_from answer panels calls known (take count events)

  pub none_noted : (known : Known) (events : List EventLine) (start : HostState M) (screen : Known) → screen ≡ known → Noted known events 0 start start screen []
  none_noted known events start screen is = record { screen_is = is; history = λ calls begun. begun; notes_are = λ calls begun. refl }

  -- one line more
  pub one_noted : (known : Known) (events : List EventLine) (count : ℕ) (event : EventLine) (start held later : HostState M) (screen shown : Known) (notes more : List Came)
      → count < length events → event ≡ get_or events count event
      → Noted known events count start held screen notes
      → ((calls : List (Call M)) → held ≡ held_after answer calls → later ≡ held_after answer (handed calls event))
      → ((calls : List (Call M)) → held ≡ held_after answer calls → more ≡ notes ++ note_of answer panels calls screen event ∷ [])
      → shown ≡ taken event.line screen
      → Noted known events (count + 1) start later shown more
  one_noted known events count event start held later screen shown notes more within is noted history told now =
      let front : take (count + 1) events ≡ take count events ++ event ∷ [] = one_more events count event within is in
      record {
        screen_is = now ∙ ap (taken event.line) noted.screen_is ∙ sym (after-push (take count events) event known) ∙ ap (λ es. after es known) (sym front);
        history = λ calls begun.
            history (calls_behind calls (take count events)) (noted.history calls begun)
            ∙ ap (held_after answer) (sym (calls_behind-push calls (take count events) event) ∙ ap (calls_behind calls) (sym front));
        notes_are = λ calls begun.
            told (calls_behind calls (take count events)) (noted.history calls begun)
            ∙ ap (λ ns. ns ++ note_of answer panels (calls_behind calls (take count events)) screen event ∷ []) (noted.notes_are calls begun)
            ∙ ap (λ s. notes_from answer panels calls known (take count events) ++ note_of answer panels (calls_behind calls (take count events)) s event ∷ []) noted.screen_is
            ∙ sym (notes_from-push calls known (take count events) event)
            ∙ ap (notes_from answer panels calls known) (sym front);
      }
