-- The frames of a film, moment by moment.
use Rattle.std.proofs.Common.{◌≡◌, ℕ, zero, suc, ◌+◌, ◌-◌, ◌<◌, Bool, true, false, cond, List, [], ◌∷◌, ◌++◌, length, map, Option, Some, None, refl, ap, sym, ◌∙◌, subst, append_assoc, slice_get, add-one, ⊎_elim, arith}
use Rattle.std.proofs.lemmas.Bool.{cases_Bool}
use Rattle.std.proofs.lemmas.List.{append-nil, length_push}
use Rattle.tk_app.specs.Seen.{Meaning}
use Rattle.tk_host.specs.Held.{Call, HostState, held_after}
use Rattle.tk_session.specs.Session.{Plan}
use Rattle.panels_film.specs.declared.film.Frame.{Frame}
use Rattle.panels_film.specs.Films.{AreFrames, Shown, are_all, at_next, come, is_repeated, last_of, moment_behind, or_end, shown, shown_at, shown_from, with_frame, without_repeats}
use Rattle.panels_film.specs.Looks.{Look, looks_from}

-- a frame shows just this
pub shown_is : (frame : Frame) (now : Shown) → frame.moment ≡ now.moment → frame.count ≡ now.count → (shown frame).sections ≡ now.sections → (shown frame).looks ≡ now.looks
    → shown frame ≡ now
shown_is frame now of_moment of_count of_sections of_looks =
    ap (λ (m : ℕ). let it : Shown = record { moment = m; count = frame.count; sections = (shown frame).sections; looks = (shown frame).looks } in it) of_moment
    ∙ ap (λ (n : ℕ). let it : Shown = record { moment = now.moment; count = n; sections = (shown frame).sections; looks = (shown frame).looks } in it) of_count
    ∙ ap (λ (s : List (List ℕ)). let it : Shown = record { moment = now.moment; count = now.count; sections = s; looks = (shown frame).looks } in it) of_sections
    ∙ ap (λ (l : List (List Look)). let it : Shown = record { moment = now.moment; count = now.count; sections = now.sections; looks = l } in it) of_looks

-- how windows look that show these sections
pub looks_are : {M : Type 0} (looks : List (List Look)) (held after : HostState M) (sections now : List (List ℕ)) → looks ≡ looks_from held 0 sections → held ≡ after → sections ≡ now
    → looks ≡ looks_from after 0 now
looks_are {M} looks held after sections now are same show =
    are ∙ ap (λ (h : HostState M). looks_from h 0 sections) same ∙ ap (λ (s : List (List ℕ)). looks_from after 0 s) show

get-last : (frames : List Frame) (frame : Frame) → slice_get (frames ++ frame ∷ []) (length frames) ≡ Some frame
get-last [] frame = refl
get-last (first ∷ frames) frame = get-last frames frame

last_of-push : (frames : List Frame) (frame : Frame) → last_of (frames ++ frame ∷ []) ≡ Some frame
last_of-push frames frame =
    let e : length (frames ++ frame ∷ []) - 1 ≡ length frames = omega (arith, length_push frames frame) in
    rw e (get-last frames frame)

-- a frame that was added or not, and those behind it
by_test : (frames next : List Frame) (frame : Frame) (all rest : List Frame) (test : Bool) → is_repeated (last_of frames) frame ≡ test → next ≡ with_frame frames frame
    → rest ≡ without_repeats (last_of next) all → next ++ rest ≡ frames ++ without_repeats (last_of frames) (frame ∷ all)
by_test frames next frame all rest true is pushed left =
    let same : next ≡ frames = rw is at pushed in
    let P : List Frame → Type 0 = λ front. front ++ rest ≡ frames ++ without_repeats (last_of frames) (frame ∷ all) in
    let Q : List Frame → Type 0 = λ front. rest ≡ without_repeats (last_of front) all in
    subst P (sym same) (rw is (ap (λ behind. frames ++ behind) (subst Q same left)))
by_test frames next frame all rest false is pushed left =
    let more : next ≡ frames ++ frame ∷ [] = rw is at pushed in
    let P : List Frame → Type 0 = λ front. front ++ rest ≡ frames ++ without_repeats (last_of frames) (frame ∷ all) in
    let Q : List Frame → Type 0 = λ front. rest ≡ without_repeats (last_of front) all in
    let behind : rest ≡ without_repeats (Some frame) all = rw (last_of-push frames frame) at (subst Q more left) in
    subst P (sym more) (rw is (append_assoc frames (frame ∷ []) rest ∙ ap (λ others. frames ++ frame ∷ others) behind))

module _ {M : Type 0} (answer : M → Meaning) (plan : Plan) where
  shown-next : (left : ℕ) (calls : List (Call M)) (before moment later : ℕ)
      → moment_behind plan (shown_at answer plan (come plan calls before moment) moment) ≡ Some later
      → shown_from answer plan (suc left) calls before moment
      ≡ shown_at answer plan (come plan calls before moment) moment ∷ shown_from answer plan left (come plan calls before moment) (shown_at answer plan (come plan calls before moment) moment).count later
  unfolding shown_from
  shown-next left calls before moment later next = rw next refl

  shown-last : (left : ℕ) (calls : List (Call M)) (before moment : ℕ)
      → moment_behind plan (shown_at answer plan (come plan calls before moment) moment) ≡ None
      → shown_from answer plan (suc left) calls before moment ≡ shown_at answer plan (come plan calls before moment) moment ∷ []
  unfolding shown_from
  shown-last left calls before moment none = rw none refl

  all-next : (left : ℕ) (calls : List (Call M)) (before moment later : ℕ)
      → moment_behind plan (shown_at answer plan (come plan calls before moment) moment) ≡ Some later
      → are_all answer plan (suc left) calls before moment ≡ are_all answer plan left (come plan calls before moment) (shown_at answer plan (come plan calls before moment) moment).count later
  unfolding are_all
  all-next left calls before moment later next = rw next refl

  all-last : (left : ℕ) (calls : List (Call M)) (before moment : ℕ)
      → moment_behind plan (shown_at answer plan (come plan calls before moment) moment) ≡ None → are_all answer plan (suc left) calls before moment ≡ true
  unfolding are_all
  all-last left calls before moment none = rw none refl

  shown-none : (calls : List (Call M)) (before moment : ℕ) → shown_from answer plan 0 calls before moment ≡ []
  unfolding shown_from
  shown-none calls before moment = refl

  all-none : (calls : List (Call M)) (before moment : ℕ) → are_all answer plan 0 calls before moment ≡ false
  unfolding are_all
  all-none calls before moment = refl

  -- what is left of a film whose frames so far are these
  abbrev pub Continues : ℕ → List (Call M) → ℕ → ℕ → List Frame → List (Call M) → Type 0
  Continues left calls before moment frames start =
      (rest : List Frame) (is_whole : Bool) → AreFrames answer plan left calls before moment (last_of frames) rest is_whole → AreFrames answer plan 500 start 0 0 None (frames ++ rest) is_whole

  -- a host has come so far
  pub record Filmed (left before moment : ℕ) (frames : List Frame) (start : List (Call M)) (held : HostState M) : Type 0 where
    pub calls : List (Call M)
    pub held_is : held ≡ held_after answer calls
    pub continues : Continues left calls before moment frames start

  pub none_filmed : (frames : List Frame) (start : List (Call M)) (held : HostState M) → frames ≡ [] → held ≡ held_after answer start → Filmed 500 0 0 frames start held
  none_filmed frames start held none begun =
      let P : List Frame → Type 0 = λ fs. Continues 500 start 0 0 fs start in
      record { calls = start; held_is = begun; continues = subst P (sym none) (λ rest is_whole are. are) }

  -- one moment more, behind which another comes
  pub one_filmed : (left fewer before count moment later : ℕ) (frames next : List Frame) (frame : Frame) (start : List (Call M)) (held after : HostState M)
      → left ≡ suc fewer → Filmed left before moment frames start held
      → ((calls : List (Call M)) → held ≡ held_after answer calls → after ≡ held_after answer (come plan calls before moment))
      → ((calls : List (Call M)) → held ≡ held_after answer calls → shown frame ≡ shown_at answer plan (come plan calls before moment) moment)
      → count ≡ frame.count → moment_behind plan (shown frame) ≡ Some later → next ≡ with_frame frames frame
      → Filmed fewer count later next start after
  one_filmed left fewer before count moment later frames next frame start held after is filmed history told counted behind pushed =
      let calls = filmed.calls in
      let moved = come plan calls before moment in
      let now : shown frame ≡ shown_at answer plan moved moment = told calls filmed.held_is in
      let P : Shown → Type 0 = λ s. moment_behind plan s ≡ Some later in
      let goes : moment_behind plan (shown_at answer plan moved moment) ≡ Some later = subst P now behind in
      let same_count : (shown_at answer plan moved moment).count ≡ count = sym (counted ∙ ap (λ (s : Shown). s.count) now) in
      record {
        calls = moved;
        held_is = history calls filmed.held_is;
        continues = λ rest is_whole are.
            let L : ℕ → Type 0 = λ n. Continues n calls before moment frames start in
            let Out : List Frame → Type 0 = λ fs. AreFrames answer plan 500 start 0 0 None fs is_whole in
            let all = frame ∷ are.all in
            subst Out (sym (by_test frames next frame are.all rest (is_repeated (last_of frames) frame) refl pushed are.frames_are))
            ((subst L is filmed.continues) (without_repeats (last_of frames) all) is_whole (record {
              all = all;
              shown_are =
                  ap (λ (s : Shown). s ∷ map shown are.all) now
                  ∙ ap (λ (others : List Shown). shown_at answer plan moved moment ∷ others) (are.shown_are ∙ ap (λ (n : ℕ). shown_from answer plan fewer moved n later) (sym same_count))
                  ∙ sym (shown-next fewer calls before moment later goes);
              frames_are = refl;
              whole_is = are.whole_is ∙ ap (λ (n : ℕ). are_all answer plan fewer moved n later) (sym same_count) ∙ sym (all-next fewer calls before moment later goes);
            }));
      }

  -- the last moment
  pub last_filmed : (left fewer before moment : ℕ) (frames next : List Frame) (frame : Frame) (start : List (Call M)) (held : HostState M)
      → left ≡ suc fewer → Filmed left before moment frames start held
      → ((calls : List (Call M)) → held ≡ held_after answer calls → shown frame ≡ shown_at answer plan (come plan calls before moment) moment)
      → moment_behind plan (shown frame) ≡ None → next ≡ with_frame frames frame
      → AreFrames answer plan 500 start 0 0 None next true
  last_filmed left fewer before moment frames next frame start held is filmed told behind pushed =
      let calls = filmed.calls in
      let moved = come plan calls before moment in
      let now : shown frame ≡ shown_at answer plan moved moment = told calls filmed.held_is in
      let P : Shown → Type 0 = λ s. moment_behind plan s ≡ None in
      let goes : moment_behind plan (shown_at answer plan moved moment) ≡ None = subst P now behind in
      let L : ℕ → Type 0 = λ n. Continues n calls before moment frames start in
      let Out : List Frame → Type 0 = λ fs. AreFrames answer plan 500 start 0 0 None fs true in
      let all = frame ∷ [] in
      subst Out (sym (by_test frames next frame [] [] (is_repeated (last_of frames) frame) refl pushed refl) ∙ append-nil next)
      ((subst L is filmed.continues) (without_repeats (last_of frames) all) true (record {
        all = all;
        shown_are = ap (λ (s : Shown). s ∷ []) now ∙ sym (shown-last fewer calls before moment goes);
        frames_are = refl;
        whole_is = sym (all-last fewer calls before moment goes);
      }))

  -- no more moments are looked at
  pub all_filmed : (left before moment : ℕ) (frames : List Frame) (start : List (Call M)) (held : HostState M) → left ≡ 0 → Filmed left before moment frames start held
      → AreFrames answer plan 500 start 0 0 None frames false
  all_filmed left before moment frames start held none filmed =
      let L : ℕ → Type 0 = λ n. Continues n filmed.calls before moment frames start in
      let Out : List Frame → Type 0 = λ fs. AreFrames answer plan 500 start 0 0 None fs false in
      subst Out (append-nil frames)
      ((subst L none filmed.continues) [] false (record {
        all = [];
        shown_are = sym (shown-none filmed.calls before moment);
        frames_are = refl;
        whole_is = sym (all-none filmed.calls before moment);
      }))
