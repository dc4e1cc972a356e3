-- One call more after a list of calls.
use Rattle.std.proofs.Common.{◌≡◌, ◌≢◌, ℕ, zero, suc, ◌+◌, ◌≤◌, ◌<◌, ◌-◌, List, [], ◌∷◌, ◌++◌, map, reverse, refl, sym, ap, ◌∙◌, subst, arith}
use Rattle.std.proofs.lemmas.List.{map-append, append-nil, append_assoc, reverse-append}
use Rattle.std.proofs.lemmas.Option.{slice_get-map}
use Rattle.std.specs.Prelude.{Some, Result, Ok, Err, OnOk, option_map, slice_get}
use Rattle.tk_base.specs.declared.rect.Rect.{Rect}
use Rattle.tk_base.specs.declared.local_event.LocalEvent.{LocalEvent}
use Rattle.tk_route.specs.Lines.{Line, at, values}
use Rattle.tk_route.specs.Routes.{events_of, routed, routes}
use Rattle.tk_route.specs.declared.delivery.Delivery.{Delivery}
use Rattle.tk_route.specs.declared.line.HostLine.{HostLine}
use Rattle.tk_app.specs.Due.{IsPast}
use Rattle.tk_app.specs.declared.turns.Turn.{Turn}
use Rattle.tk_app.specs.Rounds.{turns_of}
use Rattle.tk_app.specs.Application.{Application, fresh, next_due}
use Rattle.tk_app.specs.Moments.{delivered}
use Rattle.tk_app.specs.MomentsByJob.{settled, started}
use Rattle.tk_app.specs.Part.{Part, Rests, added, needs, stage_done}
use Rattle.tk_app.specs.Section.{section}
use Rattle.tk_app.specs.Seen.{Meaning}
use Rattle.tk_app.specs.Spec.{Spec}
use Rattle.tk_app.proofs.Parts.{begins_with_script}
use Rattle.tk_route.specs.declared.fault.LineFault.TheVariants.{Started, Ended, Broken}
use Rattle.tk_host.specs.declared.phase.Phase.{Phase}
use Rattle.tk_host.specs.declared.phase.Phase.TheVariants.{Adding, Reached, Finished, Lost}
use Rattle.tk_host.specs.Spec.{Given, rect_of}
use Rattle.tk_host.specs.AloneByJob.{after_events, alone, passed}
use Rattle.tk_host.specs.Held.{HostState, Hosted, Call, AddApp, Start, LineAt, AdvanceTo, End, after_line, at_rest, with_passed, with_app, after_start, gone_to, given_by, first_rects, phase_after, lines_after, lines_of, application_in, part_in, parts_in, reached, held_in, held_after, turns_after}
use Rattle.tk_host.specs.Refusals.{PhaseRefuses}
use Rattle.tk_host.specs.Sections.{EachByItself, sections_after}
use Rattle.tk_host.specs.Turns.{after_each, after_given, applications, stages_of, steps_at_start, turns_at_start, turns_given, turns_on_the_way}
use Rattle.tk_host.proofs.Kept.{AreOf, events_at}
use Rattle.tk_host.proofs.Passing.{passed_passed, passed_past}
use Rattle.tk_host.proofs.Routing.{routes_at}
use Rattle.tk_app.proofs.Settled.{settled_is_past, started_is_past}

-- ── phases ──

-- a phase that refuses nothing is that of adding applications
pub adding_if_not_refused : (phase : Phase) → ¬ PhaseRefuses phase Broken → ¬ PhaseRefuses phase Ended → ¬ PhaseRefuses phase Started → phase ≡ Adding
adding_if_not_refused Adding lost finished reached = refl
adding_if_not_refused (Reached moment) lost finished reached = absurd (reached tt)
adding_if_not_refused (Finished moment) lost finished reached = absurd (finished tt)
adding_if_not_refused Lost lost finished reached = absurd (lost tt)

-- and one that the calls which go on to a moment meet is that of a moment reached
pub reached_if_not_refused : (phase : Phase) → phase ≢ Adding → ¬ PhaseRefuses phase Broken → ¬ PhaseRefuses phase Ended → (before : ℕ) × (phase ≡ Reached before)
reached_if_not_refused Adding begun lost finished = absurd (begun refl)
reached_if_not_refused (Reached moment) begun lost finished = (moment, refl)
reached_if_not_refused (Finished moment) begun lost finished = absurd (finished tt)
reached_if_not_refused Lost begun lost finished = absurd (lost tt)

-- what follows from two facts of an Ok
pub on_ok : {T E A B C : Type 0} (r : Result T E) → OnOk r A → OnOk r B → (A → B → C) → OnOk r C
on_ok (Ok x) a b f = f a b
on_ok (Err e) a b f = tt

-- going on to a moment doesn't go back
pub not_back : (phase : Phase) (before moment : ℕ) → phase ≡ Reached before → ¬ (moment < reached phase) → before ≤ moment
not_back phase before moment is forward =
    let P : Phase → Type 0 = λ p. ¬ (moment < reached p) in
    let ahead : ¬ (moment < before) = subst P is forward in
    omega (arith, ahead)

map-map : {A B C : Type 0} (f : B → C) (g : A → B) (xs : List A) → map f (map g xs) ≡ map (λ x. f (g x)) xs
map-map f g [] = refl
map-map f g (x ∷ xs) = ap (λ ys. f (g x) ∷ ys) (map-map f g xs)

map_same : {A B : Type 0} (f g : A → B) → ((x : A) → f x ≡ g x) → (xs : List A) → map f xs ≡ map g xs
map_same f g same [] = refl
map_same f g same (x ∷ xs) = ap (λ y. y ∷ map f xs) (same x) ∙ ap (λ ys. g x ∷ ys) (map_same f g same xs)

-- ── lists of calls ──

module _ {M : Type 0} where
  given_by-append : (calls more : List (Call M)) → given_by (calls ++ more) ≡ given_by calls ++ given_by more
  given_by-append [] more = refl
  given_by-append (AddApp app ∷ calls) more = ap (λ apps. app ∷ apps) (given_by-append calls more)
  given_by-append (Start ∷ calls) more = given_by-append calls more
  given_by-append (LineAt moment line ∷ calls) more = given_by-append calls more
  given_by-append (AdvanceTo moment ∷ calls) more = given_by-append calls more
  given_by-append (End moment ∷ calls) more = given_by-append calls more

  phase_after-append : (phase : Phase) (calls more : List (Call M)) → phase_after phase (calls ++ more) ≡ phase_after (phase_after phase calls) more
  phase_after-append phase [] more = refl
  phase_after-append phase (AddApp app ∷ calls) more = phase_after-append phase calls more
  phase_after-append phase (Start ∷ calls) more = phase_after-append (Reached 0) calls more
  phase_after-append phase (LineAt moment line ∷ calls) more = phase_after-append (Reached moment) calls more
  phase_after-append phase (AdvanceTo moment ∷ calls) more = phase_after-append (Reached moment) calls more
  phase_after-append phase (End moment ∷ calls) more = phase_after-append (Finished moment) calls more

  lines_after-append : (earlier : List Line) (calls more : List (Call M)) → lines_after earlier (calls ++ more) ≡ lines_after (lines_after earlier calls) more
  lines_after-append earlier [] more = refl
  lines_after-append earlier (AddApp app ∷ calls) more = lines_after-append earlier calls more
  lines_after-append earlier (Start ∷ calls) more = lines_after-append [] calls more
  lines_after-append earlier (LineAt moment line ∷ calls) more = lines_after-append (at moment line ∷ earlier) calls more
  lines_after-append earlier (AdvanceTo moment ∷ calls) more = lines_after-append earlier calls more
  lines_after-append earlier (End moment ∷ calls) more = lines_after-append earlier calls more

module _ {M : Type 0} (answer : M → Meaning) where
  -- ── one application ──

  -- an application that has been started is as it is by itself at moment 0
  started_alone : (app : Given M) → stage_done answer 0 (part_in answer Adding [] app) ≡ part_in answer (Reached 0) [] app
  started_alone app =
      let there : Application M = started answer 0 app.spec.script (fresh app.spec) in
      begins_with_script answer 0 app.spec
      ∙ ap (λ (a : Application M). record { application = a; work = Rests }) (sym (passed_past answer 0 there (started_is_past answer 0 app.spec.script (fresh app.spec))))

  -- and one that has passed from a moment to a later one as it is there
  brought_alone : (before moment : ℕ) → before ≤ moment → (routed : List LocalEvent) (app : Given M) → with_passed answer moment (part_in answer (Reached before) routed app) ≡ part_in answer (Reached moment) routed app
  brought_alone before moment le routed app =
      ap (λ (a : Application M). record { application = a; work = Rests }) (passed_passed answer before moment (after_events answer app.spec routed) le)

  -- and one that did what comes of events is as it is with these
  events_alone : (moment : ℕ) (events earlier : List LocalEvent) (spec : Spec M) → AreOf moment events
      → after_each answer events (passed answer moment (after_events answer spec earlier)) ≡ passed answer moment (after_events answer spec (reverse events ++ earlier))
  events_alone moment [] earlier spec at = refl
  events_alone moment (event ∷ events) earlier spec at =
      let there : Application M = after_events answer spec (event ∷ earlier) in
      let quiet : IsPast moment (next_due there) =
      subst (λ m. IsPast m (next_due there)) at.0 (settled_is_past answer event.moment (delivered event (passed answer event.moment (after_events answer spec earlier)))) in
      let turned : reverse (event ∷ events) ++ earlier ≡ reverse events ++ event ∷ earlier =
      ap (λ es. es ++ earlier) (reverse-append (event ∷ []) events) ∙ append_assoc (reverse events) (event ∷ []) earlier in
      ap (λ m. after_each answer events (settled answer event.moment (delivered event (passed answer m (after_events answer spec earlier))))) (sym at.0)
      ∙ ap (after_each answer events) (sym (passed_past answer moment there quiet))
      ∙ events_alone moment events (event ∷ earlier) spec at.1
      ∙ ap (λ es. passed answer moment (after_events answer spec es)) (sym turned)

  -- ── all of them ──

  adding_parts : (first : List Rect) (lines : List Line) (slot : ℕ) (apps : List (Given M)) → parts_in answer Adding first lines slot apps ≡ map (λ app. added app.spec) apps
  adding_parts first lines slot [] = refl
  adding_parts first lines slot (app ∷ apps) = ap (λ ps. added app.spec ∷ ps) (adding_parts first lines (slot + 1) apps)

  started_parts : (first : List Rect) (lines : List Line) (slot : ℕ) (apps : List (Given M)) → map (stage_done answer 0) (parts_in answer Adding first lines slot apps) ≡ parts_in answer (Reached 0) first [] slot apps
  started_parts first lines slot [] = refl
  started_parts first lines slot (app ∷ apps) =
      ap (λ p. p ∷ map (stage_done answer 0) (parts_in answer Adding first lines (slot + 1) apps)) (started_alone app)
      ∙ ap (λ ps. part_in answer (Reached 0) [] app ∷ ps) (started_parts first lines (slot + 1) apps)

  brought_parts : (before moment : ℕ) → before ≤ moment → (first : List Rect) (lines : List Line) (slot : ℕ) (apps : List (Given M))
      → map (with_passed answer moment) (parts_in answer (Reached before) first lines slot apps) ≡ parts_in answer (Reached moment) first lines slot apps
  brought_parts before moment le first lines slot [] = refl
  brought_parts before moment le first lines slot (app ∷ apps) =
      ap (λ p. p ∷ map (with_passed answer moment) (parts_in answer (Reached before) first lines (slot + 1) apps)) (brought_alone before moment le (routed first lines slot) app)
      ∙ ap (λ ps. part_in answer (Reached moment) (routed first lines slot) app ∷ ps) (brought_parts before moment le first lines (slot + 1) apps)

  finished_parts : (moment : ℕ) (first : List Rect) (lines : List Line) (slot : ℕ) (apps : List (Given M)) → parts_in answer (Reached moment) first lines slot apps ≡ parts_in answer (Finished moment) first lines slot apps
  finished_parts moment first lines slot [] = refl
  finished_parts moment first lines slot (app ∷ apps) = ap (λ ps. part_in answer (Reached moment) (routed first lines slot) app ∷ ps) (finished_parts moment first lines (slot + 1) apps)

  lined_parts : (before moment : ℕ) (line : HostLine) → before ≤ moment → (first : List Rect) (lines : List Line) (slot : ℕ) (apps : List (Given M))
      → map at_rest (after_given answer slot (routes first lines (at moment line)) (map (passed answer moment) (applications (parts_in answer (Reached before) first lines slot apps))))
      ≡ parts_in answer (Reached moment) first (at moment line ∷ lines) slot apps
  lined_parts before moment line le first lines slot [] = refl
  lined_parts before moment line le first lines slot (app ∷ apps) =
      let given : List Delivery = routes first lines (at moment line) in
      let events : List LocalEvent = events_of slot given in
      let old : List LocalEvent = routed first lines slot in
      let one : after_each answer events (passed answer moment (alone answer app.spec old before)) ≡ alone answer app.spec (reverse events ++ old) moment =
      ap (after_each answer events) (passed_passed answer before moment (after_events answer app.spec old) le)
      ∙ events_alone moment events old app.spec (events_at moment slot given (routes_at first lines (at moment line))) in
      ap (λ (a : Application M). at_rest a ∷ map at_rest (after_given answer (slot + 1) given (map (passed answer moment) (applications (parts_in answer (Reached before) first lines (slot + 1) apps))))) one
      ∙ ap (λ ps. part_in answer (Reached moment) (reverse events ++ old) app ∷ ps) (lined_parts before moment line le first lines (slot + 1) apps)

  -- ── what a call of the host leaves, where it held what a list of calls leads to ──

  -- the same by another phase, other applications and other lines
  held_same : (phase other : Phase) (apps more : List (Given M)) (lines lines' : List Line) → phase ≡ other → apps ≡ more → lines ≡ lines' → held_in answer phase apps lines ≡ held_in answer other more lines'
  held_same phase other apps more lines lines' phases given told =
      ap (λ p. held_in answer p apps lines) phases ∙ ap (λ more. held_in answer other more lines) given ∙ ap (held_in answer other more) told

  -- one that adds none
  leads_on : (calls : List (Call M)) (call : Call M) (phase : Phase) (lines : List Line) → given_by (call ∷ []) ≡ [] → phase_after (phase_after Adding calls) (call ∷ []) ≡ phase
      → lines_after (lines_of calls) (call ∷ []) ≡ lines → held_in answer phase (given_by calls) lines ≡ held_after answer (calls ++ call ∷ [])
  leads_on calls call phase lines none leads tells =
      held_same phase (phase_after Adding (calls ++ call ∷ [])) (given_by calls) (given_by (calls ++ call ∷ [])) lines (lines_of (calls ++ call ∷ []))
      (sym (phase_after-append Adding calls (call ∷ []) ∙ leads))
      (sym (given_by-append calls (call ∷ []) ∙ ap (λ apps. given_by calls ++ apps) none ∙ append-nil (given_by calls)))
      (sym (lines_after-append [] calls (call ∷ []) ∙ tells))

  -- what it held, in the phase that it was in
  was_in : (calls : List (Call M)) (old : HostState M) (phase : Phase) → old ≡ held_after answer calls → old.phase ≡ phase → old ≡ held_in answer phase (given_by calls) (lines_of calls)
  was_in calls old phase held is =
      held ∙ ap (λ p. held_in answer p (given_by calls) (lines_of calls)) (sym (ap (λ (h : HostState M). h.phase) held) ∙ is)

  pub history_of_add : (calls : List (Call M)) (app : Given M) (old : Hosted M) (new : HostState M) → old.held ≡ held_after answer calls → old.held.phase ≡ Adding → new ≡ (with_app app old).held
      → new ≡ held_after answer (calls ++ AddApp app ∷ [])
  history_of_add calls app old new held adding now =
      let apps : List (Given M) = given_by calls in
      let lines : List Line = lines_of calls in
      let first : List Rect = map rect_of apps in
      let rects : first ++ rect_of app ∷ [] ≡ map rect_of (apps ++ app ∷ []) = sym (map-append rect_of apps (app ∷ [])) in
      let parts : parts_in answer Adding first lines 0 apps ++ added app.spec ∷ [] ≡ parts_in answer Adding (map rect_of (apps ++ app ∷ [])) lines 0 (apps ++ app ∷ []) =
      ap (λ ps. ps ++ added app.spec ∷ []) (adding_parts first lines 0 apps)
      ∙ sym (map-append (λ (a : Given M). added a.spec) apps (app ∷ []))
      ∙ sym (adding_parts (map rect_of (apps ++ app ∷ [])) lines 0 (apps ++ app ∷ [])) in
      now
      ∙ ap (λ (h : HostState M). record { phase = h.phase; known = values (h.known.rects ++ rect_of app ∷ []) []; parts = h.parts ++ added app.spec ∷ [] }) (was_in calls old.held Adding held adding)
      ∙ ap (λ rs. record { phase = Adding; known = values rs []; parts = parts_in answer Adding first lines 0 apps ++ added app.spec ∷ [] }) rects
      ∙ ap (λ ps. record { phase = Adding; known = values (map rect_of (apps ++ app ∷ [])) []; parts = ps }) parts
      ∙ held_same Adding (phase_after Adding (calls ++ AddApp app ∷ [])) (apps ++ app ∷ []) (given_by (calls ++ AddApp app ∷ [])) lines (lines_of (calls ++ AddApp app ∷ []))
      (sym (phase_after-append Adding calls (AddApp app ∷ []) ∙ sym (ap (λ (h : HostState M). h.phase) held) ∙ adding)) (sym (given_by-append calls (AddApp app ∷ []))) (sym (lines_after-append [] calls (AddApp app ∷ [])))

  pub history_of_start : (calls : List (Call M)) (old : Hosted M) (new : HostState M) → old.held ≡ held_after answer calls → old.held.phase ≡ Adding → new ≡ (after_start answer old).held
      → new ≡ held_after answer (calls ++ Start ∷ [])
  history_of_start calls old new held adding now =
      let apps : List (Given M) = given_by calls in
      let first : List Rect = map rect_of apps in
      now
      ∙ ap (λ (h : HostState M). record { phase = Reached 0; known = h.known; parts = map (stage_done answer 0) h.parts }) (was_in calls old.held Adding held adding)
      ∙ ap (λ ps. record { phase = Reached 0; known = values first []; parts = ps }) (started_parts first (lines_of calls) 0 apps)
      ∙ leads_on calls Start (Reached 0) [] refl refl refl

  -- what the host has where it went on to a moment
  gone_in : (calls : List (Call M)) (before moment : ℕ) (phase : Phase) (old new : Hosted M) → old.held ≡ held_after answer calls → old.held.phase ≡ Reached before → before ≤ moment
      → new ≡ gone_to answer phase moment old
      → new.held ≡ record { phase = phase; known = values (map rect_of (given_by calls)) (lines_of calls); parts = parts_in answer (Reached moment) (map rect_of (given_by calls)) (lines_of calls) 0 (given_by calls) }
  gone_in calls before moment phase old new held from le now =
      let apps : List (Given M) = given_by calls in
      let first : List Rect = map rect_of apps in
      ap (λ (h : Hosted M). h.held) now
      ∙ ap (λ (h : HostState M). record { phase = phase; known = h.known; parts = map (with_passed answer moment) h.parts }) (was_in calls old.held (Reached before) held from)
      ∙ ap (λ ps. record { phase = phase; known = values first (lines_of calls); parts = ps }) (brought_parts before moment le first (lines_of calls) 0 apps)

  pub history_of_advance : (calls : List (Call M)) (before moment : ℕ) (old new : Hosted M) → old.held ≡ held_after answer calls → old.held.phase ≡ Reached before → before ≤ moment
      → new ≡ gone_to answer (Reached moment) moment old → new.held ≡ held_after answer (calls ++ AdvanceTo moment ∷ [])
  history_of_advance calls before moment old new held from le now =
      gone_in calls before moment (Reached moment) old new held from le now ∙ leads_on calls (AdvanceTo moment) (Reached moment) (lines_of calls) refl refl refl

  pub history_of_end : (calls : List (Call M)) (before moment : ℕ) (old new : Hosted M) → old.held ≡ held_after answer calls → old.held.phase ≡ Reached before → before ≤ moment
      → new ≡ gone_to answer (Finished moment) moment old → new.held ≡ held_after answer (calls ++ End moment ∷ [])
  history_of_end calls before moment old new held from le now =
      let first : List Rect = map rect_of (given_by calls) in
      gone_in calls before moment (Finished moment) old new held from le now
      ∙ ap (λ ps. record { phase = Finished moment; known = values first (lines_of calls); parts = ps }) (finished_parts moment first (lines_of calls) 0 (given_by calls))
      ∙ leads_on calls (End moment) (Finished moment) (lines_of calls) refl refl refl

  -- what is known is known by the lines
  pub known_lines : (calls : List (Call M)) (before : ℕ) (old : HostState M) → old ≡ held_after answer calls → old.phase ≡ Reached before → old.known ≡ values (first_rects calls) (lines_of calls)
  known_lines calls before old held from = ap (λ (h : HostState M). h.known) (was_in calls old (Reached before) held from)

  pub history_of_line : (calls : List (Call M)) (before moment : ℕ) (line : HostLine) (old new : Hosted M) → old.held ≡ held_after answer calls → old.held.phase ≡ Reached before → before ≤ moment
      → ((first : List Rect) (earlier : List Line) → old.held.known ≡ values first earlier → new ≡ after_line answer first earlier (at moment line) old)
      → new.held ≡ held_after answer (calls ++ LineAt moment line ∷ [])
  history_of_line calls before moment line old new held from le lined =
      let apps : List (Given M) = given_by calls in
      let first : List Rect = map rect_of apps in
      let lines : List Line = lines_of calls in
      ap (λ (h : Hosted M). h.held) (lined first lines (known_lines calls before old.held held from))
      ∙ ap (λ (h : HostState M). record {
        phase = Reached moment;
        known = values first (at moment line ∷ lines);
        parts = map at_rest (after_given answer 0 (routes first lines (at moment line)) (map (passed answer moment) (applications h.parts)));
      }) (was_in calls old.held (Reached before) held from)
      ∙ ap (λ ps. record { phase = Reached moment; known = values first (at moment line ∷ lines); parts = ps }) (lined_parts before moment line le first lines 0 apps)
      ∙ leads_on calls (LineAt moment line) (Reached moment) (at moment line ∷ lines) refl refl refl

  -- ── turns ──

  steps_of_start : (app : Given M) → needs answer 0 (part_in answer Adding [] app) ≡ steps_at_start answer app.spec
  steps_of_start app = ap (λ (p : Part M). app.spec.budget.total - p.application.steps) (begins_with_script answer 0 app.spec)

  pub turns_of_start : (calls : List (Call M)) (old : Hosted M) (new : List Turn) → old.held ≡ held_after answer calls → old.held.phase ≡ Adding → new ≡ (after_start answer old).turns
      → new ≡ turns_after answer old.slice calls Start
  turns_of_start calls old new held adding now =
      let apps : List (Given M) = given_by calls in
      now
      ∙ ap (λ (h : HostState M). turns_at_start answer old.slice h.parts) (was_in calls old.held Adding held adding)
      ∙ ap (λ ps. turns_at_start answer old.slice ps) (adding_parts (map rect_of apps) (lines_of calls) 0 apps)
      ∙ ap (turns_of old.slice) (map-map (needs answer 0) (λ (app : Given M). added app.spec) apps ∙ map_same (λ (app : Given M). needs answer 0 (added app.spec)) (λ app. steps_at_start answer app.spec) steps_of_start apps)

  pub turns_of_going : (calls : List (Call M)) (after : Phase) (moment : ℕ) (old new : Hosted M) → old.held ≡ held_after answer calls → new ≡ gone_to answer after moment old
      → new.turns ≡ turns_on_the_way answer old.slice moment (applications (held_after answer calls).parts)
  turns_of_going calls after moment old new held now =
      ap (λ (h : Hosted M). h.turns) now ∙ ap (λ (h : HostState M). turns_on_the_way answer old.slice moment (applications h.parts)) held

  pub turns_of_line : (calls : List (Call M)) (before moment : ℕ) (line : HostLine) (old new : Hosted M) → old.held ≡ held_after answer calls → old.held.phase ≡ Reached before
      → ((first : List Rect) (earlier : List Line) → old.held.known ≡ values first earlier → new ≡ after_line answer first earlier (at moment line) old)
      → new.turns ≡ turns_after answer old.slice calls (LineAt moment line)
  turns_of_line calls before moment line old new held from lined =
      let first : List Rect = first_rects calls in
      let lines : List Line = lines_of calls in
      let given : List Delivery = routes first lines (at moment line) in
      ap (λ (h : Hosted M). h.turns) (lined first lines (known_lines calls before old.held held from))
      ∙ ap (λ (h : HostState M). turns_on_the_way answer old.slice moment (applications h.parts)
      ++ turns_given answer old.slice (stages_of given) (map (passed answer moment) (applications h.parts))) held

  -- the turns that a line would have had
  pub whole_of_line : (calls : List (Call M)) (moment : ℕ) (line : HostLine) (old : Hosted M) → old.held ≡ held_after answer calls
      → (after_line answer (first_rects calls) (lines_of calls) (at moment line) old).turns ≡ turns_after answer old.slice calls (LineAt moment line)
  whole_of_line calls moment line old held =
      let given : List Delivery = routes (first_rects calls) (lines_of calls) (at moment line) in
      ap (λ (h : HostState M). turns_on_the_way answer old.slice moment (applications h.parts)
      ++ turns_given answer old.slice (stages_of given) (map (passed answer moment) (applications h.parts))) held

  -- ── sections ──

  -- the sections of what is held are those of the applications by themselves
  pub sections_of_held : (calls : List (Call M)) (held : HostState M) → held ≡ held_after answer calls → map (λ part. section part.application) held.parts ≡ sections_after answer calls
  sections_of_held calls held e = ap (λ (h : HostState M). map (λ (part : Part M). section part.application) h.parts) e

  part_at : (phase : Phase) (first : List Rect) (lines : List Line) (n i slot : ℕ) (apps : List (Given M)) (app : Given M) → n + i ≡ slot → slice_get apps i ≡ Some app
      → slice_get (parts_in answer phase first lines n apps) i ≡ Some (part_in answer phase (routed first lines slot) app)
  part_at phase first lines n i slot [] app e is = cc
  part_at phase first lines n zero slot (a ∷ apps) app e is =
      let here : n ≡ slot = omega (arith, e) in
      let same : a ≡ app = cc in
      ap (λ m. Some (part_in answer phase (routed first lines m) a)) here ∙ ap (λ b. Some (part_in answer phase (routed first lines slot) b)) same
  part_at phase first lines n (suc i) slot (a ∷ apps) app e is = part_at phase first lines (n + 1) i slot apps app (omega (arith, e)) is

  section_at : (calls : List (Call M)) (slot : ℕ) (app : Given M) → slice_get (given_by calls) slot ≡ Some app
      → slice_get (sections_after answer calls) slot ≡ Some (section (application_in answer (phase_after Adding calls) (routed (first_rects calls) (lines_of calls) slot) app.spec))
  section_at calls slot app is =
      let section_of : Part M → List ℕ = λ part. section part.application in
      slice_get-map section_of (held_after answer calls).parts slot
      ∙ ap (option_map section_of) (part_at (phase_after Adding calls) (first_rects calls) (lines_of calls) 0 slot slot (given_by calls) app (omega arith) is)

  pub each_by_itself_holds : EachByItself answer
  each_by_itself_holds calls others slot other_slot app other phases is there same events =
      let here : Phase = phase_after Adding calls in
      let elsewhere : Phase = phase_after Adding others in
      let mine : List LocalEvent = routed (first_rects calls) (lines_of calls) slot in
      let theirs : List LocalEvent = routed (first_rects others) (lines_of others) other_slot in
      section_at calls slot app is
      ∙ ap (λ phase. Some (section (application_in answer phase mine app.spec))) phases
      ∙ ap (λ es. Some (section (application_in answer elsewhere es app.spec))) events
      ∙ ap (λ spec. Some (section (application_in answer elsewhere theirs spec))) same
      ∙ sym (section_at others other_slot other there)
