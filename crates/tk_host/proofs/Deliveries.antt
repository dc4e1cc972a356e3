-- What events make of a list of parts.
use Rattle.std.proofs.Common.{◌≡◌, ◌≢◌, ◌+◌, ◌-◌, ◌<◌, ◌≤◌, ℕ, zero, suc, Bool, true, false, ◌||◌, cond, List, [], ◌∷◌, ◌++◌, length, set, map, Some, refl, sym, ap, ◌∙◌, append-nil, append_assoc, eq-eqb, arith}
use Rattle.std.specs.Prelude.{nat_eq, slice_get, ◌==◌, if◌then◌else◌}
use Rattle.std.proofs.lemmas.Bool.{eqb-true}
use Rattle.tk_base.specs.declared.local_event.LocalEvent.{LocalEvent}
use Rattle.tk_route.specs.declared.delivery.Delivery.{Delivery}
use Rattle.tk_app.specs.Rounds.{turns_of}
use Rattle.tk_app.specs.Application.{Application}
use Rattle.tk_app.specs.Moments.{delivered}
use Rattle.tk_app.specs.Part.{Part, Rests, needs, settling_begun, stage_done}
use Rattle.tk_app.specs.Seen.{Meaning}
use Rattle.tk_app.specs.Turns.{Applications, BeginsIn, DeliversIn}
use Rattle.tk_app.proofs.Parts.{settles_from_rest}
use Rattle.tk_host.specs.AloneByJob.{after_event}
use Rattle.tk_host.specs.Held.{at_rest}
use Rattle.tk_host.specs.Ready.{AllRest}
use Rattle.tk_host.specs.Slots.{given_event, given_from}
use Rattle.tk_host.specs.Turns.{after_each, after_given, applications, stages_of, steps_for, steps_given, turns_given}
use Rattle.tk_host.proofs.Parts.{apps_at, done_at_rest, rests}

-- the event of each delivery
abbrev event_in : Delivery → LocalEvent
event_in delivery = delivery.event

-- ── one part is given an event ──

module _ {M : Type 0} (answer : M → Meaning) where
  given_done : (event : LocalEvent) (part : Part M) → part.work ≡ Rests → stage_done answer event.moment (given_event event part) ≡ at_rest (after_event answer event part.application)
  given_done event part is =
      ap (λ (p : Part M). stage_done answer event.moment (given_event event p)) (rests answer part is) ∙ settles_from_rest answer event.moment (delivered event part.application)

  stays : (moment : ℕ) (part : Part M) → part.work ≡ Rests → stage_done answer moment part ≡ at_rest part.application
  stays moment part is = done_at_rest answer moment part is ∙ rests answer part is

  needs_given : (event : LocalEvent) (part : Part M) → part.work ≡ Rests
      → needs answer event.moment (given_event event part) ≡ (delivered event part.application).steps - (after_event answer event part.application).steps
  needs_given event part is = ap (λ (p : Part M). (delivered event part.application).steps - p.application.steps) (given_done event part is)

  needs_none : (moment : ℕ) (part : Part M) → part.work ≡ Rests → needs answer moment part ≡ 0
  needs_none moment part is = ap (λ (p : Part M). part.application.steps - p.application.steps) (stays moment part is) ∙ omega arith

  -- ── a stage of one event ──

  done_if : (b : Bool) (delivery : Delivery) (moment : ℕ) (part : Part M) → delivery.event.moment ≡ moment → part.work ≡ Rests
      → stage_done answer moment (if b then given_event delivery.event part else part) ≡ at_rest (after_each answer (map event_in (cond b (delivery ∷ []) [])) part.application)
  done_if true delivery moment part at is = ap (λ m. stage_done answer m (given_event delivery.event part)) (sym at) ∙ given_done delivery.event part is
  done_if false delivery moment part at is = stays moment part is

  pub done_one : (slot : ℕ) (delivery : Delivery) (moment : ℕ) (parts : List (Part M)) → delivery.event.moment ≡ moment → AllRest parts
      → map (stage_done answer moment) (given_from slot delivery parts) ≡ map at_rest (after_given answer slot (delivery ∷ []) (applications parts))
  done_one slot delivery moment [] at rest = refl
  done_one slot delivery moment (part ∷ parts) at rest =
      ap (λ p. p ∷ map (stage_done answer moment) (given_from (slot + 1) delivery parts)) (done_if (delivery.slot == slot) delivery moment part at rest.0)
      ∙ ap (λ ps. at_rest (after_each answer (map event_in (cond (delivery.slot == slot) (delivery ∷ []) [])) part.application) ∷ ps) (done_one (slot + 1) delivery moment parts at rest.1)

  needs_if : (b : Bool) (delivery : Delivery) (moment : ℕ) (part : Part M) → delivery.event.moment ≡ moment → part.work ≡ Rests
      → needs answer moment (if b then given_event delivery.event part else part) ≡ steps_for answer (map event_in (cond b (delivery ∷ []) [])) part.application
  needs_if true delivery moment part at is =
      let told = needs_given delivery.event part is in
      ap (λ m. needs answer m (given_event delivery.event part)) (sym at) ∙ omega (arith, told)
  needs_if false delivery moment part at is = needs_none moment part is

  pub needs_one : (slot : ℕ) (delivery : Delivery) (moment : ℕ) (parts : List (Part M)) → delivery.event.moment ≡ moment → AllRest parts
      → map (needs answer moment) (given_from slot delivery parts) ≡ steps_given answer slot (delivery ∷ []) (applications parts)
  needs_one slot delivery moment [] at rest = refl
  needs_one slot delivery moment (part ∷ parts) at rest =
      ap (λ n. n ∷ map (needs answer moment) (given_from (slot + 1) delivery parts)) (needs_if (delivery.slot == slot) delivery moment part at rest.0)
      ∙ ap (λ ns. steps_for answer (map event_in (cond (delivery.slot == slot) (delivery ∷ []) [])) part.application ∷ ns) (needs_one (slot + 1) delivery moment parts at rest.1)

  -- ── a stage of two events, for different applications ──

  abbrev events_by : Bool → Bool → Delivery → Delivery → List LocalEvent
  events_by b c first second = map event_in (cond b (first ∷ cond c (second ∷ []) []) (cond c (second ∷ []) []))

  abbrev given_by : Bool → Bool → Delivery → Delivery → Part M → Part M
  given_by b c first second part = let there : Part M = if b then given_event first.event part else part in if c then given_event second.event there else there

  module _ (first second : Delivery) (moment : ℕ) (differ : first.slot ≢ second.slot) (at : first.event.moment ≡ moment) (also : second.event.moment ≡ moment) where
    done_both : (slot : ℕ) (b c : Bool) (part : Part M) → nat_eq first.slot slot ≡ b → nat_eq second.slot slot ≡ c → part.work ≡ Rests
        → stage_done answer moment (given_by b c first second part) ≡ at_rest (after_each answer (events_by b c first second) part.application)
    done_both slot true true part one other is = let here : first.slot ≡ slot = eqb-true first.slot slot one in let there : second.slot ≡ slot = eqb-true second.slot slot other in absurd (differ (here ∙ sym there))
    done_both slot true false part one other is = done_if true first moment part at is
    done_both slot false true part one other is = done_if true second moment part also is
    done_both slot false false part one other is = stays moment part is

    pub done_two : (slot : ℕ) (parts : List (Part M)) → AllRest parts
        → map (stage_done answer moment) (given_from slot second (given_from slot first parts)) ≡ map at_rest (after_given answer slot (first ∷ second ∷ []) (applications parts))
    done_two slot [] rest = refl
    done_two slot (part ∷ parts) rest =
        ap (λ p. p ∷ map (stage_done answer moment) (given_from (slot + 1) second (given_from (slot + 1) first parts)))
        (done_both slot (nat_eq first.slot slot) (nat_eq second.slot slot) part refl refl rest.0)
        ∙ ap (λ ps. at_rest (after_each answer (events_by (nat_eq first.slot slot) (nat_eq second.slot slot) first second) part.application) ∷ ps) (done_two (slot + 1) parts rest.1)

    needs_both : (slot : ℕ) (b c : Bool) (part : Part M) → nat_eq first.slot slot ≡ b → nat_eq second.slot slot ≡ c → part.work ≡ Rests
        → needs answer moment (given_by b c first second part) ≡ steps_for answer (events_by b c first second) part.application
    needs_both slot true true part one other is = let here : first.slot ≡ slot = eqb-true first.slot slot one in let there : second.slot ≡ slot = eqb-true second.slot slot other in absurd (differ (here ∙ sym there))
    needs_both slot true false part one other is = needs_if true first moment part at is
    needs_both slot false true part one other is = needs_if true second moment part also is
    needs_both slot false false part one other is = needs_none moment part is

    pub needs_two : (slot : ℕ) (parts : List (Part M)) → AllRest parts
        → map (needs answer moment) (given_from slot second (given_from slot first parts)) ≡ steps_given answer slot (first ∷ second ∷ []) (applications parts)
    needs_two slot [] rest = refl
    needs_two slot (part ∷ parts) rest =
        ap (λ n. n ∷ map (needs answer moment) (given_from (slot + 1) second (given_from (slot + 1) first parts)))
        (needs_both slot (nat_eq first.slot slot) (nat_eq second.slot slot) part refl refl rest.0)
        ∙ ap (λ ns. steps_for answer (events_by (nat_eq first.slot slot) (nat_eq second.slot slot) first second) part.application ∷ ns) (needs_two (slot + 1) parts rest.1)

  -- ── two stages ──

  after_both : (b c : Bool) (first second : Delivery) (application : Application M)
      → after_each answer (map event_in (cond c (second ∷ []) [])) (after_each answer (map event_in (cond b (first ∷ []) [])) application) ≡ after_each answer (events_by b c first second) application
  after_both true true first second application = refl
  after_both true false first second application = refl
  after_both false true first second application = refl
  after_both false false first second application = refl

  pub after_two : (slot : ℕ) (first second : Delivery) (apps : List (Application M))
      → after_given answer slot (second ∷ []) (after_given answer slot (first ∷ []) apps) ≡ after_given answer slot (first ∷ second ∷ []) apps
  after_two slot first second [] = refl
  after_two slot first second (application ∷ apps) =
      ap (λ a. a ∷ after_given answer (slot + 1) (second ∷ []) (after_given answer (slot + 1) (first ∷ []) apps))
      (after_both (nat_eq first.slot slot) (nat_eq second.slot slot) first second application)
      ∙ ap (λ apps. after_each answer (events_by (nat_eq first.slot slot) (nat_eq second.slot slot) first second) application ∷ apps) (after_two (slot + 1) first second apps)

  -- without an event all stay
  pub after_none : (slot : ℕ) (apps : List (Application M)) → after_given answer slot [] apps ≡ apps
  after_none slot [] = refl
  after_none slot (application ∷ apps) = ap (λ apps. application ∷ apps) (after_none (slot + 1) apps)

  -- the turns of these stages
  pub turns_one : (slice : ℕ) (delivery : Delivery) (apps : List (Application M))
      → turns_given answer slice (stages_of (delivery ∷ [])) apps ≡ turns_of slice (steps_given answer 0 (delivery ∷ []) apps)
  turns_one slice delivery apps = append-nil (turns_of slice (steps_given answer 0 (delivery ∷ []) apps))

  pub turns_apart : (slice : ℕ) (first second : Delivery) (apps : List (Application M)) → first.slot ≢ second.slot
      → turns_given answer slice (stages_of (first ∷ second ∷ [])) apps ≡ turns_of slice (steps_given answer 0 (first ∷ second ∷ []) apps)
  turns_apart slice first second apps differ = by (nat_eq first.slot second.slot) refl
    where
      stages : Bool → List (List Delivery)
      stages b = if b || false then (first ∷ []) ∷ (second ∷ []) ∷ [] else (first ∷ second ∷ []) ∷ []

      by : (b : Bool) → nat_eq first.slot second.slot ≡ b → turns_given answer slice (stages b) apps ≡ turns_of slice (steps_given answer 0 (first ∷ second ∷ []) apps)
      by true is = absurd (differ (eqb-true first.slot second.slot is))
      by false is = append-nil (turns_of slice (steps_given answer 0 (first ∷ second ∷ []) apps))

  pub turns_same : (slice : ℕ) (first second : Delivery) (apps : List (Application M)) → first.slot ≡ second.slot
      → turns_given answer slice (stages_of (first ∷ second ∷ [])) apps
      ≡ turns_of slice (steps_given answer 0 (first ∷ []) apps) ++ turns_of slice (steps_given answer 0 (second ∷ []) (after_given answer 0 (first ∷ []) apps))
  turns_same slice first second apps same =
      ap (λ b. turns_given answer slice (if b || false then (first ∷ []) ∷ (second ∷ []) ∷ [] else (first ∷ second ∷ []) ∷ []) apps) (eq-eqb first.slot second.slot same)
      ∙ ap (λ ts. turns_of slice (steps_given answer 0 (first ∷ []) apps) ++ ts) (append-nil (turns_of slice (steps_given answer 0 (second ∷ []) (after_given answer 0 (first ∷ []) apps))))

  -- the applications where they rest behind an event
  pub apps_after : (first : Delivery) (apps : List (Application M)) (parts : List (Part M)) → parts ≡ map at_rest (after_given answer 0 (first ∷ []) apps)
      → applications parts ≡ after_given answer 0 (first ∷ []) apps
  apps_after first apps parts is = ap applications is ∙ apps_at answer (after_given answer 0 (first ∷ []) apps)

  -- the turns of one stage, and then those of the other, are those of both
  pub turns_joined : (slice : ℕ) (first second : Delivery) (old there : Applications M) → first.slot ≡ second.slot
      → there.turns ≡ old.turns ++ turns_given answer slice (stages_of (first ∷ [])) (applications old.parts) → applications there.parts ≡ after_given answer 0 (first ∷ []) (applications old.parts)
      → there.turns ++ turns_given answer slice (stages_of (second ∷ [])) (applications there.parts) ≡ old.turns ++ turns_given answer slice (stages_of (first ∷ second ∷ [])) (applications old.parts)
  turns_joined slice first second old there same told mid =
      let apps : List (Application M) = applications old.parts in
      let next : List (Application M) = after_given answer 0 (first ∷ []) apps in
      ap (λ ts. there.turns ++ ts) (turns_one slice second (applications there.parts))
      ∙ ap (λ parts. there.turns ++ turns_of slice (steps_given answer 0 (second ∷ []) parts)) mid
      ∙ ap (λ ts. ts ++ turns_of slice (steps_given answer 0 (second ∷ []) next)) (told ∙ ap (λ ts. old.turns ++ ts) (turns_one slice first apps))
      ∙ append_assoc old.turns (turns_of slice (steps_given answer 0 (first ∷ []) apps)) (turns_of slice (steps_given answer 0 (second ∷ []) next))
      ∙ ap (λ ts. old.turns ++ ts) (sym (turns_same slice first second apps same))

-- ── the part in a slot is given an event ──

module _ {M : Type 0} where
  pub rests_in : (parts : List (Part M)) (i : ℕ) (part : Part M) → AllRest parts → slice_get parts i ≡ Some part → part.work ≡ Rests
  rests_in [] i part rest is = cc
  rests_in (p ∷ ps) zero part rest is = let same : p ≡ part = cc in ap (λ (q : Part M). q.work) (sym same) ∙ rest.0
  rests_in (p ∷ ps) (suc i) part rest is = rests_in ps i part rest.1 is

  get_set : (parts : List (Part M)) (i : ℕ) (part other : Part M) → slice_get parts i ≡ Some part → slice_get (set parts i other) i ≡ Some other
  get_set [] i part other is = cc
  get_set (p ∷ ps) zero part other is = refl
  get_set (p ∷ ps) (suc i) part other is = get_set ps i part other is

  set_set : (parts : List (Part M)) (i : ℕ) (one other : Part M) → set (set parts i one) i other ≡ set parts i other
  set_set [] i one other = refl
  set_set (p ∷ ps) zero one other = refl
  set_set (p ∷ ps) (suc i) one other = ap (λ qs. p ∷ qs) (set_set ps i one other)

  module _ (delivery : Delivery) where
    abbrev given_if : Bool → Part M → Part M
    given_if b part = if b then given_event delivery.event part else part

    -- none of these parts is in its slot
    given_apart : (n : ℕ) (parts : List (Part M)) → ((slot : ℕ) → n ≤ slot → slot < n + length parts → delivery.slot ≢ slot) → given_from n delivery parts ≡ parts
    given_apart n [] apart = refl
    given_apart n (p ∷ ps) apart =
        by (nat_eq delivery.slot n) refl
        ∙ ap (λ qs. p ∷ qs) (given_apart (n + 1) ps (λ slot from below. apart slot (omega (arith, from)) (omega (arith, below))))
      where
        by : (b : Bool) → nat_eq delivery.slot n ≡ b → given_if b p ∷ given_from (n + 1) delivery ps ≡ p ∷ given_from (n + 1) delivery ps
        by true is = absurd (apart n (omega arith) (omega arith) (eqb-true delivery.slot n is))
        by false is = refl

    given_past : (n : ℕ) (parts : List (Part M)) → delivery.slot < n → given_from n delivery parts ≡ parts
    given_past n parts less = given_apart n parts (λ slot from below same. omega (arith, same, from, less))

    -- nobody is given what is behind the last slot
    pub given_nobody : (n : ℕ) (parts : List (Part M)) → n + length parts ≤ delivery.slot → given_from n delivery parts ≡ parts
    given_nobody n parts far = given_apart n parts (λ slot from below same. omega (arith, same, below, far))

    -- as many as before
    pub given_length : (n : ℕ) (parts : List (Part M)) → length (given_from n delivery parts) ≡ length parts
    given_length n [] = refl
    given_length n (p ∷ ps) = ap suc (given_length (n + 1) ps)

    given_at : (n i : ℕ) (parts : List (Part M)) (part : Part M) → n + i ≡ delivery.slot → slice_get parts i ≡ Some part → given_from n delivery parts ≡ set parts i (given_event delivery.event part)
    given_at n i [] part e is = cc
    given_at n zero (p ∷ ps) part e is =
        let here : delivery.slot ≡ n = omega (arith, e) in
        let same : p ≡ part = cc in
        ap (λ b. given_if b p ∷ given_from (n + 1) delivery ps) (eq-eqb delivery.slot n here)
        ∙ ap (λ q. given_event delivery.event q ∷ given_from (n + 1) delivery ps) same
        ∙ ap (λ qs. given_event delivery.event part ∷ qs) (given_past (n + 1) ps (omega (arith, here)))
    given_at n (suc i) (p ∷ ps) part e is = by (nat_eq delivery.slot n) refl ∙ ap (λ qs. p ∷ qs) (given_at (n + 1) i ps part (omega (arith, e)) is)
      where
        by : (b : Bool) → nat_eq delivery.slot n ≡ b → given_if b p ∷ given_from (n + 1) delivery ps ≡ p ∷ given_from (n + 1) delivery ps
        by true is' = let same : delivery.slot ≡ n = eqb-true delivery.slot n is' in absurd (omega (arith, same, e))
        by false is' = refl

    -- the others are as they were
    pub given_other : (n i : ℕ) (parts : List (Part M)) (part : Part M) → n + i ≢ delivery.slot → slice_get (given_from n delivery parts) i ≡ Some part → slice_get parts i ≡ Some part
    given_other n i [] part differ is = is
    given_other n zero (p ∷ ps) part differ is = by (nat_eq delivery.slot n) refl is
      where
        by : (b : Bool) → nat_eq delivery.slot n ≡ b → slice_get (given_if b p ∷ given_from (n + 1) delivery ps) 0 ≡ Some part → slice_get (p ∷ ps) 0 ≡ Some part
        by true same told = let here : delivery.slot ≡ n = eqb-true delivery.slot n same in absurd (differ (omega (arith, here)))
        by false same told = told
    given_other n (suc i) (p ∷ ps) part differ is = given_other (n + 1) i ps part (λ e. differ (omega (arith, e))) is

    -- the part in its slot gets it, and begins to settle
    pub given_is : (old mid new : Applications M) → delivery.event.moment ≡ old.moment → DeliversIn delivery.slot delivery.event old mid → BeginsIn delivery.slot mid new
        → new ≡ record old { parts = given_from 0 delivery old.parts }
    given_is old mid new now delivers begins =
        let i : ℕ = delivery.slot in
        let got : Part M = record delivers.before { application = delivered delivery.event delivers.before.application } in
        let there : mid.parts ≡ set old.parts i got = ap (λ (h : Applications M). h.parts) delivers.changed in
        let was : Some begins.before ≡ Some got = sym begins.was ∙ ap (λ ps. slice_get ps i) there ∙ get_set old.parts i delivers.before got delivers.was in
        let same : begins.before ≡ got = cc in
        begins.changed
        ∙ ap (λ (h : Applications M). record h { parts = set h.parts i (settling_begun begins.before) }) delivers.changed
        ∙ ap (λ (p : Part M). record old { parts = set (set old.parts i got) i (settling_begun p) }) same
        ∙ ap (λ (ps : List (Part M)). record old { parts = ps }) (set_set old.parts i got (given_event delivery.event delivers.before) ∙ sym (given_at 0 i old.parts delivers.before (omega arith) delivers.was))

  pub after_length : (answer : M → Meaning) (n : ℕ) (given : List Delivery) (apps : List (Application M)) → length (after_given answer n given apps) ≡ length apps
  after_length answer n given [] = refl
  after_length answer n given (application ∷ apps) = ap suc (after_length answer (n + 1) given apps)

  -- two events, one after the other
  pub given_twice : (first second : Delivery) (old mid new : Applications M) → mid ≡ record old { parts = given_from 0 first old.parts } → new ≡ record mid { parts = given_from 0 second mid.parts }
      → new ≡ record old { parts = given_from 0 second (given_from 0 first old.parts) }
  given_twice first second old mid new one other = other ∙ ap (λ (h : Applications M). record h { parts = given_from 0 second h.parts }) one

  -- who isn't given the first has nothing under way
  pub rests_other : (first : Delivery) (slot : ℕ) (old mid : Applications M) (part : Part M) → first.slot ≢ slot → mid ≡ record old { parts = given_from 0 first old.parts } → AllRest old.parts
      → slice_get mid.parts slot ≡ Some part → part.work ≡ Rests
  rests_other first slot old mid part differ one rest is =
      rests_in old.parts slot part rest
      (given_other first 0 slot old.parts part (λ e. differ (omega (arith, e))) (sym (ap (λ (h : Applications M). slice_get h.parts slot) one) ∙ is))
