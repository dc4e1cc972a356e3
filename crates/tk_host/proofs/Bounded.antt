-- How many steps a stage takes at most.
use Rattle.std.proofs.Common.{◌≡◌, ℕ, ◌+◌, ◌≤◌, Bool, true, false, ◌||◌, cond, List, [], ◌∷◌, length, map, refl, sym, ◌∙◌, subst, arith, eq-eqb}
use Rattle.std.specs.Prelude.{nat_eq, filter, ◌==◌, sum, sum_by, if◌then◌else◌}
use Rattle.std.specs.List.{AllByRecursion, list_any}
use Rattle.std.proofs.lemmas.Bool.{eqb-true}
use Rattle.std.proofs.lemmas.List.Sums.{sum_by-cons}
use Rattle.tk_base.specs.declared.local_event.LocalEvent.{LocalEvent}
use Rattle.tk_route.specs.declared.delivery.Delivery.{Delivery}
use Rattle.tk_route.specs.Routes.{events_of}
use Rattle.tk_app.specs.Stages.{used_at}
use Rattle.tk_app.specs.Due.{settled_if_due_at}
use Rattle.tk_app.proofs.Rounds.{sum-cons}
use Rattle.tk_app.proofs.Shares.{steps_in_turns, sum_used}
use Rattle.tk_app.specs.Application.{Application, next_due}
use Rattle.tk_app.specs.MomentsByJob.{settled}
use Rattle.tk_app.specs.Part.{Part, needs, stage_done}
use Rattle.tk_app.specs.Seen.{Meaning}
use Rattle.tk_host.specs.Bounds.{BoundedStages, IsOneEach, granted_for, granted_in}
use Rattle.tk_host.specs.Turns.{joined, stages_of, steps_for, steps_given, steps_left}

-- ── a stage gives each slot one event at most ──

abbrev others_of : ℕ → List Delivery → List Delivery
others_of slot stage = filter (λ (delivery : Delivery). delivery.slot == slot) stage

abbrev is_there : Delivery → List Delivery → Bool
is_there delivery stage = list_any (λ (other : Delivery). delivery.slot == other.slot) stage

-- a slot that no delivery of a stage has is given nothing
none_of : (delivery : Delivery) (slot : ℕ) (stage : List Delivery) → delivery.slot ≡ slot → is_there delivery stage ≡ false → others_of slot stage ≡ []
none_of delivery slot [] same none = refl
none_of delivery slot (other ∷ stage) same none = by (nat_eq delivery.slot other.slot) refl none (none_of delivery slot stage same)
  where
    apart : (c : Bool) → nat_eq other.slot slot ≡ c → nat_eq delivery.slot other.slot ≡ false → others_of slot stage ≡ [] → cond c (other ∷ others_of slot stage) (others_of slot stage) ≡ []
    apart true here differ rest =
        let there : other.slot ≡ slot = eqb-true other.slot slot here in
        let found : nat_eq delivery.slot other.slot ≡ true = eq-eqb delivery.slot other.slot (same ∙ sym there) in
        let wrong : true ≡ false = sym found ∙ differ in
        cc
    apart false here differ rest = rest

    by : (b : Bool) → nat_eq delivery.slot other.slot ≡ b → (b || is_there delivery stage) ≡ false → (is_there delivery stage ≡ false → others_of slot stage ≡ [])
        → cond (nat_eq other.slot slot) (other ∷ others_of slot stage) (others_of slot stage) ≡ []
    by true is all rest = cc
    by false is all rest = apart (nat_eq other.slot slot) refl is (rest all)

one_alone : (delivery : Delivery) → IsOneEach (delivery ∷ [])
one_alone delivery slot = by (nat_eq delivery.slot slot)
  where
    by : (b : Bool) → length (map (λ (d : Delivery). d.event) (cond b (delivery ∷ []) [])) ≤ 1
    by true = omega arith
    by false = omega arith

one_more : (delivery : Delivery) (stage : List Delivery) → is_there delivery stage ≡ false → IsOneEach stage → IsOneEach (delivery ∷ stage)
one_more delivery stage none each slot = by (nat_eq delivery.slot slot) refl
  where
    by : (b : Bool) → nat_eq delivery.slot slot ≡ b → length (map (λ (d : Delivery). d.event) (cond b (delivery ∷ others_of slot stage) (others_of slot stage))) ≤ 1
    by true is =
        let nothing = none_of delivery slot stage (eqb-true delivery.slot slot is) none in
        subst (λ rest. length (map (λ (d : Delivery). d.event) (delivery ∷ rest)) ≤ 1) (sym nothing) (omega arith)
    by false is = each slot

each_joined : (delivery : Delivery) (stages : List (List Delivery)) → AllByRecursion IsOneEach stages → AllByRecursion IsOneEach (joined delivery stages)
each_joined delivery [] all = (one_alone delivery, tt)
each_joined delivery (stage ∷ stages) all = by (is_there delivery stage) refl
  where
    by : (b : Bool) → is_there delivery stage ≡ b → AllByRecursion IsOneEach (if b then (delivery ∷ []) ∷ stage ∷ stages else (delivery ∷ stage) ∷ stages)
    by true is = (one_alone delivery, all)
    by false is = (one_more delivery stage is all.0, all.1)

one_each : (given : List Delivery) → AllByRecursion IsOneEach (stages_of given)
one_each [] = tt
one_each (delivery ∷ given) = each_joined delivery (stages_of given) (one_each given)

-- ── the steps of a stage ──

module _ {M : Type 0} (answer : M → Meaning) where
  -- an event takes at most what was left before it and what it grants
  for_one : (events : List LocalEvent) (application : Application M) → length events ≤ 1 → steps_for answer events application ≤ application.steps + granted_for answer events application
  for_one [] application few = omega arith
  for_one (event ∷ []) application few = omega arith
  for_one (event ∷ next ∷ events) application few = absurd (omega (arith, few))

  in_all : (slot : ℕ) (stage : List Delivery) (apps : List (Application M)) → IsOneEach stage → sum (steps_given answer slot stage apps) ≤ sum_by steps_left apps + granted_in answer slot stage apps
  in_all slot stage [] each = omega arith
  in_all slot stage (application ∷ apps) each =
      let here = for_one (events_of slot stage) application (each slot) in
      let later = in_all (slot + 1) stage apps each in
      omega (arith, here, later, sum-cons (steps_for answer (events_of slot stage) application) (steps_given answer (slot + 1) stage apps), sum_by-cons steps_left application apps)

  pub bounded_stages_hold : BoundedStages answer
  bounded_stages_hold = record {
    start = λ slice parts positive.
        omega (arith, steps_in_turns slice (map (needs answer 0) parts) positive, sum_used (λ (part : Part M). part.application.steps) (λ part. (stage_done answer 0 part).application.steps) parts);
    due = λ slice moment apps positive.
        omega (
          arith,
          steps_in_turns slice (map (used_at next_due (settled answer) steps_left moment) apps) positive,
          sum_used steps_left (λ app. steps_left (settled_if_due_at next_due (settled answer) moment app)) apps,
        );
    events = λ slice stage apps positive each. omega (arith, steps_in_turns slice (steps_given answer 0 stage apps) positive, in_all 0 stage apps each);
    stages = one_each;
  }
