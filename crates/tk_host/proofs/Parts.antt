-- Parts at rest, and after a stage.
use Rattle.std.proofs.Common.{◌≡◌, ◌-◌, ℕ, Bool, true, false, List, [], ◌∷◌, ◌++◌, map, Option, Some, None, refl, sym, ap, ◌∙◌, subst}
use Rattle.std.specs.Prelude.{nat_eq, if◌then◌else◌}
use Rattle.tk_app.specs.Stages.{first_moment_due, stage_at, used_at}
use Rattle.tk_app.specs.Due.{IsPast, settled_if, settled_if_due_at}
use Rattle.tk_app.proofs.Stages.{past_both}
use Rattle.tk_app.specs.Application.{Application, fresh, next_due}
use Rattle.tk_app.specs.MomentsByJob.{settled, started}
use Rattle.tk_app.specs.Part.{Part, Work, Rests, added, done_as, needs, settling_begun, stage_done}
use Rattle.tk_app.specs.Spec.{Spec}
use Rattle.tk_app.proofs.Parts.{settles_from_rest, begins_with_script}
use Rattle.tk_host.specs.AloneByJob.{passed}
use Rattle.tk_host.specs.Held.{at_rest, with_passed}
use Rattle.tk_host.specs.Ready.{AllAdded, AllRest}
use Rattle.tk_host.specs.Slots.{begun_by, begun_at}
use Rattle.tk_host.specs.Turns.{applications, steps_left}
use Rattle.tk_app.proofs.Settled.{started_is_past}
use Rattle.tk_app.specs.Seen.{Meaning}

module _ {M : Type 0} (answer : M → Meaning) where
  pub rests : (part : Part M) → part.work ≡ Rests → part ≡ at_rest part.application
  rests part is = ap (λ (work : Work). record { application = part.application; work = work }) is

  -- a part in which nothing is under way stays as it is
  pub done_at_rest : (moment : ℕ) (part : Part M) → part.work ≡ Rests → stage_done answer moment part ≡ part
  unfolding stage_done
  done_at_rest moment part is = ap (λ work. done_as answer moment work part.application) is ∙ sym (rests part is)

  -- ── one part, in a stage ──

  stage_of : (moment : ℕ) (part : Part M) → part.work ≡ Rests → stage_done answer moment (begun_at moment part) ≡ at_rest (settled_if_due_at next_due (settled answer) moment part.application)
  stage_of moment part is = by (next_due part.application)
    where
      stays : stage_done answer moment part ≡ at_rest part.application
      stays = done_at_rest moment part is ∙ rests part is

      by_test : (b : Bool) → stage_done answer moment (if b then settling_begun part else part) ≡ at_rest (if b then settled answer moment part.application else part.application)
      by_test true = ap (λ p. stage_done answer moment (settling_begun p)) (rests part is) ∙ settles_from_rest answer moment part.application
      by_test false = stays

      by : (o : Option ℕ) → stage_done answer moment (begun_by o moment part) ≡ at_rest (settled_if next_due (settled answer) o moment part.application)
      by None = stays
      by (Some due) = by_test (nat_eq due moment)

  begun_same : (moment : ℕ) (part : Part M) → (begun_at moment part).application ≡ part.application
  begun_same moment part = by (next_due part.application)
    where
      by_test : (b : Bool) → (if b then settling_begun part else part).application ≡ part.application
      by_test true = refl
      by_test false = refl

      by : (o : Option ℕ) → (begun_by o moment part).application ≡ part.application
      by None = refl
      by (Some due) = by_test (nat_eq due moment)

  needs_of : (moment : ℕ) (part : Part M) → part.work ≡ Rests → needs answer moment (begun_at moment part) ≡ used_at next_due (settled answer) steps_left moment part.application
  needs_of moment part is =
      ap (λ (a : Application M). a.steps - (stage_done answer moment (begun_at moment part)).application.steps) (begun_same moment part)
      ∙ ap (λ (p : Part M). part.application.steps - p.application.steps) (stage_of moment part is)

  -- ── all of them ──

  pub rest_at : (apps : List (Application M)) → AllRest (map at_rest apps)
  rest_at [] = tt
  rest_at (a ∷ others) = (refl, rest_at others)

  pub apps_at : (apps : List (Application M)) → applications (map at_rest apps) ≡ apps
  apps_at [] = refl
  apps_at (a ∷ others) = ap (λ xs. a ∷ xs) (apps_at others)

  pub all_rest : (parts : List (Part M)) → AllRest parts → parts ≡ map at_rest (applications parts)
  all_rest [] rest = refl
  all_rest (p ∷ ps) rest = ap (λ q. q ∷ ps) (rests p rest.0) ∙ ap (λ qs. at_rest p.application ∷ qs) (all_rest ps rest.1)

  pub stage_all : (moment : ℕ) (parts : List (Part M)) → AllRest parts
      → map (stage_done answer moment) (map (begun_at moment) parts) ≡ map at_rest (stage_at next_due (settled answer) moment (applications parts))
  stage_all moment [] rest = refl
  stage_all moment (p ∷ ps) rest =
      ap (λ q. q ∷ map (stage_done answer moment) (map (begun_at moment) ps)) (stage_of moment p rest.0)
      ∙ ap (λ qs. at_rest (settled_if_due_at next_due (settled answer) moment p.application) ∷ qs) (stage_all moment ps rest.1)

  pub needs_all : (moment : ℕ) (parts : List (Part M)) → AllRest parts
      → map (needs answer moment) (map (begun_at moment) parts) ≡ map (used_at next_due (settled answer) steps_left moment) (applications parts)
  needs_all moment [] rest = refl
  needs_all moment (p ∷ ps) rest =
      ap (λ n. n ∷ map (needs answer moment) (map (begun_at moment) ps)) (needs_of moment p rest.0)
      ∙ ap (λ ns. used_at next_due (settled answer) steps_left moment p.application ∷ ns) (needs_all moment ps rest.1)

  pub brought_all : (moment : ℕ) (parts : List (Part M)) → AllRest parts → map at_rest (map (passed answer moment) (applications parts)) ≡ map (with_passed answer moment) parts
  brought_all moment [] rest = refl
  brought_all moment (p ∷ ps) rest =
      ap (λ (work : Work). record { application = passed answer moment p.application; work = work } ∷ map at_rest (map (passed answer moment) (applications ps))) (sym rest.0)
      ∙ ap (λ qs. with_passed answer moment p ∷ qs) (brought_all moment ps rest.1)

  -- ── the start ──

  start_of : (spec : Spec M) → stage_done answer 0 (added spec) ≡ at_rest (started answer 0 spec.script (fresh spec))
  start_of spec = begins_with_script answer 0 spec

  pub start_rest : (parts : List (Part M)) → AllAdded parts → AllRest (map (stage_done answer 0) parts)
  start_rest [] new = tt
  start_rest (p ∷ ps) new =
      let spec : Spec M = new.0.0 in
      (ap (λ (q : Part M). (stage_done answer 0 q).work) new.0.1 ∙ ap (λ (q : Part M). q.work) (start_of spec), start_rest ps new.1)

  pub start_past : (parts : List (Part M)) → AllAdded parts → IsPast 0 (first_moment_due next_due (settled answer) (applications (map (stage_done answer 0) parts)))
  start_past [] new = tt
  start_past (p ∷ ps) new =
      let spec : Spec M = new.0.0 in
      let is : (stage_done answer 0 p).application ≡ started answer 0 spec.script (fresh spec) = ap (λ (q : Part M). (stage_done answer 0 q).application) new.0.1 ∙ ap (λ (q : Part M). q.application) (start_of spec) in
      past_both 0 (next_due (stage_done answer 0 p).application) (first_moment_due next_due (settled answer) (applications (map (stage_done answer 0) ps)))
      (subst (λ a. IsPast 0 (next_due a)) (sym is) (started_is_past answer 0 spec.script (fresh spec))) (start_past ps new.1)

  pub added_more : (parts : List (Part M)) (spec : Spec M) → AllAdded parts → AllAdded (parts ++ added spec ∷ [])
  added_more [] spec new = ((spec, refl), tt)
  added_more (p ∷ ps) spec new = (new.0, added_more ps spec new.1)
