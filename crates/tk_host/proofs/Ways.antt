-- From stage to stage.
use Rattle.std.proofs.Common.{◌≡◌, ◌≢◌, ℕ, ◌+◌, ◌≤◌, ◌<◌, ◌++◌, Bool, true, false, List, length, get_or, set, map, take, drop, Option, Some, None, refl, sym, ap, ◌∙◌, subst, append-nil, append_assoc, length-set, eq-eqb, arith}
use Rattle.std.specs.Prelude.{nat_eq, slice_get, option_map, sum_by, if◌then◌else◌}
use Rattle.std.proofs.lemmas.Bool.{eqb-true}
use Rattle.std.proofs.lemmas.List.Edits.{map_over_more}
use Rattle.tk_app.specs.Rounds.{turns_of}
use Rattle.tk_app.specs.Stages.{first_moment_due, stage_at, turns_at}
use Rattle.tk_app.specs.Due.{IsPast}
use Rattle.tk_app.proofs.Stages.{IsFrom, stage_past}
use Rattle.tk_app.specs.Application.{Application, next_due}
use Rattle.tk_app.specs.MomentsByJob.{settled}
use Rattle.tk_app.specs.Part.{Part, needs, settling_begun, stage_done}
use Rattle.tk_app.specs.Turns.{Applications, BeginsIn}
use Rattle.tk_host.specs.AloneByJob.{passed}
use Rattle.tk_host.specs.Dues.{weight}
use Rattle.tk_host.specs.Held.{at_rest}
use Rattle.tk_host.specs.Ready.{AllRest}
use Rattle.tk_host.specs.Slots.{BeginsAt, begun_by, begun_at}
use Rattle.tk_host.specs.Turns.{applications, steps_left, turns_on_the_way}
use Rattle.tk_host.proofs.Parts.{apps_at, needs_all, rest_at, stage_all}
use Rattle.tk_host.proofs.Passing.{all_passed, all_through, lighter_by_stage, way_past, way_through}
use Rattle.tk_app.proofs.Settled.{settled_is_past}
use Rattle.tk_host.proofs.Settling.{settled_lighter}
use Rattle.tk_host.proofs.Slots.{get_or_some, part_there, set_same}
use Rattle.tk_app.specs.Seen.{Meaning}

module _ {M : Type 0} (answer : M → Meaning) where
  -- ── a stage begins ──

  stays : (moment slot : ℕ) (held : Applications M) (part : Part M) → slice_get held.parts slot ≡ Some part → begun_at moment part ≡ part → BeginsAt moment slot held held
  stays moment slot held part is same = record {
    before = part;
    was = is;
    changed = ap (λ (ps : List (Part M)). record held { parts = ps }) (sym (ap (set held.parts slot) same ∙ set_same answer held.parts slot part is));
  }

  -- nothing is due of the part
  pub begins_none : (moment slot : ℕ) (held : Applications M) → option_map (λ (part : Part M). next_due part.application) (slice_get held.parts slot) ≡ Some None → BeginsAt moment slot held held
  begins_none moment slot held told =
      let there = part_there answer (λ (part : Part M). next_due part.application) held.parts slot None told in
      stays moment slot held there.0 there.1 (ap (λ (o : Option ℕ). begun_by o moment there.0) there.2)

  -- or not at this moment
  pub begins_other : (moment slot due : ℕ) (held : Applications M) → option_map (λ (part : Part M). next_due part.application) (slice_get held.parts slot) ≡ Some (Some due) → due ≢ moment
      → BeginsAt moment slot held held
  begins_other moment slot due held told differ =
      let there = part_there answer (λ (part : Part M). next_due part.application) held.parts slot (Some due) told in
      stays moment slot held there.0 there.1 (ap (λ (o : Option ℕ). begun_by o moment there.0) there.2 ∙ by (nat_eq due moment) refl there.0)
    where
      by : (b : Bool) → nat_eq due moment ≡ b → (part : Part M) → (if b then settling_begun part else part) ≡ part
      by true is part = absurd (differ (eqb-true due moment is))
      by false is part = refl

  -- or it is, and the part begins to settle
  pub begins_due : (moment slot due : ℕ) (old new : Applications M) → option_map (λ (part : Part M). next_due part.application) (slice_get old.parts slot) ≡ Some (Some due) → due ≡ moment
      → old.moment ≡ moment → BeginsIn slot old new → BeginsAt moment slot old new
  begins_due moment slot due old new told same now begins =
      let there = part_there answer (λ (part : Part M). next_due part.application) old.parts slot (Some due) told in
      let same_part : there.0 ≡ begins.before = (let is : Some there.0 ≡ Some begins.before = sym there.1 ∙ begins.was in cc) in
      let due_of : next_due begins.before.application ≡ Some due = ap (λ (p : Part M). next_due p.application) (sym same_part) ∙ there.2 in
      let begun : begun_at moment begins.before ≡ settling_begun begins.before =
      ap (λ (o : Option ℕ). begun_by o moment begins.before) due_of
      ∙ ap (λ (b : Bool). if b then settling_begun begins.before else begins.before) (eq-eqb due moment same) in
      record {
        before = begins.before;
        was = begins.was;
        changed = begins.changed ∙ ap (λ (p : Part M). record old { parts = set old.parts slot p }) (sym begun);
      }

  -- those below a slot have begun
  pub record BegunBelow (moment slot : ℕ) (old now : Applications M) : Type 0 where
    pub same : now ≡ record old { parts = map (begun_at moment) (take slot old.parts) ++ drop slot old.parts }
    pub size : length now.parts ≡ length old.parts

  pub begun_more : (moment slot : ℕ) (old now new : Applications M) → slot < length old.parts → BegunBelow moment slot old now → BeginsAt moment slot now new → BegunBelow moment (slot + 1) old new
  begun_more moment slot old now new lt here begins =
      let at : begins.before ≡ get_or now.parts slot begins.before = sym (get_or_some answer now.parts slot begins.before begins.was) in
      let parts : now.parts ≡ map (begun_at moment) (take slot old.parts) ++ drop slot old.parts = ap (λ (h : Applications M). h.parts) here.same in
      let one : set now.parts slot (begun_at moment begins.before) ≡ map (begun_at moment) (take (slot + 1) old.parts) ++ drop (slot + 1) old.parts =
      map_over_more (begun_at moment) old.parts now.parts slot begins.before lt parts at in
      record {
        same =
            begins.changed
            ∙ ap (λ (h : Applications M). record h { parts = set now.parts slot (begun_at moment begins.before) }) here.same
            ∙ ap (λ (ps : List (Part M)). record old { parts = ps }) one;
        size = ap (λ (h : Applications M). length h.parts) begins.changed ∙ length-set now.parts slot (begun_at moment begins.before) ∙ here.size;
      }

  -- ── on the way ──

  -- what is left to be done comes to what all does
  pub record Way (slice target : ℕ) (start now : Applications M) : Type 0 where
    pub rest : AllRest now.parts
    pub past : IsPast now.moment (first_moment_due next_due (settled answer) (applications now.parts))
    pub ahead : now.moment ≤ target
    pub brought : map (passed answer target) (applications now.parts) ≡ map (passed answer target) (applications start.parts)
    pub turns : now.turns ++ turns_on_the_way answer slice target (applications now.parts) ≡ start.turns ++ turns_on_the_way answer slice target (applications start.parts)

  -- the parts after a stage at a moment
  stage_parts : (due : ℕ) (before at begun after : Applications M) → AllRest before.parts → at ≡ record before { moment = due } → begun ≡ record at { parts = map (begun_at due) at.parts }
      → after.parts ≡ map (stage_done answer begun.moment) begun.parts → after.parts ≡ map at_rest (stage_at next_due (settled answer) due (applications before.parts))
  stage_parts due before at begun after rest on begins done =
      done
      ∙ ap (λ (h : Applications M). map (stage_done answer h.moment) h.parts) (begins ∙ ap (λ (h : Applications M). record h { parts = map (begun_at due) h.parts }) on)
      ∙ stage_all answer due before.parts rest

  pub stage_apps : (due : ℕ) (before at begun after : Applications M) → AllRest before.parts → at ≡ record before { moment = due } → begun ≡ record at { parts = map (begun_at due) at.parts }
      → after.parts ≡ map (stage_done answer begun.moment) begun.parts → applications after.parts ≡ stage_at next_due (settled answer) due (applications before.parts)
  stage_apps due before at begun after rest on begins done =
      ap applications (stage_parts due before at begun after rest on begins done) ∙ apps_at answer (stage_at next_due (settled answer) due (applications before.parts))

  pub way_on : (slice target due : ℕ) (start before at begun after : Applications M) → first_moment_due next_due (settled answer) (applications before.parts) ≡ Some due → due ≤ target → Way slice target start before
      → at ≡ record before { moment = due } → begun ≡ record at { parts = map (begun_at due) at.parts }
      → after.moment ≡ begun.moment → after.parts ≡ map (stage_done answer begun.moment) begun.parts → after.turns ≡ begun.turns ++ turns_of slice (map (needs answer begun.moment) begun.parts)
      → Way slice target start after
  way_on slice target due start before at begun after next le way on begins moment done told =
      let apps : List (Application M) = applications before.parts in
      let there : List (Application M) = stage_at next_due (settled answer) due apps in
      let both : begun ≡ record before { moment = due; parts = map (begun_at due) before.parts } = begins ∙ ap (λ (h : Applications M). record h { parts = map (begun_at due) h.parts }) on in
      let now : after.moment ≡ due = moment ∙ ap (λ (h : Applications M). h.moment) both in
      let is : applications after.parts ≡ there = stage_apps due before at begun after way.rest on begins done in
      let from : IsFrom due (first_moment_due next_due (settled answer) apps) = rw next (omega arith) in
      let past : IsPast due (first_moment_due next_due (settled answer) there) = stage_past next_due (settled answer) weight (settled_lighter answer) due apps (settled_is_past answer due) from in
      let here : after.turns ≡ before.turns ++ turns_at next_due (settled answer) steps_left slice due apps =
      told ∙ ap (λ (h : Applications M). h.turns ++ turns_of slice (map (needs answer h.moment) h.parts)) both
      ∙ ap (λ ns. before.turns ++ turns_of slice ns) (needs_all answer due before.parts way.rest) in
      record {
        rest = subst AllRest (sym (stage_parts due before at begun after way.rest on begins done)) (rest_at answer there);
        past = subst (λ m. IsPast m (first_moment_due next_due (settled answer) (applications after.parts))) (sym now) (subst (λ apps. IsPast due (first_moment_due next_due (settled answer) apps)) (sym is) past);
        ahead = omega (arith, now, le);
        brought = ap (map (passed answer target)) is ∙ all_through answer target due apps le ∙ way.brought;
        turns =
            ap (λ apps. after.turns ++ turns_on_the_way answer slice target apps) is
            ∙ ap (λ ts. ts ++ turns_on_the_way answer slice target there) here
            ∙ append_assoc before.turns (turns_at next_due (settled answer) steps_left slice due apps) (turns_on_the_way answer slice target there)
            ∙ ap (λ ts. before.turns ++ ts) (sym (way_through answer slice target due apps next le))
            ∙ way.turns;
      }

  -- each stage takes a step or is the last of an application
  pub way_lighter : (due : ℕ) (before at begun after : Applications M) → first_moment_due next_due (settled answer) (applications before.parts) ≡ Some due → AllRest before.parts → at ≡ record before { moment = due }
      → begun ≡ record at { parts = map (begun_at due) at.parts } → after.parts ≡ map (stage_done answer begun.moment) begun.parts
      → sum_by weight (applications after.parts) < sum_by weight (applications before.parts)
  way_lighter due before at begun after next rest on begins done =
      subst (λ apps. sum_by weight apps < sum_by weight (applications before.parts)) (sym (stage_apps due before at begun after rest on begins done)) (lighter_by_stage answer (applications before.parts) due next)

  -- ── the end of the way ──

  pub way_brought : (slice target : ℕ) (start now : Applications M) → Way slice target start now → IsPast target (first_moment_due next_due (settled answer) (applications now.parts))
      → applications now.parts ≡ map (passed answer target) (applications start.parts)
  way_brought slice target start now way past = sym (all_passed answer target (applications now.parts) past) ∙ way.brought

  pub way_told : (slice target : ℕ) (start now : Applications M) → Way slice target start now → IsPast target (first_moment_due next_due (settled answer) (applications now.parts))
      → now.turns ≡ start.turns ++ turns_on_the_way answer slice target (applications start.parts)
  way_told slice target start now way past =
      sym (append-nil now.turns) ∙ ap (λ ts. now.turns ++ ts) (sym (way_past answer slice target (applications now.parts) past)) ∙ way.turns
