-- Applications on their way to a moment.
use Rattle.std.proofs.Common.{◌≡◌, ℕ, zero, suc, ◌≤◌, ◌<◌, ◌++◌, ◌-◌, Bool, true, false, Option, Some, None, List, [], ◌∷◌, map, sum, append-nil, refl, sym, ap, ◌∙◌, subst, arith}
use Rattle.std.specs.Prelude.{sum_by, nat_eq, nat_le, if◌then◌else◌}
use Rattle.std.proofs.lemmas.Bool.{eqb-false, eqb-true, leb-false}
use Rattle.tk_app.specs.Passing.{on_next, pass}
use Rattle.tk_app.specs.declared.turns.Turn.{Turn}
use Rattle.tk_app.specs.Stages.{first_moment_due, stage_at, turns_at, used_at}
use Rattle.tk_app.specs.Due.{IsPast, settled_if}
use Rattle.tk_app.specs.Together.{turns_to}
use Rattle.tk_app.proofs.Passing.{brought_brought, brought_late, brought_none, brought_step}
use Rattle.tk_app.proofs.Rounds.{sum-cons, turns_none}
use Rattle.tk_app.proofs.Settled.{settled_is_past}
use Rattle.tk_app.proofs.Stages.{IsFrom, all_at, all_past, both_past, brought_past, past_both, stage_lighter, stage_past, told_in_two, told_past, told_step}
use Rattle.tk_app.specs.Application.{Application, next_due}
use Rattle.tk_app.specs.MomentsByJob.{settled}
use Rattle.tk_host.specs.Alone.{passed_by}
use Rattle.tk_host.specs.AloneByJob.{at_moment, passed}
use Rattle.tk_host.specs.Dues.{PassedByDues, TurnsByDues, brought_by_dues, weight}
use Rattle.tk_host.specs.Turns.{steps_left, turns_on_the_way}
use Rattle.tk_host.proofs.Settling.{settled_lighter}
use Rattle.tk_app.specs.Seen.{Meaning}

module _ {M : Type 0} (answer : M → Meaning) where
  -- ── moments, and those at which something is due ──

  abbrev to_by : ℕ → ℕ → Application M → Application M
  to_by last k p = pass next_due (settled answer) (λ due there later. later) (λ there. there) last k p

  -- after so many due moments as there can be, nothing is due by the last
  through_by : (last k : ℕ) (p : Application M) → weight p ≤ k → IsPast last (next_due (to_by last k p))
  through_by last zero p few = by (next_due p) refl
    where
      by : (o : Option ℕ) → next_due p ≡ o → IsPast last o
      by None is = tt
      by (Some due) is = absurd (omega (arith, settled_lighter answer p due is, few))
  through_by last (suc k) p few = by (next_due p) refl (λ due next. through_by last k (settled answer due p) (omega (arith, settled_lighter answer p due next, few)))
    where
      by_test : (due : ℕ) (b : Bool) → next_due p ≡ Some due → nat_le due last ≡ b → IsPast last (next_due (to_by last k (settled answer due p)))
          → IsPast last (next_due (if b then to_by last k (settled answer due p) else p))
      by_test due true next is later = later
      by_test due false next is later = subst (IsPast last) (sym next) (leb-false due last is)

      by : (o : Option ℕ) → next_due p ≡ o → ((due : ℕ) → next_due p ≡ Some due → IsPast last (next_due (to_by last k (settled answer due p))))
          → IsPast last (next_due (on_next (λ due. to_by last k (settled answer due p)) last o p))
      by None next later = subst (IsPast last) (sym next) tt
      by (Some due) next later = by_test due (nat_le due last) next refl (later due next)

  through : (last : ℕ) (p : Application M) → IsPast last (next_due (brought_by_dues answer last p))
  through last p = through_by last (weight p) p (omega arith)

  -- a moment before which nothing is due
  at_one : (moment : ℕ) (p : Application M) → ((due : ℕ) → next_due p ≡ Some due → moment ≤ due) → brought_by_dues answer moment p ≡ at_moment answer moment p
  at_one moment p from = by (next_due p) refl
    where
      by_test : (due : ℕ) (b : Bool) → next_due p ≡ Some due → nat_eq due moment ≡ b
          → brought_by_dues answer moment p ≡ (if b then settled answer moment p else p)
      by_test due true next is =
          let same : due ≡ moment = eqb-true due moment is in
          brought_step next_due (settled answer) weight (settled_lighter answer) moment due p next (omega (arith, same))
          ∙ ap (λ m. brought_by_dues answer moment (settled answer m p)) same
          ∙ brought_past next_due (settled answer) weight (settled_lighter answer) moment (settled answer moment p) (settled_is_past answer moment p)
      by_test due false next is =
          brought_late next_due (settled answer) weight (settled_lighter answer) moment due p next (omega (arith, eqb-false due moment is, from due next))

      by : (o : Option ℕ) → next_due p ≡ o → brought_by_dues answer moment p ≡ settled_if next_due (settled answer) o moment p
      by None next = brought_none next_due (settled answer) weight (settled_lighter answer) moment p next
      by (Some due) next = by_test due (nat_eq due moment) next refl

  after : (moment : ℕ) (p : Application M) → IsPast moment (next_due p) → (due : ℕ) → next_due p ≡ Some due → suc moment ≤ due
  after moment p past due next = let late : moment < due = subst (IsPast moment) next past in omega (arith, late)

  pub passed_by_dues_holds : PassedByDues answer
  unfolding passed_by
  passed_by_dues_holds zero p = sym (at_one 0 p (λ due next. omega arith))
  passed_by_dues_holds (suc moment) p =
      let there = brought_by_dues answer moment p in
      ap (at_moment answer (suc moment)) (passed_by_dues_holds moment p)
      ∙ sym (at_one (suc moment) there (after moment there (through moment p)))
      ∙ brought_brought next_due (settled answer) weight (settled_lighter answer) moment (suc moment) p (omega arith)

  all_by_dues : (last : ℕ) (apps : List (Application M)) → map (passed answer last) apps ≡ map (brought_by_dues answer last) apps
  all_by_dues last [] = refl
  all_by_dues last (app ∷ apps) =
      ap (λ (a : Application M). a ∷ map (passed answer last) apps) (passed_by_dues_holds last app) ∙ ap (λ rest. brought_by_dues answer last app ∷ rest) (all_by_dues last apps)

  -- ── on the way ──

  -- to a moment and then on to a later one is to the later one
  pub passed_passed : (first last : ℕ) (application : Application M) → first ≤ last → passed answer last (passed answer first application) ≡ passed answer last application
  passed_passed first last application le =
      ap (passed answer last) (passed_by_dues_holds first application)
      ∙ passed_by_dues_holds last (brought_by_dues answer first application)
      ∙ brought_brought next_due (settled answer) weight (settled_lighter answer) first last application le
      ∙ sym (passed_by_dues_holds last application)

  -- and an application of which nothing is due by then is there
  pub passed_past : (last : ℕ) (application : Application M) → IsPast last (next_due application) → passed answer last application ≡ application
  passed_past last application past =
      passed_by_dues_holds last application ∙ brought_past next_due (settled answer) weight (settled_lighter answer) last application past

  pub all_passed : (last : ℕ) (apps : List (Application M)) → IsPast last (first_moment_due next_due (settled answer) apps) → map (passed answer last) apps ≡ apps
  all_passed last apps past = all_by_dues last apps ∙ all_past next_due (settled answer) weight (settled_lighter answer) last apps past

  pub all_through : (last moment : ℕ) (apps : List (Application M)) → moment ≤ last → map (passed answer last) (stage_at next_due (settled answer) moment apps) ≡ map (passed answer last) apps
  all_through last moment apps le =
      all_by_dues last (stage_at next_due (settled answer) moment apps)
      ∙ all_at next_due (settled answer) weight (settled_lighter answer) last moment apps le
      ∙ sym (all_by_dues last apps)

  pub lighter_by_stage : (apps : List (Application M)) (due : ℕ) → first_moment_due next_due (settled answer) apps ≡ Some due → sum_by weight (stage_at next_due (settled answer) due apps) < sum_by weight apps
  lighter_by_stage apps due next = stage_lighter next_due (settled answer) weight (settled_lighter answer) apps due next

  -- ── turns: of the moments, and of those at which something is due ──

  abbrev told : ℕ → ℕ → List (Application M) → List Turn
  told slice last apps = turns_to next_due (settled answer) weight steps_left slice last apps

  abbrev stage : ℕ → ℕ → List (Application M) → List Turn
  stage slice moment apps = turns_at next_due (settled answer) steps_left slice moment apps

  abbrev taken : ℕ → Application M → ℕ
  taken moment app = used_at next_due (settled answer) steps_left moment app

  -- an application of which nothing is due by a moment takes no step at it
  none_taken : (moment : ℕ) (app : Application M) → IsPast moment (next_due app) → taken moment app ≡ 0
  none_taken moment app past = by (next_due app) past
    where
      by_test : (due : ℕ) (b : Bool) → nat_eq due moment ≡ b → moment < due → app.steps - (if b then settled answer moment app else app).steps ≡ 0
      by_test due true is late = absurd (omega (arith, eqb-true due moment is, late))
      by_test due false is late = omega arith

      by : (o : Option ℕ) → IsPast moment o → app.steps - (settled_if next_due (settled answer) o moment app).steps ≡ 0
      by None past = omega arith
      by (Some due) late = by_test due (nat_eq due moment) refl late

  all_taken : (moment : ℕ) (apps : List (Application M)) → IsPast moment (first_moment_due next_due (settled answer) apps) → sum (map (taken moment) apps) ≡ 0
  all_taken moment [] past = refl
  all_taken moment (app ∷ apps) past =
      let both = both_past moment (next_due app) (first_moment_due next_due (settled answer) apps) past in
      omega (arith, sum-cons (taken moment app) (map (taken moment) apps), none_taken moment app both.0, all_taken moment apps both.1)

  -- so nobody has a turn then
  nobody : (slice moment : ℕ) (apps : List (Application M)) → IsPast moment (first_moment_due next_due (settled answer) apps) → stage slice moment apps ≡ []
  nobody slice moment apps past = turns_none slice (map (taken moment) apps) (all_taken moment apps past)

  -- a moment before which nothing is due
  at_first : (slice moment : ℕ) (apps : List (Application M)) → IsFrom moment (first_moment_due next_due (settled answer) apps) → told slice moment apps ≡ stage slice moment apps
  at_first slice moment apps from = by (first_moment_due next_due (settled answer) apps) refl from
    where
      none : IsPast moment (first_moment_due next_due (settled answer) apps) → told slice moment apps ≡ stage slice moment apps
      none past = told_past next_due (settled answer) weight (settled_lighter answer) steps_left slice moment apps past ∙ sym (nobody slice moment apps past)

      by_test : (due : ℕ) (b : Bool) → first_moment_due next_due (settled answer) apps ≡ Some due → nat_eq due moment ≡ b → moment ≤ due → told slice moment apps ≡ stage slice moment apps
      by_test due true next is le =
          let here = stage_at next_due (settled answer) moment apps in
          told_step next_due (settled answer) weight (settled_lighter answer) steps_left slice moment moment apps (next ∙ ap Some (eqb-true due moment is)) (omega arith)
          ∙ ap (λ ts. stage slice moment apps ++ ts)
          (told_past next_due (settled answer) weight (settled_lighter answer) steps_left slice moment here
          (stage_past next_due (settled answer) weight (settled_lighter answer) moment apps (λ q. settled_is_past answer moment q) from))
          ∙ append-nil (stage slice moment apps)
      by_test due false next is le = none (rw next (omega (arith, eqb-false due moment is, le)))

      by : (o : Option ℕ) → first_moment_due next_due (settled answer) apps ≡ o → IsFrom moment o → told slice moment apps ≡ stage slice moment apps
      by None next le = none (rw next tt)
      by (Some due) next le = by_test due (nat_eq due moment) next refl le

  all_brought : (moment : ℕ) (apps : List (Application M)) → IsPast moment (first_moment_due next_due (settled answer) (map (brought_by_dues answer moment) apps))
  all_brought moment [] = tt
  all_brought moment (app ∷ apps) =
      past_both moment (next_due (brought_by_dues answer moment app)) (first_moment_due next_due (settled answer) (map (brought_by_dues answer moment) apps)) (through moment app) (all_brought moment apps)

  from_start : (o : Option ℕ) → IsFrom 0 o
  from_start None = tt
  from_start (Some due) = omega arith

  from_next : (moment : ℕ) (o : Option ℕ) → IsPast moment o → IsFrom (suc moment) o
  from_next moment None past = tt
  from_next moment (Some due) past = omega (arith, past)

  pub turns_by_dues_holds : TurnsByDues answer
  unfolding turns_on_the_way
  turns_by_dues_holds slice zero apps = sym (at_first slice 0 apps (from_start (first_moment_due next_due (settled answer) apps)))
  turns_by_dues_holds slice (suc moment) apps =
      let there = map (brought_by_dues answer moment) apps in
      ap (λ ts. ts ++ stage slice (suc moment) (map (passed answer moment) apps)) (turns_by_dues_holds slice moment apps)
      ∙ ap (λ later. told slice moment apps ++ stage slice (suc moment) later) (all_by_dues moment apps)
      ∙ ap (λ ts. told slice moment apps ++ ts) (sym (at_first slice (suc moment) there (from_next moment (first_moment_due next_due (settled answer) there) (all_brought moment apps))))
      ∙ sym (told_in_two next_due (settled answer) weight (settled_lighter answer) steps_left slice moment (suc moment) apps (omega arith))

  pub way_through : (slice last due : ℕ) (apps : List (Application M)) → first_moment_due next_due (settled answer) apps ≡ Some due → due ≤ last
      → turns_on_the_way answer slice last apps ≡ turns_at next_due (settled answer) steps_left slice due apps ++ turns_on_the_way answer slice last (stage_at next_due (settled answer) due apps)
  way_through slice last due apps next le =
      let there = stage_at next_due (settled answer) due apps in
      turns_by_dues_holds slice last apps
      ∙ told_step next_due (settled answer) weight (settled_lighter answer) steps_left slice last due apps next le
      ∙ ap (λ ts. stage slice due apps ++ ts) (sym (turns_by_dues_holds slice last there))

  pub way_past : (slice last : ℕ) (apps : List (Application M)) → IsPast last (first_moment_due next_due (settled answer) apps) → turns_on_the_way answer slice last apps ≡ []
  way_past slice last apps past =
      turns_by_dues_holds slice last apps ∙ told_past next_due (settled answer) weight (settled_lighter answer) steps_left slice last apps past
