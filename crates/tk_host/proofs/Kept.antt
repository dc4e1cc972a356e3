-- What a host knows of its parts, after each call.
use Rattle.std.proofs.Common.{◌≡◌, ℕ, ◌+◌, ◌≤◌, Bool, true, false, Option, None, cond, List, [], ◌∷◌, ◌++◌, map, refl, sym, ap, ◌∙◌, subst, arith}
use Rattle.std.specs.Prelude.{filter, nat_eq, ◌==◌}
use Rattle.tk_base.specs.declared.rect.Rect.{Rect}
use Rattle.tk_base.specs.declared.local_event.LocalEvent.{LocalEvent}
use Rattle.tk_route.specs.Lines.{Line, values}
use Rattle.tk_route.specs.Routes.{events_of, routes}
use Rattle.tk_route.specs.Values.{Values}
use Rattle.tk_route.specs.declared.delivery.Delivery.{Delivery}
use Rattle.tk_app.specs.Rounds.{turns_of}
use Rattle.tk_app.specs.Stages.{earlier, first_moment_due}
use Rattle.tk_app.specs.Due.{IsPast}
use Rattle.tk_app.proofs.Stages.{both_past, past_both}
use Rattle.tk_app.specs.Application.{Application, next_due}
use Rattle.tk_app.specs.Moments.{delivered}
use Rattle.tk_app.specs.MomentsByJob.{settled}
use Rattle.tk_app.specs.Part.{Part, added, needs, stage_done}
use Rattle.tk_app.specs.Seen.{Meaning}
use Rattle.tk_app.specs.Spec.{Spec}
use Rattle.tk_app.specs.Turns.{Applications}
use Rattle.tk_host.specs.declared.phase.Phase.{Phase}
use Rattle.tk_host.specs.declared.phase.Phase.TheVariants.{Adding, Reached, Finished, Lost}
use Rattle.tk_host.specs.AloneByJob.{passed}
use Rattle.tk_host.specs.Held.{Hosted, after_line, asker_in, after_start, at_rest, with_passed, gone_to, known_by, with_app}
use Rattle.tk_host.specs.Spec.{Given, rect_of}
use Rattle.tk_host.specs.Ready.{AllRest, IsAt, IsReady, IsRouted}
use Rattle.tk_host.specs.Slots.{AreAt}
use Rattle.tk_host.specs.Turns.{after_each, after_given, applications, stages_of, turns_given, turns_on_the_way}
use Rattle.tk_host.proofs.Parts.{added_more, all_rest, apps_at, brought_all, rest_at, start_past, start_rest}
use Rattle.tk_app.proofs.Settled.{settled_is_past}

-- ── the router ──

-- from the start on, what is known is what the router knows
known_on : (phase : Phase) (moment : ℕ) (rects : List Rect) (known : Values) → IsAt moment phase → known_by phase rects known ≡ known
known_on Adding moment rects known at = absurd at
known_on (Reached reached) moment rects known at = refl
known_on (Finished reached) moment rects known at = refl
known_on Lost moment rects known at = refl

pub known_reached : (phase : Phase) (last : ℕ) (rects : List Rect) (known : Values) → phase ≡ Reached last → known_by phase rects known ≡ known
known_reached phase last rects known is = ap (λ p. known_by p rects known) is

-- nobody was refused memory in a phase that is reached
asker_on : (phase : Phase) (moment : ℕ) (asker : Option ℕ) → IsAt moment phase → asker_in phase asker ≡ None
asker_on Adding moment asker at = absurd at
asker_on (Reached reached) moment asker at = refl
asker_on (Finished reached) moment asker at = refl
asker_on Lost moment asker at = absurd at

asker_reached : (phase : Phase) (last : ℕ) (asker : Option ℕ) → phase ≡ Reached last → asker_in phase asker ≡ None
asker_reached phase last asker is = ap (λ p. asker_in p asker) is

module _ {M : Type 0} where
  pub routed_new : (known : Values) → IsRouted {M = M} Adding [] known []
  routed_new known = record { adding = λ e. (refl, omega arith, refl); reached = λ last e. cc }

  pub routed_lost : (rects : List Rect) (known : Values) (parts : List (Part M)) → IsRouted Lost rects known parts
  routed_lost rects known parts = record { adding = λ e. cc; reached = λ last e. cc }

  pub routed_start : (first rects : List Rect) (known : Values) (parts : List (Part M)) → known ≡ values first [] → IsRouted (Reached 0) rects known parts
  routed_start first rects known parts is = record {
    adding = λ e. cc;
    reached = λ last e. let none : known.moment ≡ 0 = ap (λ (k : Values). k.moment) is in (omega (arith, none), first, [], is);
  }

  pub routed_line : (rects first : List Rect) (earlier : List Line) (line : Line) (known : Values) (parts : List (Part M)) → known ≡ values first (line ∷ earlier)
      → IsRouted (Reached line.moment) rects known parts
  routed_line rects first earlier line known parts is = record {
    adding = λ e. cc;
    reached = λ last e. let there : known.moment ≡ line.moment = ap (λ (k : Values). k.moment) is in let same : line.moment ≡ last = cc in (omega (arith, there, same), first, line ∷ earlier, is);
  }

  pub routed_gone : (phase to : Phase) (before moment : ℕ) (rects : List Rect) (known : Values) (old new : List (Part M)) → phase ≡ Reached before → before ≤ moment → IsAt moment to
      → IsRouted phase rects known old → IsRouted to rects known new
  routed_gone phase Adding before moment rects known old new is le at routed = absurd at
  routed_gone phase (Reached reached) before moment rects known old new is le at routed = record {
    adding = λ e. cc;
    reached = λ last e. let same : reached ≡ last = cc in let was = routed.reached before is in (omega (arith, was.0, le, at, same), was.1, was.2, was.3);
  }
  routed_gone phase (Finished reached) before moment rects known old new is le at routed = record { adding = λ e. cc; reached = λ last e. cc }
  routed_gone phase Lost before moment rects known old new is le at routed = absurd at

-- ── what is due of all ──

-- the events are of this moment
abbrev pub AreOf : ℕ → List LocalEvent → Type 0
AreOf moment [] = Unit {0}
AreOf moment (event ∷ events) = (event.moment ≡ moment) × AreOf moment events

pub events_at : (moment slot : ℕ) (given : List Delivery) → AreAt moment given → AreOf moment (events_of slot given)
events_at moment slot [] at = tt
events_at moment slot (delivery ∷ given) at = by (nat_eq delivery.slot slot) (events_at moment slot given at.1)
  where
    by : (b : Bool) → AreOf moment (events_of slot given) → AreOf moment (map (λ (d : Delivery). d.event) (cond b (delivery ∷ filter (λ (d : Delivery). d.slot == slot) given) (filter (λ (d : Delivery). d.slot == slot) given)))
    by true later = (at.0, later)
    by false later = later

module _ {M : Type 0} (answer : M → Meaning) where
  each_past : (moment : ℕ) (events : List LocalEvent) (application : Application M) → AreOf moment events → IsPast moment (next_due application) → IsPast moment (next_due (after_each answer events application))
  each_past moment [] application at past = past
  each_past moment (event ∷ events) application at past =
      each_past moment events (settled answer event.moment (delivered event application)) at.1
      (subst (λ m. IsPast m (next_due (settled answer event.moment (delivered event application)))) at.0 (settled_is_past answer event.moment (delivered event application)))

  -- once applications have done what comes of events, nothing is due of them by their moment
  pub given_past : (moment slot : ℕ) (given : List Delivery) (apps : List (Application M)) → AreAt moment given → IsPast moment (first_moment_due next_due (settled answer) apps)
      → IsPast moment (first_moment_due next_due (settled answer) (after_given answer slot given apps))
  given_past moment slot given [] at past = tt
  given_past moment slot given (application ∷ apps) at past =
      let both = both_past moment (next_due application) (first_moment_due next_due (settled answer) apps) past in
      past_both moment (next_due (after_each answer (events_of slot given) application)) (first_moment_due next_due (settled answer) (after_given answer (slot + 1) given apps))
      (each_past moment (events_of slot given) application (events_at moment slot given at) both.0) (given_past moment (slot + 1) given apps at both.1)

  -- ── the parts ──

  pub ready_new : IsReady answer Adding 0 []
  ready_new = record { adding = λ e. (refl, tt); reached = λ last e. cc }

  pub ready_lost : (clock : ℕ) (parts : List (Part M)) → IsReady answer Lost clock parts
  ready_lost clock parts = record { adding = λ e. cc; reached = λ last e. cc }

  pub ready_more : (phase : Phase) (clock : ℕ) (parts : List (Part M)) (spec : Spec M) → phase ≡ Adding → IsReady answer phase clock parts → IsReady answer phase clock (parts ++ added spec ∷ [])
  ready_more phase clock parts spec is ready = record {
    adding = λ e. let held = ready.adding e in (held.0, added_more answer parts spec held.1);
    reached = λ last e. let wrong : Adding ≡ Reached last = sym is ∙ e in cc;
  }

  pub ready_started : (clock now : ℕ) (parts done : List (Part M)) → IsReady answer Adding clock parts → now ≡ clock → done ≡ map (stage_done answer clock) parts → IsReady answer (Reached 0) now done
  ready_started clock now parts done ready same is =
      let held = ready.adding refl in
      let at : done ≡ map (stage_done answer 0) parts = is ∙ ap (λ n. map (stage_done answer n) parts) held.0 in
      let start : now ≡ 0 = same ∙ held.0 in
      record {
        adding = λ e. cc;
        reached = λ last e. (
          omega (arith, start),
          subst AllRest (sym at) (start_rest answer parts held.1),
          subst (λ n. IsPast n (first_moment_due next_due (settled answer) (applications done))) (sym start)
              (subst (λ ps. IsPast 0 (first_moment_due next_due (settled answer) (applications ps))) (sym at) (start_past answer parts held.1)),
        );
      }

  pub ready_gone : (phase : Phase) (moment clock : ℕ) (parts : List (Part M)) → IsAt moment phase → AllRest parts → IsPast clock (first_moment_due next_due (settled answer) (applications parts)) → clock ≤ moment
      → IsReady answer phase clock parts
  ready_gone Adding moment clock parts at rest past ahead = absurd at
  ready_gone (Reached reached) moment clock parts at rest past ahead = record {
    adding = λ e. cc;
    reached = λ last e. let same : reached ≡ last = cc in (omega (arith, ahead, at, same), rest, past);
  }
  ready_gone (Finished reached) moment clock parts at rest past ahead = record { adding = λ e. cc; reached = λ last e. cc }
  ready_gone Lost moment clock parts at rest past ahead = absurd at

  -- after the events of a line
  pub ready_line : (moment clock : ℕ) (given : List Delivery) (apps : List (Application M)) (parts : List (Part M)) → clock ≡ moment → parts ≡ map at_rest (after_given answer 0 given apps) → AreAt moment given
      → IsPast moment (first_moment_due next_due (settled answer) apps) → IsReady answer (Reached moment) clock parts
  ready_line moment clock given apps parts now is at past =
      let after : List (Application M) = after_given answer 0 given apps in
      record {
        adding = λ e. cc;
        reached = λ last e. let same : moment ≡ last = cc in (
          omega (arith, now, same),
          subst AllRest (sym is) (rest_at answer after),
          subst (λ m. IsPast m (first_moment_due next_due (settled answer) (applications parts))) (sym now)
              (subst (λ ps. IsPast moment (first_moment_due next_due (settled answer) (applications ps))) (sym is)
              (subst (λ apps. IsPast moment (first_moment_due next_due (settled answer) apps)) (sym (apps_at answer after)) (given_past moment 0 given apps at past))),
        );
      }

  -- ── what calls leave ──

  -- what a host is seen as, by its fields
  abbrev pub seen : Phase → List Rect → Values → Option ℕ → ℕ → Applications M → Hosted M
  seen phase rects known asker slice shared =
      record { held = record { phase = phase; known = known_by phase rects known; parts = shared.parts }; slice = slice; turns = shared.turns; asker = asker_in phase asker }

  pub added_is : (phase : Phase) (rects more : List Rect) (known : Values) (asker : Option ℕ) (slice : ℕ) (shared after : Applications M) (old : Hosted M) (app : Given M) → phase ≡ Adding
      → seen phase rects known asker slice shared ≡ old → more ≡ rects ++ rect_of app ∷ [] → after ≡ record shared { parts = shared.parts ++ added app.spec ∷ [] }
      → seen phase more known asker slice after ≡ with_app app old
  added_is phase rects more known asker slice shared after old app adding is one_more now =
      ap (λ p. seen p more known asker slice after) adding
      ∙ ap (λ rs. seen Adding rs known asker slice after) one_more ∙ ap (seen Adding (rects ++ rect_of app ∷ []) known asker slice) now
      ∙ ap (λ p. with_app app (seen p rects known asker slice shared)) (sym adding) ∙ ap (with_app app) is

  pub started_is : (phase : Phase) (rects : List Rect) (known known' : Values) (asker : Option ℕ) (slice : ℕ) (shared cleared after : Applications M) (old : Hosted M) → phase ≡ Adding
      → seen phase rects known asker slice shared ≡ old → known' ≡ values rects [] → shared.moment ≡ 0
      → cleared ≡ record shared { turns = [] } → after.parts ≡ map (stage_done answer cleared.moment) cleared.parts
      → after.turns ≡ cleared.turns ++ turns_of slice (map (needs answer cleared.moment) cleared.parts)
      → seen (Reached 0) rects known' asker slice after ≡ after_start answer old
  started_is phase rects known known' asker slice shared cleared after old adding is knows start clear done told =
      let parts : after.parts ≡ map (stage_done answer 0) shared.parts =
      done ∙ ap (λ (h : Applications M). map (stage_done answer h.moment) h.parts) clear ∙ ap (λ n. map (stage_done answer n) shared.parts) start in
      let turns : after.turns ≡ turns_of slice (map (needs answer 0) shared.parts) =
      told ∙ ap (λ (h : Applications M). h.turns ++ turns_of slice (map (needs answer h.moment) h.parts)) clear ∙ ap (λ n. turns_of slice (map (needs answer n) shared.parts)) start in
      ap (λ ps. record { held = record { phase = Reached 0; known = known'; parts = ps }; slice = slice; turns = after.turns; asker = None }) parts
      ∙ ap (λ ts. record { held = record { phase = Reached 0; known = known'; parts = map (stage_done answer 0) shared.parts }; slice = slice; turns = ts; asker = None }) turns
      ∙ ap (λ k. record { held = record { phase = Reached 0; known = k; parts = map (stage_done answer 0) shared.parts }; slice = slice; turns = turns_of slice (map (needs answer 0) shared.parts); asker = None }) knows
      ∙ ap (λ p. after_start answer (seen p rects known asker slice shared)) (sym adding)
      ∙ ap (after_start answer) is

  pub gone_is : (phase to : Phase) (before moment : ℕ) (rects : List Rect) (known : Values) (asker : Option ℕ) (slice : ℕ) (shared cleared after : Applications M) (old : Hosted M) → phase ≡ Reached before → IsAt moment to
      → seen phase rects known asker slice shared ≡ old → AllRest shared.parts → cleared ≡ record shared { turns = [] }
      → applications after.parts ≡ map (passed answer moment) (applications cleared.parts) → AllRest after.parts
      → after.turns ≡ cleared.turns ++ turns_on_the_way answer slice moment (applications cleared.parts)
      → seen to rects known asker slice after ≡ gone_to answer to moment old
  gone_is phase to before moment rects known asker slice shared cleared after old from at is rest clear done rests told =
      let parts : after.parts ≡ map (with_passed answer moment) shared.parts =
      all_rest answer after.parts rests ∙ ap (map at_rest) (done ∙ ap (λ (h : Applications M). map (passed answer moment) (applications h.parts)) clear) ∙ brought_all answer moment shared.parts rest in
      let turns : after.turns ≡ turns_on_the_way answer slice moment (applications shared.parts) = told ∙ ap (λ (h : Applications M). h.turns ++ turns_on_the_way answer slice moment (applications h.parts)) clear in
      let knows : known_by to rects known ≡ known_by phase rects known = known_on to moment rects known at ∙ sym (known_reached phase before rects known from) in
      let nobody : asker_in to asker ≡ asker_in phase asker = asker_on to moment asker at ∙ sym (asker_reached phase before asker from) in
      ap (λ ps. record { held = record { phase = to; known = known_by to rects known; parts = ps }; slice = slice; turns = after.turns; asker = asker_in to asker }) parts
      ∙ ap (λ ts. record { held = record { phase = to; known = known_by to rects known; parts = map (with_passed answer moment) shared.parts }; slice = slice; turns = ts; asker = asker_in to asker }) turns
      ∙ ap (λ k. record { held = record { phase = to; known = k; parts = map (with_passed answer moment) shared.parts }; slice = slice; turns = turns_on_the_way answer slice moment (applications shared.parts); asker = asker_in to asker }) knows
      ∙ ap (λ a. record { held = record { phase = to; known = known_by phase rects known; parts = map (with_passed answer moment) shared.parts }; slice = slice; turns = turns_on_the_way answer slice moment (applications shared.parts); asker = a }) nobody
      ∙ ap (gone_to answer to moment) is

  pub lined_is : (phase : Phase) (before : ℕ) (line : Line) (first : List Rect) (earlier : List Line) (rects : List Rect) (known known' : Values) (asker : Option ℕ) (slice : ℕ) (given : List Delivery)
      (shared cleared mid moved after : Applications M) (old : Hosted M) → phase ≡ Reached before
      → seen phase rects known asker slice shared ≡ old → cleared ≡ record shared { turns = [] } → known' ≡ values first (line ∷ earlier) → given ≡ routes first earlier line
      → applications mid.parts ≡ map (passed answer line.moment) (applications cleared.parts) → mid.turns ≡ cleared.turns ++ turns_on_the_way answer slice line.moment (applications cleared.parts)
      → moved ≡ record mid { moment = line.moment }
      → after.parts ≡ map at_rest (after_given answer 0 given (applications moved.parts))
      → after.turns ≡ moved.turns ++ turns_given answer slice (stages_of given) (applications moved.parts)
      → seen (Reached line.moment) rects known' asker slice after ≡ after_line answer first earlier line old
  lined_is phase before line first earlier rects known known' asker slice given shared cleared mid moved after old from is clear knows gives done told on parts turns =
      let apps : List (Application M) = map (passed answer line.moment) (applications shared.parts) in
      let there : applications moved.parts ≡ apps =
      ap (λ (h : Applications M). applications h.parts) on ∙ done ∙ ap (λ (h : Applications M). map (passed answer line.moment) (applications h.parts)) clear in
      let way : moved.turns ≡ turns_on_the_way answer slice line.moment (applications shared.parts) =
      ap (λ (h : Applications M). h.turns) on ∙ told ∙ ap (λ (h : Applications M). h.turns ++ turns_on_the_way answer slice line.moment (applications h.parts)) clear in
      let all : after.parts ≡ map at_rest (after_given answer 0 (routes first earlier line) apps) =
      parts ∙ ap (λ ds. map at_rest (after_given answer 0 ds (applications moved.parts))) gives ∙ ap (λ apps. map at_rest (after_given answer 0 (routes first earlier line) apps)) there in
      let taken : after.turns ≡ turns_on_the_way answer slice line.moment (applications shared.parts) ++ turns_given answer slice (stages_of (routes first earlier line)) apps =
      turns ∙ ap (λ ts. ts ++ turns_given answer slice (stages_of given) (applications moved.parts)) way
      ∙ ap (λ ds. turns_on_the_way answer slice line.moment (applications shared.parts) ++ turns_given answer slice (stages_of ds) (applications moved.parts)) gives
      ∙ ap (λ apps. turns_on_the_way answer slice line.moment (applications shared.parts) ++ turns_given answer slice (stages_of (routes first earlier line)) apps) there in
      ap (λ ps. record { held = record { phase = Reached line.moment; known = known'; parts = ps }; slice = slice; turns = after.turns; asker = None }) all
      ∙ ap (λ ts. record { held = record { phase = Reached line.moment; known = known'; parts = map at_rest (after_given answer 0 (routes first earlier line) apps) }; slice = slice; turns = ts; asker = None }) taken
      ∙ ap (λ k. record {
        held = record { phase = Reached line.moment; known = k; parts = map at_rest (after_given answer 0 (routes first earlier line) apps) };
        slice = slice;
        turns = turns_on_the_way answer slice line.moment (applications shared.parts) ++ turns_given answer slice (stages_of (routes first earlier line)) apps;
        asker = None;
      }) knows
      ∙ ap (λ a. record (after_line answer first earlier line (seen phase rects known asker slice shared)) { asker = a }) (sym (asker_reached phase before asker from))
      ∙ ap (after_line answer first earlier line) is
