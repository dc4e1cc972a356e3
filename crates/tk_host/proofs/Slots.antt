-- A list of parts, slot by slot.
use Rattle.std.proofs.Common.{◌≡◌, ℕ, zero, suc, ◌+◌, ◌-◌, ◌≤◌, ◌<◌, ◌++◌, ◌||◌, min, Bool, true, false, List, [], ◌∷◌, length, get_or, set, map, drop, Option, Some, None, refl, sym, ap, ◌∙◌, subst, append-nil, arith}
use Rattle.std.specs.Prelude.{slice_get, option_map, sum}
use Rattle.std.proofs.Common.{length-set}
use Rattle.tk_app.specs.Rounds.{one_turn}
use Rattle.tk_app.specs.Stages.{earlier, first_moment_due}
use Rattle.tk_app.proofs.Reached.{Reached, TookTurn, reached_more}
use Rattle.tk_app.proofs.Rounds.{sum-cons}
use Rattle.tk_app.proofs.Slices.{done_rests}
use Rattle.tk_app.specs.declared.state.AppEnd.{AppEnd}
use Rattle.tk_app.specs.declared.state.AppEnd.TheVariants.{Settled, More, Stopped}
use Rattle.tk_app.specs.declared.state.AppState.{AppState}
use Rattle.tk_app.specs.declared.state.AppState.TheVariants.{Running, Exhausted, Closed}
use Rattle.tk_app.specs.Application.{next_due}
use Rattle.tk_app.specs.MomentsByJob.{settled}
use Rattle.tk_app.specs.Part.{Part, Work, Rests, is_under_way, needs, settling_as, settling_begun, stage_done}
use Rattle.tk_app.specs.Turns.{Applications, SettlesSlot}
use Rattle.tk_host.specs.Slots.{TakesTurn}
use Rattle.tk_host.specs.Turns.{applications}
use Rattle.tk_host.proofs.Parts.{done_at_rest}
use Rattle.tk_app.specs.Seen.{Meaning}

module _ {M : Type 0} (answer : M → Meaning) where
  pub get_or_some : (ps : List (Part M)) (i : ℕ) (p : Part M) → slice_get ps i ≡ Some p → get_or ps i p ≡ p
  get_or_some [] i p is = refl
  get_or_some (q ∷ ps) zero p is = cc
  get_or_some (q ∷ ps) (suc i) p is = get_or_some ps i p is

  -- a part put where it was
  pub set_same : (ps : List (Part M)) (i : ℕ) (p : Part M) → slice_get ps i ≡ Some p → set ps i p ≡ ps
  set_same [] i p is = refl
  set_same (q ∷ ps) zero p is = cc
  set_same (q ∷ ps) (suc i) p is = ap (λ qs. q ∷ qs) (set_same ps i p is)

  -- what is told of a slot is of the part that is there
  pub part_there : {T : Type 0} (f : Part M → T) (ps : List (Part M)) (i : ℕ) (x : T) → option_map f (slice_get ps i) ≡ Some x → (p : Part M) × (slice_get ps i ≡ Some p) × (f p ≡ x)
  part_there f ps i x is = by (slice_get ps i) refl is
    where
      by : (o : Option (Part M)) → slice_get ps i ≡ o → option_map f o ≡ Some x → (p : Part M) × (slice_get ps i ≡ Some p) × (f p ≡ x)
      by None at told = cc
      by (Some p) at told = (p, at, let same : f p ≡ x = cc in same)

  -- ── the first that is due ──

  earlier_assoc : (a b c : Option ℕ) → earlier a (earlier b c) ≡ earlier (earlier a b) c
  earlier_assoc None b c = refl
  earlier_assoc (Some x) None c = refl
  earlier_assoc (Some x) (Some y) None = refl
  earlier_assoc (Some x) (Some y) (Some z) = let least : min x (min y z) ≡ min (min x y) z = omega arith in ap Some least

  pub due_there : (ps : List (Part M)) (i : ℕ) (first o : Option ℕ) → option_map (λ (part : Part M). next_due part.application) (slice_get ps i) ≡ Some o
      → earlier first (first_moment_due next_due (settled answer) (drop i (applications ps))) ≡ earlier (earlier first o) (first_moment_due next_due (settled answer) (drop (i + 1) (applications ps)))
  due_there [] i first o told = cc
  due_there (p ∷ ps) zero first o told =
      let same : next_due p.application ≡ o = cc in
      ap (λ d. earlier first (earlier d (first_moment_due next_due (settled answer) (applications ps)))) same ∙ earlier_assoc first o (first_moment_due next_due (settled answer) (applications ps))
  due_there (p ∷ ps) (suc i) first o told =
      let more : suc i + 1 ≡ suc (i + 1) = omega arith in
      due_there ps i first o told ∙ ap (λ n. earlier (earlier first o) (first_moment_due next_due (settled answer) (drop n (applications (p ∷ ps))))) (sym more)

  -- ── turns ──

  -- settling has begun where something is under way
  pub begun_already : (part : Part M) → is_under_way part.work ≡ true → settling_begun part ≡ part
  begun_already part goes = by part.application.state part.work refl
    where
      by : (state : AppState) (work : Work) → part.work ≡ work → record { application = part.application; work = settling_as state work } ≡ part
      by Running Rests is = let wrong : is_under_way part.work ≡ false = ap is_under_way is in cc
      by Running work is = ap (λ (w : Work). record { application = part.application; work = w }) (sym is)
      by Exhausted work is = ap (λ (w : Work). record { application = part.application; work = w }) (sym is)
      by Closed work is = ap (λ (w : Work). record { application = part.application; work = w }) (sym is)

  rests_unless : (work : Work) → is_under_way work ≡ false → work ≡ Rests
  rests_unless Rests is = refl
  rests_unless work is = cc

  -- where nothing is under way, a turn takes nothing
  pub turn_at_rest : (slice slot : ℕ) (held : Applications M) → option_map (λ (part : Part M). is_under_way part.work) (slice_get held.parts slot) ≡ Some false → TakesTurn answer slice slot false held held
  turn_at_rest slice slot held told =
      let there = part_there (λ (part : Part M). is_under_way part.work) held.parts slot false told in
      let part : Part M = there.0 in
      let done : stage_done answer held.moment part ≡ part = done_at_rest answer held.moment part (rests_unless part.work there.2) in
      let none : needs answer held.moment part ≡ 0 = ap (λ (p : Part M). part.application.steps - p.application.steps) done ∙ omega arith in
      let nothing : min slice (needs answer held.moment part) ≡ 0 = omega (arith, none) in
      record {
        before = part;
        after = part;
        was = there.1;
        changed = sym (set_same held.parts slot part there.1);
        same = refl;
        left = omega (arith, none);
        told = sym (append-nil held.turns) ∙ ap (λ n. held.turns ++ one_turn slot n) (sym nothing);
        last = λ e. sym done;
        more = λ e. cc;
        moment = refl;
      }

  -- and else what settling takes
  turn_by : (slice slot : ℕ) (end : AppEnd) (again : Bool) (old new : Applications M) → option_map (λ (part : Part M). is_under_way part.work) (slice_get old.parts slot) ≡ Some true
      → (again ≡ false → end ≡ More → ⊥) → (again ≡ true → end ≡ More) → SettlesSlot answer slice slot end old new → TakesTurn answer slice slot again old new
  turn_by slice slot end again old new told done goes_on settles =
      let there = part_there (λ (part : Part M). is_under_way part.work) old.parts slot true told in
      let same_part : there.0 ≡ settles.before = (let is : Some there.0 ≡ Some settles.before = sym there.1 ∙ settles.was in cc) in
      let goes : is_under_way settles.before.work ≡ true = ap (λ (p : Part M). is_under_way p.work) (sym same_part) ∙ there.2 in
      let begun : settling_begun settles.before ≡ settles.before = begun_already settles.before goes in
      record {
        before = settles.before;
        after = settles.after;
        was = settles.was;
        changed = settles.changed;
        same = settles.turn.same ∙ ap (stage_done answer old.moment) begun;
        left = settles.turn.left ∙ ap (λ p. needs answer old.moment p - slice) begun;
        told = settles.told ∙ ap (λ p. old.turns ++ one_turn slot (min slice (needs answer old.moment p))) begun;
        last = λ e. settles.turn.last (done e) ∙ ap (stage_done answer old.moment) begun;
        more = λ e. let le : slice ≤ needs answer old.moment (settling_begun settles.before) = settles.turn.more (goes_on e) in omega (arith, le, ap (needs answer old.moment) begun);
        moment = settles.moment;
      }

  pub turn_on : (slice slot : ℕ) (old new : Applications M) → option_map (λ (part : Part M). is_under_way part.work) (slice_get old.parts slot) ≡ Some true → SettlesSlot answer slice slot More old new
      → TakesTurn answer slice slot true old new
  turn_on slice slot old new told settles = turn_by slice slot More true old new told (λ e. cc) (λ e. refl) settles

  pub turn_settled : (slice slot : ℕ) (old new : Applications M) → option_map (λ (part : Part M). is_under_way part.work) (slice_get old.parts slot) ≡ Some true → SettlesSlot answer slice slot Settled old new
      → TakesTurn answer slice slot false old new
  turn_settled slice slot old new told settles = turn_by slice slot Settled false old new told (λ e more. cc) (λ e. cc) settles

  pub turn_stopped : (slice slot : ℕ) (old new : Applications M) → option_map (λ (part : Part M). is_under_way part.work) (slice_get old.parts slot) ≡ Some true → SettlesSlot answer slice slot Stopped old new
      → TakesTurn answer slice slot false old new
  turn_stopped slice slot old new told settles = turn_by slice slot Stopped false old new told (λ e more. cc) (λ e. cc) settles

  -- ── a round ──

  -- the parts below a slot have had their turn
  pub record Reaches (slice slot : ℕ) (old now : Applications M) (more : Bool) : Type 0 where
    pub moment : now.moment ≡ old.moment
    pub size : length now.parts ≡ length old.parts
    pub reached : Reached (stage_done answer old.moment) (needs answer old.moment) slice slot old.parts now.parts old.turns now.turns more

  pub reaches_more : (slice slot : ℕ) (old now new : Applications M) (more again : Bool) → 1 ≤ slice → slot < length old.parts
      → Reaches slice slot old now more → TakesTurn answer slice slot again now new → Reaches slice (slot + 1) old new (more || again)
  reaches_more slice slot old now new more again positive lt here turn =
      let m : ℕ = old.moment in
      let is : now.moment ≡ m = here.moment in
      let at : get_or now.parts slot turn.before ≡ turn.before = get_or_some now.parts slot turn.before turn.was in
      let took : TookTurn (stage_done answer m) (needs answer m) slice slot turn.before turn.after now.turns new.turns again = record {
        same = ap (λ n. stage_done answer n turn.after) (sym is) ∙ turn.same ∙ ap (λ n. stage_done answer n turn.before) is;
        left = ap (λ n. needs answer n turn.after) (sym is) ∙ turn.left ∙ ap (λ n. needs answer n turn.before - slice) is;
        told = turn.told ∙ ap (λ n. now.turns ++ one_turn slot (min slice (needs answer n turn.before))) is;
        last = λ e. turn.last e ∙ ap (λ n. stage_done answer n turn.before) is;
        more = λ e. omega (arith, turn.more e, ap (λ n. needs answer n turn.before) is);
      } in
      let next : Reached (stage_done answer m) (needs answer m) slice (slot + 1) old.parts (set now.parts slot turn.after) old.turns new.turns (more || again) =
      reached_more (stage_done answer m) (needs answer m) slice slot old.parts now.parts old.turns now.turns new.turns more again turn.before turn.after positive (omega (arith, lt, here.size)) here.size here.reached
      (subst (λ p. TookTurn (stage_done answer m) (needs answer m) slice slot p turn.after now.turns new.turns again) (sym at) took) in
      record {
        moment = turn.moment ∙ is;
        size = ap length turn.changed ∙ length-set now.parts slot turn.after ∙ here.size;
        reached = subst (λ ps. Reached (stage_done answer m) (needs answer m) slice (slot + 1) old.parts ps old.turns new.turns (more || again)) (sym turn.changed) next;
      }

  -- ── once all is done ──

  needs_done : (moment : ℕ) (part : Part M) → needs answer moment (stage_done answer moment part) ≡ 0
  needs_done moment part =
      ap (λ (p : Part M). (stage_done answer moment part).application.steps - p.application.steps) (done_at_rest answer moment (stage_done answer moment part) (done_rests answer moment part)) ∙ omega arith

  pub none_needed : (moment : ℕ) (parts : List (Part M)) → sum (map (needs answer moment) (map (stage_done answer moment) parts)) ≡ 0
  none_needed moment [] = refl
  none_needed moment (part ∷ parts) =
      omega (arith, sum-cons (needs answer moment (stage_done answer moment part)) (map (needs answer moment) (map (stage_done answer moment) parts)), needs_done moment part, none_needed moment parts)
