-- What a slice of an application's interpreter makes of its part.
use Rattle.std.specs.Prelude.{◌⊎◌}
use Rattle.std.proofs.Common.{◌≡◌, ◌≢◌, inl, inr, ℕ, ◌+◌, ◌≤◌, List, refl, sym, ap, ◌∙◌, subst, arith}
use Rattle.tcl_control.specs.declared.code.Code.{Code}
use Rattle.tcl_vars.specs.Store.{Store}
use Rattle.tcl_interp.specs.Evaluation.{State, Outcome, Ended, OutOfSteps}
use Rattle.tcl_interp.specs.Finish.{RestToDo, Running as RestRunning, Idle, Spent, Broken, finish}
use Rattle.tcl_interp.specs.declared.interp.Interp.{Interp}
use Rattle.tcl_interp.specs.declared.interp.SliceEnd.{SliceEnd}
use Rattle.tcl_interp.specs.declared.interp.SliceEnd.TheVariants as slice
use Rattle.tcl_interp.specs.Interp.{IsRunning, context_of, left_of, rest_of, state_of}
use Rattle.tcl_interp.proofs.Bounds.{Within}
use Rattle.tcl_interp.proofs.Finishing.{within_finish}
use Rattle.tcl_interp.specs.declared.job.Task.{Task}
use Rattle.tk_panel.specs.declared.job.Job.{Job}
use Rattle.tk_panel.specs.Panel.{Panel}
use Rattle.tk_app.specs.declared.runner.Progress.{Progress}
use Rattle.tk_app.specs.declared.runner.Progress.TheVariants.{Going}
use Rattle.tk_app.specs.declared.state.AppEnd.{AppEnd}
use Rattle.tk_app.specs.declared.state.AppEnd.TheVariants.{Settled, More, Stopped}
use Rattle.tk_app.specs.declared.state.AppState.{AppState}
use Rattle.tk_app.specs.declared.state.AppState.TheVariants.{Running, Exhausted, Closed}
use Rattle.tk_app.specs.Application.{Application}
use Rattle.tk_app.specs.Outside.{outside}
use Rattle.tk_app.specs.Moments.{after_outcome, granted, state_after, state_in, with_left}
use Rattle.tk_app.specs.Part.{Part, Work, Rests, Goes, done_as, settling_as, settling_begun, stage_done, work_of}
use Rattle.tk_app.specs.Seen.{Meaning, Seen, meanings}
use Rattle.tk_app.specs.Turns.{EndsAs, IsAsFar, Program, TakesTurn, end_as, end_of, part_of, program_with, work_by}

-- what goes on doesn't rest
goes_work : (rest : RestToDo (Task Job)) (levels : List ℕ) → IsRunning rest → work_of rest levels ≢ Rests
goes_work rest levels (doing, waits, is) rests =
    let P : RestToDo (Task Job) → Type 0 = λ r. work_of r levels ≡ Rests in
    let gone : Goes levels doing waits ≡ Rests = subst P is rests in
    cc

-- and what doesn't rest goes on
pub rest_goes : (rest : RestToDo (Task Job)) (levels : List ℕ) → work_of rest levels ≢ Rests → IsRunning rest
rest_goes Idle levels goes = absurd (goes refl)
rest_goes (RestRunning doing waits) levels goes = (doing, waits, refl)
rest_goes Spent levels goes = absurd (goes refl)
rest_goes Broken levels goes = absurd (goes refl)

pub not_idle : (rest : RestToDo (Task Job)) → IsRunning rest → rest ≢ Idle
not_idle rest (doing, waits, is) idle = let gone : RestRunning doing waits ≡ Idle = sym is ∙ idle in cc

-- settling that has begun doesn't rest
pub settling_goes : (state : AppState) (work : Work) → state ≡ Running → settling_as state work ≢ Rests
settling_goes Running Rests runs rests = cc
settling_goes Running (Goes levels doing waits) runs rests = cc
settling_goes Exhausted work runs rests = cc
settling_goes Closed work runs rests = cc

-- ── how a slice ended ──

pub settled_of : (end : SliceEnd) → end_of end ≡ Settled → (code : Code) × (text : List ℕ) × (end ≡ slice.Done code text)
settled_of (slice.Done code text) is = (code, text, refl)
settled_of slice.More is = absurd (let wrong : More ≡ Settled = is in cc)
settled_of slice.Exhausted is = absurd (let wrong : Stopped ≡ Settled = is in cc)

pub more_of : (end : SliceEnd) → end_of end ≡ More → end ≡ slice.More
more_of (slice.Done code text) is = absurd (let wrong : Settled ≡ More = is in cc)
more_of slice.More is = refl
more_of slice.Exhausted is = absurd (let wrong : Stopped ≡ More = is in cc)

pub stopped_of : (end : SliceEnd) → end_of end ≡ Stopped → end ≡ slice.Exhausted
stopped_of (slice.Done code text) is = absurd (let wrong : Settled ≡ Stopped = is in cc)
stopped_of slice.More is = absurd (let wrong : More ≡ Stopped = is in cc)
stopped_of slice.Exhausted is = refl

-- nothing is under way once it has ended, and there is no more to do
ends_rest : (state : AppState) → work_by state Rests ≡ Rests
ends_rest Running = refl
ends_rest Exhausted = refl
ends_rest Closed = refl

pub ends_over : (state : AppState) → end_as state ≢ More
ends_over Running e = cc
ends_over Exhausted e = cc
ends_over Closed e = cc

ends_as : {M : Type 0} (state : AppState) (part : Part M) → part.application.state ≡ state → part.work ≡ Rests → EndsAs (end_as state) part
ends_as Running part is rests = (is, rests)
ends_as Exhausted part is rests = ((λ e. let wrong : Exhausted ≡ Running = sym is ∙ e in cc), rests)
ends_as Closed part is rests = ((λ e. let wrong : Closed ≡ Running = sym is ∙ e in cc), rests)

-- ── an application that doesn't run ──

pub work_stops : (state : AppState) (work : Work) → state ≢ Running → work_by state work ≡ Rests
work_stops Running work stopped = absurd (stopped refl)
work_stops Exhausted work stopped = refl
work_stops Closed work stopped = refl

settling_stops : (state : AppState) (work : Work) → state ≢ Running → settling_as state work ≡ work
settling_stops Running work stopped = absurd (stopped refl)
settling_stops Exhausted work stopped = refl
settling_stops Closed work stopped = refl

-- what runs and doesn't rest has an interpreter that goes on
going_rest : {M : Type 0} (program : Program M) (state : AppState) (rest : RestToDo (Task Job)) (levels : List ℕ) → state ≡ program.state → work_by state (work_of rest levels) ≡ program.work
    → program.state ≡ Running → program.work ≢ Rests → IsRunning rest
going_rest program state rest levels same work runs goes =
    rest_goes rest levels (λ rests. goes (sym work ∙ ap (λ s. work_by s (work_of rest levels)) (same ∙ runs) ∙ rests))

-- where something is under way, an event comes before the first step
pub full_granted : {M : Type 0} (program : Program M) (progress : Progress) (state : AppState) (rest : RestToDo (Task Job)) (levels : List ℕ) → progress ≡ Going → IsAsFar progress state rest → state ≡ program.state
    → work_by state (work_of rest levels) ≡ program.work → program.state ≡ Running → (program.work ≡ Rests) ⊎ (program.steps ≡ program.budget.total)
    → program ≡ record program { steps = granted program.budget program.steps }
full_granted program progress state rest levels goes far same work runs may =
    let running : IsRunning rest = subst (λ p. IsAsFar p state rest) goes far in
    let is : work_of rest levels ≡ program.work = ap (λ s. work_by s (work_of rest levels)) (sym (same ∙ runs)) ∙ work in
    elim may [
      | inl rests ↦ absurd (goes_work rest levels running (is ∙ rests))
      | inr full ↦ (let all : program.steps ≡ granted program.budget program.steps = omega (arith, full) in ap (λ n. record program { steps = n }) all)
    ]

module _ {M : Type 0} (answer : M → Meaning) where
  -- ── what is under way ──

  -- nothing is under way once it is done
  pub done_rests : (moment : ℕ) (part : Part M) → (stage_done answer moment part).work ≡ Rests
  unfolding stage_done
  done_rests moment part = by part.work
    where
      by : (work : Work) → (done_as answer moment work part.application).work ≡ Rests
      by Rests = refl
      by (Goes levels doing waits) = refl

  -- and what rests stays
  pub rests_stays : (moment : ℕ) (part : Part M) → part.work ≡ Rests → stage_done answer moment part ≡ part
  unfolding stage_done
  rests_stays moment part rests =
      ap (λ w. done_as answer moment w part.application) rests ∙ ap (λ w. record { application = part.application; work = w }) (sym rests)

  steps_of_outcome : (outcome : Outcome Seen) (application : Application M) → Within application.steps outcome → (after_outcome outcome application).steps ≤ application.steps
  steps_of_outcome (Ended left code text) application within = within
  steps_of_outcome (OutOfSteps left) application within = omega arith

  -- steps only fall
  pub done_within : (moment : ℕ) (part : Part M) → (stage_done answer moment part).application.steps ≤ part.application.steps
  unfolding stage_done
  done_within moment part = by part.work
    where
      by : (work : Work) → (done_as answer moment work part.application).application.steps ≤ part.application.steps
      by Rests = omega arith
      by (Goes levels doing waits) =
          let state = state_in answer levels moment part.application in
          steps_of_outcome (finish outside (RestRunning doing waits) state) part.application (within_finish outside part.application.steps (RestRunning doing waits) state (omega arith))

  -- ── turns ──

  -- a turn with which all is done
  pub turn_last : (moment steps : ℕ) (end : AppEnd) (begun after : Part M) → after ≡ stage_done answer moment begun → begun.application.steps ≤ after.application.steps + steps
      → end ≢ More → EndsAs end after → TakesTurn answer moment steps end begun after
  turn_last moment steps end begun after all most over ends =
      let rests : after.work ≡ Rests = ap (λ p. p.work) all ∙ done_rests moment begun in
      let stays : stage_done answer moment after ≡ after = rests_stays moment after rests in
      let none : (stage_done answer moment after).application.steps ≡ after.application.steps = ap (λ p. p.application.steps) stays in
      let left : after.application.steps ≡ (stage_done answer moment begun).application.steps = ap (λ p. p.application.steps) all in
      record {
        same = stays ∙ all;
        left = omega (arith, none, left, most);
        taken = omega (arith, left, most);
        last = λ _. all;
        more = λ e. absurd (over e);
        ends = ends;
      }

  -- a turn with more to do behind it
  pub turn_more : (moment steps : ℕ) (begun after : Part M) → stage_done answer moment after ≡ stage_done answer moment begun → after.application.steps + steps ≡ begun.application.steps
      → EndsAs More after → TakesTurn answer moment steps More begun after
  turn_more moment steps begun after same took ends =
      let final : (stage_done answer moment after).application.steps ≡ (stage_done answer moment begun).application.steps = ap (λ p. p.application.steps) same in
      let within = done_within moment after in
      record {
        same = same;
        left = omega (arith, final, took);
        taken = omega (arith, final, took, within);
        last = λ over. absurd (over refl);
        more = λ _. omega (arith, final, took, within);
        ends = ends;
      }

  -- ── slices ──

  -- what an interpreter has under way is done as it finishes
  done_of_rest : (moment : ℕ) (rest : RestToDo (Task Job)) (levels : List ℕ) (application : Application M) → IsRunning rest
      → done_as answer moment (work_of rest levels) application ≡ record { application = after_outcome (finish outside rest (state_in answer levels moment application)) application; work = Rests }
  done_of_rest moment rest levels application (doing, waits, is) =
      let P : RestToDo (Task Job) → Type 0 = λ r.
      done_as answer moment (work_of r levels) application ≡ record { application = after_outcome (finish outside r (state_in answer levels moment application)) application; work = Rests } in
      subst P (sym is) refl

  -- what has become of it is the same from where it was left
  after_again : (outcome : Outcome Seen) (left : State Seen) (application : Application M) → after_outcome outcome (with_left left application) ≡ after_outcome outcome application
  after_again (Ended state code text) left application = refl
  after_again (OutOfSteps state) left application = refl

  -- an application that runs, and what its interpreter has under way
  abbrev pub going : Application M → RestToDo (Task Job) → List ℕ → Part M
  going application rest levels = record { application = application; work = work_by application.state (work_of rest levels) }

  going_runs : (application : Application M) (rest : RestToDo (Task Job)) (levels : List ℕ) → application.state ≡ Running
      → going application rest levels ≡ record { application = application; work = work_of rest levels }
  going_runs application rest levels runs = ap (λ s. record { application = application; work = work_by s (work_of rest levels) }) runs

  pub done_going : (moment : ℕ) (application : Application M) (rest : RestToDo (Task Job)) (levels : List ℕ) → application.state ≡ Running → IsRunning rest
      → stage_done answer moment (going application rest levels)
      ≡ record { application = after_outcome (finish outside rest (state_in answer levels moment application)) application; work = Rests }
  unfolding stage_done
  done_going moment application rest levels runs running =
      ap (λ (p : Part M). done_as answer moment p.work p.application) (going_runs application rest levels runs) ∙ done_of_rest moment rest levels application running

  module _ (moment : ℕ) (application : Application M) (rest : RestToDo (Task Job)) (levels : List ℕ) (runs : application.state ≡ Running) (running : IsRunning rest) where
    abbrev outcome : Outcome Seen
    outcome = finish outside rest (state_in answer levels moment application)

    -- it ended
    pub all_done : (left : State Seen) (code : Code) (text : List ℕ) (rest' : RestToDo (Task Job)) (levels' : List ℕ) → outcome ≡ Ended left code text → rest' ≡ Idle
        → going (record (with_left left application) { state = state_after left.shows.panel }) rest' levels' ≡ stage_done answer moment (going application rest levels)
    all_done left code text rest' levels' ended idle =
        let over : Application M = record (with_left left application) { state = state_after left.shows.panel } in
        ap (λ r. record { application = over; work = work_by over.state (work_of r levels') }) idle
        ∙ ap (λ w. record { application = over; work = w }) (ends_rest over.state)
        ∙ sym (done_going moment application rest levels runs running ∙ ap (λ o. record { application = after_outcome o application; work = Rests }) ended)

    -- a step was needed, and none was left
    pub all_spent : (left : State Seen) (rest' : RestToDo (Task Job)) (levels' : List ℕ) → outcome ≡ OutOfSteps left → left.steps ≡ 0
        → going (record (with_left left application) { state = Exhausted }) rest' levels' ≡ stage_done answer moment (going application rest levels)
    all_spent left rest' levels' out none =
        ap (λ n. record { application = record (with_left left application) { steps = n; state = Exhausted }; work = Rests }) none
        ∙ sym (done_going moment application rest levels runs running ∙ ap (λ o. record { application = after_outcome o application; work = Rests }) out)

    -- it goes on: the same is to be done
    pub goes_on : (left : State Seen) (rest' : RestToDo (Task Job)) → outcome ≡ finish outside rest' left → IsRunning rest' → left ≡ state_in answer left.context.levels moment (with_left left application)
        → stage_done answer moment (going (with_left left application) rest' left.context.levels) ≡ stage_done answer moment (going application rest levels)
    goes_on left rest' same running' stands =
        done_going moment (with_left left application) rest' left.context.levels runs running'
        ∙ ap (λ s. record { application = after_outcome (finish outside rest' s) (with_left left application); work = Rests }) (sym stands)
        ∙ ap (λ a. record { application = a; work = Rests }) (after_again (finish outside rest' left) left application)
        ∙ ap (λ o. record { application = after_outcome o application; work = Rests }) (sym same)
        ∙ sym (done_going moment application rest levels runs running)

  -- ── a runner ──

  -- a runner, with another interpreter and other variables
  abbrev pub ran : Program M → Interp (Task Job) → Store → AppState → Program M
  ran program interp store state = program_with program.name program.aliases program.budget store interp state

  -- a slice of an interpreter, between what its application had in the tables, which goes on, and what it has then
  module _ (program : Program M) (panel panel' : Panel) (interp interp' : Interp (Task Job)) (store store' : Store) (state : AppState) (now : Program M) (is : ran program interp store state ≡ now)
      (runs : now.state ≡ Running) (goes : now.work ≢ Rests) (moment : panel'.moment ≡ panel.moment) where
    own_runs : state ≡ Running
    own_runs = ap (λ (p : Program M). p.state) is ∙ runs

    running : IsRunning (rest_of interp)
    running = going_rest now state (rest_of interp) (context_of interp).levels (ap (λ (p : Program M). p.state) is) (ap (λ (p : Program M). p.work) is) runs goes

    abbrev before : Part M
    before = part_of panel (ran program interp store state)

    from_now : (steps : ℕ) (end : AppEnd) (after : Part M) → TakesTurn answer panel.moment steps end before after → TakesTurn answer panel.moment steps end (part_of panel now) after
    from_now steps end after turn = subst (λ (p : Program M). TakesTurn answer panel.moment steps end (part_of panel p) after) is turn

    abbrev after_as : AppState → Part M
    after_as state' = part_of panel' (ran program interp' store' state')

    -- what its scripts see
    abbrev seen : Panel → Seen
    seen there = record { serves = meanings answer program.aliases; panel = there }

    abbrev left : State Seen
    left = state_of interp' (seen panel') store'

    abbrev outcome_of : Outcome Seen
    outcome_of = finish outside (rest_of interp) (state_of interp (seen panel) store)

    -- the moment stays
    stands : left ≡ state_in answer left.context.levels panel.moment (with_left left before.application)
    stands = ap (λ m. record left { shows = seen (record panel' { moment = m }) }) moment

    -- what is under way then
    work_then : (after_as state).work ≡ work_of (rest_of interp') (context_of interp').levels
    work_then = ap (λ s. work_by s (work_of (rest_of interp') (context_of interp').levels)) own_runs

    -- it has ended
    pub turn_settles : (steps : ℕ) (code : Code) (text : List ℕ) → outcome_of ≡ Ended left code text → rest_of interp' ≡ Idle → left_of interp ≤ left_of interp' + steps
        → TakesTurn answer panel.moment steps (end_as (state_after panel')) (part_of panel now) (after_as (state_after panel'))
    turn_settles steps code text ended idle most =
        let state' : AppState = state_after panel' in
        from_now steps (end_as state') (after_as state') (turn_last panel.moment steps (end_as state') before (after_as state')
        (all_done panel.moment before.application (rest_of interp) (context_of interp).levels own_runs running left code text (rest_of interp') (context_of interp').levels ended idle)
        most (ends_over state') (ends_as state' (after_as state') refl (ap (λ r. work_by state' (work_of r (context_of interp').levels)) idle ∙ ends_rest state')))

    pub turn_stops : (steps : ℕ) → outcome_of ≡ OutOfSteps left → left_of interp' ≡ 0 → left_of interp ≤ left_of interp' + steps → TakesTurn answer panel.moment steps Stopped (part_of panel now) (after_as Exhausted)
    turn_stops steps out none most =
        from_now steps Stopped (after_as Exhausted) (turn_last panel.moment steps Stopped before (after_as Exhausted)
        (all_spent panel.moment before.application (rest_of interp) (context_of interp).levels own_runs running left (rest_of interp') (context_of interp').levels out none)
        most (λ e. cc) ((λ e. cc), refl))

    pub turn_goes_on : (steps : ℕ) → outcome_of ≡ finish outside (rest_of interp') left → IsRunning (rest_of interp') → left_of interp' + steps ≡ left_of interp
        → TakesTurn answer panel.moment steps More (part_of panel now) (after_as state)
    turn_goes_on steps same running' took =
        from_now steps More (after_as state) (turn_more panel.moment steps before (after_as state)
        (goes_on panel.moment before.application (rest_of interp) (context_of interp).levels own_runs running left (rest_of interp') same running' stands)
        took (own_runs, λ rests. goes_work (rest_of interp') (context_of interp').levels running' (sym work_then ∙ rests)))

  -- its turn is none
  pub stopped_turn : (moment steps : ℕ) (part : Part M) → part.application.state ≢ Running → part.work ≡ Rests → TakesTurn answer moment steps Stopped (settling_begun part) part
  stopped_turn moment steps part stopped rests =
      let stays : part ≡ settling_begun part = ap (λ w. record part { work = w }) (sym (settling_stops part.application.state part.work stopped)) in
      subst (λ (begun : Part M). TakesTurn answer moment steps Stopped begun part) stays
      (turn_last moment steps Stopped part part (sym (rests_stays moment part rests)) (omega arith) (λ e. cc) (stopped, rests))
