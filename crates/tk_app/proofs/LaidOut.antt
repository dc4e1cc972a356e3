-- Where all that is to be done at a moment has been done, the windows lie where a layout puts them.
use Rattle.std.proofs.Common.{◌≡◌, ℕ, Bool, true, false, cond, List, [], ◌∷◌, Option, Some, None, refl, sym, ap, ◌∙◌, subst}
use Rattle.std.specs.Prelude.{◌&&◌, not}
use Rattle.std.specs.Option.{option_or}
use Rattle.std.proofs.lemmas.Bool.{and_parts, not-true}
use Rattle.tcl_vars.specs.Store.{Store}
use Rattle.tcl_control.specs.declared.code.Code.{Code}
use Rattle.tcl_control.specs.declared.code.Code.TheVariants.{Normal}
use Rattle.tcl_interp.specs.Evaluation.{Outcome, Ended}
use Rattle.tcl_interp.specs.declared.job.Looked.{Looked}
use Rattle.tcl_interp.specs.declared.job.Looked.TheVariants.{Ends}
use Rattle.tcl_interp.specs.JobLaws.{LookedLast}
use Rattle.tcl_interp.proofs.Ends.{ends_looked}
use Rattle.tk_after.specs.Timers.{first_due, idle_ids}
use Rattle.tk_screen.specs.Layout.{changes_due}
use Rattle.tk_screen.specs.Own.{Windowing}
use Rattle.tk_app.proofs.Left.{laid_sound}
use Rattle.tk_tree.specs.Own.{IsSound}
use Rattle.tk_panel.specs.declared.job.Home.TheVariants.{Settle}
use Rattle.tk_panel.specs.declared.job.Job.{Job}
use Rattle.tk_panel.specs.declared.job.Rest.TheVariants.{Rounds}
use Rattle.tk_panel.specs.Changes.{laid_out}
use Rattle.tk_panel.specs.Next.{next}
use Rattle.tk_panel.specs.Panel.{Panel}
use Rattle.tk_panel.specs.Settle.{Next, after_layout, after_round, at_home, drained, idle_round, is_closed, is_due, on_event, on_round, on_timer, queue_or_round, turn}
use Rattle.tk_commands.specs.Course.{looked_of}
use Rattle.tk_commands.specs.Rests.{is_empty, settles_last}
use Rattle.tk_commands.proofs.Settled.{next_so}
use Rattle.tk_app.specs.Commands.{scripts_in}
use Rattle.tk_app.specs.Outside.{calls, course}
use Rattle.tk_app.specs.Seen.{Seen}
use Rattle.tk_app.specs.Items.{done_and, event_item, layout_item, round_item, timer_item}
use Rattle.tk_app.specs.SettleJob.{EndsLaidOut, SettlesTwice, settle_meaning, settling, update_meaning}
use Rattle.tk_app.proofs.ByEquations.{settles_all}
use Rattle.tk_app.proofs.Equations.{none_due}
use Rattle.tk_app.proofs.Homes.{keeps}
use Rattle.tk_app.proofs.Panels.{drained_screen, laid_screen, nothing_again}
use Rattle.tk_app.proofs.Settled.{Quiet, quiet_settle}

-- the windows lie where a layout puts them, where there is a main window
abbrev IsLaidOut : Store → Panel → Type 0
IsLaidOut store panel = is_closed panel ≡ false → IsSound panel.windowing.tree → changes_due panel.windowing store ≡ []

abbrev OnJob : Store → Panel → Option Job → Type 0
OnJob store panel None = IsLaidOut store panel
OnJob store panel (Some job) = Unit {0}

abbrev On : Store → Next → Type 0
On store there = OnJob store there.0 there.1

by_round : (store : Store) (ids : List ℕ) (panel : Panel) → IsLaidOut store panel → On store (on_round Settle ids panel)
by_round store [] panel laid = laid
by_round store (id ∷ ids) panel laid = tt

by_layout : (store : Store) (panel : Panel) → On store (after_layout Settle store panel)
unfolding queue_or_round
by_layout store panel =
    let l : Panel = laid_out store panel in
    let there : Panel × List (List ℕ) = drained l.queue l in
    by there.1 there.0
    (λ held sound. nothing_again store panel (laid_sound panel.windowing store (subst (λ (windowing : Windowing). IsSound windowing.tree) (drained_screen l.queue l ∙ laid_screen store panel) sound)))
  where
    by : (scripts : List (List ℕ)) (after : Panel) → IsLaidOut store after → On store (on_event Settle (idle_round Settle) after scripts)
    by [] after laid = by_round store (idle_ids after.timers.entries) after laid
    by (script ∷ scripts) after laid = tt

by_timer : (store : Store) (panel : Panel) → On store (on_timer Settle (after_layout Settle store) panel)
by_timer store panel = by (is_due panel.moment panel.timers.entries)
  where
    by : (b : Bool) → On store (cond b (panel, Some (record { event = None; rest = Rounds [] Settle })) (after_layout Settle store panel))
    by true = tt
    by false = by_layout store panel

by_turn : (store : Store) (panel : Panel) → On store (turn Settle store panel)
unfolding turn
by_turn store panel = let there : Panel × List (List ℕ) = drained panel.queue panel in by there.1 there.0
  where
    by : (scripts : List (List ℕ)) (after : Panel) → On store (on_event Settle (on_timer Settle (after_layout Settle store)) after scripts)
    by [] after = by_timer store after
    by (script ∷ scripts) after = tt

by_home : (store : Store) (panel : Panel) → On store (at_home Settle store panel)
by_home store panel = by (is_closed panel) refl
  where
    by : (b : Bool) → is_closed panel ≡ b → On store (cond b (panel, None) (turn Settle store panel))
    by true closed = λ held sound. (let wrong : true ≡ false = sym closed ∙ held in absurd (cc))
    by false held = by_turn store panel

by_left : (store : Store) (left : List ℕ) (panel : Panel) → On store (after_round Settle store left panel)
by_left store [] panel = by_home store panel
by_left store (id ∷ ids) panel = tt

by_job : (job : Job) (store : Store) (panel : Panel) → settles_last job ≡ true → On store (next job store panel)
by_job job store panel is = next_so (λ store panel there. On store there) by_left (λ store panel job is. tt) job store panel is

ended_at : (store : Store) (there shows : Panel) (found : Option Job) (code : Code) (text : List ℕ) → OnJob store there found → there.windowing ≡ shows.windowing → looked_of found ≡ Ends code text → IsLaidOut store shows
ended_at store there shows None code text on same is held sound =
    ap (λ (windowing : Windowing). changes_due windowing store) (sym same)
    ∙ on (ap (λ (windowing : Windowing). is_closed (record shows { windowing = windowing })) same ∙ held) (subst (λ (windowing : Windowing). IsSound windowing.tree) (sym same) sound)
ended_at store there shows (Some job) code text on same is held sound = absurd (cc)

pub ends_laid_out : EndsLaidOut
unfolding settle_meaning
ends_laid_out state after code text is sound held =
    let last : LookedLast course settles_last code text after = ends_looked course calls 200 settles_last keeps settling state after code text refl is in
    let there : Next = next last.last after.store last.before.panel in
    ended_at after.store there.0 after.shows.panel there.1 code text (by_job last.last after.store last.before.panel last.is_kind)
    (ap (λ (p : Seen × Looked Job). p.0.panel.windowing) last.found) (ap (λ (p : Seen × Looked Job). p.1) last.found) held sound

-- ── so nothing is left to do ──

no_more : {X : Type 0} (xs : List X) → is_empty xs ≡ true → xs ≡ []
no_more [] none = refl
no_more (x ∷ xs) none = absurd (cc)

pub settles_twice : SettlesTwice
settles_twice state after code text is sound = by (is_closed after.shows.panel) refl
  where
    by : (closed : Bool) → is_closed after.shows.panel ≡ closed → settle_meaning after ≡ Ended after Normal []
    by true closed = settles_all after sound ∙ rw closed refl
    by false held =
        let panel : Panel = after.shows.panel in
        let empty = is_empty panel.queue in
        let early = not (is_due panel.moment panel.timers.entries) in
        let idle = is_empty (idle_ids panel.timers.entries) in
        let quiet : Quiet (Ended after code text) = subst (λ (o : Outcome Seen). Quiet o) is (quiet_settle state) in
        let left : empty && (early && idle) ≡ true = rw held at quiet in
        let both = and_parts empty (early && idle) left in
        let others = and_parts early idle both.1 in
        settles_all after sound
        ∙ rw held refl
        ∙ ap (λ queue. done_and
        (option_or (event_item (scripts_in update_meaning 200) queue after)
        (option_or (timer_item (scripts_in update_meaning 200) (first_due panel.moment panel.timers.entries) after)
        (option_or (layout_item (changes_due panel.windowing after.store) after) (round_item (scripts_in update_meaning 200) (idle_ids panel.timers.entries) after)))) settle_meaning after)
        (no_more panel.queue both.0)
        ∙ ap (λ first. done_and
        (option_or (timer_item (scripts_in update_meaning 200) first after) (option_or (layout_item (changes_due panel.windowing after.store) after) (round_item (scripts_in update_meaning 200) (idle_ids panel.timers.entries) after))) settle_meaning after)
        (none_due panel.moment panel.timers.entries (not-true (is_due panel.moment panel.timers.entries) others.0))
        ∙ ap (λ changes. done_and (option_or (layout_item changes after) (round_item (scripts_in update_meaning 200) (idle_ids panel.timers.entries) after)) settle_meaning after) (ends_laid_out state after code text is sound held)
        ∙ ap (λ ids. done_and (round_item (scripts_in update_meaning 200) ids after) settle_meaning after) (no_more (idle_ids panel.timers.entries) others.1)
