-- Where *Destroy* of a path has ended, its windows are gone.
use Rattle.std.proofs.Common.{◌≡◌, ◌⊎◌, inl, inr, ℕ, zero, suc, ◌<◌, ◌≤◌, Bool, true, false, cond, List, [], ◌∷◌, ◌++◌, Option, Some, None, refl, sym, ap, ◌∙◌, subst, arith, append_assoc}
use Rattle.std.specs.Prelude.{◌==◌, filter, find, map, nat_le}
use Rattle.std.specs.Option.{option_map_or}
use Rattle.std.specs.Str.{bytes_eq}
use Rattle.std.proofs.lemmas.Bool.{leb-false, leb-true}
use Rattle.tcl_control.specs.declared.code.Code.{Code}
use Rattle.tcl_control.specs.declared.code.Code.TheVariants.{Normal, Error, Return, Break, Continue}
use Rattle.tcl_interp.specs.Evaluation.{State, Outcome, Ended, OutOfSteps, and_then, stepped}
use Rattle.tcl_interp.specs.Scripts.{out_of_global}
use Rattle.tcl_interp.proofs.Kept.{Kept}
use Rattle.tk_base.proofs.Orders.{found_there}
use Rattle.tk_base.specs.Numbered.{AllBelow, IsRising, changed_at, numbered}
use Rattle.tk_sequences.specs.declared.event.Event.{Event}
use Rattle.tk_packer.specs.Packs.{no_packs}
use Rattle.tk_screen.specs.Own.{Windowing}
use Rattle.tk_tree.specs.Change.{dying}
use Rattle.tk_tree.specs.declared.window.Window.{Window}
use Rattle.tk_tree.specs.Orders.{below_first, post_order}
use Rattle.tk_tree.specs.Own.{IsSound, Tree, at_path, child_numbers, is_child_of, window_at, with_change}
use Rattle.tk_tree.specs.Window.{number_of}
use Rattle.tk_tree.proofs.Lists.{some_same}
use Rattle.tk_panel.specs.declared.transcript.Stream.TheVariants.{Err as Errors}
use Rattle.tk_panel.specs.Choice.{chosen}
use Rattle.tk_panel.specs.Destroy.{all_dying, destroy_event, doomed_by, marked, removed, removed_at}
use Rattle.tk_panel.specs.Panel.{Panel}
use Rattle.tk_panel.specs.Reports.{with_line}
use Rattle.tk_app.specs.Behind.{after_bound_behind, bound_behind, destroy_behind, destroyed_behind, windows_behind}
use Rattle.tk_app.specs.Commands.{Update, scripts_in}
use Rattle.tk_app.specs.Destroy.{destroy_dispatched, destroy_meaning, windows_destroyed}
use Rattle.tk_app.specs.Dispatch.{Action, RunsScripts, followed_by, global_meaning, with_whole_panel}
use Rattle.tk_app.specs.Gone.{AreGone, DestroysAll, DestroysUntested, LeavesNone, destroy_untested, removed_untested, untested_at, windows_untested}
use Rattle.tk_app.specs.Outside.{run_in}
use Rattle.tk_app.specs.Seen.{Seen}
use Rattle.tk_app.specs.Settle.{IsSoundIn, IsUpdate}
use Rattle.tk_app.specs.Sound.{AreSound, EndsWith}
use Rattle.tk_app.proofs.Behind.{destroy_is}
use Rattle.tk_app.proofs.ByUpdate.{destroy_same, global_same, scripts_keep_sound, scripts_same}
use Rattle.tk_app.proofs.Grows.{Grows, LivesIn, StaysAndGrows, Was, found_given, found_number, grow_acts, grow_on_scene, none_left}
use Rattle.tk_app.proofs.Items.{destroyed_so, windows_so}
use Rattle.tk_app.proofs.Panels.{chosen_screen}
use Rattle.tk_app.proofs.PostOrder.{Among, Member, Ordered, is_child, post_ordered, pushed}
use Rattle.tk_app.proofs.Sound.{StaysSound, global_since, sound_on_scene}
use Rattle.tk_app.proofs.Trees.{Acts, OnTrees, by_screen, dying_acts, marked_acts, removed_acts}

-- what has been done since the windows were these
abbrev From : Tree → Seen → Type 0
From first seen = StaysAndGrows first seen.panel.windowing.tree

on_from : (first : Tree) (old new : Panel) → StaysAndGrows first old.windowing.tree → Acts (OnTrees StaysAndGrows) grow_on_scene old new → StaysAndGrows first new.windowing.tree
on_from first old new since done = grow_acts.after first old.windowing.tree new.windowing.tree since done

-- ── a window that is gone ──

record IsGone (n : ℕ) (tree : Tree) : Type 0 where
  given : n < tree.next_number
  none : window_at n tree ≡ None

abbrev AllGone : List ℕ → Tree → Type 0
AllGone [] tree = Unit {0}
AllGone (n ∷ ns) tree = IsGone n tree × AllGone ns tree

gone_stays : (n : ℕ) (old new : Tree) → Grows old new → IsGone n old → IsGone n new
gone_stays n old new grows gone = record { given = omega (arith, gone.given, grows.numbers); none = by (window_at n new) refl }
  where
    by : (found : Option Window) → window_at n new ≡ found → window_at n new ≡ None
    by None is = is
    by (Some window) is = (let was = grows.kept n window is gone.given in absurd (cc (sym was.there ∙ gone.none)))

all_stay : (ns : List ℕ) (old new : Tree) → Grows old new → AllGone ns old → AllGone ns new
all_stay [] old new grows gone = tt
all_stay (n ∷ ns) old new grows gone = (gone_stays n old new grows gone.0, all_stay ns old new grows gone.1)

gone_among : (n : ℕ) (ns : List ℕ) (tree : Tree) → AllGone ns tree → Among n ns → window_at n tree ≡ None
gone_among n [] tree gone is = absurd is
gone_among n (m ∷ ns) tree gone (inl same) = ap (λ k. window_at k tree) same ∙ gone.0.none
gone_among n (m ∷ ns) tree gone (inr there) = gone_among n ns tree gone.1 there

-- ── a window without children ──

none_from : (n : ℕ) (tree : Tree) → IsSound tree → ((x : Window) → window_at x.number tree ≡ Some x → x.parent ≡ Some n → ⊥) → (front back : List Window) → tree.windows ≡ front ++ back
    → filter (is_child_of n) back ≡ []
none_from n tree sound none front [] is = refl
none_from n tree sound none front (x ∷ back) is = by (is_child_of n x) refl (none_from n tree sound none (front ++ x ∷ []) back (is ∙ sym (append_assoc front (x ∷ []) back)))
  where
    there : window_at x.number tree ≡ Some x
    there =
        ap (λ windows. numbered number_of x.number windows) is
        ∙ found_there number_of front x back (subst (IsRising number_of) is sound.rising)

    by : (b : Bool) → is_child_of n x ≡ b → filter (is_child_of n) back ≡ [] → cond b (x ∷ filter (is_child_of n) back) (filter (is_child_of n) back) ≡ []
    by true child rest = absurd (none x there (is_child n x child))
    by false child rest = rest

childless : (n : ℕ) (tree : Tree) → IsSound tree → ((x : Window) → window_at x.number tree ≡ Some x → x.parent ≡ Some n → ⊥) → child_numbers n tree.windows ≡ []
childless n tree sound none = ap (map number_of) (none_from n tree sound none [] tree.windows refl)

-- a member is found, and what is found is a member
found_member : (test : Window → Bool) (windows : List Window) (x : Window) → find test windows ≡ Some x → Member x windows
found_member test [] x is = absurd (cc)
found_member test (window ∷ windows) x is = by (test window) refl (found_member test windows x)
  where
    by : (b : Bool) → test window ≡ b → (find test windows ≡ Some x → Member x windows) → Member x (window ∷ windows)
    by true same rest = inl (sym (some_same window x (rw same at is)))
    by false differs rest = inr (rest (rw differs at is))

member_there : (x : Window) (front back : List Window) (tree : Tree) → IsSound tree → tree.windows ≡ front ++ back → Member x back → window_at x.number tree ≡ Some x
member_there x front [] tree sound is member = absurd member
member_there x front (window ∷ back) tree sound is (inl same) =
    ap (λ (w : Window). window_at w.number tree) same
    ∙ ap (λ windows. numbered number_of window.number windows) is
    ∙ found_there number_of front window back (subst (IsRising number_of) is sound.rising)
    ∙ ap (λ (w : Window). Some w) (sym same)
member_there x front (window ∷ back) tree sound is (inr there) = member_there x (front ++ window ∷ []) back tree sound (is ∙ sym (append_assoc front (window ∷ []) back)) there

member_found : (x : Window) (tree : Tree) → IsSound tree → Member x tree.windows → window_at x.number tree ≡ Some x
member_found x tree sound member = member_there x [] tree.windows tree sound refl member

-- ── the windows of a path, one after another ──

module _ (room : ℕ) (all : List ℕ) where
  abbrev Good : Outcome Seen → Type 0
  Good outcome = LeavesNone all outcome

  good_then : (first : Tree) (o : Outcome Seen) (f : State Seen → Code → List ℕ → Outcome Seen) → Kept (From first) o
      → ((left : State Seen) (code : Code) (text : List ℕ) → From first left.shows → Good (f left code text)) → Good (and_then o f)
  good_then first (Ended left code text) f kept rest = rest left code text kept
  good_then first (OutOfSteps left) f kept rest = tt

  good_stepped : (steps : ℕ) (state : State Seen) (f : Action) → ((left : ℕ) → Good (f (record state { steps = left }))) → Good (stepped steps state f)
  good_stepped zero state f rest = tt
  good_stepped (suc left) state f rest = rest left

  good_bound : (first : Tree) (behind : Action) → ((left : State Seen) → From first left.shows → Good (behind left)) → (scripts : List (List ℕ)) (state : State Seen) → From first state.shows
      → Good (bound_behind (run_in room) scripts behind state)
  good_bound first behind rest [] state since = rest state since
  good_bound first behind rest (script ∷ scripts) state since =
      good_stepped state.steps state
      (λ begun. and_then (global_meaning (run_in room) script begun) (λ left code text. after_bound_behind (run_in room) (bound_behind (run_in room) scripts behind) behind left (out_of_global code) text))
      (λ steps. good_then first (global_meaning (run_in room) script (record state { steps = steps }))
      (λ left code text. after_bound_behind (run_in room) (bound_behind (run_in room) scripts behind) behind left (out_of_global code) text)
      (global_since (OnTrees StaysAndGrows) grow_on_scene (first, (no_packs, (0, 0))) room script (record state { steps = steps }) since)
      (λ left code text kept. by (good_bound first behind rest scripts) left (out_of_global code) text kept))
    where
      by : ((left : State Seen) → From first left.shows → Good (bound_behind (run_in room) scripts behind left)) → (left : State Seen) (code : Code) (text : List ℕ) → From first left.shows
          → Good (after_bound_behind (run_in room) (bound_behind (run_in room) scripts behind) behind left code text)
      by others left Normal text kept = others left kept
      by others left Error text kept = rest (with_whole_panel (with_line Errors text left.shows.panel) left) kept
      by others left (Return code) text kept = others left kept
      by others left Break text kept = rest left kept
      by others left Continue text kept = others left kept

  -- the windows as they were when they were marked
  module _ (first : Tree) (sound : IsSound first) where
    abbrev AllDoomed : List ℕ → Type 0
    AllDoomed [] = Unit {0}
    AllDoomed (n ∷ ns) = (n < first.next_number) × ((window : Window) → window_at n first ≡ Some window → window.dying ≡ true) × AllDoomed ns

    abbrev HasOnly : ℕ → List ℕ → Type 0
    HasOnly n done = (x : Window) → Member x first.windows → x.parent ≡ Some n → Among x.number done

    abbrev AllHave : List ℕ → List ℕ → Type 0
    AllHave done [] = Unit {0}
    AllHave done (n ∷ ns) = HasOnly n done × AllHave (n ∷ done) ns

    -- a window below which all are gone has no child
    no_children : (n : ℕ) (done : List ℕ) → HasOnly n done → n < first.next_number → ((window : Window) → window_at n first ≡ Some window → window.dying ≡ true)
        → (now : Tree) → IsSound now → Grows first now → AllGone done now → child_numbers n now.windows ≡ []
    no_children n done only given dead now sound_now grows gone = childless n now sound_now none
      where
        old : (x : Window) → window_at x.number now ≡ Some x → x.parent ≡ Some n → Was x.number x first → ⊥
        old x there parent was =
            let member : Member was.before first.windows = found_member (λ (w : Window). w.number == x.number) first.windows was.before was.there in
            let among : Among was.before.number done = only was.before member (sym was.parent ∙ parent) in
            let number : was.before.number ≡ x.number = found_number x.number first was.before was.there in
            absurd (cc (sym there ∙ gone_among x.number done now gone (subst (λ k. Among k done) number among)))

        new : (first.next_number ≤ n) ⊎ LivesIn n first → ⊥
        new (inl le) = absurd (omega (arith, le, given))
        new (inr lives) = absurd (cc (sym lives.lives ∙ dead lives.window lives.there))

        none : (x : Window) → window_at x.number now ≡ Some x → x.parent ≡ Some n → ⊥
        none x there parent = by (nat_le first.next_number x.number) refl
          where
            by : (b : Bool) → nat_le first.next_number x.number ≡ b → ⊥
            by true le = new (grows.born x.number x n there (leb-true first.next_number x.number le) parent)
            by false lt = old x there parent (grows.kept x.number x there (leb-false first.next_number x.number lt))

    -- so it goes
    goes : (n : ℕ) (panel : Panel) → child_numbers n panel.windowing.tree.windows ≡ [] → window_at n (removed n panel).windowing.tree ≡ None
    unfolding removed
    goes n panel childless = by (window_at n panel.windowing.tree) refl
      where
        by : (found : Option Window) → window_at n panel.windowing.tree ≡ found → window_at n (removed_at n panel found).windowing.tree ≡ None
        by None is = is
        by (Some window) is = rw childless (none_left n panel.windowing.tree.windows)

    -- so a window, when its turn comes
    record Goes (n : ℕ) (done : List ℕ) (panel : Panel) : Type 0 where
      childless : child_numbers n panel.windowing.tree.windows ≡ []
      since : StaysAndGrows first (removed n panel).windowing.tree
      gone : AllGone (n ∷ done) (removed n panel).windowing.tree

    turn : (n : ℕ) (done : List ℕ) → HasOnly n done → n < first.next_number → ((window : Window) → window_at n first ≡ Some window → window.dying ≡ true)
        → (here : Tree) → StaysAndGrows first here → AllGone done here → (panel : Panel) → StaysAndGrows here panel.windowing.tree → Goes n done panel
    turn n done only given dead here since gone panel later =
        let now : Tree = panel.windowing.tree in
        let after : Panel = removed n panel in
        let from_first : StaysAndGrows first now = grow_acts.after first here now since later in
        let here_sound : IsSound here = (since sound).0 in
        let gone_now : AllGone done now = all_stay done here now (later here_sound).1 gone in
        let acts : Acts (OnTrees StaysAndGrows) grow_on_scene panel after = removed_acts (OnTrees StaysAndGrows) grow_on_scene n panel in
        let sound_now : IsSound now = (later here_sound).0 in
        let grown : Grows now after.windowing.tree = (acts sound_now).1 in
        let first_now : Grows first now = (from_first sound).1 in
        let none_below : child_numbers n now.windows ≡ [] = no_children n done only given dead now sound_now first_now gone_now in
        record {
          childless = none_below;
          since = on_from first panel after from_first acts;
          gone = (
            record { given = omega (arith, given, first_now.numbers, grown.numbers); none = goes n panel none_below },
            all_stay done now after.windowing.tree grown gone_now,
          );
        }

    -- one window, where those behind it go so
    good_window : (n : ℕ) (ns done : List ℕ) (behind : Action) → HasOnly n done → n < first.next_number → ((window : Window) → window_at n first ≡ Some window → window.dying ≡ true)
        → ((state : State Seen) → From first state.shows → AllGone (n ∷ done) state.shows.panel.windowing.tree → Good (windows_behind (run_in room) ns behind state))
        → (state : State Seen) → From first state.shows → AllGone done state.shows.panel.windowing.tree → Good (windows_behind (run_in room) (n ∷ ns) behind state)
    good_window n ns done behind only given dead rest state since gone = by (window_at n here)
      where
        here : Tree
        here = state.shows.panel.windowing.tree

        behind_it : Action
        behind_it left = windows_behind (run_in room) ns behind (with_whole_panel (removed n left.shows.panel) left)

        next : (left : State Seen) → From here left.shows → Good (behind_it left)
        next left later =
            (let its : Goes n done left.shows.panel = turn n done only given dead here since gone left.shows.panel later in
            rest (with_whole_panel (removed n left.shows.panel) left) its.since its.gone)

        by : (window : Option Window) → Good (destroyed_behind (run_in room) window behind_it state)
        by None = next state (grow_acts.same here)
        by (Some window) =
            let event : Event = destroy_event window state.shows.panel.moment in
            let there : Panel × List (List ℕ) = chosen event state.shows.panel in
            good_bound here behind_it next there.1 (with_whole_panel there.0 state) (by_screen (OnTrees StaysAndGrows) grow_on_scene state.shows.panel there.0 (chosen_screen event state.shows.panel))

    good_windows : (ns done : List ℕ) (behind : Action) → AllDoomed ns → AllHave done ns
        → ((left : State Seen) → From first left.shows → AllGone (pushed ns done) left.shows.panel.windowing.tree → Good (behind left))
        → (state : State Seen) → From first state.shows → AllGone done state.shows.panel.windowing.tree → Good (windows_behind (run_in room) ns behind state)
    good_windows [] done behind doomed have rest state since gone = rest state since gone
    good_windows (n ∷ ns) done behind doomed have rest state since gone =
        good_window n ns done behind have.0 doomed.0 doomed.1 (good_windows ns (n ∷ done) behind doomed.2 have.1 rest) state since gone

-- ── the windows that a path means ──

-- a number among those done is among the others
none_of : (ns : List ℕ) (tree : Tree) → ((n : ℕ) → Among n ns → window_at n tree ≡ None) → AreGone ns tree
none_of [] tree gone = tt
none_of (n ∷ ns) tree gone = (gone n (inl refl), none_of ns tree (λ m among. gone m (inr among)))

among_pushed : (n : ℕ) (ns done : List ℕ) → Among n done → Among n (pushed ns done)
among_pushed n [] done is = is
among_pushed n (m ∷ ns) done is = among_pushed n ns (m ∷ done) (inr is)

all_pushed : (n : ℕ) (ns done : List ℕ) → Among n ns → Among n (pushed ns done)
all_pushed n [] done is = absurd is
all_pushed n (m ∷ ns) done (inl same) = among_pushed n ns (m ∷ done) (inl same)
all_pushed n (m ∷ ns) done (inr there) = all_pushed n ns (m ∷ done) there

-- ── the marks ──

dying_next : (ns : List ℕ) (tree : Tree) → (all_dying ns tree).next_number ≡ tree.next_number
unfolding all_dying
dying_next [] tree = refl
dying_next (n ∷ ns) tree = dying_next ns (with_change n dying tree)

changed_dead : (n : ℕ) (windows : List Window) (later : Window) → numbered number_of n (changed_at number_of n dying windows) ≡ Some later → later.dying ≡ true
changed_dead n [] later is = absurd (cc)
changed_dead n (window ∷ windows) later is = by (window.number == n) refl (changed_dead n windows later) is
  where
    by : (b : Bool) → (window.number == n) ≡ b → (numbered number_of n (changed_at number_of n dying windows) ≡ Some later → later.dying ≡ true)
        → numbered number_of n (cond b (dying window) window ∷ changed_at number_of n dying windows) ≡ Some later → later.dying ≡ true
    by true same rest found = ap (λ (w : Window). w.dying) (sym (some_same (dying window) later (rw same at found)))
    by false differs rest found = rest (rw differs at found)

-- windows that are to die, and what is packed is none of this
dying_stays : (ns : List ℕ) (tree : Tree) → StaysAndGrows tree (all_dying ns tree)
dying_stays ns tree = dying_acts (OnTrees StaysAndGrows) grow_on_scene ns (tree, (no_packs, (0, 0)))

dead_all : (ns : List ℕ) (tree : Tree) → IsSound tree → (n : ℕ) → Among n ns → (window : Window) → window_at n (all_dying ns tree) ≡ Some window → window.dying ≡ true
unfolding all_dying
dead_all [] tree sound n among window is = absurd among
dead_all (m ∷ ns) tree sound n (inl same) window is =
    let one : Tree = with_change m dying tree in
    let sound_one : IsSound one = (dying_stays (m ∷ []) tree sound).0 in
    let rest = dying_stays ns one sound_one in
    let given : n < one.next_number = omega (arith, found_given n (all_dying ns one) window rest.0 is, dying_next ns one) in
    let was = rest.1.kept n window is given in
    was.dying (changed_dead m tree.windows was.before (ap (λ k. window_at k one) (sym same) ∙ was.there))
dead_all (m ∷ ns) tree sound n (inr there) window is =
    dead_all ns (with_change m dying tree) (dying_stays (m ∷ []) tree sound).0 n there window is

below_given : (next m : ℕ) (windows : List Window) → AllBelow number_of next windows → (n : ℕ) → Among n (below_first m windows) → n < next
unfolding below_first
below_given next m [] below n among = absurd among
below_given next m (window ∷ windows) below n among = by (is_child_of m window) (below_given next window.number windows below.1 n) (below_given next m windows below.1 n) among
  where
    apart : (ns ms : List ℕ) → Among n (ns ++ ms) → Among n ns ⊎ Among n ms
    apart [] ms is = inr is
    apart (k ∷ ns) ms (inl same) = inl (inl same)
    apart (k ∷ ns) ms (inr there) = one_more (apart ns ms there)
      where
        one_more : Among n ns ⊎ Among n ms → Among n (k ∷ ns) ⊎ Among n ms
        one_more (inl one) = inl (inr one)
        one_more (inr other) = inr other

    either : (Among n (below_first window.number windows) → n < next) → (Among n (below_first m windows) → n < next)
        → Among n (below_first window.number windows) ⊎ Among n (window.number ∷ below_first m windows) → n < next
    either first last (inl one) = first one
    either first last (inr (inl same)) = subst (λ k. k < next) (sym same) below.0
    either first last (inr (inr other)) = last other

    by : (b : Bool) → (Among n (below_first window.number windows) → n < next) → (Among n (below_first m windows) → n < next)
        → Among n (cond b (below_first window.number windows ++ window.number ∷ below_first m windows) (below_first m windows)) → n < next
    by true first last is = either first last (apart (below_first window.number windows) (window.number ∷ below_first m windows) is)
    by false first last is = last is

-- ── the law ──

module _ (room : ℕ) (state : State Seen) (sound : IsSound state.shows.panel.windowing.tree) (number : ℕ) (window : Window) (there : window_at number state.shows.panel.windowing.tree ≡ Some window) where
  abbrev tree : Tree
  tree = state.shows.panel.windowing.tree

  abbrev numbers : List ℕ
  numbers = post_order number tree

  abbrev first : Tree
  first = all_dying numbers tree

  marks : IsSound first × Grows tree first
  marks = dying_stays numbers tree sound

  apart : (n : ℕ) (ns : List ℕ) → Among n (ns ++ number ∷ []) → Among n ns ⊎ (n ≡ number)
  apart n [] (inl same) = inr same
  apart n [] (inr none) = absurd none
  apart n (k ∷ ns) (inl same) = inl (inl same)
  apart n (k ∷ ns) (inr is) = one_more (apart n ns is)
    where
      one_more : Among n ns ⊎ (n ≡ number) → Among n (k ∷ ns) ⊎ (n ≡ number)
      one_more (inl one) = inl (inr one)
      one_more (inr other) = inr other

  given : (n : ℕ) → Among n numbers → n < first.next_number
  given n among = by (apart n (below_first number tree.windows) among)
    where
      by : Among n (below_first number tree.windows) ⊎ (n ≡ number) → n < first.next_number
      by (inl below) = omega (arith, below_given tree.next_number number tree.windows sound.below n below, dying_next numbers tree)
      by (inr same) = omega (arith, same, found_given number tree window sound there, dying_next numbers tree)

  all_doomed : (ns : List ℕ) → ((n : ℕ) → Among n ns → Among n numbers) → AllDoomed room numbers first marks.0 ns
  all_doomed [] all = tt
  all_doomed (n ∷ ns) all =
      (given n (all n (inl refl)), (λ w is. dead_all numbers tree sound n (all n (inl refl)) w is), all_doomed ns (λ m among. all m (inr among)))

  -- children are those that there were
  has_only : (n : ℕ) (done : List ℕ) → ((x : Window) → Member x tree.windows → x.parent ≡ Some n → Among x.number done) → HasOnly room numbers first marks.0 n done
  has_only n done only x member parent =
      let found : window_at x.number first ≡ Some x = member_found x first marks.0 member in
      let lt : x.number < tree.next_number = omega (arith, found_given x.number first x marks.0 found, dying_next numbers tree) in
      let was = marks.1.kept x.number x found lt in
      subst (λ k. Among k done) (found_number x.number tree was.before was.there) (only was.before (found_member (λ (w : Window). w.number == x.number) tree.windows was.before was.there) (sym was.parent ∙ parent))

  all_have : (ns done : List ℕ) → Ordered tree.windows sound.rising sound.parents done ns → AllHave room numbers first marks.0 done ns
  all_have [] done ordered = tt
  all_have (n ∷ ns) done ordered = (has_only n done ordered.0, all_have ns (n ∷ done) ordered.1)

  all_gone : LeavesNone numbers (windows_behind (run_in room) numbers (destroy_behind (run_in room) []) (with_whole_panel (marked numbers state.shows.panel) state))
  all_gone =
      good_windows room numbers first marks.0 numbers [] (destroy_behind (run_in room) []) (all_doomed numbers (λ n among. among))
      (all_have numbers [] (post_ordered tree.windows sound.rising sound.parents number))
      (λ left since gone. none_of numbers left.shows.panel.windowing.tree (λ n among. gone_among n (pushed numbers []) left.shows.panel.windowing.tree gone (all_pushed n numbers [] among)))
      (with_whole_panel (marked numbers state.shows.panel) state) (grow_acts.same first) tt

destroys_run : (room : ℕ) (path : List ℕ) (state : State Seen) → IsSoundIn state → LeavesNone (doomed_by path state.shows.panel) (destroy_behind (run_in room) (path ∷ []) state)
destroys_run room path state sound = by_path (at_path path state.shows.panel.windowing.tree) refl
  where
    tree : Tree
    tree = state.shows.panel.windowing.tree

    Gone : List ℕ → Type 0
    Gone numbers = LeavesNone numbers (windows_behind (run_in room) numbers (destroy_behind (run_in room) []) (with_whole_panel (marked numbers state.shows.panel) state))

    by_dying : (number : ℕ) (window : Window) → window_at number tree ≡ Some window → (b : Bool) → Gone (cond b [] (post_order number tree))
    by_dying number window there true = tt
    by_dying number window there false = all_gone room state sound number window there

    by_path : (found : Option Window) → at_path path tree ≡ found → Gone (option_map_or (λ w. cond w.dying [] (post_order w.number tree)) found [])
    by_path None is = tt
    by_path (Some window) is = by_dying window.number window (member_found window tree sound (found_member (λ (w : Window). bytes_eq path w.path) tree.windows window is)) window.dying

pub destroys_all : DestroysAll
destroys_all update meets room path state sound =
    subst (LeavesNone (doomed_by path state.shows.panel))
    (destroy_same room (scripts_in update room) (scripts_same update meets room) (path ∷ []) state sound ∙ destroy_is (scripts_in update room) (path ∷ []) state) (destroys_run room path state sound)

-- ── without a test ──

untested_same : (n : ℕ) (panel : Panel) → child_numbers n panel.windowing.tree.windows ≡ [] → removed n panel ≡ removed_untested n panel
unfolding removed
untested_same n panel childless = by (window_at n panel.windowing.tree)
  where
    by : (found : Option Window) → removed_at n panel found ≡ untested_at n panel found
    by None = refl
    by (Some window) = rw childless refl

-- what comes behind something that ends so, where it is the same in each such state
then_same : (holds : Windowing → Type 0) (o : Outcome Seen) (f g : Action) → EndsWith holds o → ((left : State Seen) → holds left.shows.panel.windowing → f left ≡ g left)
    → followed_by o f ≡ followed_by o g
then_same holds (Ended left code text) f g kept same = same left kept
then_same holds (OutOfSteps left) f g kept same = refl

module _ (update : Update) (meets : IsUpdate update) (room : ℕ) where
  abbrev run : RunsScripts
  run = scripts_in update room

  abbrev Later : Tree → Windowing → Type 0
  Later first own = StaysAndGrows first own.tree

  runs_later : (first : Tree) → IsSound first → (script : List ℕ) (state : State Seen) → From first state.shows → EndsWith (Later first) (global_meaning run script state)
  runs_later first sound script state since =
      subst (EndsWith (Later first)) (global_same room run (scripts_same update meets room) script state (since sound).0)
      (ends (global_meaning (run_in room) script state) (global_since (OnTrees StaysAndGrows) grow_on_scene (first, (no_packs, (0, 0))) room script state since))
    where
      ends : (o : Outcome Seen) → Kept (From first) o → EndsWith (Later first) o
      ends (Ended left code text) kept = kept
      ends (OutOfSteps left) kept = tt

  -- the windows as they were when they were marked
  module _ (all : List ℕ) (first : Tree) (sound : IsSound first) where
    window_same : (n : ℕ) (ns done : List ℕ) → HasOnly room all first sound n done → n < first.next_number → ((window : Window) → window_at n first ≡ Some window → window.dying ≡ true)
        → ((state : State Seen) → From first state.shows → AllGone (n ∷ done) state.shows.panel.windowing.tree → windows_destroyed run ns state ≡ windows_untested run ns state)
        → (state : State Seen) → From first state.shows → AllGone done state.shows.panel.windowing.tree → windows_destroyed run (n ∷ ns) state ≡ windows_untested run (n ∷ ns) state
    window_same n ns done only given dead rest state since gone =
        then_same (Later here) (destroy_dispatched run (window_at n here) state)
        (λ left. windows_destroyed run ns (with_whole_panel (removed n left.shows.panel) left))
        (λ left. windows_untested run ns (with_whole_panel (removed_untested n left.shows.panel) left))
        (destroyed_so (Later here) run (runs_later here (since sound).0) (window_at n here) state (grow_acts.same here)) next
      where
        here : Tree
        here = state.shows.panel.windowing.tree

        next : (left : State Seen) → From here left.shows
            → windows_destroyed run ns (with_whole_panel (removed n left.shows.panel) left) ≡ windows_untested run ns (with_whole_panel (removed_untested n left.shows.panel) left)
        next left later =
            let its = turn room all first sound n done only given dead here since gone left.shows.panel later in
            rest (with_whole_panel (removed n left.shows.panel) left) its.since its.gone
            ∙ ap (λ (panel : Panel). windows_untested run ns (with_whole_panel panel left)) (untested_same n left.shows.panel its.childless)

    windows_same : (ns done : List ℕ) → AllDoomed room all first sound ns → AllHave room all first sound done ns → (state : State Seen) → From first state.shows
        → AllGone done state.shows.panel.windowing.tree → windows_destroyed run ns state ≡ windows_untested run ns state
    windows_same [] done doomed have state since gone = refl
    windows_same (n ∷ ns) done doomed have state since gone =
        window_same n ns done have.0 doomed.0 doomed.1 (windows_same ns (n ∷ done) doomed.2 have.1) state since gone

  abbrev IsSame : State Seen → List ℕ → Type 0
  IsSame state numbers =
      windows_destroyed run numbers (with_whole_panel (marked numbers state.shows.panel) state) ≡ windows_untested run numbers (with_whole_panel (marked numbers state.shows.panel) state)

  all_same : (state : State Seen) (sound : IsSoundIn state) (number : ℕ) (window : Window) → window_at number state.shows.panel.windowing.tree ≡ Some window
      → IsSame state (post_order number state.shows.panel.windowing.tree)
  all_same state sound number window there =
      let now : Tree = state.shows.panel.windowing.tree in
      let ns : List ℕ = post_order number now in
      let marked_so = marks room state sound number window there in
      windows_same ns (all_dying ns now) marked_so.0 ns [] (all_doomed room state sound number window there ns (λ n among. among))
      (all_have room state sound number window there ns [] (post_ordered now.windows sound.rising sound.parents number))
      (with_whole_panel (marked ns state.shows.panel) state) (grow_acts.same (all_dying ns now)) tt

  path_same : (path : List ℕ) (state : State Seen) → IsSoundIn state → IsSame state (doomed_by path state.shows.panel)
  path_same path state sound = by_path (at_path path state.shows.panel.windowing.tree) refl
    where
      now : Tree
      now = state.shows.panel.windowing.tree

      by_dying : (number : ℕ) (window : Window) → window_at number now ≡ Some window → (b : Bool) → IsSame state (cond b [] (post_order number now))
      by_dying number window there true = refl
      by_dying number window there false = all_same state sound number window there

      by_path : (found : Option Window) → at_path path now ≡ found → IsSame state (option_map_or (λ w. cond w.dying [] (post_order w.number now)) found [])
      by_path None is = refl
      by_path (Some window) is = by_dying window.number window (member_found window now sound (found_member (λ (w : Window). bytes_eq path w.path) now.windows window is)) window.dying

  paths_same : (paths : List (List ℕ)) (state : State Seen) → IsSoundIn state → destroy_meaning run paths state ≡ destroy_untested run paths state
  paths_same [] state sound = refl
  paths_same (path ∷ paths) state sound =
      let numbers : List ℕ = doomed_by path state.shows.panel in
      let begun : State Seen = with_whole_panel (marked numbers state.shows.panel) state in
      then_same AreSound (windows_destroyed run numbers begun) (destroy_meaning run paths) (destroy_untested run paths)
      (windows_so AreSound run (λ script left kept. scripts_keep_sound update meets room script left kept)
      (λ number panel kept. removed_acts (OnTrees StaysSound) sound_on_scene number panel kept) numbers begun (marked_acts (OnTrees StaysSound) sound_on_scene numbers state.shows.panel sound))
      (λ left kept. paths_same paths left kept)
      ∙ ap (λ (o : Outcome Seen). followed_by o (destroy_untested run paths)) (path_same path state sound)

pub destroys_untested : DestroysUntested
destroys_untested update meets room = paths_same update meets room
