-- A host takes the events that a session may have.
use Rattle.std.proofs.Common.{◌≡◌, ◌≢◌, ℕ, suc, ◌+◌, ◌<◌, ◌≤◌, List, [], ◌∷◌, ◌++◌, length, get_or, take, drop, map, refl, sym, ◌∙◌, ap, subst, arith, append_assoc, append-nil}
use Rattle.std.proofs.lemmas.List.{reverse-append, take_more}
use Rattle.std.proofs.Math.Seq.{drop-cons, take-length}
use Rattle.tk_route.specs.Lines.{Line, at, moment_after, values}
use Rattle.tk_route.specs.Refusals.{Covers, NamesNobody, NoneApplies}
use Rattle.tk_route.specs.Values.{Values}
use Rattle.tk_app.specs.Seen.{Meaning}
use Rattle.tk_route.specs.declared.fault.LineFault.TheVariants.{Ended, Broken}
use Rattle.tk_host.specs.declared.phase.Phase.{Phase}
use Rattle.tk_host.specs.declared.phase.Phase.TheVariants.{Adding, Reached, Finished}
use Rattle.tk_host.specs.Held.{Call, End, LineAt, Start, HostState, Hosted, after_line, given_by, held_after, held_in, lines_after, phase_after, reached}
use Rattle.tk_host.specs.Refusals.{PhaseRefuses, RefusesLine, RefusesMoment, line_faults, moment_faults, start_faults}
use Rattle.tk_session.specs.Session.{MayHappen, line_of, moment_at, newest_first, rects_of}
use Rattle.tk_session.specs.declared.session.AppBlock.{AppBlock}
use Rattle.tk_session.specs.declared.session.EventLine.{EventLine}
use Rattle.tk_session.proofs.EventLaws.{newest_first-push}
use Rattle.tkhost.specs.Calls.{adding, lining}
use Rattle.tkhost.specs.Play.{Serve}
use Rattle.tkhost.proofs.Adds.{adding-given, adding-lines, adding-phase, givens, givens-rects, held-adding, held_by}

-- the first line comes last where the newest comes first
newest_first-cons : (event : EventLine) (events : List EventLine) → newest_first (event ∷ events) ≡ newest_first events ++ line_of event ∷ []
newest_first-cons event events = reverse-append (line_of event ∷ []) (map line_of events)

newest_then : (event : EventLine) (events : List EventLine) (earlier : List Line) → newest_first (event ∷ events) ++ earlier ≡ newest_first events ++ line_of event ∷ earlier
newest_then event events earlier = ap (λ front. front ++ earlier) (newest_first-cons event events) ∙ append_assoc (newest_first events) (line_of event ∷ []) earlier

module _ {M : Type 0} where
  -- one event more
  lining-push : (events : List EventLine) (event : EventLine) → lining {M = M} (events ++ event ∷ []) ≡ lining events ++ LineAt event.moment event.line ∷ []
  lining-push [] event = refl
  lining-push (first ∷ events) event = ap (λ rest. LineAt first.moment first.line ∷ rest) (lining-push events event)

  -- what the lines come to
  lining-given : (events : List EventLine) (calls : List (Call M)) → given_by (lining events ++ calls) ≡ given_by calls
  lining-given [] calls = refl
  lining-given (event ∷ events) calls = lining-given events calls

  lining-lines : (earlier : List Line) (events : List EventLine) (calls : List (Call M)) → lines_after earlier (lining events ++ calls) ≡ lines_after (newest_first events ++ earlier) calls
  lining-lines earlier [] calls = refl
  lining-lines earlier (event ∷ events) calls =
      lining-lines (line_of event ∷ earlier) events calls ∙ ap (λ lines. lines_after lines calls) (sym (newest_then event events earlier))

lining-end : (M : Type 0) (phase : Phase) (events : List EventLine) (end : ℕ) → phase_after {M = M} phase (lining events ++ End end ∷ []) ≡ Finished end
lining-end M phase [] end = refl
lining-end M phase (event ∷ events) end = lining-end M (Reached event.moment) events end

lining-phase : (M : Type 0) (earlier : List Line) (events : List EventLine) → phase_after {M = M} (Reached (moment_after earlier)) (lining events) ≡ Reached (moment_after (newest_first events ++ earlier))
lining-phase M earlier [] = refl
lining-phase M earlier (event ∷ events) = lining-phase M (line_of event ∷ earlier) events ∙ ap (λ lines. Reached (moment_after lines)) (sym (newest_then event events earlier))

module _ {M : Type 0} (answer : M → Meaning) where
  -- ── the start ──

  pub none_refuses_start : (apps : List AppBlock) (lists : List (List (List ℕ × M))) (held : HostState M) → held ≡ held_after answer (adding apps lists) → NoneApplies (PhaseRefuses held.phase) start_faults
  none_refuses_start apps lists held is =
      subst (λ (h : HostState M). NoneApplies (PhaseRefuses h.phase) start_faults) (sym (is ∙ held-adding answer apps lists)) (λ refuses. refuses, (λ refuses. refuses, (λ refuses. refuses, tt)))

  held-started : (apps : List AppBlock) (lists : List (List (List ℕ × M))) → held_after answer (adding apps lists ++ Start ∷ []) ≡ held_in answer (Reached 0) (givens apps lists) []
  held-started apps lists =
      held_by answer (adding apps lists ++ Start ∷ []) (Reached 0) (givens apps lists) [] (adding-phase Adding apps lists (Start ∷ []))
      (adding-given apps lists (Start ∷ []) ∙ append-nil (givens apps lists)) (adding-lines [] apps lists (Start ∷ []))

  pub started_phase : (apps : List AppBlock) (lists : List (List (List ℕ × M))) (held : HostState M) → held ≡ held_after answer (adding apps lists ++ Start ∷ []) → held.phase ≡ Reached 0
  started_phase apps lists held is = ap (λ (h : HostState M). h.phase) (is ∙ held-started apps lists)

  pub started_known : (apps : List AppBlock) (lists : List (List (List ℕ × M))) (held : HostState M) → Serve apps lists → held ≡ held_after answer (adding apps lists ++ Start ∷ []) → held.known ≡ values (rects_of apps) []
  started_known apps lists held serve is = ap (λ (h : HostState M). h.known) (is ∙ held-started apps lists) ∙ ap (λ first. values first []) (givens-rects apps lists serve)

  -- ── the events, one after another ──

  -- so many have come
  pub record Came (apps : List AppBlock) (events : List EventLine) (count : ℕ) (start held : HostState M) : Type 0 where
    pub phase : held.phase ≡ Reached (moment_at (take count events))
    pub known : held.known ≡ values (rects_of apps) (newest_first (take count events))
    pub may : MayHappen apps (take count events) (drop count events)
    pub history : (calls : List (Call M)) → start ≡ held_after answer calls → held ≡ held_after answer (calls ++ lining (take count events))

  pub came_none : (apps : List AppBlock) (events : List EventLine) (held : HostState M) → held.phase ≡ Reached 0 → held.known ≡ values (rects_of apps) [] → MayHappen apps [] events → Came apps events 0 held held
  came_none apps events held phase known may =
      record { phase = phase; known = known; may = may; history = λ calls is. is ∙ ap (held_after answer) (sym (append-nil calls)) }

  pub may_line : (apps : List AppBlock) (events : List EventLine) (count : ℕ) (start held : HostState M) → Came apps events count start held → held.phase ≢ Adding
  may_line apps events count start held came e = let wrong : Reached (moment_at (take count events)) ≡ Adding = sym came.phase ∙ e in cc

  module _ (apps : List AppBlock) (events : List EventLine) (count : ℕ) (start : HostState M) (held : HostState M) (came : Came apps events count start held) (event : EventLine)
      (within : count < length events) (is : event ≡ get_or events count event) where
    next_events : drop count events ≡ event ∷ drop (count + 1) events
    next_events = drop-cons events count event within ∙ ap (λ a. a ∷ drop (suc count) events) (sym is) ∙ ap (λ n. event ∷ drop n events) (let e : suc count ≡ count + 1 = omega arith in e)

    one_more : take (count + 1) events ≡ take count events ++ event ∷ []
    one_more = take_more events count event within ∙ ap (λ a. take count events ++ a ∷ []) (sym is)

    newest : newest_first (take (count + 1) events) ≡ line_of event ∷ newest_first (take count events)
    newest = ap newest_first one_more ∙ newest_first-push (take count events) event

    may : MayHappen apps (take count events) (event ∷ drop (count + 1) events)
    may = subst (MayHappen apps (take count events)) next_events came.may

    pub line_taken : NoneApplies (RefusesLine held event.moment event.line) line_faults
    line_taken = (
      λ refuses. subst (λ p. PhaseRefuses p Broken) came.phase refuses,
      (
        λ refuses. subst (λ p. PhaseRefuses p Ended) came.phase refuses,
        (
          λ refuses. refuses (may.0, may.1),
          (
            λ refuses. let there : reached held.phase ≡ moment_at (take count events) = ap reached came.phase in omega (arith, refuses, there, may.2.in_order),
            (
              λ refuses. may.2.somebody (subst (λ (k : Values). NamesNobody k.rects event.line) came.known refuses),
              (λ refuses. may.2.apart (subst (λ (k : Values). Covers k.rects event.line) came.known refuses), tt),
            ),
          ),
        ),
      ),
    )

    pub one_came : (old after : Hosted M) → old.held ≡ held
        → after ≡ after_line answer (rects_of apps) (newest_first (take count events)) (at event.moment event.line) old
        → ((calls : List (Call M)) → held ≡ held_after answer calls → after.held ≡ held_after answer (calls ++ LineAt event.moment event.line ∷ []))
        → Came apps events (count + 1) start after.held
    one_came old after same now history = record {
      phase = ap (λ (h : Hosted M). h.held.phase) now ∙ ap (λ lines. Reached (moment_after lines)) (sym newest);
      known = ap (λ (h : Hosted M). h.held.known) now ∙ ap (values (rects_of apps)) (sym newest);
      may = subst (λ front. MayHappen apps front (drop (count + 1) events)) (sym one_more) may.3;
      history = λ calls begun.
          history (calls ++ lining (take count events)) (came.history calls begun)
          ∙ ap (held_after answer) (append_assoc calls (lining (take count events)) (LineAt event.moment event.line ∷ [])
          ∙ ap (λ rest. calls ++ rest) (sym (lining-push (take count events) event) ∙ ap (λ front. lining front) (sym one_more)));
    }

  pub all_came : (apps : List AppBlock) (events : List EventLine) (start held : HostState M) → Came apps events (length events) start held
      → (calls : List (Call M)) → start ≡ held_after answer calls → held ≡ held_after answer (calls ++ lining events)
  all_came apps events start held came calls begun = came.history calls begun ∙ ap (λ front. held_after answer (calls ++ lining front)) (take-length events)

  -- ── the end ──

  held-told : (apps : List AppBlock) (lists : List (List (List ℕ × M))) (events : List EventLine)
      → held_after answer ((adding apps lists ++ Start ∷ []) ++ lining events) ≡ held_in answer (Reached (moment_at events)) (givens apps lists) (newest_first events)
  held-told apps lists events =
      let calls : List (Call M) = Start ∷ lining events in
      let nothing : given_by (lining {M = M} events) ≡ [] = ap given_by (sym (append-nil (lining events))) ∙ lining-given events [] in
      let said : lines_after [] (lining {M = M} events) ≡ newest_first events = ap (lines_after []) (sym (append-nil (lining events))) ∙ lining-lines [] events [] ∙ append-nil (newest_first events) in
      let there : phase_after {M = M} (Reached 0) (lining events) ≡ Reached (moment_at events) = lining-phase M [] events ∙ ap (λ lines. Reached (moment_after lines)) (append-nil (newest_first events)) in
      ap (held_after answer) (append_assoc (adding apps lists) (Start ∷ []) (lining events))
      ∙ held_by answer (adding apps lists ++ calls) (Reached (moment_at events)) (givens apps lists) (newest_first events) (adding-phase Adding apps lists calls ∙ there)
      (adding-given apps lists calls ∙ ap (λ rest. givens apps lists ++ rest) nothing ∙ append-nil (givens apps lists)) (adding-lines [] apps lists calls ∙ said)

  module _ (apps : List AppBlock) (lists : List (List (List ℕ × M))) (events : List EventLine) (held : HostState M) (told : held ≡ held_after answer ((adding apps lists ++ Start ∷ []) ++ lining events)) where
    told_phase : held.phase ≡ Reached (moment_at events)
    told_phase = ap (λ (h : HostState M). h.phase) (told ∙ held-told apps lists events)

    pub may_end : held.phase ≢ Adding
    may_end e = let wrong : Reached (moment_at events) ≡ Adding = sym told_phase ∙ e in cc

    pub none_refuses_end : (end : ℕ) → end ≤ 1000000000000 → moment_at events ≤ end → NoneApplies (RefusesMoment held end) moment_faults
    none_refuses_end end fits last = (
      λ refuses. subst (λ p. PhaseRefuses p Broken) told_phase refuses,
      (
        λ refuses. subst (λ p. PhaseRefuses p Ended) told_phase refuses,
        (
          λ refuses. omega (arith, refuses, fits),
          (λ refuses. let there : reached held.phase ≡ moment_at events = ap reached told_phase in omega (arith, refuses, there, last), tt),
        ),
      ),
    )

  -- the calls as they stand
  pub calls_joined : (calls : List (Call M)) (events : List EventLine) (end : ℕ) → ((calls ++ Start ∷ []) ++ lining events) ++ End end ∷ [] ≡ calls ++ Start ∷ (lining events ++ End end ∷ [])
  calls_joined calls events end =
      ap (λ front. front ++ End end ∷ []) (append_assoc calls (Start ∷ []) (lining events)) ∙ append_assoc calls (Start ∷ lining events) (End end ∷ [])

  pub held-played : (apps : List AppBlock) (lists : List (List (List ℕ × M))) (events : List EventLine) (end : ℕ)
      → held_after answer (adding apps lists ++ Start ∷ (lining events ++ End end ∷ [])) ≡ held_in answer (Finished end) (givens apps lists) (newest_first events)
  held-played apps lists events end =
      let calls : List (Call M) = Start ∷ (lining events ++ End end ∷ []) in
      held_by answer (adding apps lists ++ calls) (Finished end) (givens apps lists) (newest_first events) (adding-phase Adding apps lists calls ∙ lining-end M (Reached 0) events end)
      (adding-given apps lists calls ∙ ap (λ rest. givens apps lists ++ rest) (lining-given events (End end ∷ [])) ∙ append-nil (givens apps lists))
      (adding-lines [] apps lists calls ∙ lining-lines [] events (End end ∷ []) ∙ append-nil (newest_first events))
