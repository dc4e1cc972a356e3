-- The sections of what was played are those of the session.
use Rattle.std.proofs.Common.{◌≡◌, ◌≢◌, ℕ, zero, suc, ◌+◌, ◌<◌, List, [], ◌∷◌, ◌++◌, length, take, map, Some, refl, sym, ◌∙◌, ap, arith, append_assoc, append-nil}
use Rattle.std.specs.Prelude.{slice_get, flat_map}
use Rattle.std.specs.List.{enumerate_from}
use Rattle.std.proofs.lemmas.Option.{none-some, same_Some}
use Rattle.tk_base.specs.declared.rect.Rect.{Rect}
use Rattle.tk_base.specs.declared.local_event.LocalEvent.{LocalEvent}
use Rattle.tk_route.specs.Lines.{Line}
use Rattle.tk_route.specs.Routes.{routed}
use Rattle.tk_app.specs.Commands.{Update}
use Rattle.tk_app.specs.Dispatch.{Action}
use Rattle.tk_app.specs.Part.{Part}
use Rattle.tk_app.specs.Section.{section}
use Rattle.tk_app.specs.Seen.{Meaning}
use Rattle.tk_app.specs.Settle.{IsSettle, IsUpdate}
use Rattle.tk_app.specs.Spec.{Spec}
use Rattle.tk_route.specs.declared.fault.LineFault.TheVariants.{Broken}
use Rattle.tk_host.specs.declared.phase.Phase.{Phase}
use Rattle.tk_host.specs.declared.phase.Phase.TheVariants.{Adding, Reached, Finished, Lost}
use Rattle.tk_host.specs.Alone.{alone_by}
use Rattle.tk_host.specs.AloneByJob.{alone}
use Rattle.tk_host.specs.Held.{HostState, held_after, parts_in}
use Rattle.tk_route.specs.Refusals.{NoneApplies}
use Rattle.tk_host.specs.Refusals.{RefusesSection, PhaseRefuses, section_faults}
use Rattle.tk_host.specs.Spec.{rect_of}
use Rattle.tk_session.specs.Session.{Plan, newest_first, rects_of}
use Rattle.tk_session.specs.declared.session.AppBlock.{AppBlock}
use Rattle.tkhost.specs.Calls.{calls_of, sections_from}
use Rattle.tk_host.proofs.BySettle.{alone_by_settle}
use Rattle.tkhost.specs.Play.{SameBytes, Serve, sections_by, spec_of, specs_of}
use Rattle.tkhost.specs.Sections.{sections_of}
use Rattle.tkhost.proofs.Adds.{givens, givens-rects}
use Rattle.tkhost.proofs.Happens.{held-played}

abbrev pub section_of : {M : Type 0} → Part M → List ℕ
section_of part = section part.application

module _ {M : Type 0} where
  -- one more section behind those before
  pub next_section : (parts : List (Part M)) (slot : ℕ) (bytes : List ℕ) → slice_get (map section_of parts) slot ≡ Some bytes
      → flat_map section_of (take (slot + 1) parts) ≡ flat_map section_of (take slot parts) ++ bytes
  next_section [] slot bytes is = absurd (none-some bytes is)
  next_section (part ∷ parts) zero bytes is = append-nil (section_of part) ∙ same_Some (section_of part) bytes is
  next_section (part ∷ parts) (suc slot) bytes is =
      let numbers : suc slot + 1 ≡ suc (slot + 1) = omega arith in
      rw numbers (ap (λ rest. section_of part ++ rest) (next_section parts slot bytes is) ∙ sym (append_assoc (section_of part) (flat_map section_of (take slot parts)) bytes))

  -- a host that memory wasn't refused to tells the section of each of its slots
  pub none_refuses_section : (held : HostState M) (slot : ℕ) → held.phase ≢ Lost → slot < length held.parts → NoneApplies (RefusesSection held slot) section_faults
  none_refuses_section held slot whole within = (λ refuses. by held.phase refl refuses, (λ refuses. omega (arith, refuses, within), tt))
    where
      by : (phase : Phase) → held.phase ≡ phase → PhaseRefuses phase Broken → ⊥
      by Adding is refuses = refuses
      by (Reached moment) is refuses = refuses
      by (Finished moment) is refuses = refuses
      by Lost is refuses = whole is

module _ {M : Type 0} (answer : M → Meaning) where
  -- ── what was played ──

  told_from : (end : ℕ) (first : List Rect) (lines : List Line) (slot : ℕ) (apps : List AppBlock) (lists : List (List (List ℕ × M)))
      → flat_map section_of (parts_in answer (Finished end) first lines slot (givens apps lists)) ≡ flat_map (λ bytes. bytes) (sections_from answer end first lines slot (specs_of apps lists))
  told_from end first lines slot [] lists = refl
  told_from end first lines slot (app ∷ apps) [] = refl
  told_from end first lines slot (app ∷ apps) (aliases ∷ lists) =
      ap (λ rest. section (alone answer (spec_of app aliases) (routed first lines slot) end) ++ rest) (told_from end first lines (slot + 1) apps lists)

  count_from : (end : ℕ) (first : List Rect) (lines : List Line) (slot : ℕ) (apps : List AppBlock) (lists : List (List (List ℕ × M))) → Serve apps lists
      → length (parts_in answer (Finished end) first lines slot (givens apps lists)) ≡ length apps
  count_from end first lines slot [] [] serve = refl
  count_from end first lines slot [] (aliases ∷ lists) serve = absurd serve
  count_from end first lines slot (app ∷ apps) [] serve = absurd serve
  count_from end first lines slot (app ∷ apps) (aliases ∷ lists) serve = ap suc (count_from end first lines (slot + 1) apps lists serve.1)

  pub played_whole : (plan : Plan) (lists : List (List (List ℕ × M))) (held : HostState M) → held ≡ held_after answer (calls_of plan lists) → held.phase ≢ Lost
  played_whole plan lists held is e = let wrong : Finished plan.end ≡ Lost = sym (ap (λ (h : HostState M). h.phase) (is ∙ held-played answer plan.apps lists plan.events plan.end)) ∙ e in cc

  pub played_count : (plan : Plan) (lists : List (List (List ℕ × M))) (held : HostState M) → Serve plan.apps lists → held ≡ held_after answer (calls_of plan lists) → length plan.apps ≡ length held.parts
  played_count plan lists held serve is =
      sym (ap (λ (h : HostState M). length h.parts) (is ∙ held-played answer plan.apps lists plan.events plan.end)
      ∙ count_from plan.end (map rect_of (givens plan.apps lists)) (newest_first plan.events) 0 plan.apps lists serve)

  pub played_sections : (plan : Plan) (lists : List (List (List ℕ × M))) (held : HostState M) → Serve plan.apps lists → held ≡ held_after answer (calls_of plan lists)
      → flat_map section_of held.parts ≡ sections_of answer plan lists
  played_sections plan lists held serve is =
      ap (λ (h : HostState M). flat_map section_of h.parts) (is ∙ held-played answer plan.apps lists plan.events plan.end)
      ∙ told_from plan.end (map rect_of (givens plan.apps lists)) (newest_first plan.events) 0 plan.apps lists
      ∙ ap (λ first. flat_map (λ bytes. bytes) (sections_from answer plan.end first (newest_first plan.events) 0 (specs_of plan.apps lists))) (givens-rects plan.apps lists serve)

  -- ── by the equations of `update` and *Settle* ──

  module _ (update : Update) (is_update : IsUpdate update) (settle : Action) (meets : IsSettle update settle) where
    same_in : (plan : Plan) (specs : List (ℕ × Spec M))
        → map (λ (numbered : ℕ × Spec M). section (alone answer numbered.1 (routed (rects_of plan.apps) (newest_first plan.events) numbered.0) plan.end)) specs
        ≡ map (λ (numbered : ℕ × Spec M). section (alone_by answer update settle numbered.1 (routed (rects_of plan.apps) (newest_first plan.events) numbered.0) plan.end)) specs
    same_in plan [] = refl
    same_in plan (numbered ∷ specs) =
        let events = routed (rects_of plan.apps) (newest_first plan.events) numbered.0 in
        ap
        (λ application. section application ∷ map (λ (other : ℕ × Spec M). section (alone answer other.1 (routed (rects_of plan.apps) (newest_first plan.events) other.0) plan.end)) specs)
        (alone_by_settle answer update is_update settle meets numbered.1 events plan.end)
        ∙ ap (λ rest. section (alone_by answer update settle numbered.1 events plan.end) ∷ rest) (same_in plan specs)

    pub sections_same : (plan : Plan) (lists : List (List (List ℕ × M))) → sections_of answer plan lists ≡ sections_by answer update settle plan lists
    sections_same plan lists = ap (λ sections. flat_map (λ bytes. bytes) sections) (same_in plan (enumerate_from 0 (specs_of plan.apps lists)))

  -- ── two sessions ──

  -- the section of an application that is there
  section_at : (of : ℕ × Spec M → List ℕ) (slot from i : ℕ) (specs : List (Spec M)) (spec : Spec M) → from + i ≡ slot → slice_get specs i ≡ Some spec
      → slice_get (map of (enumerate_from from specs)) i ≡ Some (of (slot, spec))
  section_at of slot from i [] spec at is = absurd (none-some spec is)
  section_at of slot from zero (own ∷ specs) spec at is =
      let here : from ≡ slot = omega (arith, at) in ap (λ (n : ℕ). Some (of (n, own))) here ∙ ap (λ (s : Spec M). Some (of (slot, s))) (same_Some own spec is)
  section_at of slot from (suc i) (own ∷ specs) spec at is = section_at of slot (from + 1) i specs spec (omega (arith, at)) is

  pub same_bytes_holds : (update : Update) (settle : Action) → SameBytes answer update settle
  same_bytes_holds update settle plan other lists others slot other_slot spec is there end same =
      section_at (λ (numbered : ℕ × Spec M). section (alone_by answer update settle numbered.1 (routed (rects_of plan.apps) (newest_first plan.events) numbered.0) plan.end)) slot 0 slot
      (specs_of plan.apps lists) spec (omega arith) is
      ∙ ap (λ (n : ℕ). Some (section (alone_by answer update settle spec (routed (rects_of plan.apps) (newest_first plan.events) slot) n))) end
      ∙ ap (λ (events : List LocalEvent). Some (section (alone_by answer update settle spec events other.end))) same
      ∙ sym
      (section_at (λ (numbered : ℕ × Spec M). section (alone_by answer update settle numbered.1 (routed (rects_of other.apps) (newest_first other.events) numbered.0) other.end)) other_slot 0
      other_slot (specs_of other.apps others) spec (omega arith) there)
