-- How far a bench has come, call by call.
use Rattle.std.proofs.Common.{◌≡◌, ℕ, suc, ◌+◌, ◌<◌, List, [], ◌∷◌, ◌++◌, length, get_or, take, map, refl, ap, sym, ◌∙◌, arith}
use Rattle.std.proofs.lemmas.List.{take_more}
use Rattle.std.proofs.lemmas.List.{length-take-le}
use Rattle.tk_route.specs.Lines.{focus_by, rects_by}
use Rattle.tk_route.specs.declared.line.HostLine.{HostLine}
use Rattle.tk_app.specs.Seen.{Meaning}
use Rattle.tk_host.specs.Held.{AdvanceTo, Call, HostState, LineAt, held_after}
use Rattle.tk_session.specs.declared.session.EventLine.{EventLine}
use Rattle.panels.specs.declared.bench.Entry.{Entry}
use Rattle.panels.specs.declared.course.Course.{Course}
use Rattle.panels.specs.Screens.{came}
use Rattle.panels.specs.Course.{IsAt, Way, advanced, entered, handed, handed_all, went, with_found}
use Rattle.panels.specs.Looks.{ToldFinding, told}

module _ {M : Type 0} where
  pub handed_all-append : (moment : ℕ) (lines more : List HostLine) (way : Way M) → handed_all moment (lines ++ more) way ≡ handed_all moment more (handed_all moment lines way)
  handed_all-append moment [] more way = refl
  handed_all-append moment (line ∷ lines) more way = handed_all-append moment lines more (handed (record { moment = moment; line = line }) way)

  -- one line more
  pub handed_all-more : (moment : ℕ) (lines : List HostLine) (i : ℕ) (line : HostLine) (way : Way M) → i < length lines → line ≡ get_or lines i line
      → handed_all moment (take (i + 1) lines) way ≡ handed (record { moment = moment; line = line }) (handed_all moment (take i lines) way)
  handed_all-more moment lines i line way h is =
      let front : take (i + 1) lines ≡ take i lines ++ line ∷ [] = take_more lines i line h ∙ ap (λ l. take i lines ++ l ∷ []) (sym is) in
      ap (λ ls. handed_all moment ls way) front ∙ handed_all-append moment (take i lines) (line ∷ []) way

module _ {M : Type 0} (answer : M → Meaning) where
  went-append : (number : ℕ) (entries more : List Entry) (way : Way M) → went answer number (entries ++ more) way ≡ went answer (number + length entries) more (went answer number entries way)
  went-append number [] more way = ap (λ n. went answer n more way) (let e : number ≡ number + 0 = omega arith in e)
  went-append number (entry ∷ entries) more way =
      went-append (number + 1) entries more (entered answer number entry way)
      ∙ ap (λ n. went answer n more (went answer (number + 1) entries (entered answer number entry way))) (let e : number + 1 + length entries ≡ number + suc (length entries) = omega arith in e)

  -- one entry more
  pub went-more : (entries : List Entry) (i : ℕ) (entry : Entry) (way : Way M) → i < length entries → entry ≡ get_or entries i entry
      → went answer 0 (take (i + 1) entries) way ≡ entered answer i entry (went answer 0 (take i entries) way)
  went-more entries i entry way h is =
      let front : take (i + 1) entries ≡ take i entries ++ entry ∷ [] = take_more entries i entry h ∙ ap (λ e. take i entries ++ e ∷ []) (sym is) in
      let count : 0 + length (take i entries) ≡ i = omega (arith, length-take-le i entries (omega arith)) in
      ap (λ es. went answer 0 es way) front
      ∙ went-append 0 (take i entries) (entry ∷ []) way
      ∙ ap (λ n. entered answer n entry (went answer 0 (take i entries) way)) count

  -- a line that was handed
  pub at_handed : (way : Way M) (event : EventLine) (held after : HostState M) (course later : Course) → IsAt answer way held course
      → ((calls : List (Call M)) → held ≡ held_after answer calls → after ≡ held_after answer (calls ++ LineAt event.moment event.line ∷ []))
      → later.screen.rects.items ≡ rects_by event.line course.screen.rects.items → later.screen.keys ≡ focus_by event.line course.screen.keys
      → later.screen.pointer ≡ came event.line course.screen.pointer
      → later.events.items ≡ course.events.items ++ event ∷ [] → later.findings.items ≡ course.findings.items
      → IsAt answer (handed event way) after later
  at_handed way event held after course later is history rects keys pointer events findings = record {
    held_is = history way.calls is.held_is;
    rects_are = rects ∙ ap (rects_by event.line) is.rects_are;
    keys_are = keys ∙ ap (focus_by event.line) is.keys_are;
    pointer_is = pointer ∙ ap (came event.line) is.pointer_is;
    events_are = events ∙ ap (λ es. es ++ event ∷ []) is.events_are;
    found_are = ap (map told) findings ∙ is.found_are;
  }

  -- a moment that was reached
  pub at_advanced : (way : Way M) (moment : ℕ) (held after : HostState M) (course : Course) → IsAt answer way held course
      → ((calls : List (Call M)) → held ≡ held_after answer calls → after ≡ held_after answer (calls ++ AdvanceTo moment ∷ []))
      → IsAt answer (advanced moment way) after course
  at_advanced way moment held after course is history = record {
    held_is = history way.calls is.held_is;
    rects_are = is.rects_are;
    keys_are = is.keys_are;
    pointer_is = is.pointer_is;
    events_are = is.events_are;
    found_are = is.found_are;
  }

  -- what was found
  pub at_found : (way : Way M) (held : HostState M) (course later : Course) (found : List ToldFinding) → IsAt answer way held course
      → later.screen.rects.items ≡ course.screen.rects.items → later.screen.keys ≡ course.screen.keys → later.screen.pointer ≡ course.screen.pointer
      → later.events.items ≡ course.events.items
      → map told later.findings.items ≡ map told course.findings.items ++ found
      → IsAt answer (with_found found way) held later
  at_found way held course later found is rects keys pointer events findings = record {
    held_is = is.held_is;
    rects_are = rects ∙ is.rects_are;
    keys_are = keys ∙ is.keys_are;
    pointer_is = pointer ∙ is.pointer_is;
    events_are = events ∙ is.events_are;
    found_are = findings ∙ ap (λ fs. fs ++ found) is.found_are;
  }
