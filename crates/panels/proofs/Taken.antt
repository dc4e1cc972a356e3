-- What the host takes, line by line and entry by entry, up to what it refuses.
use Rattle.std.proofs.Common.{◌≡◌, ℕ, suc, ◌+◌, ◌<◌, inl, inr, Option, None, Some, List, [], ◌∷◌, ◌++◌, length, get_or, take, drop, refl, ap, sym, subst, ◌∙◌, arith}
use Rattle.std.proofs.lemmas.List.{length-take-le, take-append-drop, take_more}
use Rattle.std.proofs.Math.Seq.{drop-cons}
use Rattle.tk_route.specs.Refusals.{IsFirst, NoneApplies}
use Rattle.tk_route.specs.declared.fault.HostFault.{HostFault}
use Rattle.tk_route.specs.declared.fault.HostFault.TheVariants as hosts
use Rattle.tk_route.specs.declared.fault.LineFault.{LineFault}
use Rattle.tk_route.specs.declared.line.HostLine.{HostLine}
use Rattle.tk_app.specs.Seen.{Meaning}
use Rattle.tk_host.specs.Held.{HostState, held_after}
use Rattle.tk_host.specs.Refusals.{IsRefusal, RefusesLine, RefusesMoment, line_faults, moment_faults}
use Rattle.panels.specs.declared.bench.Entry.{Entry}
use Rattle.panels.specs.declared.playing.BenchFault.{BenchFault}
use Rattle.panels.specs.declared.playing.BenchFault.TheVariants.{NoSession, Refused, Unserved, NoMemory}
use Rattle.panels.specs.Course.{Way, entered, handed, handed_all, went}
use Rattle.panels.specs.Refusals.{OfEntry, RefusedAmong, RefusesAt, RefusesEntry, RefusesLines, TakesAll, TakesEntry, TakesLines, fault_in}

-- a list up to a place, and from there on
whole_at : {A : Type 0} (list : List A) (i : ℕ) (one : A) → i < length list → one ≡ get_or list i one → list ≡ take i list ++ one ∷ drop (i + 1) list
whole_at list i one h is =
    let next : drop i list ≡ one ∷ drop (i + 1) list =
    drop-cons list i one h ∙ ap (λ a. a ∷ drop (suc i) list) (sym is) ∙ ap (λ n. one ∷ drop n list) (let e : suc i ≡ i + 1 = omega arith in e) in
    sym (take-append-drop i list) ∙ ap (λ rest. take i list ++ rest) next

front_at : {A : Type 0} (list : List A) (i : ℕ) (one : A) → i < length list → one ≡ get_or list i one → take (i + 1) list ≡ take i list ++ one ∷ []
front_at list i one h is = take_more list i one h ∙ ap (λ a. take i list ++ a ∷ []) (sym is)

-- what a call of the host is refused with, as a fault of an entry
pub of_fault : (Applies : LineFault → Type 0) (faults : List LineFault) (entry : ℕ) (asker : Option ℕ) (found : HostFault) → IsRefusal Applies faults found → OfEntry (IsFirst Applies faults) entry (fault_in entry asker found)
of_fault Applies faults entry asker (hosts.Refused fault) is = (refl, is)
of_fault Applies faults entry None hosts.NoMemory is = tt
of_fault Applies faults entry (Some slot) hosts.NoMemory is = tt

pub of_entry-map : (One Other : LineFault → Type 0) (entry : ℕ) (found : BenchFault) → ((fault : LineFault) → One fault → Other fault) → OfEntry One entry found → OfEntry Other entry found
of_entry-map One Other entry (NoSession why) from is = is
of_entry-map One Other entry (Refused number fault) from is = (is.0, from fault is.1)
of_entry-map One Other entry (Unserved slot) from is = tt
of_entry-map One Other entry NoMemory from is = tt

pub of_memory : (Refuses : LineFault → Type 0) (entry : ℕ) (found : BenchFault) → found ≡ NoMemory → OfEntry Refuses entry found
of_memory Refuses entry found is = subst (λ (fault : BenchFault). OfEntry Refuses entry fault) (sym is) tt

module _ {M : Type 0} (answer : M → Meaning) where
  -- ── lines ──

  takes_lines-append : (moment : ℕ) (lines more : List HostLine) (way : Way M) → TakesLines answer moment lines way → TakesLines answer moment more (handed_all moment lines way)
      → TakesLines answer moment (lines ++ more) way
  takes_lines-append moment [] more way front rest = rest
  takes_lines-append moment (line ∷ lines) more way front rest = (front.0, takes_lines-append moment lines more (handed (record { moment = moment; line = line }) way) front.1 rest)

  refuses_lines-append : (moment : ℕ) (lines more : List HostLine) (way : Way M) (fault : LineFault) → TakesLines answer moment lines way
      → RefusesLines answer moment more (handed_all moment lines way) fault → RefusesLines answer moment (lines ++ more) way fault
  refuses_lines-append moment [] more way fault front rest = rest
  refuses_lines-append moment (line ∷ lines) more way fault front rest =
      inr (front.0, refuses_lines-append moment lines more (handed (record { moment = moment; line = line }) way) fault front.1 rest)

  -- one line more is taken
  pub takes_lines-more : (moment : ℕ) (lines : List HostLine) (i : ℕ) (line : HostLine) (way : Way M) (held : HostState M) → i < length lines → line ≡ get_or lines i line
      → held ≡ held_after answer (handed_all moment (take i lines) way).calls → TakesLines answer moment (take i lines) way → NoneApplies (RefusesLine held moment line) line_faults
      → TakesLines answer moment (take (i + 1) lines) way
  takes_lines-more moment lines i line way held h is now front none =
      subst (λ (all : List HostLine). TakesLines answer moment all way) (sym (front_at lines i line h is))
      (takes_lines-append moment (take i lines) (line ∷ []) way front (subst (λ (other : HostState M). NoneApplies (RefusesLine other moment line) line_faults) now none, tt))

  -- the line behind those that were taken is refused
  pub refuses_lines-at : (moment : ℕ) (lines : List HostLine) (i : ℕ) (line : HostLine) (way : Way M) (held : HostState M) → i < length lines → line ≡ get_or lines i line
      → held ≡ held_after answer (handed_all moment (take i lines) way).calls → TakesLines answer moment (take i lines) way
      → (fault : LineFault) → IsFirst (RefusesLine held moment line) line_faults fault → RefusesLines answer moment lines way fault
  refuses_lines-at moment lines i line way held h is now front fault first =
      subst (λ (all : List HostLine). RefusesLines answer moment all way fault) (sym (whole_at lines i line h is))
      (refuses_lines-append moment (take i lines) (line ∷ drop (i + 1) lines) way fault front
      (inl (subst (λ (other : HostState M). IsFirst (RefusesLine other moment line) line_faults fault) now first)))

  -- ── entries ──

  -- the moment of an entry is refused
  pub refuses_moment : (entry : Entry) (way : Way M) (held : HostState M) → held ≡ held_after answer way.calls
      → (fault : LineFault) → IsFirst (RefusesMoment held entry.moment) moment_faults fault → RefusesEntry answer entry way fault
  refuses_moment entry way held now fault first = inl (subst (λ (other : HostState M). IsFirst (RefusesMoment other entry.moment) moment_faults fault) now first)

  -- the moment is taken
  pub takes_moment : (entry : Entry) (way : Way M) (held : HostState M) → held ≡ held_after answer way.calls → NoneApplies (RefusesMoment held entry.moment) moment_faults
      → NoneApplies (RefusesMoment (held_after answer way.calls) entry.moment) moment_faults
  takes_moment entry way held now none = subst (λ (other : HostState M). NoneApplies (RefusesMoment other entry.moment) moment_faults) now none

  takes_all-append : (number : ℕ) (entries more : List Entry) (way : Way M) → TakesAll answer number entries way
      → TakesAll answer (number + length entries) more (went answer number entries way) → TakesAll answer number (entries ++ more) way
  takes_all-append number [] more way front rest = subst (λ (n : ℕ). TakesAll answer n more way) (let e : number + 0 ≡ number = omega arith in e) rest
  takes_all-append number (entry ∷ entries) more way front rest = (
    front.0,
    takes_all-append (number + 1) entries more (entered answer number entry way) front.1
        (subst (λ (n : ℕ). TakesAll answer n more (went answer (number + 1) entries (entered answer number entry way))) (let e : number + suc (length entries) ≡ number + 1 + length entries = omega arith in e) rest),
  )

  refuses_at-append : (number : ℕ) (entries more : List Entry) (way : Way M) (at : ℕ) (fault : LineFault) → TakesAll answer number entries way
      → RefusesAt answer (number + length entries) more (went answer number entries way) at fault → RefusesAt answer number (entries ++ more) way at fault
  refuses_at-append number [] more way at fault front rest = subst (λ (n : ℕ). RefusesAt answer n more way at fault) (let e : number + 0 ≡ number = omega arith in e) rest
  refuses_at-append number (entry ∷ entries) more way at fault front rest =
      inr (
        front.0,
        refuses_at-append (number + 1) entries more (entered answer number entry way) at fault front.1
            (subst (λ (n : ℕ). RefusesAt answer n more (went answer (number + 1) entries (entered answer number entry way)) at fault) (let e : number + suc (length entries) ≡ number + 1 + length entries = omega arith in e) rest),
      )

  count_at : (entries : List Entry) (i : ℕ) → i < length entries → i ≡ 0 + length (take i entries)
  count_at entries i h = omega (arith, length-take-le i entries (omega arith))

  -- one entry more is taken
  pub takes_all-more : (entries : List Entry) (i : ℕ) (entry : Entry) (way : Way M) → i < length entries → entry ≡ get_or entries i entry
      → TakesAll answer 0 (take i entries) way → TakesEntry answer entry (went answer 0 (take i entries) way) → TakesAll answer 0 (take (i + 1) entries) way
  takes_all-more entries i entry way h is front takes =
      subst (λ (all : List Entry). TakesAll answer 0 all way) (sym (front_at entries i entry h is))
      (takes_all-append 0 (take i entries) (entry ∷ []) way front (takes, tt))

  -- the entry behind those that were taken is refused
  pub refused-at : (entries : List Entry) (i : ℕ) (entry : Entry) (way : Way M) → i < length entries → entry ≡ get_or entries i entry
      → TakesAll answer 0 (take i entries) way → (found : BenchFault) → OfEntry (RefusesEntry answer entry (went answer 0 (take i entries) way)) i found → RefusedAmong answer 0 entries way found
  refused-at entries i entry way h is front (NoSession why) of = of
  refused-at entries i entry way h is front (Refused at fault) of =
      subst (λ (all : List Entry). RefusesAt answer 0 all way at fault) (sym (whole_at entries i entry h is))
      (refuses_at-append 0 (take i entries) (entry ∷ drop (i + 1) entries) way at fault front
      (inl (of.0 ∙ count_at entries i h, of.1)))
  refused-at entries i entry way h is front (Unserved slot) of = tt
  refused-at entries i entry way h is front NoMemory of = tt
