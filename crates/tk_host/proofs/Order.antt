-- Which fault of a call is the first.
use Rattle.std.proofs.Common.{◌≡◌, ℕ, ◌≤◌, arith, List, [], ◌∷◌, Result, Ok, Err, MatchResult, sym, ap, ◌∙◌, subst, inl, inr}
use Rattle.tk_base.specs.declared.rect.Rect.{Rect}
use Rattle.tk_route.specs.Refusals.{Covers, IsFirst, NamesNobody, NoneApplies, Refuses, line_faults as faults_of_lines}
use Rattle.tk_route.specs.Values.{Values}
use Rattle.tk_route.specs.declared.fault.LineFault.{LineFault}
use Rattle.tk_route.specs.declared.fault.LineFault.TheVariants.{Started, Ended, Broken}
use Rattle.tk_route.specs.declared.line.HostLine.{HostLine}
use Rattle.tk_host.specs.declared.phase.Phase.{Phase}
use Rattle.tk_host.specs.declared.phase.Phase.TheVariants.{Adding, Reached}
use Rattle.tk_host.specs.Held.{HostState, reached}
use Rattle.tk_host.specs.Spec.{Given}
use Rattle.tk_host.specs.Refusals.{HasOneFirst, OneRefusal, PhaseRefuses, PartsRefuse, RefusesApp, RefusesLine, RefusesMoment, RefusesSection, app_faults, add_faults, line_faults, moment_faults, section_faults, start_faults}

-- while applications are added the phase refuses nothing
pub not_past : (phase : Phase) (fault : LineFault) → phase ≡ Adding → ¬ PhaseRefuses phase fault
not_past phase fault adding refused = let P : Phase → Type 0 = λ p. PhaseRefuses p fault in subst P adding refused

-- while applications are added those that are there decide
pub first_of_parts : {M : Type 0} (held : HostState M) (app : Given M) (fault : LineFault) → held.phase ≡ Adding
    → IsFirst (PartsRefuse held.known.rects held.parts app) app_faults fault → IsFirst (RefusesApp held app) add_faults fault
first_of_parts held app fault adding first =
    inr (not_past held.phase Broken adding, inr (not_past held.phase Ended adding, inr (not_past held.phase Started adding, first)))

pub none_of_parts : {M : Type 0} (held : HostState M) (app : Given M) → held.phase ≡ Adding
    → NoneApplies (PartsRefuse held.known.rects held.parts app) app_faults → NoneApplies (RefusesApp held app) add_faults
none_of_parts held app adding none =
    (not_past held.phase Broken adding, (not_past held.phase Ended adding, (not_past held.phase Started adding, none)))

-- what the applications that are there decide is decided
pub decided_by_parts : {T M : Type 0} (held : HostState M) (app : Given M) (answer : Result T LineFault) → held.phase ≡ Adding
    → MatchResult answer (λ _. NoneApplies (PartsRefuse held.known.rects held.parts app) app_faults) (IsFirst (PartsRefuse held.known.rects held.parts app) app_faults)
    → MatchResult answer (λ _. NoneApplies (RefusesApp held app) add_faults) (IsFirst (RefusesApp held app) add_faults)
decided_by_parts held app (Ok x) adding none = none_of_parts held app adding none
decided_by_parts held app (Err fault) adding first = first_of_parts held app fault adding first

-- ── lines ──

not_gone : (phase : Phase) (before : ℕ) (fault : LineFault) → phase ≡ Reached before → ¬ PhaseRefuses (Reached before) fault → ¬ PhaseRefuses phase fault
not_gone phase before fault from never refuses = never (subst (λ p. PhaseRefuses p fault) from refuses)

-- what is tested of a line beside the moment that is reached and the rectangles of then is what a host refuses it for
pub decided_by_test : {T M : Type 0} (held : HostState M) (rects : List Rect) (before moment : ℕ) (line : HostLine) (answer : Result T LineFault) → held.phase ≡ Reached before → rects ≡ held.known.rects
    → MatchResult answer (λ _. NoneApplies (Refuses rects before moment line) faults_of_lines) (IsFirst (Refuses rects before moment line) faults_of_lines)
    → MatchResult answer (λ _. NoneApplies (RefusesLine held moment line) line_faults) (IsFirst (RefusesLine held moment line) line_faults)
decided_by_test held rects before moment line (Ok x) from same none =
    let P : List Rect → Type 0 = λ rs. NoneApplies (Refuses rs before moment line) faults_of_lines in
    let Q : ℕ → Type 0 = λ n. NoneApplies (Refuses held.known.rects n moment line) faults_of_lines in
    (not_gone held.phase before Broken from (λ r. r), (not_gone held.phase before Ended from (λ r. r), subst Q (sym (ap reached from)) (subst P same none)))
decided_by_test held rects before moment line (Err fault) from same first =
    let P : List Rect → Type 0 = λ rs. IsFirst (Refuses rs before moment line) faults_of_lines fault in
    let Q : ℕ → Type 0 = λ n. IsFirst (Refuses held.known.rects n moment line) faults_of_lines fault in
    inr (not_gone held.phase before Broken from (λ r. r), inr (not_gone held.phase before Ended from (λ r. r), subst Q (sym (ap reached from)) (subst P same first)))

-- a line that a host takes is one that its router takes: what is known came no later than what was reached
pub tested_for_router : {M : Type 0} (held : HostState M) (known : Values) (before moment : ℕ) (line : HostLine) → held.phase ≡ Reached before → before ≤ moment → known.moment ≤ before
    → held.known ≡ known → NoneApplies (RefusesLine held moment line) line_faults → NoneApplies (Refuses known.rects known.moment moment line) faults_of_lines
tested_for_router held known before moment line from le behind same none =
    let somebody : ¬ NamesNobody known.rects line = subst (λ (k : Values). ¬ NamesNobody k.rects line) same none.1.1.1.1.0 in
    let apart : ¬ Covers known.rects line = subst (λ (k : Values). ¬ Covers k.rects line) same none.1.1.1.1.1.0 in
    (none.1.1.0, ((λ late. omega (arith, late, le, behind)), (somebody, (apart, tt))))

only_first : (Applies : LineFault → Type 0) (faults : List LineFault) (one other : LineFault) → IsFirst Applies faults one → IsFirst Applies faults other → one ≡ other
only_first Applies [] one other first next = absurd first
only_first Applies (fault ∷ faults) one other (inl first) (inl next) = first.1 ∙ sym next.1
only_first Applies (fault ∷ faults) one other (inl first) (inr next) = absurd (next.0 first.0)
only_first Applies (fault ∷ faults) one other (inr first) (inl next) = absurd (first.0 next.0)
only_first Applies (fault ∷ faults) one other (inr first) (inr next) = only_first Applies faults one other first.1 next.1

first_applies : (Applies : LineFault → Type 0) (faults : List LineFault) (one : LineFault) → IsFirst Applies faults one → ¬ NoneApplies Applies faults
first_applies Applies [] one first none = first
first_applies Applies (fault ∷ faults) one (inl first) none = none.0 first.0
first_applies Applies (fault ∷ faults) one (inr first) none = first_applies Applies faults one first.1 none.1

has_one_first : (Applies : LineFault → Type 0) (faults : List LineFault) → HasOneFirst Applies faults
has_one_first Applies faults one other first = (only_first Applies faults one other first, first_applies Applies faults one first)

pub one_refusal_holds : {M : Type 0} → OneRefusal M
one_refusal_holds = record {
  add = λ held app. has_one_first (RefusesApp held app) add_faults;
  start = λ phase. has_one_first (PhaseRefuses phase) start_faults;
  moment = λ held moment. has_one_first (RefusesMoment held moment) moment_faults;
  line = λ held moment line. has_one_first (RefusesLine held moment line) line_faults;
  section = λ held slot. has_one_first (RefusesSection held slot) section_faults;
}
