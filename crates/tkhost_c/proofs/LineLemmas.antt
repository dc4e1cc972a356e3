-- A line of a session, by what it says.
use Rattle.std.proofs.Common.{◌≡◌, ℕ, List, Option, Some, None, Result, Err, refl, subst}
use Rattle.std.proofs.lemmas.Option.{same_Some}
use Rattle.tk_route.specs.declared.fault.LineFault.TheVariants.{BadLine}
use Rattle.tk_session.specs.OneLine.{IsLineOfEvent}
use Rattle.tk_session.specs.Session.{IsEndLine}
use Rattle.tk_session.specs.declared.session.EventLine.{EventLine}
use Rattle.tkhost_c.specs.Calls.{Ends, TakesLine, TakesText}
use Rattle.tkhost_c.specs.Keeps.{Keeps}
use Rattle.tkhost_c.specs.declared.refusal.Refusal.{Refusal}
use Rattle.tkhost_c.specs.declared.refusal.Refusal.TheVariants.{Fault}

none_is : {X : Type 0} {A : Type 0} (x : X) → None ≡ Some x → A
none_is x e = absurd (let wrong : ⊥ = cc in wrong)

pub event_taken : (line : List ℕ) (old new : Keeps) (answer : Result (Unit {0}) Refusal) (event : EventLine) → IsLineOfEvent old.apps line event
    → ((other : EventLine) → IsLineOfEvent old.apps line other → Some event ≡ Some other) → TakesLine event.moment event.line old new answer → TakesText line old new answer
event_taken line old new answer event is all taken = (
  (λ other says. subst (λ (e : EventLine). TakesLine e.moment e.line old new answer) (same_Some event other (all other says)) taken),
  (λ moment none ends. absurd (none event is)),
  (λ none nor. absurd (none event is)),
)

pub end_taken : (line : List ℕ) (old new : Keeps) (answer : Result (Unit {0}) Refusal) (moment : ℕ) → ((event : EventLine) → IsLineOfEvent old.apps line event → None ≡ Some event)
    → IsEndLine line moment → ((other : ℕ) → IsEndLine line other → Some moment ≡ Some other) → Ends moment old new answer → TakesText line old new answer
end_taken line old new answer moment none is all ended = (
  (λ event says. none_is event (none event says)),
  (λ other nor ends. subst (λ (m : ℕ). Ends m old new answer) (same_Some moment other (all other ends)) ended),
  (λ nor never. absurd (never moment is)),
)

pub nothing_taken : (line : List ℕ) (old : Keeps) → ((event : EventLine) → IsLineOfEvent old.apps line event → None ≡ Some event) → ((moment : ℕ) → IsEndLine line moment → None ≡ Some moment)
    → TakesText line old old (Err (Fault BadLine))
nothing_taken line old none never = (
  (λ event says. none_is event (none event says)),
  (λ moment nor ends. none_is moment (never moment ends)),
  (λ nor neither. (refl, refl)),
)
