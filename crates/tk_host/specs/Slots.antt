-- Steps. What a step of a stage makes of the part in one slot.
use Rattle.std.specs.Prelude.{◌≡◌, ◌+◌, ◌≤◌, ◌-◌, ◌++◌, ◌==◌, ℕ, Bool, true, false, List, [], ◌∷◌, Option, Some, None, IfSome, slice_get, slice_set, min, if◌then◌else◌}
use Rattle.tk_base.specs.declared.local_event.LocalEvent.{LocalEvent}
use Rattle.tk_route.specs.declared.delivery.Delivery.{Delivery}
use Rattle.tk_app.specs.Rounds.{one_turn}
use Rattle.tk_app.specs.Application.{next_due}
use Rattle.tk_app.specs.Moments.{delivered}
use Rattle.tk_app.specs.Part.{Part, Rests, needs, settling_begun, stage_done}
use Rattle.tk_app.specs.Seen.{Meaning}
use Rattle.tk_app.specs.Shares.{taken_by}
use Rattle.tk_app.specs.Turns.{Applications}
use Rattle.tk_base.specs.declared.budget.Budget.{Budget}
use Rattle.tk_host.specs.Cut.{budget_in, left_in}

-- a part after a stage at a moment began: where something is due of it then, it begins to settle
abbrev pub begun_by : {M : Type 0} → Option ℕ → ℕ → Part M → Part M
begun_by None moment part = part
begun_by (Some due) moment part = if due == moment then settling_begun part else part

abbrev pub begun_at : {M : Type 0} → ℕ → Part M → Part M
begun_at moment part = begun_by (next_due part.application) moment part

-- the part in a slot began a stage at a moment
pub record BeginsAt {M : Type 0} (moment slot : ℕ) (old new : Applications M) : Type 0 where
  pub before : Part M
  pub was : slice_get old.parts slot ≡ Some before
  pub changed : new ≡ record old { parts = slice_set old.parts slot (begun_at moment before) }

-- The part in a slot took its turn: where something is under way in it, it took what that still needs, and at most a slice, and that is told.
pub record TakesTurn {M : Type 0} (answer : M → Meaning) (slice slot : ℕ) (again : Bool) (old new : Applications M) : Type 0 where
  pub before : Part M
  pub after : Part M
  pub was : slice_get old.parts slot ≡ Some before
  pub changed : new.parts ≡ slice_set old.parts slot after
  pub same : stage_done answer old.moment after ≡ stage_done answer old.moment before
  pub left : needs answer old.moment after ≡ needs answer old.moment before - slice
  pub told : new.turns ≡ old.turns ++ one_turn slot (min slice (needs answer old.moment before))
  pub last : again ≡ false → after ≡ stage_done answer old.moment before
  pub more : again ≡ true → slice ≤ needs answer old.moment before
  pub moment : new.moment ≡ old.moment

-- The steps that a slot has left and those that are told of its turns are as many as before: none is granted, and none forgotten.
pub record CountsIn {M : Type 0} (slot : ℕ) (old new : Applications M) : Type 0 where
  pub told : taken_by slot new.turns + left_in slot new.parts ≡ taken_by slot old.turns + left_in slot old.parts
  pub fewer : left_in slot new.parts ≤ left_in slot old.parts
  pub budget : budget_in slot new.parts ≡ budget_in slot old.parts

abbrev pub CountsAll : {M : Type 0} → Applications M → Applications M → Type 0
CountsAll old new = (slot : ℕ) → CountsIn slot old new

-- ── events ──

-- a part to which an event was given, and which begins to settle
abbrev pub given_event : {M : Type 0} → LocalEvent → Part M → Part M
given_event event part = settling_begun (record part { application = delivered event part.application })

-- the parts from a slot on, after what one of them is given
abbrev pub given_from : {M : Type 0} → ℕ → Delivery → List (Part M) → List (Part M)
given_from slot delivery [] = []
given_from slot delivery (part ∷ parts) =
    (if delivery.slot == slot then given_event delivery.event part else part) ∷ given_from (slot + 1) delivery parts

-- who is given an event has nothing under way
abbrev pub RestsIn : {M : Type 0} → ℕ → List (Part M) → Type 0
RestsIn {M} slot parts = (part : Part M) → slice_get parts slot ≡ Some part → part.work ≡ Rests

-- a slot has at most its total left
abbrev pub FitsIn : {M : Type 0} → ℕ → List (Part M) → Type 0
FitsIn slot parts = IfSome (budget_in slot parts) (λ (budget : Budget). left_in slot parts ≤ budget.total)

-- so it has then, and none of its steps is forgotten; events may have granted some
pub record KeepsIn {M : Type 0} (slot : ℕ) (old new : Applications M) : Type 0 where
  pub fits : FitsIn slot new.parts
  pub told : taken_by slot old.turns + left_in slot old.parts ≤ taken_by slot new.turns + left_in slot new.parts

abbrev pub KeepsAll : {M : Type 0} → Applications M → Applications M → Type 0
KeepsAll old new = (slot : ℕ) → FitsIn slot old.parts → KeepsIn slot old new

-- the deliveries are of this moment
abbrev pub AreAt : ℕ → List Delivery → Type 0
AreAt moment [] = Unit {0}
AreAt moment (delivery ∷ given) = (delivery.event.moment ≡ moment) × AreAt moment given
