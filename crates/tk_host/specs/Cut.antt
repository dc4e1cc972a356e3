-- Meaning. The turns that are told of a call in which memory was refused, and the steps that are left then. Of a `Part`, a word of steps, only its application
-- is asked.
use Rattle.std.specs.Prelude.{◌≡◌, ℕ, ◌+◌, ◌≤◌, ◌<◌, List, ◌++◌, length, Option, Some, option_map, slice_get}
use Rattle.std.specs.Option.{option_map_or}
use Rattle.tk_base.specs.declared.budget.Budget.{Budget}
use Rattle.tk_route.specs.declared.fault.HostFault.{HostFault}
use Rattle.tk_route.specs.declared.fault.HostFault.TheVariants.{Refused, NoMemory}
use Rattle.tk_app.specs.declared.turns.Turn.{Turn}
use Rattle.tk_app.specs.Part.{Part}
use Rattle.tk_app.specs.Rounds.{one_turn}
use Rattle.tk_app.specs.Shares.{taken_by}
use Rattle.tk_host.specs.Held.{Hosted}

-- A front of the turns that there would have been, and behind it the turn that want of memory broke off: of the slot whose turn was next, which would
-- have taken so many steps, and took at most a slice.
pub record IsCutShort (slice slot : ℕ) (whole told : List Turn) : Type 0 where
  pub front : List Turn
  pub next : ℕ
  pub taken : ℕ
  pub back : List Turn
  pub whole_is : whole ≡ front ++ (one_turn slot next ++ back)
  pub told_is : told ≡ front ++ one_turn slot taken
  pub few : taken ≤ slice

-- Memory was refused to one of the applications, which is told: the turns of the call are cut short by the want of it in a turn of that one.
pub record IsBrokenOff {M : Type 0} (whole : List Turn) (old new : Hosted M) : Type 0 where
  pub slot : ℕ
  pub asked : new.asker ≡ Some slot
  pub there : slot < length old.held.parts
  pub cut : IsCutShort old.slice slot whole new.turns

module _ {M : Type 0} where
  -- A call in which memory was refused is broken off; one that was refused with a number took no turn.
  abbrev pub CutShortBy : HostFault → List Turn → Hosted M → Hosted M → Type 0
  CutShortBy NoMemory whole old new = IsBrokenOff whole old new
  CutShortBy (Refused found) whole old new = Unit {0}

  -- how many steps the part in a slot has left
  abbrev pub left_in : ℕ → List (Part M) → ℕ
  left_in slot parts = option_map_or (λ (part : Part M). part.application.steps) (slice_get parts slot) 0

  -- its budget, where there is one
  abbrev pub budget_in : ℕ → List (Part M) → Option Budget
  budget_in slot parts = option_map (λ (part : Part M). part.application.budget) (slice_get parts slot)

  -- No turn is forgotten: the steps that a slot had left are left to it, or it took them in these turns.
  abbrev pub TellsAll : List Turn → List (Part M) → List (Part M) → Type 0
  TellsAll turns old new = (slot : ℕ) → taken_by slot turns + left_in slot new ≡ left_in slot old

  -- The same where events may have granted steps meanwhile: these are left, too, or were taken.
  abbrev pub TellsAtLeast : List Turn → List (Part M) → List (Part M) → Type 0
  TellsAtLeast turns old new = (slot : ℕ) → left_in slot old ≤ taken_by slot turns + left_in slot new

  -- A call in which memory was refused tells turns so; one that was refused with a number took none.
  abbrev pub CutBy : HostFault → List Turn → Hosted M → Hosted M → Type 0
  CutBy NoMemory whole old new = IsBrokenOff whole old new × TellsAll new.turns old.held.parts new.held.parts
  CutBy (Refused found) whole old new = Unit {0}

  -- So does a line, whose events may grant steps.
  abbrev pub CutByLine : HostFault → List Turn → Hosted M → Hosted M → Type 0
  CutByLine NoMemory whole old new = IsBrokenOff whole old new × TellsAtLeast new.turns old.held.parts new.held.parts
  CutByLine (Refused found) whole old new = Unit {0}
