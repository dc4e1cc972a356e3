-- Steps that are left, and those that are told of turns.
use Rattle.std.proofs.Common.{◌≡◌, ◌≢◌, ℕ, zero, suc, ◌+◌, ◌-◌, ◌≤◌, ◌++◌, inl, inr, Bool, true, false, List, [], ◌∷◌, Option, Some, None, append-nil, refl, sym, ap, ◌∙◌, subst, arith}
use Rattle.std.specs.Prelude.{IfSome, nat_eq, option_map, slice_get, slice_set}
use Rattle.std.specs.Option.{option_map_or}
use Rattle.std.proofs.lemmas.Bool.{eqb-false, eqb-true}
use Rattle.tk_base.specs.declared.budget.Budget.{Budget}
use Rattle.tk_app.specs.Part.{Part, settling_begun}
use Rattle.tk_app.specs.Rounds.{one_turn}
use Rattle.tk_app.specs.Shares.{taken_by}
use Rattle.tk_app.specs.Turns.{Applications, BeginsIn, ChangesOnly, ChangesPart}
use Rattle.tk_app.proofs.Shares.{taken_by-append, taken_other, taken_own}
use Rattle.tk_host.specs.Cut.{TellsAll, TellsAtLeast, budget_in, left_in}
use Rattle.tk_host.specs.Slots.{CountsAll, CountsIn, FitsIn, KeepsAll, KeepsIn}

fits_less : (budget : Option Budget) (more fewer : ℕ) → fewer ≤ more → IfSome budget (λ (b : Budget). more ≤ b.total) → IfSome budget (λ (b : Budget). fewer ≤ b.total)
fits_less None more fewer le fits = tt
fits_less (Some budget) more fewer le fits = omega (arith, le, fits)

module _ {M : Type 0} where
  -- ── a slot, after a call ──

  at_here : (parts : List (Part M)) (slot : ℕ) (before after : Part M) → slice_get parts slot ≡ Some before → slice_get (slice_set parts slot after) slot ≡ Some after
  at_here [] slot before after is = cc
  at_here (part ∷ parts) zero before after is = refl
  at_here (part ∷ parts) (suc slot) before after is = at_here parts slot before after is

  at_other : (parts : List (Part M)) (slot other : ℕ) (after : Part M) → slot ≢ other → slice_get (slice_set parts slot after) other ≡ slice_get parts other
  at_other [] slot other after differ = refl
  at_other (part ∷ parts) zero zero after differ = absurd (differ refl)
  at_other (part ∷ parts) zero (suc other) after differ = refl
  at_other (part ∷ parts) (suc slot) zero after differ = refl
  at_other (part ∷ parts) (suc slot) (suc other) after differ = at_other parts slot other after (λ same. differ (ap suc same))

  abbrev steps_of : Option (Part M) → ℕ
  steps_of found = option_map_or (λ (part : Part M). part.application.steps) found 0

  abbrev budget_of : Option (Part M) → Option Budget
  budget_of found = option_map (λ (part : Part M). part.application.budget) found

  pub counts_same : (old new : Applications M) → new.turns ≡ old.turns → new.parts ≡ old.parts → CountsAll old new
  counts_same old new turns parts = λ slot. record {
    told = ap (λ ts. taken_by slot ts + left_in slot new.parts) turns ∙ ap (λ ps. taken_by slot old.turns + left_in slot ps) parts;
    fewer = omega (arith, ap (left_in slot) parts);
    budget = ap (budget_in slot) parts;
  }

  pub counts_both : (old mid new : Applications M) → CountsAll old mid → CountsAll mid new → CountsAll old new
  counts_both old mid new first later = λ slot. (let one : CountsIn slot old mid = first slot in let other : CountsIn slot mid new = later slot in record {
    told = other.told ∙ one.told;
    fewer = omega (arith, one.fewer, other.fewer);
    budget = other.budget ∙ one.budget;
  })

  -- a part in a slot took so many steps, which are told
  one_counts : (slot taken : ℕ) (before after : Part M) (old new : Applications M) → slice_get old.parts slot ≡ Some before → new.parts ≡ slice_set old.parts slot after
      → taken + after.application.steps ≡ before.application.steps → after.application.budget ≡ before.application.budget → new.turns ≡ old.turns ++ one_turn slot taken → CountsAll old new
  one_counts slot taken before after old new was changed all budget told = λ other. by other (nat_eq slot other) refl
    where
      here : CountsIn slot old new
      here =
          let first : left_in slot old.parts ≡ before.application.steps = ap steps_of was in
          let last : left_in slot new.parts ≡ after.application.steps = ap (left_in slot) changed ∙ ap steps_of (at_here old.parts slot before after was) in
          let turns : taken_by slot new.turns ≡ taken_by slot old.turns + taken_by slot (one_turn slot taken) = ap (taken_by slot) told ∙ taken_by-append slot old.turns (one_turn slot taken) in
          record {
            told = omega (arith, first, last, turns, taken_own slot taken, all);
            fewer = omega (arith, first, last, all);
            budget = ap (budget_in slot) changed ∙ ap budget_of (at_here old.parts slot before after was) ∙ ap Some budget ∙ sym (ap budget_of was);
          }

      there : (other : ℕ) → slot ≢ other → CountsIn other old new
      there other differ =
          let same : slice_get new.parts other ≡ slice_get old.parts other = ap (λ ps. slice_get ps other) changed ∙ at_other old.parts slot other after differ in
          let left : left_in other new.parts ≡ left_in other old.parts = ap steps_of same in
          let turns : taken_by other new.turns ≡ taken_by other old.turns + taken_by other (one_turn slot taken) = ap (taken_by other) told ∙ taken_by-append other old.turns (one_turn slot taken) in
          record { told = omega (arith, left, turns, taken_other other slot taken differ); fewer = omega (arith, left); budget = ap budget_of same }

      by : (other : ℕ) (b : Bool) → nat_eq slot other ≡ b → CountsIn other old new
      by other true is = subst (λ n. CountsIn n old new) (eqb-true slot other is) here
      by other false is = there other (eqb-false slot other is)

  -- a turn
  pub only_counts : (slice slot : ℕ) (old new : Applications M) → ChangesOnly slice slot old new → CountsAll old new
  only_counts slice slot old new only =
      let taken : ℕ = only.before.application.steps - only.after.application.steps in
      one_counts slot taken only.before only.after old new only.was only.changed (omega (arith, only.fewer)) only.budget only.told

  -- settling begins
  pub begins_count : (slot : ℕ) (old new : Applications M) → BeginsIn slot old new → CountsAll old new
  begins_count slot old new begins =
      let parts : new.parts ≡ slice_set old.parts slot (settling_begun begins.before) = ap (λ (h : Applications M). h.parts) begins.changed in
      let turns : new.turns ≡ old.turns ++ one_turn slot 0 = ap (λ (h : Applications M). h.turns) begins.changed ∙ sym (append-nil old.turns) in
      one_counts slot 0 begins.before (settling_begun begins.before) old new begins.was parts (omega arith) refl turns

  -- what a call tells that began with no turns
  pub tells_all : (shared cleared new : Applications M) (old : List (Part M)) → cleared ≡ record shared { turns = [] } → shared.parts ≡ old → CountsAll cleared new
      → TellsAll new.turns old new.parts
  tells_all shared cleared new old clear is counts = λ slot.
      let none : taken_by slot [] ≡ 0 = refl in
      let first : taken_by slot cleared.turns + left_in slot cleared.parts ≡ taken_by slot [] + left_in slot shared.parts =
      ap (λ (h : Applications M). taken_by slot h.turns + left_in slot h.parts) clear in
      omega (arith, (counts slot).told, first, none, ap (left_in slot) is)

  -- a stage begins at another moment
  pub counted : {moment : ℕ} (old here at begun : Applications M) → CountsAll old here → at ≡ record here { moment = moment } → CountsAll at begun → CountsAll old begun
  counted old here at begun first on begins =
      counts_both old at begun (counts_both old here at first (counts_same here at (ap (λ (h : Applications M). h.turns) on) (ap (λ (h : Applications M). h.parts) on))) begins

  -- ── events ──

  pub counts_keep : (old new : Applications M) → CountsAll old new → KeepsAll old new
  counts_keep old new counts = λ slot fits. (let here : CountsIn slot old new = counts slot in record {
    fits = subst (λ budget. IfSome budget (λ (b : Budget). left_in slot new.parts ≤ b.total)) (sym here.budget)
        (fits_less (budget_in slot old.parts) (left_in slot old.parts) (left_in slot new.parts) here.fewer fits);
    told = omega (arith, here.told);
  })

  pub keeps_both : (old mid new : Applications M) → KeepsAll old mid → KeepsAll mid new → KeepsAll old new
  keeps_both old mid new first later = λ slot fits.
      let one : KeepsIn slot old mid = first slot fits in
      let other : KeepsIn slot mid new = later slot one.fits in
      record { fits = other.fits; told = omega (arith, one.told, other.told) }

  -- a part that is given an event
  pub part_keeps : (slot : ℕ) (old new : Applications M) → ChangesPart slot old new → KeepsAll old new
  part_keeps slot old new only = λ other. by other (nat_eq slot other) refl
    where
      turns : (other : ℕ) → taken_by other new.turns ≡ taken_by other old.turns
      turns other = ap (taken_by other) only.turns

      first : left_in slot old.parts ≡ only.before.application.steps
      first = ap steps_of only.was

      last : left_in slot new.parts ≡ only.after.application.steps
      last = ap (left_in slot) only.changed ∙ ap steps_of (at_here old.parts slot only.before only.after only.was)

      total : (budget : Option Budget) → budget ≡ Some only.before.application.budget → IfSome budget (λ (b : Budget). left_in slot old.parts ≤ b.total)
          → only.before.application.steps ≤ only.before.application.budget.total
      total budget is fits = omega (arith, first, subst (λ found. IfSome found (λ (b : Budget). left_in slot old.parts ≤ b.total)) is fits)

      here : FitsIn slot old.parts → KeepsIn slot old new
      here fits =
          let le : only.before.application.steps ≤ only.before.application.budget.total = total (budget_in slot old.parts) (ap budget_of only.was) fits in
          let more : (only.before.application.steps ≤ only.after.application.steps) × (only.after.application.steps ≤ only.before.application.budget.total) =
          elim only.steps [ inl same ↦ (omega (arith, same), omega (arith, same, le)) | inr given ↦ (omega (arith, given, le), omega (arith, given)) ] in
          let budget : budget_in slot new.parts ≡ Some only.before.application.budget =
          ap (budget_in slot) only.changed ∙ ap budget_of (at_here old.parts slot only.before only.after only.was) ∙ ap Some only.budget in
          record {
            fits = subst (λ found. IfSome found (λ (b : Budget). left_in slot new.parts ≤ b.total)) (sym budget) (omega (arith, last, more.1));
            told = omega (arith, first, last, turns slot, more.0);
          }

      there : (other : ℕ) → slot ≢ other → FitsIn other old.parts → KeepsIn other old new
      there other differ fits =
          let same : slice_get new.parts other ≡ slice_get old.parts other = ap (λ ps. slice_get ps other) only.changed ∙ at_other old.parts slot other only.after differ in
          let left : left_in other new.parts ≡ left_in other old.parts = ap steps_of same in
          record {
            fits = subst (λ found. IfSome (budget_of found) (λ (b : Budget). steps_of found ≤ b.total)) (sym same) fits;
            told = omega (arith, left, turns other);
          }

      by : (other : ℕ) (b : Bool) → nat_eq slot other ≡ b → FitsIn other old.parts → KeepsIn other old new
      by other true is = subst (λ n. FitsIn n old.parts → KeepsIn n old new) (eqb-true slot other is) here
      by other false is = there other (eqb-false slot other is)

  -- what a line tells, which began with no turns
  pub tells_at_least : (shared cleared new : Applications M) (old : List (Part M)) → cleared ≡ record shared { turns = [] } → shared.parts ≡ old → ((slot : ℕ) → FitsIn slot old) → KeepsAll cleared new
      → TellsAtLeast new.turns old new.parts
  tells_at_least shared cleared new old clear is fits keeps = λ slot.
      let parts : cleared.parts ≡ old = ap (λ (h : Applications M). h.parts) clear ∙ is in
      let none : taken_by slot cleared.turns ≡ 0 = ap (λ (h : Applications M). taken_by slot h.turns) clear in
      omega (arith, (keeps slot (subst (FitsIn slot) (sym parts) (fits slot))).told, none, ap (left_in slot) parts)

  pub keeps_same : (held : Applications M) → KeepsAll held held
  keeps_same held = counts_keep held held (counts_same held held refl refl)

  -- an event, and then settling begins
  pub given_keeps : (old mid new : Applications M) → KeepsAll old mid → CountsAll mid new → KeepsAll old new
  given_keeps old mid new first later = keeps_both old mid new first (counts_keep mid new later)
