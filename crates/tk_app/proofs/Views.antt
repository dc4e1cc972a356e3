-- All applications, after a call on one of them.
use Rattle.std.proofs.Common.{◌≡◌, ℕ, Bool, zero, suc, ◌+◌, ◌-◌, ◌⊎◌, ◌<◌, ◌≤◌, ◌++◌, List, [], ◌∷◌, length, get_or, set, inl, refl, sym, ap, ◌∙◌, arith}
use Rattle.std.specs.Prelude.{Some, Result, Ok, Err, OnErr, slice_get, slice_set}
use Rattle.std.proofs.lemmas.List.{append-nil, length-set}
use Rattle.tk_app.specs.declared.turns.Turn.{Turn}
use Rattle.tk_app.specs.Rounds.{one_turn}
use Rattle.tk_panel.specs.declared.tables.Tables.{Tables}
use Rattle.tk_panel.specs.Fresh.{nothing}
use Rattle.tk_panel.specs.Others.{others_of}
use Rattle.tk_panel.specs.Shared.{panel_of}
use Rattle.tk_panel.proofs.Others.{other_same}
use Rattle.tk_app.specs.Part.{Part}
use Rattle.tk_app.specs.Moments.{granted}
use Rattle.tk_app.specs.Turns.{Applications, ChangesOnly, ChangesPart, IsVacantFrom, Program, part_of, parts_from}
use Rattle.tk_app.proofs.Slots.{get_parts, held_in, in_range, length-parts_from, part_at, set_parts}

-- without a step nothing is told
pub none_told : (turns : List Turn) (slot steps : ℕ) → turns ≡ turns ++ one_turn slot (steps - steps)
none_told turns slot steps = let none : steps - steps ≡ 0 = omega arith in sym (ap (λ n. turns ++ one_turn slot n) none ∙ append-nil turns)

there : {M : Type 0} (parts : List (Part M)) (slot : ℕ) → slot < length parts → (part : Part M) × (slice_get parts slot ≡ Some part) × (slice_set parts slot part ≡ parts)
there [] slot lt = absurd (omega (arith, lt))
there (part ∷ parts) zero lt = (part, refl, refl)
there (part ∷ parts) (suc slot) lt = let rest = there parts slot (omega (arith, lt)) in (rest.0, rest.1, ap (λ ps. part ∷ ps) rest.2)

-- a call that changes nothing
pub only_same : {M : Type 0} (steps slot : ℕ) (held : Applications M) → slot < length held.parts → ChangesOnly steps slot held held
only_same steps slot held lt =
    let here = there held.parts slot lt in
    record {
      before = here.0;
      after = here.0;
      was = here.1;
      changed = sym here.2;
      budget = refl;
      fewer = omega arith;
      most = omega arith;
      told = none_told held.turns slot here.0.application.steps;
      moment = refl;
    }

pub part_same : {M : Type 0} (slot : ℕ) (held : Applications M) → slot < length held.parts → ChangesPart slot held held
part_same slot held lt =
    let here = there held.parts slot lt in
    record { before = here.0; after = here.0; was = here.1; changed = sym here.2; budget = refl; steps = inl refl; turns = refl; moment = refl }

module _ {M : Type 0} (slot : ℕ) (old new : Tables) (programs : List (Program M)) (before after : Program M) (few : length programs ≤ 16) (lt : slot < length programs) (at : before ≡ get_or programs slot before)
    (others : others_of slot new ≡ others_of slot old) where
  abbrev part : Tables → Program M → Part M
  part tables program = part_of (panel_of slot tables) program

  -- the part in the slot is another, and the others are the same
  pub one_changed : parts_from 0 new (set programs slot after) ≡ slice_set (parts_from 0 old programs) slot (part new after)
  one_changed = set_parts old new programs slot after (λ k below differ. other_same slot old new others k (omega (arith, below, few)) differ)

  pub one_was : slice_get (parts_from 0 old programs) slot ≡ Some (part old before)
  one_was = get_parts old programs (parts_from 0 old programs) slot before refl lt at

-- ── a call on one application, as it lies in memory ──

module _ {M : Type 0} {slot : ℕ} (old new : Tables) (programs : List (Program M)) (after : Program M) {turns : List Turn} {refused : Bool} {held : Applications M}
    (is : held_in old programs turns refused ≡ held) (lt : slot < length held.parts) (others : others_of slot new ≡ others_of slot old) where
  abbrev all_after : List Turn → Bool → Applications M
  all_after told refused = held_in new (set programs slot after) told refused

  -- what all applications keep
  pub held_kept : (length programs ≤ 16) × IsVacantFrom (length programs) old → new.clock ≡ old.clock → (length (set programs slot after) ≤ 16) × IsVacantFrom (length (set programs slot after)) new
  held_kept kept clock =
      let same = length-set programs slot after in
      let below_all = in_range _ _ is lt in (
        omega (arith, same, kept.0),
        λ k from below.
            other_same slot old new others k below (λ e. omega (arith, e, from, same, below_all)) ∙ kept.1 k (omega (arith, from, same)) below ∙ ap nothing (sym clock),
      )

  -- the slot is held as before
  pub slot_held : slot < length (parts_from 0 new (set programs slot after))
  slot_held = omega (arith, in_range _ _ is lt, length-parts_from 0 new (set programs slot after), length-set programs slot after)

  module _ {before : Program M} (few : length programs ≤ 16) (at : before ≡ get_or programs slot before) where
    pub was_one : slice_get held.parts slot ≡ Some (part_of (panel_of slot old) before)
    was_one = part_at _ _ is lt at

    pub is_another : parts_from 0 new (set programs slot after) ≡ slice_set held.parts slot (part_of (panel_of slot new) after)
    is_another =
        one_changed slot old new programs before after few (in_range _ _ is lt) at others
        ∙ ap (λ (h : Applications M). slice_set h.parts slot (part_of (panel_of slot new) after)) is

    pub changes_part : {refused' : Bool} → after.budget ≡ before.budget → (after.steps ≡ before.steps) ⊎ (after.steps ≡ granted before.budget before.steps) → new.clock ≡ old.clock
        → ChangesPart slot held (all_after turns refused')
    changes_part budget steps clock = record {
      before = part_of (panel_of slot old) before;
      after = part_of (panel_of slot new) after;
      was = was_one;
      changed = is_another;
      budget = budget;
      steps = steps;
      turns = ap (λ (h : Applications M). h.turns) is;
      moment = clock ∙ ap (λ (h : Applications M). h.moment) is;
    }

    pub changes_only : {steps : ℕ} {told : List Turn} {refused' : Bool} → after.budget ≡ before.budget → after.steps ≤ before.steps → before.steps ≤ after.steps + steps
        → told ≡ turns ++ one_turn slot (before.steps - after.steps) → new.clock ≡ old.clock → ChangesOnly steps slot held (all_after told refused')
    changes_only budget fewer most told clock = record {
      before = part_of (panel_of slot old) before;
      after = part_of (panel_of slot new) after;
      was = was_one;
      changed = is_another;
      budget = budget;
      fewer = fewer;
      most = most;
      told = told ∙ ap (λ (h : Applications M). h.turns ++ one_turn slot (before.steps - after.steps)) is;
      moment = clock ∙ ap (λ (h : Applications M). h.moment) is;
    }

pub on_err : {T E : Type 0} (result : Result T E) (F : Type 0) → F → OnErr result F
on_err (Ok x) F fact = tt
on_err (Err e) F fact = fact
