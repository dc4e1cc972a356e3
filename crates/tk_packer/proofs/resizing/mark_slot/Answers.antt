use Rattle.std.proofs.Common.{◌≡◌, ◌⊎◌, inl, inr, ℕ, ◌<◌, Bool, true, length, Some, refl, ap, ◌∙◌, sym, subst, arith}
use Rattle.std.specs.Prelude.{slice_get}
use Rattle.std.specs.BTreeSet.{contains}
use Rattle.std.specs.Ordering.{nat_cmp}
use Rattle.tk_packer.specs.declared.standing.Slot.{Slot}
use Rattle.tk_packer.specs.Standing.{IsStanding, Standing, standing_of}
use Rattle.tk_packer.proofs.Changing.{behind_master, master_within, more_marked, waits_at}
use Rattle.tk_packer.proofs.resizing.mark_slot.Goals as goal

-- the master is marked, and perhaps its slaves
marked : (s new : Standing) (i : ℕ) (slot : Slot) (resize : ℕ → Bool) → IsStanding s → slice_get s.slots i ≡ Some (Some slot) → new ≡ record s { resize = resize; rearrange = new.rearrange }
    → ((q : ℕ) → s.resize q ≡ true → resize q ≡ true) → ((q : ℕ) → s.rearrange q ≡ true → new.rearrange q ≡ true) → ((q : ℕ) → new.rearrange q ≡ true → (q ≡ slot.master) ⊎ (s.rearrange q ≡ true))
    → IsStanding new
marked s new i slot resize ok at parts larger more only =
    subst IsStanding (sym parts) (more_marked s ok resize new.rearrange s.moved larger more (λ q is. is) (λ q is. within q (only q is)))
  where
    within : (q : ℕ) → (q ≡ slot.master) ⊎ (s.rearrange q ≡ true) → q < length s.shapes
    within q (inl same) = (let lt = master_within s ok i slot at in omega (arith, lt, same))
    within q (inr was) = ok.within q was

-- no window is marked but the master
only_master : (s new : Standing) (i : ℕ) (slot : Slot) (resize : ℕ → Bool) → IsStanding s → slice_get s.slots i ≡ Some (Some slot) → new ≡ record s { resize = resize; rearrange = new.rearrange }
    → ((q : ℕ) → resize q ≡ true → (q ≡ slot.master) ⊎ (s.resize q ≡ true)) → (q : ℕ) → new.resize q ≡ true → (q < i) ⊎ (s.resize q ≡ true)
only_master s new i slot resize ok at parts only q is = by (only q (sym (ap (λ (x : Standing). x.resize q) parts) ∙ is))
  where
    by : (q ≡ slot.master) ⊎ (s.resize q ≡ true) → (q < i) ⊎ (s.resize q ≡ true)
    by (inl same) = inl (let lt = behind_master s ok i slot at in omega (arith, lt, same))
    by (inr was) = inr was

pub returns-in_err-mark_places-clause-standing : goal.returns-in_err-mark_places-clause-standing
returns-in_err-mark_places-clause-standing c =
    marked (standing_of c.args.windows.now) (standing_of c.mark_places.new.windows) c.args.place c.args.slot (contains nat_cmp c.mark_size.new.resize) c.requires.standing c.requires.slot
    c.mark_places.ensures.parts c.mark_size.ensures.more c.mark_places.ensures.more c.mark_places.ensures.only

pub returns-in_err-mark_places-clause-more : goal.returns-in_err-mark_places-clause-more
returns-in_err-mark_places-clause-more c = λ q is.
    ap (λ (x : Standing). x.resize q) c.mark_places.ensures.parts ∙ c.mark_size.ensures.more q is

pub returns-in_err-mark_places-clause-only : goal.returns-in_err-mark_places-clause-only
returns-in_err-mark_places-clause-only c =
    only_master (standing_of c.args.windows.now) (standing_of c.mark_places.new.windows) c.args.place c.args.slot (contains nat_cmp c.mark_size.new.resize) c.requires.standing c.requires.slot
    c.mark_places.ensures.parts c.mark_size.ensures.only

pub returns-clause-standing : goal.returns-clause-standing
returns-clause-standing c =
    marked (standing_of c.args.windows.now) (standing_of c.mark_places.new.windows) c.args.place c.args.slot (contains nat_cmp c.mark_size.new.resize) c.requires.standing c.requires.slot
    c.mark_places.ensures.parts c.mark_size.ensures.more c.mark_places.ensures.more c.mark_places.ensures.only

pub returns-clause-waits : goal.returns-clause-waits
returns-clause-waits c =
    let parts = c.mark_places.ensures.parts in
    let standing = marked (standing_of c.args.windows.now) (standing_of c.mark_places.new.windows) c.args.place c.args.slot (contains nat_cmp c.mark_size.new.resize) c.requires.standing c.requires.slot
    parts c.mark_size.ensures.more c.mark_places.ensures.more c.mark_places.ensures.only in
    waits_at (standing_of c.mark_places.new.windows) standing c.args.place c.args.size c.args.slot (ap (λ (x : Standing). slice_get x.slots c.args.place) parts ∙ c.requires.slot)
    (λ behind. ap (λ (x : Standing). x.resize c.args.slot.master) parts ∙ c.in_ok-mark_size.ensures.here behind) c.in_ok-mark_places.ensures.waits

pub returns-clause-more : goal.returns-clause-more
returns-clause-more c = λ q is.
    ap (λ (x : Standing). x.resize q) c.mark_places.ensures.parts ∙ c.mark_size.ensures.more q is

pub returns-clause-only : goal.returns-clause-only
returns-clause-only c =
    only_master (standing_of c.args.windows.now) (standing_of c.mark_places.new.windows) c.args.place c.args.slot (contains nat_cmp c.mark_size.new.resize) c.requires.standing c.requires.slot
    c.mark_places.ensures.parts c.mark_size.ensures.only

pub returns-in_err-mark_size-clause-standing : goal.returns-in_err-mark_size-clause-standing
returns-in_err-mark_size-clause-standing c =
    let s : Standing = standing_of c.args.windows.now in
    more_marked s c.requires.standing (contains nat_cmp c.mark_size.new.resize) s.rearrange s.moved c.mark_size.ensures.more (λ q is. is) (λ q is. is) c.requires.standing.within

pub returns-in_err-mark_size-clause-only : goal.returns-in_err-mark_size-clause-only
returns-in_err-mark_size-clause-only c =
    let s : Standing = standing_of c.args.windows.now in
    only_master s (record s { resize = contains nat_cmp c.mark_size.new.resize }) c.args.place c.args.slot (contains nat_cmp c.mark_size.new.resize) c.requires.standing c.requires.slot refl
    c.mark_size.ensures.only
