-- A slave that asks for another size, and by that places none otherwise.
use Rattle.std.proofs.Common.{◌≡◌, ◌≢◌, ◌⊎◌, inl, inr, ℕ, zero, suc, Bool, true, false, ◌&&◌, ◌||◌, List, [], ◌∷◌, set, Option, None, Some, refl, sym, ap, ◌∙◌, subst, arith}
use Rattle.std.specs.Prelude.{is_none, is_some, map, option_map, slice_get}
use Rattle.tk_base.specs.declared.rect.Rect.{Rect}
use Rattle.tk_packer.specs.declared.ask.Align.{Align}
use Rattle.tk_packer.specs.declared.ask.Ask.{Ask}
use Rattle.tk_packer.specs.declared.ask.Axis.{Axis}
use Rattle.tk_packer.specs.declared.ask.Axis.TheVariants.{Horizontal, Vertical}
use Rattle.tk_packer.specs.declared.ask.Edge.{Edge}
use Rattle.tk_packer.specs.declared.parcel.Extent.{Extent}
use Rattle.tk_packer.specs.declared.request.Request.{Request}
use Rattle.tk_packer.specs.declared.shape.Shape.{Shape}
use Rattle.tk_packer.specs.declared.standing.Slave.{Slave}
use Rattle.tk_packer.specs.Ask.{align_of, ask_of, edge_of, fills_along}
use Rattle.tk_packer.specs.Asked.{with_size}
use Rattle.tk_packer.specs.Layout.{cavity_of, counted_outside}
use Rattle.tk_packer.specs.Parcels.{asks_of, packed, rect_of, remaining, span_packed}
use Rattle.tk_packer.specs.Spread.{IsAlikeAlong, is_spread, shares_before, takes_share}
use Rattle.tk_packer.specs.Standing.{asks, places_for, sized_at}
use Rattle.tk_packer.proofs.Gets.{get_within, it_is, set_here, set_there}

-- ── one window along an axis ──

abbrev an_ask : Option Edge → Bool → ℕ → ℕ → ℕ → ℕ → Bool → Align → Ask
an_ask edge expands size ipad before after fills align =
    record { edge = edge; expands = expands; size = size; ipad = ipad; before = before; after = after; fills = fills; align = align }

-- it lies alike along the axis, and leaves alike
abbrev SameAlong : Extent → Ask → Ask → List Ask → List Ask → Type 0
SameAlong cavity one other later behind = (span_packed cavity one later ≡ span_packed cavity other behind) × (remaining cavity one later ≡ remaining cavity other behind)

-- across, and filling: its length decides nothing
spread_alike : (cavity : Extent) (edge : Option Edge) (expands : Bool) (one other ipad before after : ℕ) (fills : Bool) (align : Align) (later : List Ask) → is_none edge && fills ≡ true
    → SameAlong cavity (an_ask edge expands one ipad before after fills align) (an_ask edge expands other ipad before after fills align) later later
unfolding span_packed remaining
spread_alike cavity None expands one other ipad before after true align later is = (refl, refl)
spread_alike cavity None expands one other ipad before after false align later is = absurd (cc)
spread_alike cavity (Some edge) expands one other ipad before after fills align later is = absurd (cc)

-- without a share: what is packed behind it decides nothing
alone_alike : (cavity : Extent) (edge : Option Edge) (expands : Bool) (size ipad before after : ℕ) (fills : Bool) (align : Align) (later behind : List Ask) → expands && is_some edge ≡ false
    → SameAlong cavity (an_ask edge expands size ipad before after fills align) (an_ask edge expands size ipad before after fills align) later behind
unfolding span_packed remaining
alone_alike cavity None expands size ipad before after fills align later behind is = (refl, refl)
alone_alike cavity (Some edge) false size ipad before after fills align later behind is = (refl, refl)
alone_alike cavity (Some edge) true size ipad before after fills align later behind is = absurd (cc)

same_spread : (axis : Axis) (cavity : Extent) (r : Request) (one other : ℕ × ℕ) (later : List Ask) → is_spread axis r ≡ true
    → SameAlong cavity (ask_of axis (with_size (Some one) r)) (ask_of axis (with_size (Some other) r)) later later
unfolding ask_of
same_spread Horizontal cavity r one other later is =
    spread_alike cavity (edge_of Horizontal r.side) r.expand one.0 other.0 r.ipadx r.padx.before r.padx.after (fills_along Horizontal r.fill) (align_of Horizontal r.anchor) later is
same_spread Vertical cavity r one other later is =
    spread_alike cavity (edge_of Vertical r.side) r.expand one.1 other.1 r.ipady r.pady.before r.pady.after (fills_along Vertical r.fill) (align_of Vertical r.anchor) later is

same_alone : (axis : Axis) (cavity : Extent) (r : Request) (later behind : List Ask) → takes_share axis r ≡ false → SameAlong cavity (ask_of axis r) (ask_of axis r) later behind
unfolding ask_of
same_alone Horizontal cavity r later behind is =
    alone_alike cavity (edge_of Horizontal r.side) r.expand r.width r.ipadx r.padx.before r.padx.after (fills_along Horizontal r.fill) (align_of Horizontal r.anchor) later behind is
same_alone Vertical cavity r later behind is =
    alone_alike cavity (edge_of Vertical r.side) r.expand r.height r.ipady r.pady.before r.pady.after (fills_along Vertical r.fill) (align_of Vertical r.anchor) later behind is

abbrev length_along : Axis → ℕ × ℕ → ℕ
length_along Horizontal size = size.0
length_along Vertical size = size.1

same_length : (axis : Axis) (r : Request) (one other : ℕ × ℕ) → length_along axis one ≡ length_along axis other → ask_of axis (with_size (Some one) r) ≡ ask_of axis (with_size (Some other) r)
unfolding ask_of
same_length Horizontal r one other is =
    ap (λ n. an_ask (edge_of Horizontal r.side) r.expand n r.ipadx r.padx.before r.padx.after (fills_along Horizontal r.fill) (align_of Horizontal r.anchor)) is
same_length Vertical r one other is =
    ap (λ n. an_ask (edge_of Vertical r.side) r.expand n r.ipady r.pady.before r.pady.after (fills_along Vertical r.fill) (align_of Vertical r.anchor)) is

alone_sized : (axis : Axis) (size : Option (ℕ × ℕ)) (r : Request) → takes_share axis r ≡ false → takes_share axis (with_size size r) ≡ false
alone_sized axis None r is = is
alone_sized axis (Some size) r is = is

-- ── both axes ──

abbrev SameFirst : Axis → Extent → Request → Request → List Request → List Request → Type 0
SameFirst axis cavity one other later behind = SameAlong cavity (ask_of axis one) (ask_of axis other) (asks_of axis later) (asks_of axis behind)

packed_alike : (columns rows : Extent) (one other : Request) (later behind : List Request) → SameFirst Horizontal columns one other later behind → SameFirst Vertical rows one other later behind
    → ((c r : Extent) → packed c r later ≡ packed c r behind) → packed columns rows (one ∷ later) ≡ packed columns rows (other ∷ behind)
unfolding packed
packed_alike columns rows one other later behind across down rest =
    ap (λ (s : Option Extent). rect_of s (span_packed rows (ask_of Vertical one) (asks_of Vertical later)) ∷ packed (remaining columns (ask_of Horizontal one) (asks_of Horizontal later)) (remaining rows (ask_of Vertical one) (asks_of Vertical later)) later) across.0
    ∙ ap (λ (s : Option Extent). rect_of (span_packed columns (ask_of Horizontal other) (asks_of Horizontal behind)) s ∷ packed (remaining columns (ask_of Horizontal one) (asks_of Horizontal later)) (remaining rows (ask_of Vertical one) (asks_of Vertical later)) later) down.0
    ∙ ap (λ (places : List (Option Rect)). rect_of (span_packed columns (ask_of Horizontal other) (asks_of Horizontal behind)) (span_packed rows (ask_of Vertical other) (asks_of Vertical behind)) ∷ places)
    (ap (λ (c : Extent). packed c (remaining rows (ask_of Vertical one) (asks_of Vertical later)) later) across.1
    ∙ ap (λ (r : Extent). packed (remaining columns (ask_of Horizontal other) (asks_of Horizontal behind)) r later) down.1
    ∙ rest (remaining columns (ask_of Horizontal other) (asks_of Horizontal behind)) (remaining rows (ask_of Vertical other) (asks_of Vertical behind)))

-- ── the slaves of a window ──

pub asks_other : (asked : List (ℕ × ℕ)) (i : ℕ) (size : ℕ × ℕ) (list : List Slave) → ((k : ℕ) (slave : Slave) → slice_get list k ≡ Some slave → slave.position ≢ i)
    → asks (set asked i size) list ≡ asks asked list
asks_other asked i size [] none = refl
asks_other asked i size (slave ∷ list) none =
    rw (set_there asked i slave.position size (none zero slave refl)) (ap (λ (rs : List Request). sized_at asked slave ∷ rs) (asks_other asked i size list (λ k x is. none (suc k) x is)))

neither : (a b : Bool) → a || b ≡ false → (a ≡ false) × (b ≡ false)
neither true b is = absurd (cc)
neither false b is = (refl, is)

zero_suc : (k : ℕ) → zero ≡ suc k → ⊥
zero_suc k is = omega (arith, is)

suc_zero : (k : ℕ) → suc k ≡ zero → ⊥
suc_zero k is = omega (arith, is)

module _ (asked : List (ℕ × ℕ)) (i : ℕ) (old new : ℕ × ℕ) (at_old : slice_get asked i ≡ Some old) where
  abbrev now : List (ℕ × ℕ)
  now = set asked i new

  sized_other : (x : Slave) → x.position ≢ i → sized_at now x ≡ sized_at asked x
  sized_other x differ = ap (λ (size : Option (ℕ × ℕ)). with_size size x.packed.request) (set_there asked i x.position new differ)

  sized_old : (x : Slave) → x.position ≡ i → sized_at asked x ≡ with_size (Some old) x.packed.request
  sized_old x same = ap (λ (size : Option (ℕ × ℕ)). with_size size x.packed.request) (ap (slice_get asked) same ∙ at_old)

  sized_new : (x : Slave) → x.position ≡ i → sized_at now x ≡ with_size (Some new) x.packed.request
  sized_new x same = ap (λ (size : Option (ℕ × ℕ)). with_size size x.packed.request) (ap (slice_get now) same ∙ set_here asked i new (get_within asked i old at_old))

  -- none but the slave at a place of the list is the window
  abbrev IsOnly : List Slave → ℕ → Type 0
  IsOnly list k = (m : ℕ) (x : Slave) → slice_get list m ≡ Some x → x.position ≡ i → m ≡ k

  none_later : (x : Slave) (rest : List Slave) → IsOnly (x ∷ rest) zero → (m : ℕ) (y : Slave) → slice_get rest m ≡ Some y → y.position ≢ i
  none_later x rest only m y at same = suc_zero m (only (suc m) y at same)

  only_later : (x : Slave) (rest : List Slave) (k : ℕ) → IsOnly (x ∷ rest) (suc k) → IsOnly rest k
  only_later x rest k only m y at same = (let both : suc m ≡ suc k = only (suc m) y at same in omega (arith, both))

  not_first : (x : Slave) (rest : List Slave) (k : ℕ) → IsOnly (x ∷ rest) (suc k) → x.position ≢ i
  not_first x rest k only same = zero_suc k (only zero x refl same)

  -- what it asks for along an axis stays where its length does
  ask_stays : (axis : Axis) (x : Slave) → x.position ≡ i → length_along axis old ≡ length_along axis new → ask_of axis (sized_at now x) ≡ ask_of axis (sized_at asked x)
  ask_stays axis x same is = ap (ask_of axis) (sized_new x same) ∙ sym (same_length axis x.packed.request old new is) ∙ ap (ask_of axis) (sym (sized_old x same))

  asks_stay : (axis : Axis) (list : List Slave) (k : ℕ) (slave : Slave) → slice_get list k ≡ Some slave → slave.position ≡ i → IsOnly list k → length_along axis old ≡ length_along axis new
      → asks_of axis (asks now list) ≡ asks_of axis (asks asked list)
  asks_stay axis [] k slave at its only is = refl
  asks_stay axis (x ∷ rest) zero slave at its only is =
      ap (λ (a : Ask). a ∷ asks_of axis (asks now rest)) (ask_stays axis x (ap (λ (y : Slave). y.position) (it_is x slave at) ∙ its) is)
      ∙ ap (λ (rs : List Request). ask_of axis (sized_at asked x) ∷ asks_of axis rs) (asks_other asked i new rest (none_later x rest only))
  asks_stay axis (x ∷ rest) (suc k) slave at its only is =
      ap (λ (r : Request). ask_of axis r ∷ asks_of axis (asks now rest)) (sized_other x (not_first x rest k only))
      ∙ ap (λ (later : List Ask). ask_of axis (sized_at asked x) ∷ later) (asks_stay axis rest k slave at its (only_later x rest k only) is)

  -- along an axis, the slave at a place of the list lets all lie alike
  abbrev IsAlike : Axis → List Slave → ℕ → Slave → Type 0
  IsAlike axis list k slave = (length_along axis old ≡ length_along axis new) ⊎ ((is_spread axis slave.packed.request ≡ true) × (shares_before axis list k ≡ false))

  alike_later : (axis : Axis) (x : Slave) (rest : List Slave) (k : ℕ) (slave : Slave) → IsAlike axis (x ∷ rest) (suc k) slave → IsAlike axis rest k slave
  alike_later axis x rest k slave (inl same) = inl same
  alike_later axis x rest k slave (inr spread) = inr (spread.0, (neither (takes_share axis x.packed.request) (shares_before axis rest k) spread.1).1)

  -- the slave itself, with others behind it
  it_alike : (axis : Axis) (cavity : Extent) (x : Slave) (rest : List Slave) → x.position ≡ i → asks now rest ≡ asks asked rest → IsAlike axis (x ∷ rest) zero x
      → SameFirst axis cavity (sized_at now x) (sized_at asked x) (asks now rest) (asks asked rest)
  it_alike axis cavity x rest same later (inl is) = (
    ap (λ (a : Ask). span_packed cavity a (asks_of axis (asks now rest))) (ask_stays axis x same is) ∙ ap (λ (rs : List Request). span_packed cavity (ask_of axis (sized_at asked x)) (asks_of axis rs)) later,
    ap (λ (a : Ask). remaining cavity a (asks_of axis (asks now rest))) (ask_stays axis x same is) ∙ ap (λ (rs : List Request). remaining cavity (ask_of axis (sized_at asked x)) (asks_of axis rs)) later,
  )
  it_alike axis cavity x rest same later (inr spread) =
      let both = same_spread axis cavity x.packed.request new old (asks_of axis (asks now rest)) spread.0 in (
        ap (λ (r : Request). span_packed cavity (ask_of axis r) (asks_of axis (asks now rest))) (sized_new x same) ∙ both.0
            ∙ ap (λ (r : Request). span_packed cavity (ask_of axis r) (asks_of axis (asks now rest))) (sym (sized_old x same))
            ∙ ap (λ (rs : List Request). span_packed cavity (ask_of axis (sized_at asked x)) (asks_of axis rs)) later,
        ap (λ (r : Request). remaining cavity (ask_of axis r) (asks_of axis (asks now rest))) (sized_new x same) ∙ both.1
            ∙ ap (λ (r : Request). remaining cavity (ask_of axis r) (asks_of axis (asks now rest))) (sym (sized_old x same))
            ∙ ap (λ (rs : List Request). remaining cavity (ask_of axis (sized_at asked x)) (asks_of axis rs)) later,
      )

  -- one before it
  before_alike : (axis : Axis) (cavity : Extent) (x : Slave) (rest : List Slave) (k : ℕ) (slave : Slave) → slice_get rest k ≡ Some slave → slave.position ≡ i → IsOnly (x ∷ rest) (suc k)
      → IsAlike axis (x ∷ rest) (suc k) slave → SameFirst axis cavity (sized_at now x) (sized_at asked x) (asks now rest) (asks asked rest)
  before_alike axis cavity x rest k slave at its only (inl is) =
      let first : sized_at now x ≡ sized_at asked x = sized_other x (not_first x rest k only) in
      let later : asks_of axis (asks now rest) ≡ asks_of axis (asks asked rest) = asks_stay axis rest k slave at its (only_later x rest k only) is in (
        ap (λ (r : Request). span_packed cavity (ask_of axis r) (asks_of axis (asks now rest))) first ∙ ap (span_packed cavity (ask_of axis (sized_at asked x))) later,
        ap (λ (r : Request). remaining cavity (ask_of axis r) (asks_of axis (asks now rest))) first ∙ ap (remaining cavity (ask_of axis (sized_at asked x))) later,
      )
  before_alike axis cavity x rest k slave at its only (inr spread) =
      let first : sized_at now x ≡ sized_at asked x = sized_other x (not_first x rest k only) in
      let free : takes_share axis x.packed.request ≡ false = (neither (takes_share axis x.packed.request) (shares_before axis rest k) spread.1).0 in
      let both = same_alone axis cavity (sized_at asked x) (asks_of axis (asks now rest)) (asks_of axis (asks asked rest)) (alone_sized axis (slice_get asked x.position) x.packed.request free) in (
        ap (λ (r : Request). span_packed cavity (ask_of axis r) (asks_of axis (asks now rest))) first ∙ both.0,
        ap (λ (r : Request). remaining cavity (ask_of axis r) (asks_of axis (asks now rest))) first ∙ both.1,
      )

  all_alike : (list : List Slave) (k : ℕ) (slave : Slave) → slice_get list k ≡ Some slave → slave.position ≡ i → IsOnly list k → IsAlike Horizontal list k slave → IsAlike Vertical list k slave
      → (columns rows : Extent) → packed columns rows (asks now list) ≡ packed columns rows (asks asked list)
  all_alike [] k slave at its only across down columns rows = absurd (cc)
  all_alike (x ∷ rest) zero slave at its only across down columns rows =
      let it : slave ≡ x = sym (it_is x slave at) in
      let same : x.position ≡ i = ap (λ (y : Slave). y.position) (it_is x slave at) ∙ its in
      let later : asks now rest ≡ asks asked rest = asks_other asked i new rest (none_later x rest only) in
      packed_alike columns rows (sized_at now x) (sized_at asked x) (asks now rest) (asks asked rest)
      (it_alike Horizontal columns x rest same later (subst (IsAlike Horizontal (x ∷ rest) zero) it across)) (it_alike Vertical rows x rest same later (subst (IsAlike Vertical (x ∷ rest) zero) it down))
      (λ c r. ap (packed c r) later)
  all_alike (x ∷ rest) (suc k) slave at its only across down columns rows =
      packed_alike columns rows (sized_at now x) (sized_at asked x) (asks now rest) (asks asked rest) (before_alike Horizontal columns x rest k slave at its only across)
      (before_alike Vertical rows x rest k slave at its only down)
      (λ c r. all_alike rest k slave at its (only_later x rest k only) (alike_later Horizontal x rest k slave across) (alike_later Vertical x rest k slave down) c r)

  nowhere_alike : (shape : Shape) (list : List Slave) → places_for shape (asks now list) None ≡ places_for shape (asks asked list) None
  nowhere_alike shape [] = refl
  nowhere_alike shape (x ∷ rest) = ap (λ (places : List (Option Rect)). None ∷ places) (nowhere_alike shape rest)

  alike_here : (axis : Axis) (list : List Slave) (k : ℕ) (slave : Slave) → slice_get list k ≡ Some slave → IsAlikeAlong axis list k (length_along axis old) (length_along axis new) → IsAlike axis list k slave
  alike_here axis list k slave at (inl same) = inl same
  alike_here axis list k slave at (inr spread) =
      inr (subst (λ (x : Slave). is_spread axis x.packed.request ≡ true) (it_is spread.0 slave (sym spread.1.0 ∙ at)) spread.1.1.0, spread.1.1.1)

  -- they lie where they lay
  pub places_stay : (shape : Shape) (list : List Slave) (k : ℕ) (slave : Slave) (place : Option Rect) → slice_get list k ≡ Some slave → slave.position ≡ i → IsOnly list k
      → IsAlikeAlong Horizontal list k old.0 new.0 × IsAlikeAlong Vertical list k old.1 new.1 → places_for shape (asks now list) place ≡ places_for shape (asks asked list) place
  places_stay shape list k slave None at its only alike = nowhere_alike shape list
  places_stay shape list k slave (Some rect) at its only alike =
      ap (map (option_map (counted_outside shape.border)))
      (all_alike list k slave at its only (alike_here Horizontal list k slave at alike.0) (alike_here Vertical list k slave at alike.1) (record { start = 0; length = (cavity_of rect shape.border).0 })
      (record { start = 0; length = (cavity_of rect shape.border).1 }))
