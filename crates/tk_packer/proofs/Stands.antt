-- What is kept of a layout is the layout from nothing, where nothing is still to be looked at.
use Rattle.std.proofs.Common.{◌≡◌, ◌≢◌, ◌⊎◌, inl, inr, ℕ, zero, suc, ◌+◌, ◌-◌, ◌<◌, ◌≤◌, List, [], ◌∷◌, length, Option, None, Some, refl, sym, ap, ◌∙◌, subst, arith}
use Rattle.std.specs.Prelude.{map, nat_eq, option_map, slice_get}
use Rattle.std.specs.Map.{lookup}
use Rattle.std.proofs.lemmas.Bool.{cases_order, eq-eqb, ne_eqb}
use Rattle.tk_base.specs.declared.rect.Rect.{Rect}
use Rattle.tk_packer.specs.declared.packed.Packed.{Packed}
use Rattle.tk_packer.specs.declared.request.Request.{Request}
use Rattle.tk_packer.specs.declared.shape.Shape.{Shape}
use Rattle.tk_packer.specs.declared.standing.Slave.{Slave}
use Rattle.tk_packer.specs.declared.standing.Slot.{Slot}
use Rattle.tk_packer.specs.Asked.{Sizes, requests_of, size_asked, sizes_asked, with_asked, with_size}
use Rattle.tk_packer.specs.Layout.{Places, cavity_of, counted_outside, first_place, give, given_after, layout_by, placed, whole_of, with_place}
use Rattle.tk_packer.specs.Parcels.{arrangement}
use Rattle.tk_packer.specs.Standing.{AreApart, IsArranged, IsSized, IsStanding, Standing, asks, packed_in, packed_of, places_for, sized_at}
use Rattle.tk_packer.proofs.Gets.{beside, it_is, mapped_from, none_some}

-- ── what is packed in the window at a place ──

packed_at : (shapes : List Shape) (slaves : List (List Slave)) → AreApart shapes → (i : ℕ) (shape : Shape) (list : List Slave) → slice_get shapes i ≡ Some shape
    → slice_get slaves i ≡ Some list → packed_in shapes (map packed_of slaves) shape.number ≡ packed_of list
packed_at [] slaves apart i shape list is its = absurd (cc)
packed_at (s ∷ shapes) [] apart i shape list is its = absurd (cc)
packed_at (s ∷ shapes) (l ∷ slaves) apart zero shape list is its =
    rw (eq-eqb s.number shape.number (ap (λ (x : Shape). x.number) (it_is s shape is))) (ap packed_of (it_is l list its))
packed_at (s ∷ shapes) (l ∷ slaves) apart (suc i) shape list is its =
    rw (ne_eqb s.number shape.number (λ same. (let wrong : zero ≡ suc i = apart zero (suc i) s shape refl is same in omega (arith, wrong))))
    (packed_at shapes slaves (λ j k one other at_j at_k same. (let both : suc j ≡ suc k = apart (suc j) (suc k) one other at_j at_k same in omega (arith, both))) i shape list is its)

-- ── what a master gives ──

-- those that aren't its slaves have what they had
given_other : (border : ℕ) (slaves : List Packed) (places : List (Option Rect)) (given : Places) (n : ℕ)
    → ((k : ℕ) (p : Packed) → slice_get slaves k ≡ Some p → p.number ≢ n) → lookup (nat_eq n) (give border slaves places given) ≡ lookup (nat_eq n) given
unfolding give
given_other border [] places given n none = refl
given_other border (p ∷ ps) [] given n none = refl
given_other border (p ∷ ps) (place ∷ places) given n none =
    given_other border ps places (with_place border p.number place given) n (λ k q is. none (suc k) q is) ∙ one place
  where
    one : (place : Option Rect) → lookup (nat_eq n) (with_place border p.number place given) ≡ lookup (nat_eq n) given
    one None = refl
    one (Some rect) = rw (ne_eqb n p.number (λ same. none zero p refl (sym same))) refl

-- a slave has its place, where it had none
given_at : (border : ℕ) (slaves : List Packed) (places : List (Option Rect)) (given : Places) (k : ℕ) (p : Packed) (place : Option Rect) → slice_get slaves k ≡ Some p
    → slice_get places k ≡ Some place
    → ((i j : ℕ) (q r : Packed) → slice_get slaves i ≡ Some q → slice_get slaves j ≡ Some r → q.number ≡ r.number → i ≡ j)
    → lookup (nat_eq p.number) given ≡ None
    → lookup (nat_eq p.number) (give border slaves places given) ≡ option_map (counted_outside border) place
unfolding give
given_at border [] places given k p place is at apart none = absurd (cc)
given_at border (q ∷ qs) [] given k p place is at apart none = absurd (cc)
given_at border (q ∷ qs) (first ∷ places) given zero p place is at apart none =
    subst (λ (x : Packed). lookup (nat_eq x.number) given ≡ None
    → lookup (nat_eq x.number) (give border qs places (with_place border q.number first given)) ≡ option_map (counted_outside border) place)
    (it_is q p is) (λ free. given_other border qs places (with_place border q.number first given) q.number (λ j r there same. absurd (zero_suc j (apart zero (suc j) q r refl there (sym same)))) ∙ here first free
    ∙ ap (option_map (counted_outside border)) (it_is first place at))
    none
  where
    zero_suc : (j : ℕ) → zero ≡ suc j → ⊥
    zero_suc j wrong = omega (arith, wrong)

    here : (place : Option Rect) → lookup (nat_eq q.number) given ≡ None → lookup (nat_eq q.number) (with_place border q.number place given) ≡ option_map (counted_outside border) place
    here None free = free
    here (Some rect) free = rw (eq-eqb q.number q.number refl) refl
given_at border (q ∷ qs) (first ∷ places) given (suc k) p place is at apart none =
    given_at border qs places (with_place border q.number first given) k p place is at
    (λ i j a b at_i at_j same. (let both : suc i ≡ suc j = apart (suc i) (suc j) a b at_i at_j same in omega (arith, both)))
    (there first)
  where
    there : (place : Option Rect) → lookup (nat_eq p.number) (with_place border q.number place given) ≡ None
    there None = none
    there (Some rect) = rw (ne_eqb p.number q.number (λ same. (let wrong : zero ≡ suc k = apart zero (suc k) q p refl is (sym same) in omega (arith, wrong)))) none

-- ── windows of which nothing is still to be looked at ──

module _ (s : Standing) (ok : IsStanding s) (all_sized : (i : ℕ) → IsSized s i) where
  abbrev slaves_by : ℕ → List Packed
  slaves_by = packed_in s.shapes (map packed_of s.slaves)

  abbrev sizes : Sizes
  sizes = sizes_asked slaves_by s.shapes

  -- the window at a slave's place
  there : (i k : ℕ) (list : List Slave) (slave : Slave) → slice_get s.slaves i ≡ Some list → slice_get list k ≡ Some slave
      → (shape : Shape) × ((slice_get s.shapes slave.position ≡ Some shape) × (slave.packed.number ≡ shape.number))
  there i k list slave at_i at_k =
      let found = beside s.slots s.shapes ok.lengths.slots slave.position (Some (record { master = i; place = k })) (ok.forest.down i k list slave at_i at_k).1 in
      (found.0, (found.1, ok.named i k list slave found.0 at_i at_k found.1))

  -- the requests of slaves of which the sizes are known
  same_asks : (known : Sizes) (list : List Slave) → ((k : ℕ) (slave : Slave) → slice_get list k ≡ Some slave → lookup (nat_eq slave.packed.number) known ≡ slice_get s.asked slave.position)
      → requests_of known (packed_of list) ≡ asks s.asked list
  same_asks known [] each = refl
  same_asks known (slave ∷ list) each =
      ap (λ (size : Option (ℕ × ℕ)). with_size size slave.packed.request ∷ requests_of known (packed_of list)) (each zero slave refl)
      ∙ ap (λ (rs : List Request). sized_at s.asked slave ∷ rs) (same_asks known list (λ k x is. each (suc k) x is))

  -- what the windows from a place on ask for
  asked_from : (o : ℕ) (rest : List Shape) → ((k : ℕ) → slice_get rest k ≡ slice_get s.shapes (o + k)) → (k : ℕ) (shape : Shape) → slice_get rest k ≡ Some shape → 0 < o + k
      → lookup (nat_eq shape.number) (sizes_asked slaves_by rest) ≡ slice_get s.asked (o + k)
  unfolding sizes_asked with_asked
  asked_from o [] at k shape is behind = absurd (cc)
  asked_from o (first ∷ rest) at zero shape is behind =
      let here : slice_get s.shapes o ≡ Some first = ap (slice_get s.shapes) (omega arith) ∙ sym (at zero) in
      let beside_it = beside s.shapes s.slaves (sym ok.lengths.slaves) o first here in
      let list : List Slave = beside_it.0 in
      let known : Sizes = sizes_asked slaves_by rest in
      let own : requests_of known (slaves_by first.number) ≡ asks s.asked list =
      ap (requests_of known) (packed_at s.shapes s.slaves ok.apart o first list here beside_it.1)
      ∙ same_asks known list
      (λ m slave at_m.
      (let found = there o m list slave beside_it.1 at_m in
      let below : o < slave.position = (ok.forest.down o m list slave beside_it.1 at_m).0 in
      let same : suc o + (slave.position - suc o) ≡ slave.position = omega (arith, below) in
      ap (λ n. lookup (nat_eq n) known) found.1.1
      ∙ asked_from (suc o) rest later (slave.position - suc o) found.0 (later (slave.position - suc o) ∙ ap (slice_get s.shapes) same ∙ found.1.0) (omega arith)
      ∙ ap (slice_get s.asked) same)) in
      subst (λ (x : Shape). lookup (nat_eq x.number) (sizes_asked slaves_by (first ∷ rest)) ≡ slice_get s.asked (o + zero)) (it_is first shape is)
      (rw (eq-eqb first.number first.number refl)
      (ap (λ (rs : List Request). Some (size_asked first rs)) own ∙ sym (all_sized o (omega (arith, behind)) first list here beside_it.1) ∙ ap (slice_get s.asked) (omega arith)))
    where
      later : (k : ℕ) → slice_get rest k ≡ slice_get s.shapes (suc o + k)
      later k = at (suc k) ∙ ap (slice_get s.shapes) (omega arith)
  asked_from o (first ∷ rest) at (suc k) shape is behind =
      let here : slice_get s.shapes o ≡ Some first = ap (slice_get s.shapes) (omega arith) ∙ sym (at zero) in
      let its : slice_get s.shapes (o + suc k) ≡ Some shape = sym (at (suc k)) ∙ is in
      rw (ne_eqb shape.number first.number (λ same. (let wrong : o + suc k ≡ o = ok.apart (o + suc k) o shape first its here same in omega (arith, wrong))))
      (asked_from (suc o) rest (λ m. at (suc m) ∙ ap (slice_get s.shapes) (omega arith)) k shape is (omega arith) ∙ ap (slice_get s.asked) (omega arith))

  asked_right : (i : ℕ) (shape : Shape) → slice_get s.shapes i ≡ Some shape → 0 < i → lookup (nat_eq shape.number) sizes ≡ slice_get s.asked i
  asked_right i shape is behind = asked_from zero s.shapes (λ k. ap (slice_get s.shapes) (omega arith)) i shape is (omega (arith, behind)) ∙ ap (slice_get s.asked) (omega arith)

  requests_right : (i : ℕ) (shape : Shape) (list : List Slave) → slice_get s.shapes i ≡ Some shape → slice_get s.slaves i ≡ Some list
      → requests_of sizes (slaves_by shape.number) ≡ asks s.asked list
  requests_right i shape list is its =
      ap (requests_of sizes) (packed_at s.shapes s.slaves ok.apart i shape list is its)
      ∙ same_asks sizes list (λ k slave at_k. (let found = there i k list slave its at_k in ap (λ n. lookup (nat_eq n) sizes) found.1.1 ∙ asked_right slave.position found.0 found.1.0 (let below = (ok.forest.down i k list slave its at_k).0 in omega (arith, below))))

  -- ── where they lie ──

  -- what is given when the windows before a place have given their slaves theirs
  record IsGiven (o : ℕ) (given : Places) : Type 0 where
    before :
        (j : ℕ) (shape : Shape) (slot : Slot) → o ≤ j → slice_get s.shapes j ≡ Some shape → slice_get s.slots j ≡ Some (Some slot) → slot.master < o
        → Some (lookup (nat_eq shape.number) given) ≡ slice_get s.places j
    behind :
        (j : ℕ) (shape : Shape) (slot : Slot) → o ≤ j → slice_get s.shapes j ≡ Some shape → slice_get s.slots j ≡ Some (Some slot) → o ≤ slot.master
        → lookup (nat_eq shape.number) given ≡ None
    loose : (j : ℕ) (shape : Shape) → o ≤ j → slice_get s.shapes j ≡ Some shape → slice_get s.slots j ≡ Some None → Some (lookup (nat_eq shape.number) given) ≡ slice_get s.places j

  -- a slave of the window at a place is packed there
  slot_of : (o : ℕ) (list : List Slave) → slice_get s.slaves o ≡ Some list → (k : ℕ) (p : Packed) → slice_get (packed_of list) k ≡ Some p
      → (j : ℕ) (shape : Shape) → slice_get s.shapes j ≡ Some shape → p.number ≡ shape.number → slice_get s.slots j ≡ Some (Some (record { master = o; place = k }))
  slot_of o list at_o k p at_k j shape is same =
      let from = mapped_from (λ (slave : Slave). slave.packed) list k p at_k in
      let found = there o k list from.0 at_o from.1.0 in
      let there_is : from.0.position ≡ j =
      ok.apart from.0.position j found.0 shape found.1.0 is (sym found.1.1 ∙ ap (λ (x : Packed). x.number) (sym from.1.1) ∙ same) in
      subst (λ (m : ℕ). slice_get s.slots m ≡ Some (Some (record { master = o; place = k }))) there_is (ok.forest.down o k list from.0 at_o from.1.0).1

  after_other : (o : ℕ) (first : Shape) (list : List Slave) (place : Option Rect) (given : Places) (n : ℕ) → slice_get s.shapes o ≡ Some first → slice_get s.slaves o ≡ Some list
      → ((k : ℕ) (p : Packed) → slice_get (packed_of list) k ≡ Some p → p.number ≢ n) → lookup (nat_eq n) (given_after slaves_by sizes first place given) ≡ lookup (nat_eq n) given
  unfolding given_after
  after_other o first list None given n here its none = refl
  after_other o first list (Some rect) given n here its none =
      given_other first.border (slaves_by first.number) (arrangement (cavity_of rect first.border) (requests_of sizes (slaves_by first.number))) given n
      (λ k p at_k. none k p (ap (λ (ps : List Packed). slice_get ps k) (sym (packed_at s.shapes s.slaves ok.apart o first list here its)) ∙ at_k))

  -- a slave of the window gets its place
  after_slave : (o : ℕ) (first : Shape) (list : List Slave) (place : Option Rect) (given : Places) (k : ℕ) (slave : Slave) → slice_get s.shapes o ≡ Some first → slice_get s.slaves o ≡ Some list
      → slice_get list k ≡ Some slave → (its : Option Rect) → slice_get (places_for first (asks s.asked list) place) k ≡ Some its → lookup (nat_eq slave.packed.number) given ≡ None
      → lookup (nat_eq slave.packed.number) (given_after slaves_by sizes first place given) ≡ its
  unfolding given_after
  after_slave o first list None given k slave here at_o at_k its is free =
      free ∙ sym ((mapped_from (λ (request : Request). None) (asks s.asked list) k its is).1.1)
  after_slave o first list (Some rect) given k slave here at_o at_k its is free =
      let from = mapped_from (option_map (counted_outside first.border)) (arrangement (cavity_of rect first.border) (asks s.asked list)) k its is in
      let own : slaves_by first.number ≡ packed_of list = packed_at s.shapes s.slaves ok.apart o first list here at_o in
      ap (λ (ps : List Packed). lookup (nat_eq slave.packed.number) (give first.border ps (arrangement (cavity_of rect first.border) (requests_of sizes (slaves_by first.number))) given)) own
      ∙ ap (λ (rs : List Request). lookup (nat_eq slave.packed.number) (give first.border (packed_of list) (arrangement (cavity_of rect first.border) rs) given)) (requests_right o first list here at_o)
      ∙ given_at first.border (packed_of list) (arrangement (cavity_of rect first.border) (asks s.asked list)) given k slave.packed from.0 (at_map list k slave at_k) from.1.0 (once list at_o) free
      ∙ sym from.1.1
    where
      at_map : (list : List Slave) (k : ℕ) (slave : Slave) → slice_get list k ≡ Some slave → slice_get (packed_of list) k ≡ Some slave.packed
      at_map [] k slave is = absurd (cc)
      at_map (x ∷ list) zero slave is = ap (λ (y : Slave). Some y.packed) (it_is x slave is)
      at_map (x ∷ list) (suc k) slave is = at_map list k slave is

      once : (list : List Slave) → slice_get s.slaves o ≡ Some list
          → (i j : ℕ) (q r : Packed) → slice_get (packed_of list) i ≡ Some q → slice_get (packed_of list) j ≡ Some r → q.number ≡ r.number → i ≡ j
      once list at_o i j q r at_i at_j same =
          let from = mapped_from (λ (slave : Slave). slave.packed) list j r at_j in
          let found = there o j list from.0 at_o from.1.0 in
          let one : slice_get s.slots from.0.position ≡ Some (Some (record { master = o; place = i })) =
          slot_of o list at_o i q at_i from.0.position found.0 found.1.0 (same ∙ ap (λ (x : Packed). x.number) from.1.1 ∙ found.1.1) in
          let other : slice_get s.slots from.0.position ≡ Some (Some (record { master = o; place = j })) = (ok.forest.down o j list from.0 at_o from.1.0).1 in
          ap (λ (slot : Slot). slot.place) (it_is _ _ (it_is _ _ (sym one ∙ other)))

  module _ (all_arranged : (i : ℕ) → IsArranged s i) where
    -- the window at a place gives its slaves theirs
    given_more : (o : ℕ) (first : Shape) (place : Option Rect) (given : Places) → slice_get s.shapes o ≡ Some first → slice_get s.places o ≡ Some place → IsGiven o given
        → IsGiven (suc o) (given_after slaves_by sizes first place given)
    given_more o first place given here its is = record {
      before = λ j shape slot le at_j at_slot lt. earlier j shape slot le at_j at_slot (cases_order slot.master o) lt;
      behind = λ j shape slot le at_j at_slot lt.
          after_other o first list place given shape.number here beside_it.1 (apart_from j shape slot at_j at_slot (λ same. omega (arith, same, lt)))
          ∙ is.behind j shape slot (omega (arith, le)) at_j at_slot (omega (arith, lt));
      loose = λ j shape le at_j at_slot.
          ap Some (after_other o first list place given shape.number here beside_it.1 (unpacked j shape at_j at_slot)) ∙ is.loose j shape (omega (arith, le)) at_j at_slot;
    }
      where
        beside_it : (list : List Slave) × (slice_get s.slaves o ≡ Some list)
        beside_it = beside s.shapes s.slaves (sym ok.lengths.slaves) o first here

        list : List Slave
        list = beside_it.0

        apart_from : (j : ℕ) (shape : Shape) (slot : Slot) → slice_get s.shapes j ≡ Some shape → slice_get s.slots j ≡ Some (Some slot) → slot.master ≢ o
            → (k : ℕ) (p : Packed) → slice_get (packed_of list) k ≡ Some p → p.number ≢ shape.number
        apart_from j shape slot at_j at_slot differ k p at_k same =
            differ (ap (λ (x : Slot). x.master) (it_is _ _ (it_is _ _ (sym at_slot ∙ slot_of o list beside_it.1 k p at_k j shape at_j same))))

        unpacked : (j : ℕ) (shape : Shape) → slice_get s.shapes j ≡ Some shape → slice_get s.slots j ≡ Some None
            → (k : ℕ) (p : Packed) → slice_get (packed_of list) k ≡ Some p → p.number ≢ shape.number
        unpacked j shape at_j at_slot k p at_k same =
            none_some _ (it_is _ _ (sym at_slot ∙ slot_of o list beside_it.1 k p at_k j shape at_j same))

        earlier : (j : ℕ) (shape : Shape) (slot : Slot) → suc o ≤ j → slice_get s.shapes j ≡ Some shape → slice_get s.slots j ≡ Some (Some slot)
            → (slot.master ≡ o) ⊎ ((slot.master < o) ⊎ (o < slot.master)) → slot.master < suc o
            → Some (lookup (nat_eq shape.number) (given_after slaves_by sizes first place given)) ≡ slice_get s.places j
        earlier j shape slot le at_j at_slot (inl same) lt =
            let from = ok.forest.up j slot at_slot in
            let slave : Slave = from.1.0 in
            let same_list : from.0 ≡ list = it_is from.0 list (sym from.1.1.0 ∙ ap (slice_get s.slaves) same ∙ beside_it.1) in
            let at_k : slice_get list slot.place ≡ Some slave = ap (λ (l : List Slave). slice_get l slot.place) (sym same_list) ∙ from.1.1.1.0 in
            let there_is : slave.position ≡ j = from.1.1.1.1 in
            let at_slave : slice_get s.shapes slave.position ≡ Some shape = ap (slice_get s.shapes) there_is ∙ at_j in
            let named : slave.packed.number ≡ shape.number = ok.named o slot.place list slave shape beside_it.1 at_k at_slave in
            let lies : slice_get s.places slave.position ≡ slice_get (places_for first (asks s.asked list) place) slot.place =
            all_arranged o slot.place first list place slave here beside_it.1 its at_k in
            let placed_at = beside s.shapes s.places (sym ok.lengths.places) slave.position shape at_slave in
            let free : lookup (nat_eq slave.packed.number) given ≡ None =
            ap (λ n. lookup (nat_eq n) given) named ∙ is.behind j shape slot (omega (arith, le)) at_j at_slot (omega (arith, same)) in
            ap (λ n. Some (lookup (nat_eq n) (given_after slaves_by sizes first place given))) (sym named)
            ∙ ap Some (after_slave o first list place given slot.place slave here beside_it.1 at_k placed_at.0 (sym lies ∙ placed_at.1) free)
            ∙ sym placed_at.1 ∙ ap (slice_get s.places) there_is
        earlier j shape slot le at_j at_slot (inr (inl less)) lt =
            ap Some (after_other o first list place given shape.number here beside_it.1 (apart_from j shape slot at_j at_slot (λ same. omega (arith, same, less))))
            ∙ is.before j shape slot (omega (arith, le)) at_j at_slot less
        earlier j shape slot le at_j at_slot (inr (inr more)) lt = absurd (omega (arith, more, lt))

    -- what is given to the window at a place
    given_here : (o : ℕ) (first : Shape) (place : Option Rect) (given : Places) → slice_get s.shapes o ≡ Some first → slice_get s.places o ≡ Some place → IsGiven o given
        → lookup (nat_eq first.number) given ≡ place
    given_here o first place given here its is = by (beside s.shapes s.slots (sym ok.lengths.slots) o first here)
      where
        by : (slot : Option Slot) × (slice_get s.slots o ≡ Some slot) → lookup (nat_eq first.number) given ≡ place
        by (None, at_slot) = it_is _ _ (is.loose o first (omega arith) here at_slot ∙ its)
        by (Some slot, at_slot) =
            let from = ok.forest.up o slot at_slot in
            let lt : slot.master < from.1.0.position = (ok.forest.down slot.master slot.place from.0 from.1.0 from.1.1.0 from.1.1.1.0).0 in
            let there_is : from.1.0.position ≡ o = from.1.1.1.1 in
            it_is _ _ (is.before o first slot (omega arith) here at_slot (omega (arith, lt, there_is)) ∙ its)

    placed_from : (o : ℕ) (rest : List Shape) (left : List (Option Rect)) (given : Places) → ((k : ℕ) → slice_get rest k ≡ slice_get s.shapes (o + k))
        → ((k : ℕ) → slice_get left k ≡ slice_get s.places (o + k)) → length left ≡ length rest → IsGiven o given → placed slaves_by sizes given rest ≡ left
    unfolding placed
    placed_from o [] [] given at its long is = refl
    placed_from o [] (place ∷ left) given at its long is = absurd (omega (arith, long))
    placed_from o (first ∷ rest) [] given at its long is = absurd (omega (arith, long))
    placed_from o (first ∷ rest) (place ∷ left) given at its long is =
        let here : slice_get s.shapes o ≡ Some first = ap (slice_get s.shapes) (omega arith) ∙ sym (at zero) in
        let there : slice_get s.places o ≡ Some place = ap (slice_get s.places) (omega arith) ∙ sym (its zero) in
        ap (λ (p : Option Rect). p ∷ placed slaves_by sizes (given_after slaves_by sizes first p given) rest) (given_here o first place given here there is)
        ∙ ap (λ (ps : List (Option Rect)). place ∷ ps)
        (placed_from (suc o) rest left (given_after slaves_by sizes first place given)
        (λ k. at (suc k) ∙ ap (slice_get s.shapes) (omega arith)) (λ k. its (suc k) ∙ ap (slice_get s.places) (omega arith)) (omega (arith, long))
        (given_more o first place given here there is))

    -- before anything is given the main window has the whole
    given_first : IsGiven zero (first_place s.size s.shapes)
    given_first = record {
      before = λ j shape slot le at_j at_slot lt. absurd (omega (arith, lt));
      behind = λ j shape slot le at_j at_slot lt.
          (let from = ok.forest.up j slot at_slot in
          let below : slot.master < from.1.0.position = (ok.forest.down slot.master slot.place from.0 from.1.0 from.1.1.0 from.1.1.1.0).0 in
          let there_is : from.1.0.position ≡ j = from.1.1.1.1 in
          none_later s.shapes ok.apart j shape at_j (omega (arith, below, there_is)));
      loose = λ j shape le at_j at_slot. free j shape at_j at_slot;
    }
      where
        none_later : (shapes : List Shape) → AreApart shapes → (j : ℕ) (shape : Shape) → slice_get shapes j ≡ Some shape → 0 < j → lookup (nat_eq shape.number) (first_place s.size shapes) ≡ None
        none_later [] apart j shape at_j lt = refl
        none_later (main ∷ shapes) apart j shape at_j lt =
            rw (ne_eqb shape.number main.number (λ same. (let wrong : j ≡ zero = apart j zero shape main at_j refl same in omega (arith, wrong, lt)))) refl

        whole : (shapes : List Shape) (shape : Shape) → slice_get shapes zero ≡ Some shape → lookup (nat_eq shape.number) (first_place s.size shapes) ≡ Some (whole_of s.size)
        whole [] shape is = absurd (cc)
        whole (main ∷ shapes) shape is = rw (eq-eqb shape.number main.number (sym (ap (λ (x : Shape). x.number) (it_is main shape is)))) refl

        free : (j : ℕ) (shape : Shape) → slice_get s.shapes j ≡ Some shape → slice_get s.slots j ≡ Some None
            → Some (lookup (nat_eq shape.number) (first_place s.size s.shapes)) ≡ slice_get s.places j
        free zero shape at_j at_slot =
            let found = beside s.shapes s.places (sym ok.lengths.places) zero shape at_j in
            ap Some (whole s.shapes shape at_j ∙ sym (ok.main found.0 found.1)) ∙ sym found.1
        free (suc j) shape at_j at_slot =
            ap Some (none_later s.shapes ok.apart (suc j) shape at_j (omega arith)) ∙ sym (ok.loose j at_slot)

    -- so the places are those of the layout
    pub places_right : layout_by slaves_by s.size s.shapes ≡ s.places
    places_right = placed_from zero s.shapes s.places (first_place s.size s.shapes) (λ k. ap (slice_get s.shapes) (omega arith)) (λ k. ap (slice_get s.places) (omega arith)) ok.lengths.places given_first
