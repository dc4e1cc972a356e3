-- Slaves that come to lie where their master has them.
use Rattle.std.proofs.Common.{◌≡◌, ◌≢◌, ◌⊎◌, inl, inr, ℕ, suc, ◌+◌, ◌<◌, true, List, [], ◌∷◌, length, set, Option, None, Some, get_or, refl, sym, ap, ◌∙◌, arith}
use Rattle.std.specs.Prelude.{option_map, slice_get}
use Rattle.std.proofs.lemmas.Bool.{cases_eq}
use Rattle.std.proofs.lemmas.List.{length-map}
use Rattle.std.proofs.lemmas.Option.{slice_get-get_or}
use Rattle.tk_packer.specs.declared.ask.Axis.TheVariants.{Horizontal, Vertical}
use Rattle.tk_packer.specs.declared.parcel.Extent.{Extent}
use Rattle.tk_base.specs.declared.rect.Rect.{Rect}
use Rattle.tk_packer.specs.declared.request.Request.{Request}
use Rattle.tk_packer.specs.declared.shape.Shape.{Shape}
use Rattle.tk_packer.specs.declared.standing.Slave.{Slave}
use Rattle.tk_packer.specs.declared.standing.Slot.{Slot}
use Rattle.tk_packer.specs.Ask.{ask_of}
use Rattle.tk_packer.specs.Layout.{cavity_of, counted_outside}
use Rattle.tk_packer.specs.Parcels.{arrangement, asks_of, packed, remaining}
use Rattle.tk_packer.specs.Standing.{ArePlacesNow, IsArranged, IsStanding, IsToBePlaced, Standing, asks, places_for, sized_at}
use Rattle.tk_packer.proofs.Gets.{get_within, it_is, set_here, set_there}

packed-length : (requests : List Request) (columns rows : Extent) → length (packed columns rows requests) ≡ length requests
unfolding packed
packed-length [] columns rows = refl
packed-length (request ∷ later) columns rows =
    ap suc
    (packed-length later (remaining columns (ask_of Horizontal request) (asks_of Horizontal later))
    (remaining rows (ask_of Vertical request) (asks_of Vertical later)))

places-length : (shape : Shape) (requests : List Request) (place : Option Rect) → length (places_for shape requests place) ≡ length requests
places-length shape requests None = length-map requests (λ (request : Request). None)
places-length shape requests (Some rect) =
    let size : ℕ × ℕ = cavity_of rect shape.border in
    length-map (arrangement size requests) (option_map (counted_outside shape.border))
    ∙ packed-length requests (record { start = 0; length = size.0 }) (record { start = 0; length = size.1 })

-- where a window's places are another list than before, and its slaves lie at those that they have to, they lie right
pub arranged_by : (s s1 : Standing) (i : ℕ) (wanted : List (Option Rect)) → s1 ≡ record s { places = s1.places; rearrange = s1.rearrange; moved = s1.moved }
    → slice_get s1.places i ≡ slice_get s.places i
    → ((k : ℕ) (list : List Slave) (slave : Slave) → k < length wanted → slice_get s.slaves i ≡ Some list → slice_get list k ≡ Some slave → slice_get s1.places slave.position ≡ slice_get wanted k)
    → ArePlacesNow s i wanted → IsArranged s1 i
arranged_by s s1 i wanted parts own placed now = λ k shape list p slave at_i at_list at_p at_k.
    (let shapes : s1.shapes ≡ s.shapes = ap (λ (x : Standing). x.shapes) parts in
    let slaves : s1.slaves ≡ s.slaves = ap (λ (x : Standing). x.slaves) parts in
    let asked : s1.asked ≡ s.asked = ap (λ (x : Standing). x.asked) parts in
    let was : slice_get s.slaves i ≡ Some list = ap (λ (xs : List (List Slave)). slice_get xs i) (sym slaves) ∙ at_list in
    let is : wanted ≡ places_for shape (asks s.asked list) p = now shape list p (ap (λ (xs : List Shape). slice_get xs i) (sym shapes) ∙ at_i) was (sym own ∙ at_p) in
    let long : length wanted ≡ length list = ap length is ∙ places-length shape (asks s.asked list) p ∙ length-map list (sized_at s.asked) in
    let within : k < length wanted = (let lt = get_within list k slave at_k in omega (arith, lt, long)) in
    placed k list slave within was at_k ∙ ap (λ (ps : List (Option Rect)). slice_get ps k) is
    ∙ ap (λ (sizes : List (ℕ × ℕ)). slice_get (places_for shape (asks sizes list) p) k) (sym asked))

-- the first slaves of a window lie at places
pub record ArePlaced (s0 s : Standing) (master : ℕ) (wanted : List (Option Rect)) (n : ℕ) : Type 0 where
  pub standing : IsStanding s
  pub parts : s ≡ record s0 { places = s.places; rearrange = s.rearrange; moved = s.moved }
  pub marked : s.rearrange master ≡ true
  pub own : slice_get s.places master ≡ slice_get s0.places master
  pub placed :
      (k : ℕ) (list : List Slave) (slave : Slave) → k < n → slice_get s0.slaves master ≡ Some list → slice_get list k ≡ Some slave
      → slice_get s.places slave.position ≡ slice_get wanted k
  pub only : (q : ℕ) → s.rearrange q ≡ true → (master < q) ⊎ (s0.rearrange q ≡ true)

pub none_placed : (s : Standing) (master : ℕ) (wanted : List (Option Rect)) → IsStanding s → s.rearrange master ≡ true → ArePlaced s s master wanted 0
none_placed s master wanted ok marked = record {
  standing = ok;
  parts = refl;
  marked = marked;
  own = refl;
  placed = λ k list slave lt at_list at_k. absurd (omega (arith, lt));
  only = λ q is. inr is;
}

module _ (s0 s : Standing) (master : ℕ) (wanted : List (Option Rect)) (n : ℕ) (so_far : ArePlaced s0 s master wanted n) where
  slaves_same : s.slaves ≡ s0.slaves
  slaves_same = ap (λ (x : Standing). x.slaves) so_far.parts

  now : (list : List Slave) → slice_get s0.slaves master ≡ Some list → slice_get s.slaves master ≡ Some list
  now list is = ap (λ (xs : List (List Slave)). slice_get xs master) slaves_same ∙ is

  -- there is none
  pub none_more : ((list : List Slave) (slave : Slave) → slice_get s.slaves master ≡ Some list → slice_get list n ≢ Some slave) → ArePlaced s0 s master wanted (n + 1)
  none_more none = record {
    standing = so_far.standing;
    parts = so_far.parts;
    marked = so_far.marked;
    own = so_far.own;
    placed = λ k list slave lt at_list at_k. by k list slave lt at_list at_k (cases_eq k n);
    only = so_far.only;
  }
    where
      by : (k : ℕ) (list : List Slave) (slave : Slave) → k < n + 1 → slice_get s0.slaves master ≡ Some list → slice_get list k ≡ Some slave → (k ≡ n) ⊎ (k ≢ n)
          → slice_get s.places slave.position ≡ slice_get wanted k
      by k list slave lt at_list at_k (inl same) = absurd (none list slave (now list at_list) (ap (slice_get list) (sym same) ∙ at_k))
      by k list slave lt at_list at_k (inr differ) = so_far.placed k list slave (omega (arith, lt, differ)) at_list at_k

  -- the next one, and its place among the windows
  abbrev pub IsNext : ℕ → Type 0
  IsNext position =
      (list : List Slave) × ((slave : Slave) × ((slice_get s.slaves master ≡ Some list) × ((slice_get list n ≡ Some slave) × (slave.position ≡ position))))

  pub below_next : (position : ℕ) → IsNext position → master < position
  below_next position next =
      let below = (so_far.standing.forest.down master n next.0 next.1.0 next.1.1.0 next.1.1.1.0).0 in
      let same = next.1.1.1.1 in
      omega (arith, below, same)

  pub slot_next : (position : ℕ) → IsNext position → slice_get s.slots position ≡ Some (Some (record { master = master; place = n }))
  slot_next position next = ap (slice_get s.slots) (sym next.1.1.1.1) ∙ (so_far.standing.forest.down master n next.0 next.1.0 next.1.1.0 next.1.1.1.0).1

  -- it may be placed
  pub to_be_placed : (position : ℕ) → IsNext position → IsToBePlaced s position
  to_be_placed position next = (record { master = master; place = n }, (slot_next position next, so_far.marked))

  -- it lies at its place
  pub one_more : (s1 : Standing) (position : ℕ) (d : Option Rect) → IsNext position → n < length wanted → IsStanding s1 → s1 ≡ record s { places = s1.places; rearrange = s1.rearrange; moved = s1.moved }
      → s1.places ≡ set s.places position (get_or wanted n d) → ((q : ℕ) → s.rearrange q ≡ true → s1.rearrange q ≡ true)
      → ((q : ℕ) → s1.rearrange q ≡ true → (q ≡ position) ⊎ (s.rearrange q ≡ true)) → ArePlaced s0 s1 master wanted (n + 1)
  one_more s1 position d next within ok parts places more only = record {
    standing = ok;
    parts = parts ∙ ap (λ (x : Standing). record x { places = s1.places; rearrange = s1.rearrange; moved = s1.moved }) so_far.parts;
    marked = more master so_far.marked;
    own =
        ap (λ (ps : List (Option Rect)). slice_get ps master) places
        ∙ set_there s.places position master place (λ same. (let below = below_next position next in omega (arith, below, same))) ∙ so_far.own;
    placed = λ k l x lt at_l at_k. by k l x lt at_l at_k (cases_eq k n);
    only = λ q is. above q (only q is);
  }
    where
      place : Option Rect
      place = get_or wanted n d

      above : (q : ℕ) → (q ≡ position) ⊎ (s.rearrange q ≡ true) → (master < q) ⊎ (s0.rearrange q ≡ true)
      above q (inl same) = inl (let below = below_next position next in omega (arith, below, same))
      above q (inr was) = so_far.only q was

      here : slice_get s1.places position ≡ slice_get wanted n
      here =
          let one = get_within s.slots position _ (slot_next position next) in
          let slots_long = so_far.standing.lengths.slots in
          let places_long = so_far.standing.lengths.places in
          ap (λ (ps : List (Option Rect)). slice_get ps position) places
          ∙ set_here s.places position place (omega (arith, one, slots_long, places_long)) ∙ sym (slice_get-get_or wanted n d within)

      by : (k : ℕ) (l : List Slave) (x : Slave) → k < n + 1 → slice_get s0.slaves master ≡ Some l → slice_get l k ≡ Some x → (k ≡ n) ⊎ (k ≢ n)
          → slice_get s1.places x.position ≡ slice_get wanted k
      by k l x lt at_l at_k (inl same) =
          let same_list : l ≡ next.0 = it_is l next.0 (sym (now l at_l) ∙ next.1.1.0) in
          let it : x ≡ next.1.0 = it_is x next.1.0 (sym at_k ∙ ap (λ (ys : List Slave). slice_get ys k) same_list ∙ ap (slice_get next.0) same ∙ next.1.1.1.0) in
          ap (λ (y : Slave). slice_get s1.places y.position) it ∙ ap (slice_get s1.places) next.1.1.1.1 ∙ here ∙ ap (slice_get wanted) (sym same)
      by k l x lt at_l at_k (inr differ) =
          let one = (so_far.standing.forest.down master k l x (now l at_l) at_k).1 in
          let other = slot_next position next in
          let apart : x.position ≢ position =
          λ same. differ (ap (λ (slot : Slot). slot.place) (it_is _ _ (it_is _ _ (sym one ∙ ap (slice_get s.slots) same ∙ other)))) in
          ap (λ (ps : List (Option Rect)). slice_get ps x.position) places ∙ set_there s.places position x.position place apart
          ∙ so_far.placed k l x (omega (arith, lt, differ)) at_l at_k
