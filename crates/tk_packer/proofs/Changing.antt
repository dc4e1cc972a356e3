-- What a change of one part leaves standing.
use Rattle.std.proofs.Common.{◌≡◌, ◌≢◌, ◌⊎◌, inl, inr, ℕ, zero, suc, ◌<◌, Bool, true, false, List, [], ◌∷◌, length, set, Option, None, Some, refl, sym, ap, ◌∙◌, subst, arith, length-set}
use Rattle.std.specs.Prelude.{slice_get}
use Rattle.std.proofs.lemmas.Bool.{both_ways, cases_eq}
use Rattle.tk_base.specs.declared.rect.Rect.{Rect}
use Rattle.tk_packer.specs.declared.request.Request.{Request}
use Rattle.tk_packer.specs.declared.shape.Shape.{Shape}
use Rattle.tk_packer.specs.declared.standing.Slave.{Slave}
use Rattle.tk_packer.specs.declared.standing.Slot.{Slot}
use Rattle.tk_packer.specs.Asked.{size_asked}
use Rattle.tk_packer.specs.Changes.{laid}
use Rattle.tk_packer.specs.Standing.{AreApart, AreNamed, HaveLengths, IsArranged, IsShown, IsSized, IsStanding, LiesAlike, MasterWaits, SameRoom, Standing, asks, places_for, shown}
use Rattle.tk_packer.proofs.Gets.{get_within, it_is, none_some, set_here, set_there, within_get}
use Rattle.tk_packer.proofs.Staying.{asks_other, places_stay}

-- what isn't so afterwards wasn't so before
pub wasnt : (before after : Bool) → (before ≡ true → after ≡ true) → after ≡ false → before ≡ false
wasnt true after more isnt = absurd (both_ways after isnt (more refl))
wasnt false after more isnt = refl

same_places : (shape : Shape) (requests : List Request) (one other : Option Rect) → SameRoom one other → places_for shape requests one ≡ places_for shape requests other
same_places shape requests None None same = refl
same_places shape requests None (Some other) same = absurd same
same_places shape requests (Some one) None same = absurd same
same_places shape requests (Some one) (Some other) same =
    ap (λ width. places_for shape requests (Some (record one { width = width }))) same.0 ∙ ap (λ height. places_for shape requests (Some (record one { width = other.width; height = height }))) same.1

module _ (s : Standing) (ok : IsStanding s) where
  -- more windows may be looked at
  pub more_marked : (resize rearrange moved : ℕ → Bool) → ((q : ℕ) → s.resize q ≡ true → resize q ≡ true) → ((q : ℕ) → s.rearrange q ≡ true → rearrange q ≡ true)
      → ((q : ℕ) → s.moved q ≡ true → moved q ≡ true) → ((q : ℕ) → rearrange q ≡ true → q < length s.shapes)
      → IsStanding (record s { resize = resize; rearrange = rearrange; moved = moved })
  more_marked resize rearrange moved more_resize more_rearrange more_moved within = record {
    lengths = ok.lengths;
    forest = ok.forest;
    apart = ok.apart;
    named = ok.named;
    main = ok.main;
    loose = ok.loose;
    within = within;
    sized = λ q isnt. ok.sized q (wasnt (s.resize q) (resize q) (more_resize q) isnt);
    arranged = λ q isnt. ok.arranged q (wasnt (s.rearrange q) (rearrange q) (more_rearrange q) isnt);
    shown = λ q isnt. ok.shown q (wasnt (s.moved q) (moved q) (more_moved q) isnt);
  }

  -- a slave stands behind its master
  pub behind_master : (i : ℕ) (slot : Slot) → slice_get s.slots i ≡ Some (Some slot) → slot.master < i
  behind_master i slot is =
      let from = ok.forest.up i slot is in
      let lt : slot.master < from.1.0.position = (ok.forest.down slot.master slot.place from.0 from.1.0 from.1.1.0 from.1.1.1.0).0 in
      let there_is : from.1.0.position ≡ i = from.1.1.1.1 in
      omega (arith, lt, there_is)

  pub master_within : (i : ℕ) (slot : Slot) → slice_get s.slots i ≡ Some (Some slot) → slot.master < length s.shapes
  master_within i slot is = (let lt = get_within s.slaves slot.master (ok.forest.up i slot is).0 (ok.forest.up i slot is).1.1.0 in let long = ok.lengths.slaves in omega (arith, lt, long))

  -- ── sizes ──

  pub asked_changed : (i : ℕ) (size : ℕ × ℕ) → MasterWaits s i size → s.resize i ≡ true → IsStanding (record s { asked = set s.asked i size })
  asked_changed i size waits marked = record {
    lengths = record { asked = length-set s.asked i size ∙ ok.lengths.asked; places = ok.lengths.places; slots = ok.lengths.slots; slaves = ok.lengths.slaves };
    forest = ok.forest;
    apart = ok.apart;
    named = ok.named;
    main = ok.main;
    loose = ok.loose;
    within = ok.within;
    sized = λ q isnt behind shape list at_q at_list.
        (let differ : q ≢ i = λ same. both_ways (s.resize q) isnt (ap s.resize same ∙ marked) in
        set_there s.asked i q size differ ∙ ok.sized q isnt behind shape list at_q at_list
        ∙ ap (λ (rs : List Request). Some (size_asked shape rs)) (sym (asks_other s.asked i size list (λ k slave at_k same. both_ways (s.resize q) isnt ((waits _ (slot_at q k list slave at_list at_k same)).0 behind)))));
    arranged = λ q isnt k shape list place slave at_q at_list at_place at_k.
        ok.arranged q isnt k shape list place slave at_q at_list at_place at_k
        ∙ ap (λ (ps : List (Option Rect)). slice_get ps k) (sym (stays q isnt shape list place at_list (slice_get s.slots i) refl));
    shown = ok.shown;
  }
    where
      slot_at : (q k : ℕ) (list : List Slave) (slave : Slave) → slice_get s.slaves q ≡ Some list → slice_get list k ≡ Some slave → slave.position ≡ i
          → slice_get s.slots i ≡ Some (Some (record { master = q; place = k }))
      slot_at q k list slave at_list at_k same = ap (slice_get s.slots) (sym same) ∙ (ok.forest.down q k list slave at_list at_k).1

      -- none of the slaves is the window
      others_stay : (q : ℕ) (shape : Shape) (list : List Slave) (place : Option Rect) → ((k : ℕ) (slave : Slave) → slice_get list k ≡ Some slave → slave.position ≢ i)
          → places_for shape (asks (set s.asked i size) list) place ≡ places_for shape (asks s.asked list) place
      others_stay q shape list place none = ap (λ (rs : List Request). places_for shape rs place) (asks_other s.asked i size list none)

      -- one of them is
      slave_stays : (q : ℕ) → s.rearrange q ≡ false → (shape : Shape) (list : List Slave) (place : Option Rect) (slot : Slot) → slice_get s.slaves q ≡ Some list → slice_get s.slots i ≡ Some (Some slot)
          → slot.master ≡ q → (s.rearrange slot.master ≡ true) ⊎ LiesAlike s slot i size → places_for shape (asks (set s.asked i size) list) place ≡ places_for shape (asks s.asked list) place
      slave_stays q isnt shape list place slot at_list at_slot same (inl in_rearrange) = absurd (both_ways (s.rearrange q) isnt (ap s.rearrange (sym same) ∙ in_rearrange))
      slave_stays q isnt shape list place slot at_list at_slot same (inr alike) =
          let from = ok.forest.up i slot at_slot in
          let master_list : slice_get s.slaves slot.master ≡ Some list = ap (slice_get s.slaves) same ∙ at_list in
          let at_k : slice_get list slot.place ≡ Some from.1.0 = ap (λ (l : List Slave). slice_get l slot.place) (it_is list from.0 (sym master_list ∙ from.1.1.0)) ∙ from.1.1.1.0 in
          let long = ok.lengths.slots in
          let sizes_long = ok.lengths.asked in
          let lt = get_within s.slots i (Some slot) at_slot in
          let its = within_get s.asked i (omega (arith, lt, long, sizes_long)) in
          places_stay s.asked i its.0 size its.1 shape list slot.place from.1.0 place at_k from.1.1.1.1
          (λ m x at_m same_place. ap (λ (x : Slot). x.place) (it_is _ _ (it_is _ _ (sym (slot_at q m list x at_list at_m same_place) ∙ at_slot))))
          (alike list master_list its.0 its.1)

      stays : (q : ℕ) → s.rearrange q ≡ false → (shape : Shape) (list : List Slave) (place : Option Rect) → slice_get s.slaves q ≡ Some list → (slot : Option (Option Slot)) → slice_get s.slots i ≡ slot
          → places_for shape (asks (set s.asked i size) list) place ≡ places_for shape (asks s.asked list) place
      stays q isnt shape list place at_list None is =
          others_stay q shape list place (λ k slave at_k same. none_some _ (sym is ∙ slot_at q k list slave at_list at_k same))
      stays q isnt shape list place at_list (Some None) is =
          others_stay q shape list place (λ k slave at_k same. none_some _ (it_is _ _ (sym is ∙ slot_at q k list slave at_list at_k same)))
      stays q isnt shape list place at_list (Some (Some slot)) is = by (cases_eq slot.master q)
        where
          by : (slot.master ≡ q) ⊎ (slot.master ≢ q) → places_for shape (asks (set s.asked i size) list) place ≡ places_for shape (asks s.asked list) place
          by (inl same) = slave_stays q isnt shape list place slot at_list is same (waits slot is).1
          by (inr differ) =
              others_stay q shape list place (λ k slave at_k same. differ (ap (λ (x : Slot). x.master) (it_is _ _ (it_is _ _ (sym is ∙ slot_at q k list slave at_list at_k same)))))

  -- a window's master waits
  pub waits_at : (i : ℕ) (size : ℕ × ℕ) (slot : Slot) → slice_get s.slots i ≡ Some (Some slot) → (0 < slot.master → s.resize slot.master ≡ true) → (s.rearrange slot.master ≡ true) ⊎ LiesAlike s slot i size
      → MasterWaits s i size
  waits_at i size slot at in_resize alike other is =
      subst (λ (x : Slot). (0 < x.master → s.resize x.master ≡ true) × ((s.rearrange x.master ≡ true) ⊎ LiesAlike s x i size)) (it_is slot other (it_is (Some slot) (Some other) (sym at ∙ is))) (in_resize, alike)

  -- a window that asks for the right size needn't be looked at
  pub is_sized : (i : ℕ) (resize : ℕ → Bool) → ((q : ℕ) → q ≢ i → resize q ≡ false → s.resize q ≡ false) → IsSized s i → IsStanding (record s { resize = resize })
  is_sized i resize others right = record {
    lengths = ok.lengths;
    forest = ok.forest;
    apart = ok.apart;
    named = ok.named;
    main = ok.main;
    loose = ok.loose;
    within = ok.within;
    sized = λ q isnt. by q isnt (cases_eq q i);
    arranged = ok.arranged;
    shown = ok.shown;
  }
    where
      by : (q : ℕ) → resize q ≡ false → (q ≡ i) ⊎ (q ≢ i) → IsSized s q
      by q isnt (inl same) = subst (IsSized s) (sym same) right
      by q isnt (inr differ) = ok.sized q (others q differ isnt)

  -- what it asks for, once that is what it has to be
  pub sized_now : (i : ℕ) (size : ℕ × ℕ)
      → ((shape : Shape) (list : List Slave) → slice_get s.shapes i ≡ Some shape → slice_get s.slaves i ≡ Some list → size ≡ size_asked shape (asks s.asked list))
      → IsSized (record s { asked = set s.asked i size }) i
  sized_now i size right behind shape list at_i at_list =
      let lt : i < length s.asked = (let within = get_within s.shapes i shape at_i in let long = ok.lengths.asked in omega (arith, within, long)) in
      set_here s.asked i size lt ∙ ap Some (right shape list at_i at_list)
      ∙ ap (λ (rs : List Request). Some (size_asked shape rs))
      (sym (asks_other s.asked i size list (λ k slave at_k same. (let below = (ok.forest.down i k list slave at_list at_k).0 in omega (arith, below, same)))))

  -- ── places ──

  -- a slave whose master is still to be looked at lies elsewhere
  pub place_changed : (i : ℕ) (slot : Slot) (place old : Option Rect) (rearrange moved : ℕ → Bool) → slice_get s.slots i ≡ Some (Some slot) → slice_get s.places i ≡ Some old
      → rearrange slot.master ≡ true → ((q : ℕ) → s.rearrange q ≡ true → rearrange q ≡ true) → ((q : ℕ) → s.moved q ≡ true → moved q ≡ true)
      → ((q : ℕ) → rearrange q ≡ true → q < length s.shapes) → (rearrange i ≡ false → SameRoom old place) → moved i ≡ true
      → IsStanding (record s { places = set s.places i place; rearrange = rearrange; moved = moved })
  place_changed i slot place old rearrange moved at_slot at_old waits more_rearrange more_moved within room marked = record {
    lengths = record { asked = ok.lengths.asked; places = length-set s.places i place ∙ ok.lengths.places; slots = ok.lengths.slots; slaves = ok.lengths.slaves };
    forest = ok.forest;
    apart = ok.apart;
    named = ok.named;
    main = λ p is. ok.main p (sym (set_there s.places i zero place (λ same. (let below = behind_master i slot at_slot in omega (arith, below, same)))) ∙ is);
    loose = λ j is. set_there s.places i (suc j) place (λ same. none_some slot (it_is None (Some slot) (sym is ∙ ap (slice_get s.slots) same ∙ at_slot))) ∙ ok.loose j is;
    within = within;
    sized = ok.sized;
    arranged = λ q isnt k shape list p slave at_q at_list at_p at_k.
        set_there s.places i slave.position place (not_slave q isnt k list slave at_list at_k)
        ∙ by q isnt k shape list p slave at_q at_list at_p at_k (cases_eq q i);
    shown = λ q isnt shape p at_q at_p.
        (let differ : q ≢ i = λ same. both_ways (moved q) isnt (ap moved same ∙ marked) in
        ok.shown q (wasnt (s.moved q) (moved q) (more_moved q) isnt) shape p at_q (sym (set_there s.places i q place differ) ∙ at_p));
  }
    where
      not_slave : (q : ℕ) → rearrange q ≡ false → (k : ℕ) (list : List Slave) (slave : Slave) → slice_get s.slaves q ≡ Some list → slice_get list k ≡ Some slave → slave.position ≢ i
      not_slave q isnt k list slave at_list at_k same =
          let there : Some (Some slot) ≡ Some (Some (record { master = q; place = k })) =
          sym at_slot ∙ ap (slice_get s.slots) (sym same) ∙ (ok.forest.down q k list slave at_list at_k).1 in
          let is : slot.master ≡ q = ap (λ (x : Slot). x.master) (it_is _ _ (it_is _ _ there)) in
          both_ways (rearrange q) isnt (ap rearrange (sym is) ∙ waits)

      by : (q : ℕ) → rearrange q ≡ false → (k : ℕ) (shape : Shape) (list : List Slave) (p : Option Rect) (slave : Slave) → slice_get s.shapes q ≡ Some shape
          → slice_get s.slaves q ≡ Some list → slice_get (set s.places i place) q ≡ Some p → slice_get list k ≡ Some slave → (q ≡ i) ⊎ (q ≢ i)
          → slice_get s.places slave.position ≡ slice_get (places_for shape (asks s.asked list) p) k
      by q isnt k shape list p slave at_q at_list at_p at_k (inl same) =
          let before : s.rearrange q ≡ false = wasnt (s.rearrange q) (rearrange q) (more_rearrange q) isnt in
          let is : place ≡ p = it_is place p (sym (set_here s.places i place (get_within s.places i old at_old)) ∙ ap (slice_get (set s.places i place)) (sym same) ∙ at_p) in
          ok.arranged q before k shape list old slave at_q at_list (ap (slice_get s.places) same ∙ at_old) at_k
          ∙ ap (λ (ps : List (Option Rect)). slice_get ps k) (same_places shape (asks s.asked list) old place (room (ap rearrange (sym same) ∙ isnt)))
          ∙ ap (λ (r : Option Rect). slice_get (places_for shape (asks s.asked list) r) k) is
      by q isnt k shape list p slave at_q at_list at_p at_k (inr differ) =
          ok.arranged q (wasnt (s.rearrange q) (rearrange q) (more_rearrange q) isnt) k shape list p slave at_q at_list (sym (set_there s.places i q place differ) ∙ at_p) at_k

  -- a window whose slaves lie where it has them needn't be looked at
  pub is_arranged : (i : ℕ) (rearrange : ℕ → Bool) → ((q : ℕ) → q ≢ i → rearrange q ≡ false → s.rearrange q ≡ false) → ((q : ℕ) → rearrange q ≡ true → s.rearrange q ≡ true)
      → IsArranged s i → IsStanding (record s { rearrange = rearrange })
  is_arranged i rearrange others fewer right = record {
    lengths = ok.lengths;
    forest = ok.forest;
    apart = ok.apart;
    named = ok.named;
    main = ok.main;
    loose = ok.loose;
    within = λ q is. ok.within q (fewer q is);
    sized = ok.sized;
    arranged = λ q isnt. by q isnt (cases_eq q i);
    shown = ok.shown;
  }
    where
      by : (q : ℕ) → rearrange q ≡ false → (q ≡ i) ⊎ (q ≢ i) → IsArranged s q
      by q isnt (inl same) = subst (IsArranged s) (sym same) right
      by q isnt (inr differ) = ok.arranged q (others q differ isnt)

  -- a window that is shown where it lies needn't be looked at
  pub is_shown : (i : ℕ) (moved : ℕ → Bool) → ((q : ℕ) → q ≢ i → moved q ≡ false → s.moved q ≡ false) → IsShown s i → IsStanding (record s { moved = moved })
  is_shown i moved others right = record {
    lengths = ok.lengths;
    forest = ok.forest;
    apart = ok.apart;
    named = ok.named;
    main = ok.main;
    loose = ok.loose;
    within = ok.within;
    sized = ok.sized;
    arranged = ok.arranged;
    shown = λ q isnt. by q isnt (cases_eq q i);
  }
    where
      by : (q : ℕ) → moved q ≡ false → (q ≡ i) ⊎ (q ≢ i) → IsShown s q
      by q isnt (inl same) = subst (IsShown s) (sym same) right
      by q isnt (inr differ) = ok.shown q (others q differ isnt)

  -- ── shapes ──

  module _ (i : ℕ) (old new : Shape) (at_old : slice_get s.shapes i ≡ Some old) (same_number : new.number ≡ old.number) where
    here : slice_get (set s.shapes i new) i ≡ Some new
    here = set_here s.shapes i new (get_within s.shapes i old at_old)

    -- what stands at a place has the number that stood there
    number_was : (q : ℕ) (shape : Shape) → slice_get (set s.shapes i new) q ≡ Some shape → (was : Shape) × ((slice_get s.shapes q ≡ Some was) × (shape.number ≡ was.number))
    number_was q shape is = by (cases_eq q i)
      where
        by : (q ≡ i) ⊎ (q ≢ i) → (was : Shape) × ((slice_get s.shapes q ≡ Some was) × (shape.number ≡ was.number))
        by (inl same) =
            (old, (ap (slice_get s.shapes) same ∙ at_old, ap (λ (x : Shape). x.number) (it_is shape new (sym is ∙ ap (slice_get (set s.shapes i new)) same ∙ here)) ∙ same_number))
        by (inr differ) = (shape, (sym (set_there s.shapes i q new differ) ∙ is, refl))

    lengths_stay : HaveLengths (set s.shapes i new) s.asked s.places s.slots s.slaves
    lengths_stay =
        let long : length s.shapes ≡ length (set s.shapes i new) = sym (length-set s.shapes i new) in
        record { asked = ok.lengths.asked ∙ long; places = ok.lengths.places ∙ long; slots = ok.lengths.slots ∙ long; slaves = ok.lengths.slaves ∙ long }

    apart_stays : AreApart (set s.shapes i new)
    apart_stays q r one other at_q at_r same =
        let one_was = number_was q one at_q in
        let other_was = number_was r other at_r in
        ok.apart q r one_was.0 other_was.0 one_was.1.0 other_was.1.0 (sym one_was.1.1 ∙ same ∙ other_was.1.1)

    named_stays : AreNamed (set s.shapes i new) s.slaves
    named_stays q k list slave shape at_list at_k at_shape =
        let was = number_was slave.position shape at_shape in
        ok.named q k list slave was.0 at_list at_k was.1.0 ∙ sym was.1.1

    -- the window looks otherwise, and is still to be looked at
    pub shape_changed : (resize rearrange moved : ℕ → Bool) → ((q : ℕ) → s.resize q ≡ true → resize q ≡ true) → ((q : ℕ) → s.rearrange q ≡ true → rearrange q ≡ true)
        → ((q : ℕ) → s.moved q ≡ true → moved q ≡ true) → ((q : ℕ) → rearrange q ≡ true → q < length s.shapes) → resize i ≡ true → rearrange i ≡ true → moved i ≡ true
        → IsStanding (record s { shapes = set s.shapes i new; resize = resize; rearrange = rearrange; moved = moved })
    shape_changed resize rearrange moved more_resize more_rearrange more_moved within in_resize in_rearrange in_moved = record {
      lengths = lengths_stay;
      forest = ok.forest;
      apart = apart_stays;
      named = named_stays;
      main = ok.main;
      loose = ok.loose;
      within = λ q is. (let lt = within q is in let long = length-set s.shapes i new in omega (arith, lt, long));
      sized = λ q isnt behind shape list at_q at_list.
          ok.sized q (wasnt (s.resize q) (resize q) (more_resize q) isnt) behind shape list (other q (λ same. both_ways (resize q) isnt (ap resize same ∙ in_resize)) shape at_q) at_list;
      arranged = λ q isnt k shape list place slave at_q at_list at_place at_k.
          ok.arranged q (wasnt (s.rearrange q) (rearrange q) (more_rearrange q) isnt) k shape list place slave
          (other q (λ same. both_ways (rearrange q) isnt (ap rearrange same ∙ in_rearrange)) shape at_q) at_list at_place at_k;
      shown = λ q isnt shape place at_q at_place.
          ok.shown q (wasnt (s.moved q) (moved q) (more_moved q) isnt) shape place (other q (λ same. both_ways (moved q) isnt (ap moved same ∙ in_moved)) shape at_q) at_place;
    }
      where
        other : (q : ℕ) → q ≢ i → (shape : Shape) → slice_get (set s.shapes i new) q ≡ Some shape → slice_get s.shapes q ≡ Some shape
        other q differ shape is = sym (set_there s.shapes i q new differ) ∙ is

  -- a window that was shown where it lies
  module _ (i : ℕ) (old : Shape) (its : Option Rect) (at_old : slice_get s.shapes i ≡ Some old) (at_place : slice_get s.places i ≡ Some its) where
    number_laid : (place : Option Rect) → (laid old place).number ≡ old.number
    number_laid None = refl
    number_laid (Some rect) = refl

    size_laid : (place : Option Rect) (requests : List Request) → size_asked (laid old place) requests ≡ size_asked old requests
    unfolding size_asked
    size_laid None [] = refl
    size_laid None (request ∷ requests) = refl
    size_laid (Some rect) [] = refl
    size_laid (Some rect) (request ∷ requests) = refl

    places_laid : (place : Option Rect) (requests : List Request) (of_it : Option Rect) → places_for (laid old place) requests of_it ≡ places_for old requests of_it
    places_laid None requests None = refl
    places_laid None requests (Some rect) = refl
    places_laid (Some other) requests None = refl
    places_laid (Some other) requests (Some rect) = refl

    shown_laid : (place : Option Rect) → place ≡ shown (laid old place)
    shown_laid None = refl
    shown_laid (Some rect) = refl

    pub shown_now : (moved : ℕ → Bool) → ((q : ℕ) → q ≢ i → moved q ≡ false → s.moved q ≡ false) → IsStanding (record s { shapes = set s.shapes i (laid old its); moved = moved })
    shown_now moved others = record {
      lengths = lengths_stay i old (laid old its) at_old (number_laid its);
      forest = ok.forest;
      apart = apart_stays i old (laid old its) at_old (number_laid its);
      named = named_stays i old (laid old its) at_old (number_laid its);
      main = ok.main;
      loose = ok.loose;
      within = λ q is. (let lt = ok.within q is in let long = length-set s.shapes i (laid old its) in omega (arith, lt, long));
      sized = λ q isnt behind shape list at_q at_list. sized_by q isnt behind shape list at_q at_list (cases_eq q i);
      arranged = λ q isnt k shape list place slave at_q at_list at_p at_k. arranged_by q isnt k shape list place slave at_q at_list at_p at_k (cases_eq q i);
      shown = λ q isnt shape place at_q at_p. shown_by q isnt shape place at_q at_p (cases_eq q i);
    }
      where
        now : List Shape
        now = set s.shapes i (laid old its)

        is_laid : (q : ℕ) (shape : Shape) → slice_get now q ≡ Some shape → q ≡ i → shape ≡ laid old its
        is_laid q shape at_q same = it_is shape (laid old its) (sym at_q ∙ ap (slice_get now) same ∙ set_here s.shapes i (laid old its) (get_within s.shapes i old at_old))

        other : (q : ℕ) → q ≢ i → (shape : Shape) → slice_get now q ≡ Some shape → slice_get s.shapes q ≡ Some shape
        other q differ shape is = sym (set_there s.shapes i q (laid old its) differ) ∙ is

        was : (q : ℕ) → q ≡ i → slice_get s.shapes q ≡ Some old
        was q same = ap (slice_get s.shapes) same ∙ at_old

        sized_by : (q : ℕ) → s.resize q ≡ false → 0 < q → (shape : Shape) (list : List Slave) → slice_get now q ≡ Some shape → slice_get s.slaves q ≡ Some list → (q ≡ i) ⊎ (q ≢ i)
            → slice_get s.asked q ≡ Some (size_asked shape (asks s.asked list))
        sized_by q isnt behind shape list at_q at_list (inl same) =
            ok.sized q isnt behind old list (was q same) at_list
            ∙ ap Some (sym (size_laid its (asks s.asked list)) ∙ ap (λ (x : Shape). size_asked x (asks s.asked list)) (sym (is_laid q shape at_q same)))
        sized_by q isnt behind shape list at_q at_list (inr differ) = ok.sized q isnt behind shape list (other q differ shape at_q) at_list

        arranged_by : (q : ℕ) → s.rearrange q ≡ false → (k : ℕ) (shape : Shape) (list : List Slave) (place : Option Rect) (slave : Slave) → slice_get now q ≡ Some shape
            → slice_get s.slaves q ≡ Some list → slice_get s.places q ≡ Some place → slice_get list k ≡ Some slave → (q ≡ i) ⊎ (q ≢ i)
            → slice_get s.places slave.position ≡ slice_get (places_for shape (asks s.asked list) place) k
        arranged_by q isnt k shape list place slave at_q at_list at_p at_k (inl same) =
            ok.arranged q isnt k old list place slave (was q same) at_list at_p at_k
            ∙ ap (λ (ps : List (Option Rect)). slice_get ps k)
            (sym (places_laid its (asks s.asked list) place) ∙ ap (λ (x : Shape). places_for x (asks s.asked list) place) (sym (is_laid q shape at_q same)))
        arranged_by q isnt k shape list place slave at_q at_list at_p at_k (inr differ) =
            ok.arranged q isnt k shape list place slave (other q differ shape at_q) at_list at_p at_k

        shown_by : (q : ℕ) → moved q ≡ false → (shape : Shape) (place : Option Rect) → slice_get now q ≡ Some shape → slice_get s.places q ≡ Some place → (q ≡ i) ⊎ (q ≢ i) → place ≡ shown shape
        shown_by q isnt shape place at_q at_p (inl same) =
            it_is place its (sym at_p ∙ ap (slice_get s.places) same ∙ at_place) ∙ shown_laid its ∙ ap shown (sym (is_laid q shape at_q same))
        shown_by q isnt shape place at_q at_p (inr differ) = ok.shown q (others q differ isnt) shape place (other q differ shape at_q) at_p
