-- Windows in which something else is packed than was.
use Rattle.std.proofs.Common.{◌≡◌, ◌≢◌, ◌⊎◌, inl, inr, ℕ, zero, suc, ◌+◌, ◌<◌, ◌≤◌, Bool, true, false, List, [], ◌∷◌, ◌++◌, length, set, take, get_or, Option, None, Some, refl, sym, ap, ◌∙◌, subst, arith, length-set}
use Rattle.std.specs.Prelude.{slice_get}
use Rattle.std.proofs.lemmas.List.{map_more, set-set, take_more}
use Rattle.std.proofs.lemmas.Bool.{both_ways, cases_eq}
use Rattle.tk_base.specs.declared.rect.Rect.{Rect}
use Rattle.tk_packer.specs.declared.packed.Packed.{Packed}
use Rattle.tk_packer.specs.declared.shape.Shape.{Shape}
use Rattle.tk_packer.specs.declared.standing.Slave.{Slave}
use Rattle.tk_packer.specs.declared.standing.Slot.{Slot}
use Rattle.tk_packer.specs.Standing.{ArePackedBut, IsPackedAs, IsStanding, Standing, StandsWith, asks, packed_of, places_for}
use Rattle.tk_packer.proofs.Adding.{get_take, set_same, take_get}
use Rattle.tk_packer.proofs.Changing.{wasnt}
use Rattle.tk_packer.proofs.Gets.{get_within, it_is, none_some, set_here, set_there}
use Rattle.tk_packer.proofs.Sets.{Inserts, Removes}

-- ── a window that is packed no longer ──

module _ (s : Standing) (ok : IsStanding s) (master n : ℕ) (list fewer : List Slave) (slave : Slave) (at_list : slice_get s.slaves master ≡ Some list) (at_n : slice_get list n ≡ Some slave) (less : (k : ℕ) (x : Slave) → slice_get fewer k ≡ Some x → (k < n) × (slice_get list k ≡ Some x)) (rest : (k : ℕ) (x : Slave) → k ≢ n → slice_get list k ≡ Some x → slice_get fewer k ≡ Some x) where
  abbrev slot_at : ℕ → ℕ → Slot
  slot_at i k = record { master = i; place = k }

  its_slot : slice_get s.slots slave.position ≡ Some (Some (slot_at master n))
  its_slot = (ok.forest.down master n list slave at_list at_n).1

  below : master < slave.position
  below = (ok.forest.down master n list slave at_list at_n).0

  -- none else has its place
  same_slot : (i k : ℕ) (x : Slave) → slice_get s.slots x.position ≡ Some (Some (slot_at i k)) → x.position ≡ slave.position → (i ≡ master) × (k ≡ n)
  same_slot i k x its same =
      let both : Some (Some (slot_at i k)) ≡ Some (Some (slot_at master n)) = sym its ∙ ap (slice_get s.slots) same ∙ its_slot in
      let one : slot_at i k ≡ slot_at master n = it_is (slot_at i k) (slot_at master n) (it_is (Some (slot_at i k)) (Some (slot_at master n)) both) in
      (ap (λ (x : Slot). x.master) one, ap (λ (x : Slot). x.place) one)

  pub slave_out : (rearrange moved : ℕ → Bool) → s.resize master ≡ true → s.rearrange master ≡ true → Inserts s.rearrange rearrange slave.position → Inserts s.moved moved slave.position
      → IsStanding (record s { places = set s.places slave.position None; slots = set s.slots slave.position None; slaves = set s.slaves master fewer; rearrange = rearrange; moved = moved })
  slave_out rearrange moved in_resize in_rearrange more_rearranged more_moved = record {
    lengths = record {
      asked = ok.lengths.asked;
      places = length-set s.places slave.position None ∙ ok.lengths.places;
      slots = length-set s.slots slave.position None ∙ ok.lengths.slots;
      slaves = length-set s.slaves master fewer ∙ ok.lengths.slaves;
    };
    forest = record {
      down = λ i k l x at_l at_k. down i k l x at_l at_k (cases_eq i master);
      up = λ j slot is. up j slot is (cases_eq j slave.position);
    };
    apart = ok.apart;
    named = λ i k l x shape at_l at_k at_shape. is_named i k l x shape at_l at_k at_shape (cases_eq i master);
    main = λ place is. ok.main place (sym (set_there s.places slave.position zero None (λ same. omega (arith, below, same))) ∙ is);
    loose = λ j is. lies_nowhere j is (cases_eq (suc j) slave.position);
    within = λ q is. is_within q (more_rearranged.only q is);
    sized = λ q isnt behind shape l at_q at_l. ok.sized q isnt behind shape l at_q (others q (λ same. both_ways (s.resize q) isnt (ap s.resize same ∙ in_resize)) l at_l);
    arranged = λ q isnt k shape l place x at_q at_l at_place at_k. is_arranged q isnt k shape l place x at_q at_l at_place at_k;
    shown = λ q isnt shape place at_q at_place.
        ok.shown q (wasnt (s.moved q) (moved q) (more_moved.more q) isnt) shape place at_q
        (sym (set_there s.places slave.position q None (λ same. both_ways (moved q) isnt (ap moved same ∙ more_moved.here))) ∙ at_place);
  }
    where
      slots : List (Option Slot)
      slots = set s.slots slave.position None

      slaves : List (List Slave)
      slaves = set s.slaves master fewer

      places : List (Option Rect)
      places = set s.places slave.position None

      others : (q : ℕ) → q ≢ master → (l : List Slave) → slice_get slaves q ≡ Some l → slice_get s.slaves q ≡ Some l
      others q differ l is = sym (set_there s.slaves master q fewer differ) ∙ is

      here : slice_get slaves master ≡ Some fewer
      here = set_here s.slaves master fewer (get_within s.slaves master list at_list)

      own : (l : List Slave) (i : ℕ) → i ≡ master → slice_get slaves i ≡ Some l → l ≡ fewer
      own l i same is = it_is l fewer (sym is ∙ ap (slice_get slaves) same ∙ here)

      -- the slaves of the window that are left
      left : (l : List Slave) (i k : ℕ) (x : Slave) → i ≡ master → slice_get slaves i ≡ Some l → slice_get l k ≡ Some x → (k < n) × (slice_get list k ≡ Some x)
      left l i k x same at_l at_k = less k x (ap (λ (y : List Slave). slice_get y k) (sym (own l i same at_l)) ∙ at_k)

      still : (i k : ℕ) (x : Slave) → (i < x.position) × (slice_get s.slots x.position ≡ Some (Some (slot_at i k))) → x.position ≢ slave.position
          → (i < x.position) × (slice_get slots x.position ≡ Some (Some (slot_at i k)))
      still i k x was differ = (was.0, set_there s.slots slave.position x.position None differ ∙ was.1)

      down : (i k : ℕ) (l : List Slave) (x : Slave) → slice_get slaves i ≡ Some l → slice_get l k ≡ Some x → (i ≡ master) ⊎ (i ≢ master)
          → (i < x.position) × (slice_get slots x.position ≡ Some (Some (slot_at i k)))
      down i k l x at_l at_k (inr differ) =
          let was = ok.forest.down i k l x (others i differ l at_l) at_k in
          still i k x was (λ same. differ (same_slot i k x was.1 same).0)
      down i k l x at_l at_k (inl same) =
          let first = left l i k x same at_l at_k in
          let was = ok.forest.down i k list x (ap (slice_get s.slaves) same ∙ at_list) first.1 in
          still i k x was (λ alike. (let lt = first.0 in let last = (same_slot i k x was.1 alike).1 in omega (arith, lt, last)))

      up : (j : ℕ) (slot : Slot) → slice_get slots j ≡ Some (Some slot) → (j ≡ slave.position) ⊎ (j ≢ slave.position)
          → (l : List Slave) × ((x : Slave) × ((slice_get slaves slot.master ≡ Some l) × ((slice_get l slot.place ≡ Some x) × (x.position ≡ j))))
      up j slot is (inl same) =
          absurd (none_some slot (it_is None (Some slot) (sym (set_here s.slots slave.position None (get_within s.slots slave.position (Some (slot_at master n)) its_slot)) ∙ ap (slice_get slots) (sym same) ∙ is)))
      up j slot is (inr differ) = by (cases_eq slot.master master)
        where
          was : (l : List Slave) × ((x : Slave) × ((slice_get s.slaves slot.master ≡ Some l) × ((slice_get l slot.place ≡ Some x) × (x.position ≡ j))))
          was = ok.forest.up j slot (sym (set_there s.slots slave.position j None differ) ∙ is)

          by : (slot.master ≡ master) ⊎ (slot.master ≢ master)
              → (l : List Slave) × ((x : Slave) × ((slice_get slaves slot.master ≡ Some l) × ((slice_get l slot.place ≡ Some x) × (x.position ≡ j))))
          by (inr other) = (was.0, (was.1.0, (set_there s.slaves master slot.master fewer other ∙ was.1.1.0, was.1.1.1)))
          by (inl same) =
              let its : was.0 ≡ list = it_is was.0 list (sym was.1.1.0 ∙ ap (slice_get s.slaves) same ∙ at_list) in
              let at_place : slice_get list slot.place ≡ Some was.1.0 = ap (λ (l : List Slave). slice_get l slot.place) (sym its) ∙ was.1.1.1.0 in
              let other : slot.place ≢ n = λ last. differ (sym was.1.1.1.1 ∙ ap (λ (x : Slave). x.position) (it_is was.1.0 slave (sym at_place ∙ ap (slice_get list) last ∙ at_n))) in
              (fewer, (was.1.0, (ap (slice_get slaves) same ∙ here, (rest slot.place was.1.0 other at_place, was.1.1.1.1))))

      is_named : (i k : ℕ) (l : List Slave) (x : Slave) (shape : Shape) → slice_get slaves i ≡ Some l → slice_get l k ≡ Some x → slice_get s.shapes x.position ≡ Some shape
          → (i ≡ master) ⊎ (i ≢ master) → x.packed.number ≡ shape.number
      is_named i k l x shape at_l at_k at_shape (inr differ) = ok.named i k l x shape (others i differ l at_l) at_k at_shape
      is_named i k l x shape at_l at_k at_shape (inl same) = ok.named master k list x shape at_list (left l i k x same at_l at_k).1 at_shape

      lies_nowhere : (j : ℕ) → slice_get slots (suc j) ≡ Some None → (suc j ≡ slave.position) ⊎ (suc j ≢ slave.position) → slice_get places (suc j) ≡ Some None
      lies_nowhere j is (inl same) =
          let lt = get_within s.slots slave.position (Some (slot_at master n)) its_slot in
          let slots_long = ok.lengths.slots in
          let places_long = ok.lengths.places in
          ap (slice_get places) same ∙ set_here s.places slave.position None (omega (arith, lt, slots_long, places_long))
      lies_nowhere j is (inr differ) =
          set_there s.places slave.position (suc j) None differ ∙ ok.loose j (sym (set_there s.slots slave.position (suc j) None differ) ∙ is)

      is_within : (q : ℕ) → (q ≡ slave.position) ⊎ (s.rearrange q ≡ true) → q < length s.shapes
      is_within q (inr was) = ok.within q was
      is_within q (inl same) = (let lt = get_within s.slots slave.position (Some (slot_at master n)) its_slot in let long = ok.lengths.slots in omega (arith, lt, long, same))

      is_arranged : (q : ℕ) → rearrange q ≡ false → (k : ℕ) (shape : Shape) (l : List Slave) (place : Option Rect) (x : Slave) → slice_get s.shapes q ≡ Some shape
          → slice_get slaves q ≡ Some l → slice_get places q ≡ Some place → slice_get l k ≡ Some x → slice_get places x.position ≡ slice_get (places_for shape (asks s.asked l) place) k
      is_arranged q isnt k shape l place x at_q at_l at_place at_k =
          let before : s.rearrange q ≡ false = wasnt (s.rearrange q) (rearrange q) (more_rearranged.more q) isnt in
          let other : q ≢ master = λ same. both_ways (s.rearrange q) before (ap s.rearrange same ∙ in_rearrange) in
          let differ : q ≢ slave.position = λ same. both_ways (rearrange q) isnt (ap rearrange same ∙ more_rearranged.here) in
          let was : slice_get s.slaves q ≡ Some l = others q other l at_l in
          let apart : x.position ≢ slave.position = λ same. other (same_slot q k x (ok.forest.down q k l x was at_k).1 same).0 in
          set_there s.places slave.position x.position None apart
          ∙ ok.arranged q before k shape l place x at_q was (sym (set_there s.places slave.position q None differ) ∙ at_place) at_k

-- ── the last of those that are left ──

take_next : {X : Type 0} (xs : List X) (n : ℕ) → ((x : X) → slice_get xs n ≢ Some x) → take (suc n) xs ≡ take n xs
take_next [] zero none = refl
take_next [] (suc n) none = refl
take_next (x ∷ xs) zero none = absurd (none x refl)
take_next {X = X} (x ∷ xs) (suc n) none = ap (λ (ys : List X). x ∷ ys) (take_next xs n none)

take_none : {X : Type 0} (xs : List X) (n : ℕ) → ((x : X) → slice_get xs n ≢ Some x) → take (n + 1) xs ≡ take n xs
take_none xs n none = let on : n + 1 ≡ suc n = omega arith in ap (λ (m : ℕ). take m xs) on ∙ take_next xs n none

take_past : {X : Type 0} (xs : List X) (n : ℕ) → length xs ≤ n → take n xs ≡ xs
take_past [] zero past = refl
take_past [] (suc n) past = refl
take_past (x ∷ xs) zero past = absurd (omega (arith, past))
take_past {X = X} (x ∷ xs) (suc n) past = ap (λ (ys : List X). x ∷ ys) (take_past xs n (omega (arith, past)))

module _ (s : Standing) (master n : ℕ) (stands : StandsWith master (n + 1) s) where
  -- there is none
  pub none_last : ((list : List Slave) (slave : Slave) → slice_get s.slaves master ≡ Some list → slice_get list n ≢ Some slave) → StandsWith master n s
  none_last none list at_list =
      subst (λ (l : List Slave). IsStanding (record s { slaves = set s.slaves master l })) (take_none list n (λ slave. none list slave at_list)) (stands list at_list)

  -- it is packed no longer
  pub last_out : (position : ℕ) (rearrange moved : ℕ → Bool)
      → (list : List Slave) × ((slave : Slave) × ((slice_get s.slaves master ≡ Some list) × ((slice_get list n ≡ Some slave) × (slave.position ≡ position))))
      → s.resize master ≡ true → s.rearrange master ≡ true → Inserts s.rearrange rearrange position → Inserts s.moved moved position
      → StandsWith master n (record s { places = set s.places position None; slots = set s.slots position None; rearrange = rearrange; moved = moved })
  last_out position rearrange moved next in_resize in_rearrange more_rearranged more_moved list at_list =
      let slave : Slave = next.1.0 in
      let its : next.0 ≡ list = it_is next.0 list (sym next.1.1.0 ∙ at_list) in
      let at_n : slice_get list n ≡ Some slave = ap (λ (l : List Slave). slice_get l n) (sym its) ∙ next.1.1.1.0 in
      let whole : List (List Slave) = set s.slaves master (take (n + 1) list) in
      let out =
      slave_out (record s { slaves = whole }) (stands list at_list) master n (take (n + 1) list) (take n list) slave
      (set_here s.slaves master (take (n + 1) list) (get_within s.slaves master list at_list)) (take_get list (n + 1) n slave (omega arith) at_n)
      (λ k x is. (let first = get_take list n k x is in let lt = first.0 in (first.0, take_get list (n + 1) k x (omega (arith, lt)) first.1)))
      (λ k x differ is. (let first = get_take list (n + 1) k x is in let lt = first.0 in take_get list n k x (omega (arith, lt, differ)) first.1)) rearrange moved in_resize in_rearrange
      (subst (Inserts s.rearrange rearrange) (sym next.1.1.1.1) more_rearranged) (subst (Inserts s.moved moved) (sym next.1.1.1.1) more_moved) in
      subst
      (λ (slaves : List (List Slave)). IsStanding (record s { places = set s.places position None; slots = set s.slots position None; slaves = slaves; rearrange = rearrange; moved = moved }))
      (set-set s.slaves master (take (n + 1) list) (take n list))
      (subst
      (λ (place : ℕ). IsStanding (record s { places = set s.places place None; slots = set s.slots place None; slaves = set whole master (take n list); rearrange = rearrange; moved = moved }))
      next.1.1.1.1 out)

-- all of them are
pub all_left : (s : Standing) → IsStanding s → (master count : ℕ) → ((list : List Slave) → slice_get s.slaves master ≡ Some list → count ≡ length list) → StandsWith master count s
all_left s ok master count long list at_list =
    subst (λ (slaves : List (List Slave)). IsStanding (record s { slaves = slaves }))
    (sym (ap (set s.slaves master) (take_past list count (let same = long list at_list in omega (arith, same))) ∙ set_same s.slaves master list at_list)) ok

-- none is
pub none_left : (s : Standing) (master count : ℕ) (list : List Slave) → slice_get s.slaves master ≡ Some list → count ≡ 0 → StandsWith master count s → IsStanding (record s { slaves = set s.slaves master [] })
none_left s master count list at_list none stands =
    subst (λ (n : ℕ). IsStanding (record s { slaves = set s.slaves master (take n list) })) none (stands list at_list)

-- ── windows one after another ──

-- nothing was looked at yet
pub none_waits : (waits : ℕ → Bool) (packed : ℕ → List Packed) (shapes : List Shape) (slaves : List (List Slave)) → ((q : ℕ) → waits q ≡ false) → ArePackedBut waits packed 0 shapes slaves
none_waits waits packed shapes slaves none = record {
  empty = λ q is. absurd (both_ways (waits q) (none q) is);
  others = λ q shape list lt isnt at_q at_list. absurd (omega (arith, lt));
}

module _ (waits : ℕ → Bool) (packed : ℕ → List Packed) (place : ℕ) (shapes : List Shape) (slaves : List (List Slave)) (known : ArePackedBut waits packed place shapes slaves) where
  pub packed_here : (there : List Packed) → ((list : List Slave) → slice_get slaves place ≡ Some list → packed_of list ≡ there)
      → ((shape : Shape) → slice_get shapes place ≡ Some shape → there ≡ packed shape.number) → ArePackedBut waits packed (place + 1) shapes slaves
  packed_here there its said = record {
    empty = known.empty;
    others = λ q shape list lt isnt at_q at_list. by q shape list lt isnt at_q at_list (cases_eq q place);
  }
    where
      by : (q : ℕ) (shape : Shape) (list : List Slave) → q < place + 1 → waits q ≡ false → slice_get shapes q ≡ Some shape → slice_get slaves q ≡ Some list → (q ≡ place) ⊎ (q ≢ place)
          → packed_of list ≡ packed shape.number
      by q shape list lt isnt at_q at_list (inl same) = its list (ap (slice_get slaves) (sym same) ∙ at_list) ∙ said shape (ap (slice_get shapes) (sym same) ∙ at_q)
      by q shape list lt isnt at_q at_list (inr differ) = known.others q shape list (omega (arith, lt, differ)) isnt at_q at_list

  pub emptied_here : (after : ℕ → Bool) (new : List (List Slave)) → place < length slaves → new ≡ set slaves place [] → Inserts waits after place
      → ArePackedBut after packed (place + 1) shapes new
  emptied_here after new within is more = subst (ArePackedBut after packed (place + 1) shapes) (sym is) record {
    empty = λ q in_after. empty q (cases_eq q place) (more.only q in_after);
    others = λ q shape list lt isnt at_q at_list.
        (let differ : q ≢ place = λ same. both_ways (after q) isnt (ap after same ∙ more.here) in
        known.others q shape list (omega (arith, lt, differ)) (wasnt (waits q) (after q) (more.more q) isnt) at_q (sym (set_there slaves place q [] differ) ∙ at_list));
  }
    where
      empty : (q : ℕ) → (q ≡ place) ⊎ (q ≢ place) → (q ≡ place) ⊎ (waits q ≡ true) → slice_get (set slaves place []) q ≡ Some []
      empty q (inl same) either = ap (slice_get (set slaves place [])) same ∙ set_here slaves place [] within
      empty q (inr differ) (inl same) = absurd (differ same)
      empty q (inr differ) (inr was) = set_there slaves place q [] differ ∙ known.empty q was

module _ (waits after : ℕ → Bool) (packed : ℕ → List Packed) (count place : ℕ) (shapes : List Shape) (slaves : List (List Slave)) (known : ArePackedBut waits packed count shapes slaves) (less : Removes waits after place) where
  pub filled_here : (list : List Slave) (there : List Packed) (new : List (List Slave)) → place < length slaves → new ≡ set slaves place list → packed_of list ≡ there
      → ((shape : Shape) → slice_get shapes place ≡ Some shape → there ≡ packed shape.number) → ArePackedBut after packed count shapes new
  filled_here list there new within is its said = subst (ArePackedBut after packed count shapes) (sym is) record {
    empty = λ q in_after. (let was = less.fewer q in_after in set_there slaves place q list was.0 ∙ known.empty q was.1);
    others = λ q shape l lt isnt at_q at_l. by q shape l lt isnt at_q at_l (cases_eq q place);
  }
    where
      by : (q : ℕ) (shape : Shape) (l : List Slave) → q < count → after q ≡ false → slice_get shapes q ≡ Some shape → slice_get (set slaves place list) q ≡ Some l → (q ≡ place) ⊎ (q ≢ place)
          → packed_of l ≡ packed shape.number
      by q shape l lt isnt at_q at_l (inl same) =
          ap packed_of (it_is l list (sym at_l ∙ ap (slice_get (set slaves place list)) same ∙ set_here slaves place list within)) ∙ its
          ∙ said shape (ap (slice_get shapes) (sym same) ∙ at_q)
      by q shape l lt isnt at_q at_l (inr differ) =
          known.others q shape l lt (less.others q differ isnt) at_q (sym (set_there slaves place q list differ) ∙ at_l)

-- none waits any longer
pub all_packed : (waits : ℕ → Bool) (packed : ℕ → List Packed) (count : ℕ) (shapes : List Shape) (slaves : List (List Slave)) → ((q : ℕ) → waits q ≡ false) → length shapes ≤ count
    → ArePackedBut waits packed count shapes slaves → IsPackedAs packed shapes slaves
all_packed waits packed count shapes slaves none long known q shape list at_q at_list =
    known.others q shape list (let lt = get_within shapes q shape at_q in omega (arith, lt, long)) (none q) at_q at_list

-- ── lists that are compared ──

-- one slave more is packed as said
pub same_more : (slaves : List Slave) (packed : List Packed) (i : ℕ) (d : Slave) (e : Packed) → i < length slaves → i < length packed → (get_or slaves i d).packed ≡ get_or packed i e
    → packed_of (take i slaves) ≡ take i packed → packed_of (take (i + 1) slaves) ≡ take (i + 1) packed
same_more slaves packed i d e within there same so_far =
    map_more (λ (slave : Slave). slave.packed) slaves i d within ∙ ap (λ (ps : List Packed). ps ++ (get_or slaves i d).packed ∷ []) so_far
    ∙ ap (λ (p : Packed). take i packed ++ p ∷ []) same ∙ sym (take_more packed i e there)

pub all_same : (slaves : List Slave) (packed : List Packed) (i : ℕ) → length slaves ≡ length packed → length slaves ≤ i → packed_of (take i slaves) ≡ take i packed → packed_of slaves ≡ packed
all_same slaves packed i long all so_far =
    sym (ap packed_of (take_past slaves i all)) ∙ so_far ∙ take_past packed i (omega (arith, long, all))
