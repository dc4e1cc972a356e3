-- Windows that come to be packed in others.
use Rattle.std.proofs.Common.{◌≡◌, ◌≢◌, ◌⊎◌, inl, inr, ℕ, zero, suc, ◌+◌, ◌<◌, ◌≤◌, Bool, true, false, cond, List, [], ◌∷◌, ◌++◌, length, set, take, get_or, Option, None, Some, refl, sym, ap, ◌∙◌, subst, arith, length-set}
use Rattle.std.specs.Prelude.{map, nat_eq, option_map, slice_get}
use Rattle.std.specs.Map.{lookup}
use Rattle.std.proofs.lemmas.List.{length-map, map-append, set-set, take_more}
use Rattle.std.proofs.lemmas.Bool.{both_ways, cases_eq, eq-eqb, eqb-true, ne_eqb}
use Rattle.tk_base.specs.declared.rect.Rect.{Rect}
use Rattle.tk_packer.specs.declared.packed.Packed.{Packed}
use Rattle.tk_packer.specs.declared.shape.Shape.{Shape}
use Rattle.tk_packer.specs.declared.standing.Slave.{Slave}
use Rattle.tk_packer.specs.declared.standing.Slot.{Slot}
use Rattle.tk_packer.specs.Asked.{own_size, size_asked}
use Rattle.tk_packer.specs.Standing.{AreApart, IsIndex, IsStanding, Standing, asks, first_at, packed_of, with_shape}
use Rattle.tk_packer.proofs.Gets.{beside, get_map, get_within, it_is, none_some, set_here, set_there, within_get}

-- ── lists that grow at their end ──

module _ {X : Type 0} where
  pub get_first : (xs : List X) (y : X) (k : ℕ) (x : X) → slice_get xs k ≡ Some x → slice_get (xs ++ y ∷ []) k ≡ Some x
  get_first [] y k x is = absurd (cc)
  get_first (z ∷ xs) y zero x is = is
  get_first (z ∷ xs) y (suc k) x is = get_first xs y k x is

  pub get_last : (xs : List X) (y : X) → slice_get (xs ++ y ∷ []) (length xs) ≡ Some y
  get_last [] y = refl
  get_last (z ∷ xs) y = get_last xs y

  pub get_either : (xs : List X) (y : X) (k : ℕ) (x : X) → slice_get (xs ++ y ∷ []) k ≡ Some x → (slice_get xs k ≡ Some x) ⊎ ((k ≡ length xs) × (x ≡ y))
  get_either [] y zero x is = inr (refl, sym (it_is y x is))
  get_either [] y (suc k) x is = absurd (cc)
  get_either (z ∷ xs) y zero x is = inl is
  get_either (z ∷ xs) y (suc k) x is = by (get_either xs y k x is)
    where
      by : (slice_get xs k ≡ Some x) ⊎ ((k ≡ length xs) × (x ≡ y)) → (slice_get xs k ≡ Some x) ⊎ ((suc k ≡ suc (length xs)) × (x ≡ y))
      by (inl first) = inl first
      by (inr last) = inr (ap suc last.0, last.1)

  pub get_take : (xs : List X) (n k : ℕ) (x : X) → slice_get (take n xs) k ≡ Some x → (k < n) × (slice_get xs k ≡ Some x)
  get_take xs zero k x is = absurd (cc)
  get_take [] (suc n) k x is = absurd (cc)
  get_take (z ∷ xs) (suc n) zero x is = (omega arith, is)
  get_take (z ∷ xs) (suc n) (suc k) x is = (let rest = get_take xs n k x is in (omega (arith, rest.0), rest.1))

  pub take_get : (xs : List X) (n k : ℕ) (x : X) → k < n → slice_get xs k ≡ Some x → slice_get (take n xs) k ≡ Some x
  take_get xs zero k x lt is = absurd (omega (arith, lt))
  take_get [] (suc n) k x lt is = absurd (cc)
  take_get (z ∷ xs) (suc n) zero x lt is = is
  take_get (z ∷ xs) (suc n) (suc k) x lt is = take_get xs n k x (omega (arith, lt)) is

-- ── windows of which none is packed in another ──

no_slave : (list : List Slave) → list ≡ [] → (k : ℕ) (slave : Slave) → slice_get list k ≡ Some slave → ⊥
no_slave list none k slave is = none_some slave (sym (ap (λ (l : List Slave). slice_get l k) none) ∙ is)

pub alone_stands : (s : Standing) → s.asked ≡ map own_size s.shapes → length s.places ≡ length s.shapes → length s.slots ≡ length s.shapes → length s.slaves ≡ length s.shapes
    → ((q : ℕ) (own : Option Rect) → slice_get s.places q ≡ Some own → own ≡ first_at s.size q) → ((q : ℕ) (slot : Option Slot) → slice_get s.slots q ≡ Some slot → slot ≡ None)
    → ((q : ℕ) (list : List Slave) → slice_get s.slaves q ≡ Some list → list ≡ []) → ((q : ℕ) → s.rearrange q ≡ false) → ((q : ℕ) → q < length s.shapes → s.moved q ≡ true)
    → AreApart s.shapes → IsStanding s
unfolding size_asked
alone_stands s asked places_long slots_long slaves_long places slots slaves quiet moved apart = record {
  lengths = record { asked = ap length asked ∙ length-map s.shapes own_size; places = places_long; slots = slots_long; slaves = slaves_long };
  forest = record {
    down = λ i k list slave at_list at_k. absurd (no_slave list (slaves i list at_list) k slave at_k);
    up = λ j slot is. absurd (none_some slot (sym (slots j (Some slot) is)));
  };
  apart = apart;
  named = λ i k list slave shape at_list at_k at_shape. absurd (no_slave list (slaves i list at_list) k slave at_k);
  main = λ place is. places zero place is;
  loose = λ j is. (let found = beside s.slots s.places (slots_long ∙ sym places_long) (suc j) None is in found.1 ∙ ap Some (places (suc j) found.0 found.1));
  within = λ q is. absurd (both_ways (s.rearrange q) (quiet q) is);
  sized = λ i isnt behind shape list at_i at_list.
      ap (λ (sizes : List (ℕ × ℕ)). slice_get sizes i) asked ∙ get_map own_size s.shapes i ∙ ap (option_map own_size) at_i
      ∙ ap (λ (l : List Slave). Some (size_asked shape (asks s.asked l))) (sym (slaves i list at_list));
  arranged = λ i isnt k shape list place slave at_i at_list at_place at_k. absurd (no_slave list (slaves i list at_list) k slave at_k);
  shown = λ q isnt shape place at_q at_place. absurd (both_ways (s.moved q) isnt (moved q (get_within s.shapes q shape at_q)));
}

-- ── a window that is packed ──

module _ (s : Standing) (ok : IsStanding s) (master position : ℕ) (list : List Slave) (packed : Packed) where
  abbrev pub new_slave : Slave
  new_slave = record { packed = packed; position = position }

  abbrev pub new_slot : Slot
  new_slot = record { master = master; place = length list }

  pub slave_added : s.resize master ≡ true → s.rearrange master ≡ true → slice_get s.slaves master ≡ Some list → master < position → slice_get s.slots position ≡ Some None
      → ((shape : Shape) → slice_get s.shapes position ≡ Some shape → packed.number ≡ shape.number)
      → IsStanding (record s { slots = set s.slots position (Some new_slot); slaves = set s.slaves master (list ++ new_slave ∷ []) })
  slave_added in_resize in_rearrange at_list below free named = record {
    lengths = record {
      asked = ok.lengths.asked;
      places = ok.lengths.places;
      slots = length-set s.slots position (Some new_slot) ∙ ok.lengths.slots;
      slaves = length-set s.slaves master (list ++ new_slave ∷ []) ∙ ok.lengths.slaves;
    };
    forest = record {
      down = λ i k l slave at_l at_k. down i k l slave at_l at_k (cases_eq i master);
      up = λ j slot is. up j slot is (cases_eq j position);
    };
    apart = ok.apart;
    named = λ i k l slave shape at_l at_k at_shape. is_named i k l slave shape at_l at_k at_shape (cases_eq i master);
    main = ok.main;
    loose = λ j is. ok.loose j (was_free (suc j) is (cases_eq (suc j) position));
    within = ok.within;
    sized = λ q isnt behind shape l at_q at_l. ok.sized q isnt behind shape l at_q (others q (λ same. both_ways (s.resize q) isnt (ap s.resize same ∙ in_resize)) l at_l);
    arranged = λ q isnt k shape l place slave at_q at_l at_place at_k.
        ok.arranged q isnt k shape l place slave at_q (others q (λ same. both_ways (s.rearrange q) isnt (ap s.rearrange same ∙ in_rearrange)) l at_l) at_place at_k;
    shown = ok.shown;
  }
    where
      slots : List (Option Slot)
      slots = set s.slots position (Some new_slot)

      slaves : List (List Slave)
      slaves = set s.slaves master (list ++ new_slave ∷ [])

      others : (q : ℕ) → q ≢ master → (l : List Slave) → slice_get slaves q ≡ Some l → slice_get s.slaves q ≡ Some l
      others q differ l is = sym (set_there s.slaves master q (list ++ new_slave ∷ []) differ) ∙ is

      own : (l : List Slave) (i : ℕ) → i ≡ master → slice_get slaves i ≡ Some l → l ≡ list ++ new_slave ∷ []
      own l i same is =
          it_is l (list ++ new_slave ∷ [])
          (sym is ∙ ap (slice_get slaves) same ∙ set_here s.slaves master (list ++ new_slave ∷ []) (get_within s.slaves master list at_list))

      slot_here : slice_get slots position ≡ Some (Some new_slot)
      slot_here = set_here s.slots position (Some new_slot) (get_within s.slots position None free)

      -- what was packed elsewhere still is
      still : (i k : ℕ) (l : List Slave) (slave : Slave) → slice_get s.slaves i ≡ Some l → slice_get l k ≡ Some slave
          → (i < slave.position) × (slice_get slots slave.position ≡ Some (Some (record { master = i; place = k })))
      still i k l slave at_l at_k =
          let was = ok.forest.down i k l slave at_l at_k in
          let differ : slave.position ≢ position =
          λ same. none_some _ (it_is _ _ (sym free ∙ ap (slice_get s.slots) (sym same) ∙ was.1)) in
          (was.0, set_there s.slots position slave.position (Some new_slot) differ ∙ was.1)

      down : (i k : ℕ) (l : List Slave) (slave : Slave) → slice_get slaves i ≡ Some l → slice_get l k ≡ Some slave → (i ≡ master) ⊎ (i ≢ master)
          → (i < slave.position) × (slice_get slots slave.position ≡ Some (Some (record { master = i; place = k })))
      down i k l slave at_l at_k (inr differ) = still i k l slave (others i differ l at_l) at_k
      down i k l slave at_l at_k (inl same) =
          in_list (get_either list new_slave k slave (ap (λ (x : List Slave). slice_get x k) (sym (own l i same at_l)) ∙ at_k))
        where
          in_list : (slice_get list k ≡ Some slave) ⊎ ((k ≡ length list) × (slave ≡ new_slave))
              → (i < slave.position) × (slice_get slots slave.position ≡ Some (Some (record { master = i; place = k })))
          in_list (inl first) = still i k list slave (ap (slice_get s.slaves) same ∙ at_list) first
          in_list (inr last) =
              let there : slave.position ≡ position = ap (λ (x : Slave). x.position) last.1 in (
                omega (arith, same, below, there),
                ap (slice_get slots) there ∙ slot_here ∙ ap (λ (m : ℕ). Some (Some (record { master = m; place = length list }))) (sym same)
                    ∙ ap (λ (m : ℕ). Some (Some (record { master = i; place = m }))) (sym last.0),
              )

      up : (j : ℕ) (slot : Slot) → slice_get slots j ≡ Some (Some slot) → (j ≡ position) ⊎ (j ≢ position)
          → (l : List Slave) × ((slave : Slave) × ((slice_get slaves slot.master ≡ Some l) × ((slice_get l slot.place ≡ Some slave) × (slave.position ≡ j))))
      up j slot is (inl same) =
          let it : slot ≡ new_slot = it_is _ _ (it_is _ _ (sym is ∙ ap (slice_get slots) same ∙ slot_here)) in (
            list ++ new_slave ∷ [],
            (
              new_slave,
              (
                ap (λ (x : Slot). slice_get slaves x.master) it ∙ set_here s.slaves master (list ++ new_slave ∷ []) (get_within s.slaves master list at_list),
                (ap (λ (x : Slot). slice_get (list ++ new_slave ∷ []) x.place) it ∙ get_last list new_slave, sym same),
              ),
            ),
          )
      up j slot is (inr differ) = by (cases_eq slot.master master)
        where
          was : (l : List Slave) × ((slave : Slave) × ((slice_get s.slaves slot.master ≡ Some l) × ((slice_get l slot.place ≡ Some slave) × (slave.position ≡ j))))
          was = ok.forest.up j slot (sym (set_there s.slots position j (Some new_slot) differ) ∙ is)

          by : (slot.master ≡ master) ⊎ (slot.master ≢ master)
              → (l : List Slave) × ((slave : Slave) × ((slice_get slaves slot.master ≡ Some l) × ((slice_get l slot.place ≡ Some slave) × (slave.position ≡ j))))
          by (inl same) =
              let it : was.0 ≡ list = it_is was.0 list (sym was.1.1.0 ∙ ap (slice_get s.slaves) same ∙ at_list) in (
                list ++ new_slave ∷ [],
                (
                  was.1.0,
                  (
                    ap (slice_get slaves) same ∙ set_here s.slaves master (list ++ new_slave ∷ []) (get_within s.slaves master list at_list),
                    (get_first list new_slave slot.place was.1.0 (ap (λ (l : List Slave). slice_get l slot.place) (sym it) ∙ was.1.1.1.0), was.1.1.1.1),
                  ),
                ),
              )
          by (inr other) = (was.0, (was.1.0, (set_there s.slaves master slot.master (list ++ new_slave ∷ []) other ∙ was.1.1.0, was.1.1.1)))

      is_named : (i k : ℕ) (l : List Slave) (slave : Slave) (shape : Shape) → slice_get slaves i ≡ Some l → slice_get l k ≡ Some slave → slice_get s.shapes slave.position ≡ Some shape
          → (i ≡ master) ⊎ (i ≢ master) → slave.packed.number ≡ shape.number
      is_named i k l slave shape at_l at_k at_shape (inr differ) = ok.named i k l slave shape (others i differ l at_l) at_k at_shape
      is_named i k l slave shape at_l at_k at_shape (inl same) =
          in_list (get_either list new_slave k slave (ap (λ (x : List Slave). slice_get x k) (sym (own l i same at_l)) ∙ at_k))
        where
          in_list : (slice_get list k ≡ Some slave) ⊎ ((k ≡ length list) × (slave ≡ new_slave)) → slave.packed.number ≡ shape.number
          in_list (inl first) = ok.named i k list slave shape (ap (slice_get s.slaves) same ∙ at_list) first at_shape
          in_list (inr last) =
              ap (λ (x : Slave). x.packed.number) last.1 ∙ named shape (ap (λ (x : Slave). slice_get s.shapes x.position) (sym last.1) ∙ at_shape)

      was_free : (j : ℕ) → slice_get slots j ≡ Some None → (j ≡ position) ⊎ (j ≢ position) → slice_get s.slots j ≡ Some None
      was_free j is (inl same) = absurd (none_some new_slot (it_is None (Some new_slot) (sym is ∙ ap (slice_get slots) same ∙ slot_here)))
      was_free j is (inr differ) = sym (set_there s.slots position j (Some new_slot) differ) ∙ is

-- what stands there in its own place changes nothing
pub set_same : {X : Type 0} (xs : List X) (i : ℕ) (x : X) → slice_get xs i ≡ Some x → set xs i x ≡ xs
set_same [] i x is = refl
set_same (y ∷ xs) zero x is = ap (λ z. z ∷ xs) (sym (it_is y x is))
set_same {X = X} (y ∷ xs) (suc i) x is = ap (λ (zs : List X). y ∷ zs) (set_same xs i x is)

-- ── all that is packed in a window ──

pub slave_more : (s : Standing) (entries : List (ℕ × ℕ)) (master position place : ℕ) (list all : List Slave) (slots : List (Option Slot)) (packed : Packed)
    → all ≡ list ++ record { packed = packed; position = position } ∷ [] → slots ≡ set s.slots position (Some (record { master = master; place = place }))
    → IsStanding (record s { slaves = set s.slaves master list }) → IsIndex entries s.shapes → s.resize master ≡ true → s.rearrange master ≡ true → master < length s.slaves
    → (lookup (nat_eq packed.number) entries ≡ Some position) × ((master < position) × (slice_get s.slots position ≡ Some None)) → place ≡ length list
    → IsStanding (record s { slots = slots; slaves = set s.slaves master all })
slave_more s entries master position place list all slots packed is put ok index in_resize in_rearrange within free count =
    subst (λ (x : List (Option Slot)). IsStanding (record s { slots = x; slaves = set s.slaves master all }))
    (sym (put ∙ ap (λ (n : ℕ). set s.slots position (Some (record { master = master; place = n }))) count))
    (subst (λ (x : List (List Slave)). IsStanding (record s { slots = set s.slots position (Some (record { master = master; place = length list })); slaves = x }))
    (set-set s.slaves master list (list ++ record { packed = packed; position = position } ∷ []) ∙ ap (set s.slaves master) (sym is))
    (slave_added (record s { slaves = set s.slaves master list }) ok master position list packed in_resize in_rearrange (set_here s.slaves master list within) free.1.0 free.1.1 named))
  where
    named : (shape : Shape) → slice_get s.shapes position ≡ Some shape → packed.number ≡ shape.number
    named shape at_shape =
        let found = index.found packed.number position free.0 in
        sym found.1.1 ∙ ap (λ (x : Shape). x.number) (it_is found.0 shape (sym found.1.0 ∙ at_shape))

pub packed_more : (list all : List Slave) (position : ℕ) (packed : List Packed) (k : ℕ) (d : Packed) → all ≡ list ++ record { packed = get_or packed k d; position = position } ∷ []
    → k < length packed → packed_of list ≡ take k packed → packed_of all ≡ take (k + 1) packed
packed_more list all position packed k d is lt so_far =
    ap packed_of is ∙ map-append (λ (x : Slave). x.packed) list (record { packed = get_or packed k d; position = position } ∷ [])
    ∙ ap (λ (ps : List Packed). ps ++ get_or packed k d ∷ []) so_far ∙ sym (take_more packed k d lt)

-- ── what is packed in windows one after another ──

pub empty_at : (s : Standing) → IsStanding s → (place : ℕ) → place < length s.shapes → ((q : ℕ) (list : List Slave) → place ≤ q → slice_get s.slaves q ≡ Some list → list ≡ [])
    → slice_get s.slaves place ≡ Some []
empty_at s ok place lt behind =
    let found = within_get s.slaves place (let long = ok.lengths.slaves in omega (arith, lt, long)) in
    found.1 ∙ ap Some (behind place found.0 (omega arith) found.1)

pub packed_before : (shapes : List Shape) (old : List (List Slave)) (place : ℕ) (list : List Slave) (packed : ℕ → List Packed) (slaves : List Packed) → place < length old → packed_of list ≡ slaves
    → ((shape : Shape) → slice_get shapes place ≡ Some shape → slaves ≡ packed shape.number)
    → ((q : ℕ) (shape : Shape) (l : List Slave) → q < place → slice_get shapes q ≡ Some shape → slice_get old q ≡ Some l → packed_of l ≡ packed shape.number)
    → (q : ℕ) (shape : Shape) (l : List Slave) → q < place + 1 → slice_get shapes q ≡ Some shape → slice_get (set old place list) q ≡ Some l → packed_of l ≡ packed shape.number
packed_before shapes old place list packed slaves within is here before q shape l lt at_q at_l = by (cases_eq q place)
  where
    by : (q ≡ place) ⊎ (q ≢ place) → packed_of l ≡ packed shape.number
    by (inl same) =
        let its : l ≡ list = it_is l list (sym at_l ∙ ap (slice_get (set old place list)) same ∙ set_here old place list within) in
        ap packed_of its ∙ is ∙ here shape (ap (slice_get shapes) (sym same) ∙ at_q)
    by (inr differ) = before q shape l (omega (arith, lt, differ)) at_q (sym (set_there old place q list differ) ∙ at_l)

pub empty_behind : (old : List (List Slave)) (place : ℕ) (list : List Slave) → ((q : ℕ) (l : List Slave) → place ≤ q → slice_get old q ≡ Some l → l ≡ [])
    → (q : ℕ) (l : List Slave) → place + 1 ≤ q → slice_get (set old place list) q ≡ Some l → l ≡ []
empty_behind old place list behind q l le at_l =
    behind q l (omega (arith, le)) (sym (set_there old place q list (λ same. omega (arith, le, same))) ∙ at_l)

-- ── places by numbers ──

pub index_apart : (entries : List (ℕ × ℕ)) (shapes : List Shape) → IsIndex entries shapes → AreApart shapes
index_apart entries shapes index i j one other at_i at_j same =
    it_is i j (sym (index.known i one at_i) ∙ ap (λ n. lookup (nat_eq n) entries) same ∙ index.known j other at_j)

pub no_index : (entries : List (ℕ × ℕ)) (shapes : List Shape) → entries ≡ [] → IsIndex entries (take 0 shapes)
no_index entries shapes none = record {
  known = λ i shape is. absurd (none_some shape is);
  found = λ n i is. absurd (none_some i (ap (lookup (nat_eq n)) (sym none) ∙ is));
}

pub index_more : (old new : List (ℕ × ℕ)) (shapes : List Shape) (i : ℕ) (shape : Shape) → slice_get shapes i ≡ Some shape → lookup (nat_eq shape.number) old ≡ None
    → ((q : ℕ) → lookup (nat_eq q) new ≡ cond (nat_eq shape.number q) (Some i) (lookup (nat_eq q) old)) → IsIndex old (take i shapes) → IsIndex new (take (i + 1) shapes)
index_more old new shapes i shape at_i free updates index = record {
  known = λ j other at_j. known j other (get_take shapes (i + 1) j other at_j) (cases_eq j i);
  found = λ n j is. found n j (nat_eq shape.number n) refl (sym (updates n) ∙ is);
}
  where
    known : (j : ℕ) (other : Shape) → (j < i + 1) × (slice_get shapes j ≡ Some other) → (j ≡ i) ⊎ (j ≢ i) → lookup (nat_eq other.number) new ≡ Some j
    known j other at_j (inl same) =
        let it : shape ≡ other = it_is shape other (sym at_i ∙ ap (slice_get shapes) (sym same) ∙ at_j.1) in
        updates other.number ∙ rw (eq-eqb shape.number other.number (ap (λ (x : Shape). x.number) it)) (ap Some (sym same))
    known j other at_j (inr differ) =
        let before : lookup (nat_eq other.number) old ≡ Some j = index.known j other (take_get shapes i j other (omega (arith, at_j.0, differ)) at_j.1) in
        let apart : shape.number ≢ other.number = λ same. none_some j (sym free ∙ ap (λ n. lookup (nat_eq n) old) same ∙ before) in
        updates other.number ∙ rw (ne_eqb shape.number other.number apart) before

    found : (n j : ℕ) (b : Bool) → nat_eq shape.number n ≡ b → cond b (Some i) (lookup (nat_eq n) old) ≡ Some j
        → (x : Shape) × ((slice_get (take (i + 1) shapes) j ≡ Some x) × (x.number ≡ n))
    found n j true same is =
        let it : i ≡ j = it_is i j is in
        (shape, (take_get shapes (i + 1) j shape (omega (arith, it)) (ap (slice_get shapes) (sym it) ∙ at_i), eqb-true shape.number n same))
    found n j false differ is =
        let before = index.found n j is in
        let there = get_take shapes i j before.0 before.1.0 in
        (before.0, (take_get shapes (i + 1) j before.0 (omega (arith, there.0)) there.1, before.1.1))

-- they are those of other windows with the same numbers
abbrev pub numbers_in : List Shape → List ℕ
numbers_in shapes = map (λ (shape : Shape). shape.number) shapes

pub number_at : (shapes others : List Shape) → numbers_in shapes ≡ numbers_in others → (i : ℕ) (shape : Shape) → slice_get shapes i ≡ Some shape
    → (other : Shape) × ((slice_get others i ≡ Some other) × (other.number ≡ shape.number))
number_at [] others same i shape is = absurd (cc)
number_at (s ∷ shapes) [] same i shape is = absurd (cc)
number_at (s ∷ shapes) (o ∷ others) same zero shape is =
    (o, (refl, (let first : s.number ≡ o.number = cc in sym first ∙ ap (λ (x : Shape). x.number) (it_is s shape is))))
number_at (s ∷ shapes) (o ∷ others) same (suc i) shape is = number_at shapes others (cc) i shape is

pub index_stays : (entries : List (ℕ × ℕ)) (old new : List Shape) → numbers_in new ≡ numbers_in old → IsIndex entries old → IsIndex entries new
index_stays entries old new same index = record {
  known = λ i shape is. (let was = number_at new old same i shape is in ap (λ n. lookup (nat_eq n) entries) (sym was.1.1) ∙ index.known i was.0 was.1.0);
  found = λ n i is. (let was = index.found n i is in let now = number_at old new (sym same) i was.0 was.1.0 in (now.0, (now.1.0, now.1.1 ∙ was.1.1)));
}

pub numbers_set : (shapes : List Shape) (i : ℕ) (old new : Shape) → slice_get shapes i ≡ Some old → new.number ≡ old.number → numbers_in (set shapes i new) ≡ numbers_in shapes
numbers_set [] i old new is same = absurd (cc)
numbers_set (s ∷ shapes) zero old new is same = ap (λ n. n ∷ numbers_in shapes) (same ∙ ap (λ (x : Shape). x.number) (sym (it_is s old is)))
numbers_set (s ∷ shapes) (suc i) old new is same = ap (λ (ns : List ℕ). s.number ∷ ns) (numbers_set shapes i old new is same)

-- a window in the place of another of its number; there may be none
pub shape_absent : (shapes : List Shape) (new : Shape) → ((i : ℕ) (shape : Shape) → slice_get shapes i ≡ Some shape → shape.number ≢ new.number) → with_shape new shapes ≡ shapes
shape_absent [] new none = refl
shape_absent (s ∷ shapes) new none =
    rw (ne_eqb s.number new.number (none zero s refl)) (ap (λ (xs : List Shape). s ∷ xs) (shape_absent shapes new (λ i shape is. none (suc i) shape is)))

pub with_shape_is : (shapes : List Shape) → AreApart shapes → (i : ℕ) (old new : Shape) → slice_get shapes i ≡ Some old → new.number ≡ old.number → set shapes i new ≡ with_shape new shapes
with_shape_is [] apart i old new is same = absurd (cc)
with_shape_is (s ∷ shapes) apart zero old new is same =
    let its : s.number ≡ new.number = ap (λ (x : Shape). x.number) (it_is s old is) ∙ sym same in
    rw (eq-eqb s.number new.number its)
    (ap (λ (xs : List Shape). new ∷ xs)
    (sym (shape_absent shapes new (λ i shape at_i alike. (let wrong : zero ≡ suc i = apart zero (suc i) s shape refl at_i (its ∙ sym alike) in omega (arith, wrong))))))
with_shape_is (s ∷ shapes) apart (suc i) old new is same =
    rw (ne_eqb s.number new.number (λ both. (let wrong : zero ≡ suc i = apart zero (suc i) s old refl is (both ∙ same) in omega (arith, wrong))))
    (ap (λ (xs : List Shape). s ∷ xs)
    (with_shape_is shapes (λ j k one other at_j at_k alike. (let both : suc j ≡ suc k = apart (suc j) (suc k) one other at_j at_k alike in omega (arith, both))) i old new is same))

-- ── what is packed in all windows ──

pub packs_are : (packed : ℕ → List Packed) (shapes : List Shape) (slaves : List (List Slave)) → length slaves ≡ length shapes
    → ((q : ℕ) (shape : Shape) (list : List Slave) → slice_get shapes q ≡ Some shape → slice_get slaves q ≡ Some list → packed_of list ≡ packed shape.number)
    → map packed_of slaves ≡ map (λ (shape : Shape). packed shape.number) shapes
packs_are packed [] [] long each = refl
packs_are packed [] (list ∷ slaves) long each = absurd (omega (arith, long))
packs_are packed (shape ∷ shapes) [] long each = absurd (omega (arith, long))
packs_are packed (shape ∷ shapes) (list ∷ slaves) long each =
    ap (λ (ps : List Packed). ps ∷ map packed_of slaves) (each zero shape list refl refl)
    ∙ ap (λ (pss : List (List Packed)). packed shape.number ∷ pss) (packs_are packed shapes slaves (omega (arith, long)) (λ q s l is its. each (suc q) s l is its))
