-- A layout lies by masters.
use Rattle.std.proofs.Common.{◌≡◌, ◌≢◌, ℕ, zero, suc, Bool, true, false, List, [], ◌∷◌, Option, Some, None, refl, sym, ap, ◌∙◌, subst, arith}
use Rattle.std.specs.Prelude.{◌==◌, nat_eq, pred, if◌then◌else◌, option_map, option_and_then, slice_get, unwrap_or}
use Rattle.std.specs.Map.{lookup}
use Rattle.std.proofs.lemmas.Bool.{eq-eqb, eqb-true, ne_eqb}
use Rattle.tk_base.specs.declared.rect.Rect.{Rect}
use Rattle.tk_packer.specs.declared.packed.Packed.{Packed}
use Rattle.tk_packer.specs.declared.request.Request.{Request}
use Rattle.tk_packer.specs.declared.shape.Shape.{Shape}
use Rattle.tk_packer.specs.Asked.{Sizes, requests_of, size_asked, sized, sizes_asked, with_asked}
use Rattle.tk_packer.specs.Layout.{Places, cavity_of, first_place, give, given_after, counted_outside, placed, whole_of, with_place}
use Rattle.tk_packer.specs.Packs.{slaves_of}
use Rattle.tk_packer.specs.Parcels.{arrangement}
use Rattle.tk_app.specs.Places.{LiesByMasters, StandInOrder, place_by_master, place_by_number}

it_is : {X : Type 0} (x y : X) → Some x ≡ Some y → x ≡ y
it_is {X = X} x y is = ap (λ (o : Option X). unwrap_or o x) is

-- ── what a master gives ──

-- those that aren't its slaves have what they had
given_other : (border : ℕ) (slaves : List Packed) (places : List (Option Rect)) (given : Places) (n : ℕ)
    → ((k : ℕ) (p : Packed) → slice_get slaves k ≡ Some p → p.number ≢ n) → lookup (nat_eq n) (give border slaves places given) ≡ lookup (nat_eq n) given
unfolding give
given_other border [] places given n none = refl
given_other border (p ∷ ps) [] given n none = refl
given_other border (p ∷ ps) (place ∷ places) given n none =
    given_other border ps places (with_place border p.number place given) n (λ k q is. none (suc k) q is) ∙ one place
  where
    one : (place : Option Rect) → lookup (nat_eq n) (with_place border p.number place given) ≡ lookup (nat_eq n) given
    one None = refl
    one (Some rect) = rw (ne_eqb n p.number (λ same. none zero p refl (sym same))) refl

-- a slave has its place, where it had none
given_at : (border : ℕ) (slaves : List Packed) (places : List (Option Rect)) (given : Places) (k : ℕ) (p : Packed) → slice_get slaves k ≡ Some p
    → ((i j : ℕ) (q r : Packed) → slice_get slaves i ≡ Some q → slice_get slaves j ≡ Some r → q.number ≡ r.number → i ≡ j)
    → lookup (nat_eq p.number) given ≡ None
    → lookup (nat_eq p.number) (give border slaves places given) ≡ option_map (counted_outside border) (option_and_then (λ place. place) (slice_get places k))
unfolding give
given_at border [] places given k p is apart none = absurd (cc)
given_at border (q ∷ qs) [] given k p is apart none = none
given_at border (q ∷ qs) (place ∷ places) given zero p is apart none =
    subst (λ (x : Packed). lookup (nat_eq x.number) given ≡ None
    → lookup (nat_eq x.number) (give border qs places (with_place border q.number place given)) ≡ option_map (counted_outside border) place)
    (it_is q p is) (λ free. given_other border qs places (with_place border q.number place given) q.number (λ j r there same. absurd (zero_suc j (apart zero (suc j) q r refl there (sym same)))) ∙ here place free)
    none
  where
    zero_suc : (j : ℕ) → zero ≡ suc j → ⊥
    zero_suc j wrong = omega (arith, wrong)

    here : (place : Option Rect) → lookup (nat_eq q.number) given ≡ None → lookup (nat_eq q.number) (with_place border q.number place given) ≡ option_map (counted_outside border) place
    here None free = free
    here (Some rect) free = rw (eq-eqb q.number q.number refl) refl
given_at border (q ∷ qs) (place ∷ places) given (suc k) p is apart none =
    given_at border qs places (with_place border q.number place given) k p is
    (λ i j a b at_i at_j same. ap pred (apart (suc i) (suc j) a b at_i at_j same))
    (there place)
  where
    there : (place : Option Rect) → lookup (nat_eq p.number) (with_place border q.number place given) ≡ None
    there None = none
    there (Some rect) = rw (ne_eqb p.number q.number (λ same. (let wrong = apart zero (suc k) q p refl is (sym same) in omega (arith, wrong)))) none

module _ (slaves : ℕ → List Packed) where
  -- ── the order of what is left ──

  order_rest : (s : Shape) (ss : List Shape) → StandInOrder slaves (s ∷ ss) → StandInOrder slaves ss
  order_rest s ss order = record {
    apart = λ i j one other at_i at_j same. ap pred (order.apart (suc i) (suc j) one other at_i at_j same);
    behind = λ i j k master slave packed at_i at_j at_k same. (let lt = order.behind (suc i) (suc j) k master slave packed at_i at_j at_k same in omega (arith, lt));
    once = λ i j k l one other packed again at_i at_j at_k at_l same.
        (let both = order.once (suc i) (suc j) k l one other packed again at_i at_j at_k at_l same in (ap pred both.0, both.1));
  }

  -- the first is none of the others
  first_apart : (s : Shape) (ss : List Shape) → StandInOrder slaves (s ∷ ss) → (i : ℕ) (other : Shape) → slice_get ss i ≡ Some other → s.number ≢ other.number
  first_apart s ss order i other there same = (let wrong = order.apart zero (suc i) s other refl there same in omega (arith, wrong))

  -- nothing has the first as its slave
  first_free : (s : Shape) (ss : List Shape) → StandInOrder slaves (s ∷ ss)
      → (i k : ℕ) (master : Shape) (packed : Packed) → slice_get (s ∷ ss) i ≡ Some master → slice_get (slaves master.number) k ≡ Some packed → packed.number ≢ s.number
  first_free s ss order i k master packed at_i at_k same = (let wrong = order.behind i zero k master s packed at_i refl at_k same in omega (arith, wrong))

  -- slaves of the first are slaves of none of the others
  first_once : (s : Shape) (ss : List Shape) → StandInOrder slaves (s ∷ ss)
      → (k i l : ℕ) (packed : Packed) (master : Shape) (again : Packed) → slice_get (slaves s.number) k ≡ Some packed → slice_get ss i ≡ Some master
      → slice_get (slaves master.number) l ≡ Some again → packed.number ≢ again.number
  first_once s ss order k i l packed master again at_k at_i at_l same =
      (let both = order.once zero (suc i) k l s master packed again refl at_i at_k at_l same in let wrong = both.0 in omega (arith, wrong))

  -- ── what windows ask for ──

  requests_other : (n : ℕ) (size : ℕ × ℕ) (sizes : Sizes) (ps : List Packed) → ((k : ℕ) (p : Packed) → slice_get ps k ≡ Some p → p.number ≢ n)
      → requests_of ((n, size) ∷ sizes) ps ≡ requests_of sizes ps
  requests_other n size sizes [] none = refl
  requests_other n size sizes (p ∷ ps) none =
      rw (ne_eqb p.number n (none zero p refl)) (ap (λ (rs : List Request). sized sizes p ∷ rs) (requests_other n size sizes ps (λ k q is. none (suc k) q is)))

  asked : (shapes : List Shape) (i : ℕ) (shape : Shape) → StandInOrder slaves shapes → slice_get shapes i ≡ Some shape
      → lookup (nat_eq shape.number) (sizes_asked slaves shapes) ≡ Some (size_asked shape (requests_of (sizes_asked slaves shapes) (slaves shape.number)))
  unfolding sizes_asked with_asked
  asked [] i shape order is = absurd (cc)
  asked (s ∷ ss) zero shape order is =
      subst (λ (x : Shape). lookup (nat_eq x.number) (sizes_asked slaves (s ∷ ss)) ≡ Some (size_asked x (requests_of (sizes_asked slaves (s ∷ ss)) (slaves x.number))))
      (it_is s shape is)
      (rw (eq-eqb s.number s.number refl)
      (ap (λ rs. Some (size_asked s rs))
      (sym (requests_other s.number (size_asked s (requests_of (sizes_asked slaves ss) (slaves s.number))) (sizes_asked slaves ss) (slaves s.number)
      (λ k p there. first_free s ss order zero k s p refl there)))))
  asked (s ∷ ss) (suc i) shape order is =
      rw (ne_eqb shape.number s.number (λ same. first_apart s ss order i shape is (sym same)))
      (asked ss i shape (order_rest s ss order) is
      ∙ ap (λ rs. Some (size_asked shape rs))
      (sym (requests_other s.number (size_asked s (requests_of (sizes_asked slaves ss) (slaves s.number))) (sizes_asked slaves ss) (slaves shape.number)
      (λ k p there. first_free s ss order (suc i) k shape p is there))))

  -- ── where they lie ──

  module _ (sizes : Sizes) where
    after_other : (s : Shape) (place : Option Rect) (given : Places) (n : ℕ) → ((k : ℕ) (p : Packed) → slice_get (slaves s.number) k ≡ Some p → p.number ≢ n)
        → lookup (nat_eq n) (given_after slaves sizes s place given) ≡ lookup (nat_eq n) given
    unfolding given_after
    after_other s None given n none = refl
    after_other s (Some rect) given n none =
        given_other s.border (slaves s.number) (arrangement (cavity_of rect s.border) (requests_of sizes (slaves s.number))) given n none

    -- what isn't packed has what is given already
    place_kept : (shapes : List Shape) (given : Places) (j : ℕ) (shape : Shape) → slice_get shapes j ≡ Some shape
        → ((i k : ℕ) (master : Shape) (packed : Packed) → slice_get shapes i ≡ Some master → slice_get (slaves master.number) k ≡ Some packed → packed.number ≢ shape.number)
        → place_by_number shapes (placed slaves sizes given shapes) shape.number ≡ lookup (nat_eq shape.number) given
    unfolding placed
    place_kept [] given j shape is none = absurd (cc)
    place_kept (s ∷ ss) given zero shape is none =
        subst (λ (x : Shape). place_by_number (s ∷ ss) (placed slaves sizes given (s ∷ ss)) x.number ≡ lookup (nat_eq x.number) given) (it_is s shape is)
        (rw (eq-eqb s.number s.number refl) refl)
    place_kept (s ∷ ss) given (suc j) shape is none =
        by (s.number == shape.number) refl
        (place_kept ss (given_after slaves sizes s head given) j shape is (λ i k master packed at_i at_k. none (suc i) k master packed at_i at_k)
        ∙ after_other s head given shape.number (λ k p there. none zero k s p refl there))
      where
        head : Option Rect
        head = lookup (nat_eq s.number) given

        by : (b : Bool) → (s.number == shape.number) ≡ b
            → place_by_number ss (placed slaves sizes (given_after slaves sizes s head given) ss) shape.number ≡ lookup (nat_eq shape.number) given
            → (if s.number == shape.number then head else place_by_number ss (placed slaves sizes (given_after slaves sizes s head given) ss) shape.number) ≡ lookup (nat_eq shape.number) given
        by true same later = rw same (ap (λ n. lookup (nat_eq n) given) (eqb-true s.number shape.number same))
        by false differ later = rw differ later

    -- nothing is given yet to what is packed
    AreFree : List Shape → Places → Type 0
    AreFree shapes given = (i k : ℕ) (master : Shape) (packed : Packed) → slice_get shapes i ≡ Some master → slice_get (slaves master.number) k ≡ Some packed
        → lookup (nat_eq packed.number) given ≡ None

    free_rest : (s : Shape) (ss : List Shape) (place : Option Rect) (given : Places) → StandInOrder slaves (s ∷ ss) → AreFree (s ∷ ss) given
        → AreFree ss (given_after slaves sizes s place given)
    unfolding AreFree
    free_rest s ss place given order free =
        λ i k master packed at_i at_k.
        after_other s place given packed.number (λ l p there same. first_once s ss order l i k p master packed there at_i at_k same)
        ∙ free (suc i) k master packed at_i at_k

    place_given : (shapes : List Shape) (given : Places) (i j k : ℕ) (master slave : Shape) (packed : Packed) → StandInOrder slaves shapes → AreFree shapes given
        → slice_get shapes i ≡ Some master → slice_get shapes j ≡ Some slave → slice_get (slaves master.number) k ≡ Some packed → packed.number ≡ slave.number
        → place_by_number shapes (placed slaves sizes given shapes) slave.number
        ≡ place_by_master master (requests_of sizes (slaves master.number)) k (place_by_number shapes (placed slaves sizes given shapes) master.number)
    unfolding placed AreFree given_after
    place_given [] given i j k master slave packed order free at_i at_j at_k same = absurd (cc)
    place_given (s ∷ ss) given i zero k master slave packed order free at_i at_j at_k same =
        (let wrong = order.behind i zero k master slave packed at_i at_j at_k same in absurd (omega (arith, wrong)))
    place_given (s ∷ ss) given zero (suc j) k master slave packed order free at_i at_j at_k same =
        subst (λ (x : Shape). slice_get (slaves x.number) k ≡ Some packed
        → place_by_number (s ∷ ss) (placed slaves sizes given (s ∷ ss)) slave.number
        ≡ place_by_master x (requests_of sizes (slaves x.number)) k (place_by_number (s ∷ ss) (placed slaves sizes given (s ∷ ss)) x.number))
        (it_is s master at_i)
        (λ here. rw (ne_eqb s.number slave.number (first_apart s ss order j slave at_j), eq-eqb s.number s.number refl)
        (place_kept ss (given_after slaves sizes s head given) j slave at_j
        (λ i l master again at_m at_l wrong. first_once s ss order k i l packed master again here at_m at_l (same ∙ sym wrong))
        ∙ ap (λ n. lookup (nat_eq n) (given_after slaves sizes s head given)) (sym same)
        ∙ by head here))
        at_k
      where
        head : Option Rect
        head = lookup (nat_eq s.number) given

        by : (place : Option Rect) → slice_get (slaves s.number) k ≡ Some packed
            → lookup (nat_eq packed.number) (given_after slaves sizes s place given) ≡ place_by_master s (requests_of sizes (slaves s.number)) k place
        by None here = free zero k s packed refl here
        by (Some rect) here =
            given_at s.border (slaves s.number) (arrangement (cavity_of rect s.border) (requests_of sizes (slaves s.number))) given k packed here
            (λ a b q r at_a at_b alike. (order.once zero zero a b s s q r refl refl at_a at_b alike).1)
            (free zero k s packed refl here)
    place_given (s ∷ ss) given (suc i) (suc j) k master slave packed order free at_i at_j at_k same =
        rw (ne_eqb s.number slave.number (first_apart s ss order j slave at_j), ne_eqb s.number master.number (first_apart s ss order i master at_i))
        (place_given ss (given_after slaves sizes s (lookup (nat_eq s.number) given) given) i j k master slave packed (order_rest s ss order)
        (free_rest s ss (lookup (nat_eq s.number) given) given order free) at_i at_j at_k same)

    -- ── from the main window on ──

    first_is_free : (size : ℕ × ℕ) (shapes : List Shape) → StandInOrder slaves shapes → AreFree shapes (first_place size shapes)
    unfolding AreFree
    first_is_free size [] order = λ i k master packed at_i at_k. absurd (cc)
    first_is_free size (s ∷ ss) order = λ i k master packed at_i at_k. rw (ne_eqb packed.number s.number (first_free s ss order i k master packed at_i at_k)) refl

    main_fills : (size : ℕ × ℕ) (shapes : List Shape) (shape : Shape) → slice_get shapes zero ≡ Some shape
        → place_by_number shapes (placed slaves sizes (first_place size shapes) shapes) shape.number ≡ Some (whole_of size)
    unfolding placed
    main_fills size [] shape is = absurd (cc)
    main_fills size (s ∷ ss) shape is =
        subst (λ (x : Shape). place_by_number (s ∷ ss) (placed slaves sizes (first_place size (s ∷ ss)) (s ∷ ss)) x.number ≡ Some (whole_of size)) (it_is s shape is)
        (rw (eq-eqb s.number s.number refl) refl)

    loose_lies : (size : ℕ × ℕ) (shapes : List Shape) (j : ℕ) (shape : Shape) → StandInOrder slaves shapes → slice_get shapes (suc j) ≡ Some shape
        → ((i k : ℕ) (master : Shape) (packed : Packed) → slice_get shapes i ≡ Some master → slice_get (slaves master.number) k ≡ Some packed → packed.number ≢ shape.number)
        → place_by_number shapes (placed slaves sizes (first_place size shapes) shapes) shape.number ≡ None
    loose_lies size [] j shape order is none = absurd (cc)
    loose_lies size (s ∷ ss) j shape order is none =
        place_kept (s ∷ ss) (first_place size (s ∷ ss)) (suc j) shape is none
        ∙ rw (ne_eqb shape.number s.number (λ same. first_apart s ss order j shape is (sym same))) refl

pub lies_by_masters : LiesByMasters
lies_by_masters size packs shapes order =
    let slaves : ℕ → List Packed = λ master. slaves_of master packs in
    let sizes : Sizes = sizes_asked slaves shapes in
    record {
      asks = λ i shape is. asked slaves shapes i shape order is;
      main = λ shape is. main_fills slaves sizes size shapes shape is;
      packed = λ i j k master slave packed at_i at_j at_k same.
          place_given slaves sizes shapes (first_place size shapes) i j k master slave packed order (first_is_free slaves sizes size shapes order) at_i at_j at_k same;
      loose = λ j shape is none. loose_lies slaves sizes size shapes j shape order is none;
    }
