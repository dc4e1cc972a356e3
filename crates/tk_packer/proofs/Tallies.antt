-- The windows behind a place, as they are counted from the last on and packed from the first on.
use Rattle.std.proofs.Common.{◌≡◌, ℕ, ◌+◌, ◌-◌, ◌<◌, ◌≤◌, ◌^◌, Bool, true, false, List, [], ◌∷◌, ◌++◌, length, take, drop, get_or, sym, ap, subst, ◌∙◌, arith}
use Rattle.std.specs.Prelude.{if◌then◌else◌, is_some, nat_lt, All}
use Rattle.std.proofs.lemmas.Bool.{lt-ltb, le-ltb}
use Rattle.std.proofs.lemmas.List.{append-nil, append_cancel_left, drop_more, length-append, length-drop, length-map, take_all}
use Rattle.std.proofs.lemmas.List.Elements.{All-nil, All-append, All-push, All-weaker}
use Rattle.std.proofs.Math.Seq.{take-append_seam}
use Rattle.tk_packer.specs.declared.ask.Ask.{Ask}
use Rattle.tk_packer.specs.declared.ask.Axis.{Axis}
use Rattle.tk_packer.specs.declared.behind.Tally.{Tally}
use Rattle.tk_packer.specs.declared.behind.Narrow.{Narrow}
use Rattle.tk_packer.specs.declared.request.Request.{Request}
use Rattle.tk_packer.specs.Ask.{ask_of, outer_length}
use Rattle.tk_packer.specs.Behind.{no_tally, tallied, tally_of, tallies_of, narrowed, narrows_of, narrows_left, least_share, AreTallied, IsWithin}
use Rattle.tk_packer.specs.Parcels.{asks_of, share}
use Rattle.tk_packer.proofs.Shares.{over, narrow_if, share_is}

-- ── one more in front ──
pub added : (tally other : Tally) (earlier more_earlier : List Tally) (narrows more_narrows : List Narrow) (ask : Ask) (later : List Ask)
    → other ≡ tallied tally ask → more_earlier ≡ earlier ++ tally ∷ [] → more_narrows ≡ narrows ++ narrowed tally other
    → AreTallied tally earlier narrows later → AreTallied other more_earlier more_narrows (ask ∷ later)
unfolding tally_of tallies_of narrows_of
added tally other earlier more_earlier narrows more_narrows ask later is earlier_is narrows_is so_far = record {
  tally = is ∙ ap (λ (t : Tally). tallied t ask) so_far.tally;
  earlier = earlier_is ∙ ap (λ (ts : List Tally). ts ++ tally ∷ []) so_far.earlier ∙ ap (λ (t : Tally). tallies_of later ++ t ∷ []) so_far.tally;
  narrows = narrows_is ∙ ap (λ (ns : List Narrow). ns ++ narrowed tally other) so_far.narrows
      ∙ ap (λ (t : Tally). narrows_of later ++ narrowed tally t) (is ∙ ap (λ (t : Tally). tallied t ask) so_far.tally) ∙ ap (λ (t : Tally). narrows_of later ++ narrowed t (tallied (tally_of later) ask)) so_far.tally;
}

few_by : (b e : Bool) (outer : ℕ) (tally : Tally) → (tally.count ≤ (over b e outer tally).count) × ((over b e outer tally).count ≤ tally.count + 1)
few_by true true outer tally = (omega arith, omega arith)
few_by true false outer tally = (omega arith, omega arith)
few_by false e outer tally = (omega arith, omega arith)

pub counts_few : (asks : List Ask) → (tally_of asks).count ≤ length asks + 1
unfolding tally_of
counts_few [] = omega arith
counts_few (ask ∷ later) = omega (arith, counts_few later, (few_by (is_some ask.edge) ask.expands (outer_length ask) (tally_of later)).1)

-- ── the narrow ones are among those counted ──
within_if : (b : Bool) (tally : Tally) → 0 < tally.count → All (IsWithin tally) (narrow_if b tally)
within_if true tally some = All-push (IsWithin tally) [] (record { excess = tally.excess; count = tally.count }) (All-nil (IsWithin tally)) (some, omega arith)
within_if false tally some = All-nil (IsWithin tally)

pub all_within : (asks : List Ask) → (0 < (tally_of asks).count) × All (IsWithin (tally_of asks)) (narrows_of asks)
unfolding tally_of narrows_of
all_within [] = (omega arith, All-nil (IsWithin (tally_of [])))
all_within (ask ∷ later) =
    let so_far = all_within later in
    let tally = tally_of later in
    let more = (few_by (is_some ask.edge) ask.expands (outer_length ask) tally).0 in
    let some : 0 < (tallied tally ask).count = omega (arith, more, so_far.0) in (
      some,
      All-append (IsWithin (tallied tally ask)) (narrows_of later) (narrowed tally (tallied tally ask))
          (All-weaker (IsWithin tally) (IsWithin (tallied tally ask)) (λ narrow within. (within.0, omega (arith, within.1, more))) (narrows_of later) so_far.1)
          (within_if (nat_lt tally.excess (tallied tally ask).excess) (tallied tally ask) some),
    )

-- ── the first is packed ──
seam : {X : Type 0} (xs ys : List X) (x y : X) → xs ++ x ∷ [] ≡ ys ++ y ∷ [] → (xs ≡ ys) × (x ≡ y)
seam xs ys x y is =
    let count : length xs ≡ length ys = omega (arith, ap length is, length-append xs (x ∷ []), length-append ys (y ∷ [])) in
    let front : xs ≡ ys = sym (take-append_seam xs (x ∷ [])) ∙ ap (take (length xs)) is ∙ ap (λ n. take n (ys ++ y ∷ [])) count ∙ take-append_seam ys (y ∷ []) in
    (front, ap (λ l. get_or l 0 x) (append_cancel_left ys (x ∷ []) (y ∷ []) (ap (λ l. l ++ x ∷ []) (sym front) ∙ is)))

but_last : {X : Type 0} (xs : List X) (x : X) → take (length (xs ++ x ∷ []) - 1) (xs ++ x ∷ []) ≡ xs
but_last xs x =
    let count : length (xs ++ x ∷ []) - 1 ≡ length xs = omega (arith, length-append xs (x ∷ [])) in
    ap (λ n. take n (xs ++ x ∷ [])) count ∙ take-append_seam xs (x ∷ [])

left_by : (b : Bool) (tally : Tally) (narrows : List Narrow)
    → (if b then take (length (narrows ++ narrow_if b tally) - 1) (narrows ++ narrow_if b tally) else narrows ++ narrow_if b tally) ≡ narrows
left_by true tally narrows = but_last narrows (record { excess = tally.excess; count = tally.count })
left_by false tally narrows = append-nil narrows

left_as : (out tally : Tally) (narrows : List Narrow) → narrows_left out tally (narrows ++ narrowed out tally) ≡ narrows
left_as out tally narrows = left_by (nat_lt out.excess tally.excess) tally narrows

pub left_fewer : (out tally : Tally) (narrows : List Narrow) → out.excess < tally.excess → take (length narrows - 1) narrows ≡ narrows_left out tally narrows
left_fewer out tally narrows more = sym (ap (λ (b : Bool). if b then take (length narrows - 1) narrows else narrows) (lt-ltb out.excess tally.excess more))

pub left_all : (out tally : Tally) (narrows : List Narrow) → tally.excess ≤ out.excess → narrows ≡ narrows_left out tally narrows
left_all out tally narrows few = sym (ap (λ (b : Bool). if b then take (length narrows - 1) narrows else narrows) (le-ltb out.excess tally.excess few))

pub passed : (tally out : Tally) (earlier left : List Tally) (narrows fewer : List Narrow) (ask : Ask) (later : List Ask)
    → earlier ≡ left ++ out ∷ [] → fewer ≡ narrows_left out tally narrows → AreTallied tally earlier narrows (ask ∷ later) → AreTallied out left fewer later
unfolding tally_of tallies_of narrows_of
passed tally out earlier left narrows fewer ask later earlier_is fewer_is were =
    let cut = seam left (tallies_of later) out (tally_of later) (sym earlier_is ∙ were.earlier) in
    record {
      tally = cut.1;
      earlier = cut.0;
      narrows = fewer_is ∙ ap (narrows_left out tally) were.narrows
          ∙ ap (λ (t : Tally). narrows_left out tally (narrows_of later ++ narrowed t (tally_of (ask ∷ later)))) (sym cut.1)
          ∙ ap (λ (t : Tally). narrows_left out tally (narrows_of later ++ narrowed out t)) (sym were.tally)
          ∙ left_as out tally (narrows_of later);
    }

-- there is a first
pub none_earlier : {X : Type 0} (tally : Tally) (earlier : List Tally) (narrows : List Narrow) (ask : Ask) (later : List Ask)
    → AreTallied tally earlier narrows (ask ∷ later) → length earlier ≡ 0 → X
unfolding tallies_of
none_earlier tally earlier narrows ask later were none =
    let count : length earlier ≡ length (tallies_of later ++ tally_of later ∷ []) = ap length were.earlier in
    absurd (omega (arith, none, count, length-append (tallies_of later) (tally_of later ∷ [])))

-- ── what a share asks of those counted ──
pub tally_some : (tally : Tally) (earlier : List Tally) (narrows : List Narrow) (asks : List Ask) → AreTallied tally earlier narrows asks → 0 < tally.count
tally_some tally earlier narrows asks were = omega (arith, (all_within asks).0, ap (λ (t : Tally). t.count) were.tally)

pub tally_within : (tally : Tally) (earlier : List Tally) (narrows : List Narrow) (asks : List Ask) → AreTallied tally earlier narrows asks → All (IsWithin tally) narrows
tally_within tally earlier narrows asks were =
    subst (λ (t : Tally). All (IsWithin t) narrows) (sym were.tally) (subst (λ (ns : List Narrow). All (IsWithin (tally_of asks)) ns) (sym were.narrows) (all_within asks).1)

pub none_tallied : (tally : Tally) (earlier : List Tally) (narrows : List Narrow) (asks : List Ask) → tally ≡ no_tally → earlier ≡ [] → narrows ≡ [] → asks ≡ [] → AreTallied tally earlier narrows asks
unfolding tally_of tallies_of narrows_of
none_tallied tally earlier narrows asks tally_is earlier_is narrows_is none = record {
  tally = tally_is ∙ sym (ap tally_of none);
  earlier = earlier_is ∙ sym (ap tallies_of none);
  narrows = narrows_is ∙ sym (ap narrows_of none);
}

-- the one in front of those counted
pub next_tallied : (axis : Axis) (requests : List Request) (i before : ℕ) (d : Request) (ask : Ask) (tally : Tally) (earlier : List Tally) (narrows : List Narrow) → before + 1 ≡ i → before < length requests
    → ask ≡ ask_of axis (get_or requests before d) → AreTallied tally earlier narrows (ask ∷ asks_of axis (drop i requests)) → AreTallied tally earlier narrows (asks_of axis (drop before requests))
next_tallied axis requests i before d ask tally earlier narrows is lt front were =
    subst (λ (rest : List Request). AreTallied tally earlier narrows (asks_of axis rest)) (sym (drop_more requests before d lt))
    (subst (λ (k : ℕ). AreTallied tally earlier narrows (ask_of axis (get_or requests before d) ∷ asks_of axis (drop k requests))) (sym is)
    (subst (λ (a : Ask). AreTallied tally earlier narrows (a ∷ asks_of axis (drop i requests))) front were))

-- no slice has so many that their count could wrap
pub few_tallied : (axis : Axis) (requests : List Request) (i : ℕ) (tally : Tally) (earlier : List Tally) (narrows : List Narrow) → length requests < 2 ^ 63
    → AreTallied tally earlier narrows (asks_of axis (drop i requests)) → tally.count < 2 ^ 64 - 1
few_tallied axis requests i tally earlier narrows few were =
    let count : tally.count ≡ (tally_of (asks_of axis (drop i requests))).count = ap (λ (t : Tally). t.count) were.tally in
    omega (arith, few, count, counts_few (asks_of axis (drop i requests)), length-map (drop i requests) (ask_of axis), length-drop i requests)

pub all_tallied : (axis : Axis) (requests : List Request) (i : ℕ) (tally : Tally) (earlier : List Tally) (narrows : List Narrow) → i ≡ 0
    → AreTallied tally earlier narrows (asks_of axis (drop i requests)) → AreTallied tally earlier narrows (asks_of axis requests)
all_tallied axis requests i tally earlier narrows none were = subst (λ (k : ℕ). AreTallied tally earlier narrows (asks_of axis (drop k requests))) none were

pub share_told : (free : ℕ) (tally : Tally) (earlier : List Tally) (narrows : List Narrow) (later : List Ask) → free < 2 ^ 64 → AreTallied tally earlier narrows later
    → least_share (free - tally.along) tally.count narrows ≡ share free 1 later
share_told free tally earlier narrows later small were =
    let is : tally.count + 1 ≡ 1 + (tally_of later).count = omega (arith, ap (λ (t : Tally). t.count) were.tally) in
    sym (share_is free 1 tally.count later (omega arith) small is ∙ ap (λ (t : Tally). least_share (free - t.along) tally.count (narrows_of later)) (sym were.tally)
    ∙ ap (least_share (free - tally.along) tally.count) (sym were.narrows))

pub share_all : (free left i least : ℕ) (tally : Tally) (earlier : List Tally) (narrows items : List Narrow) (later : List Ask) → free < 2 ^ 64 → items ≡ narrows → length items ≤ i → left ≡ free - tally.along
    → least ≡ least_share left tally.count (take i narrows) → AreTallied tally earlier narrows later → least ≡ share free 1 later
share_all free left i least tally earlier narrows items later small same past left_is is were =
    let all : length narrows ≤ i = omega (arith, past, ap length same) in
    is ∙ ap (least_share left tally.count) (take_all i narrows all) ∙ ap (λ n. least_share n tally.count narrows) left_is ∙ share_told free tally earlier narrows later small were
