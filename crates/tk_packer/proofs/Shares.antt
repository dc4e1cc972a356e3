-- Shares of windows that expand, from the tally of what is behind them.
use Rattle.std.proofs.Common.{◌≡◌, ℕ, ◌+◌, ◌-◌, ◌/◌, ◌^◌, ◌<◌, ◌≤◌, min, max, Bool, true, false, List, [], ◌∷◌, ◌++◌, length, take, get_or, refl, sym, ap, ◌∙◌, arith}
use Rattle.std.specs.Prelude.{if◌then◌else◌, is_some, nat_lt}
use Rattle.std.proofs.lemmas.Bool.{ltb-true, ltb-false, lt-ltb, le-ltb}
use Rattle.std.proofs.lemmas.List.{append-nil, take_more}
use Rattle.std.proofs.lemmas.Nat.{le-div, mul-le}
use Rattle.std.proofs.Math.Nat.{div-mul-le_self, div-le_self}
use Rattle.tk_packer.specs.declared.ask.Ask.{Ask}
use Rattle.tk_packer.specs.declared.behind.Tally.{Tally}
use Rattle.tk_packer.specs.declared.behind.Narrow.{Narrow}
use Rattle.tk_packer.specs.Ask.{outer_length}
use Rattle.tk_packer.specs.Behind.{tally_of, narrowed, narrows_of, least_share}
use Rattle.tk_packer.specs.Parcels.{share}

-- where there is less for more, less falls to each
less_each : (a b m n : ℕ) → 0 < n → n ≤ m → a ≤ b → a / m ≤ b / n
less_each a b m n pos more less =
    le-div (a / m) b n pos (omega (arith, mul-le (a / m) n (a / m) m (omega arith) more, div-mul-le_self a m, less))

same_each : (a b m n : ℕ) → a ≡ b → m ≡ n → a / m ≡ b / n
same_each a b m n left count = ap (λ k. k / m) left ∙ ap (λ k. b / k) count

-- ── the narrow windows one after another ──
pub least_none : (left count : ℕ) → least_share left count [] ≡ left / count
unfolding least_share
least_none left count = refl

pub least_more : (left count : ℕ) (narrows : List Narrow) (narrow : Narrow)
    → least_share left count (narrows ++ narrow ∷ []) ≡ min (least_share left count narrows) ((left - narrow.excess) / (count - narrow.count + 1))
unfolding least_share
least_more left count [] narrow = omega arith
least_more left count (first ∷ narrows) narrow = omega (arith, least_more left count narrows narrow)

least_le : (left count : ℕ) (narrows : List Narrow) → least_share left count narrows ≤ left
unfolding least_share
least_le left count [] = div-le_self left count
least_le left count (narrow ∷ narrows) = omega (arith, least_le left count narrows)

pub least_within : (free along left count least : ℕ) (narrows : List Narrow) → left ≡ free - along → least ≡ least_share left count narrows → least ≤ free
least_within free along left count least narrows left_is is = omega (arith, left_is, is, least_le left count narrows)

pub least_next : (left count i : ℕ) (narrows items : List Narrow) (d : Narrow) (least beside new : ℕ) → items ≡ narrows → i < length items → least ≡ least_share left count (take i narrows)
    → beside ≡ left - (get_or items i d).excess → new ≡ min least (beside / (count - (get_or items i d).count + 1)) → new ≡ least_share left count (take (i + 1) narrows)
least_next left count i narrows items d least beside new same lt so_far room is =
    let narrow = get_or items i d in
    is ∙ ap (λ n. min n (beside / (count - narrow.count + 1))) (so_far ∙ ap (λ (ns : List Narrow). least_share left count (take i ns)) (sym same))
    ∙ ap (λ n. min (least_share left count (take i items)) (n / (count - narrow.count + 1))) room
    ∙ sym (ap (least_share left count) (take_more items i d lt) ∙ least_more left count (take i items) narrow)
    ∙ ap (λ (ns : List Narrow). least_share left count (take (i + 1) ns)) same

-- ── no share is more than what the tally leaves to each of those so far ──
across_within : (left count outer : ℕ) (tally : Tally) (s : ℕ) → 0 < count → s ≤ (left - tally.along - tally.excess) / count
    → min ((left - outer) / count) s ≤ (left - tally.along - max tally.excess (outer - tally.along)) / count
across_within left count outer tally s pos so_far = by (nat_lt tally.excess (outer - tally.along)) refl
  where
    by : (b : Bool) → nat_lt tally.excess (outer - tally.along) ≡ b → min ((left - outer) / count) s ≤ (left - tally.along - max tally.excess (outer - tally.along)) / count
    by true is =
        let more = ltb-true tally.excess (outer - tally.along) is in
        let less = less_each (left - outer) (left - tally.along - max tally.excess (outer - tally.along)) count count pos (omega arith) (omega (arith, more)) in
        omega (arith, less)
    by false is =
        let few = ltb-false tally.excess (outer - tally.along) is in
        let less = less_each (left - tally.along - tally.excess) (left - tally.along - max tally.excess (outer - tally.along)) count count pos (omega arith) (omega (arith, few)) in
        omega (arith, less, so_far)

along_within : (left count more outer : ℕ) (tally : Tally) (s : ℕ) → 0 < count → left < 2 ^ 64 → s ≤ (left - outer - tally.along - tally.excess) / (count + more)
    → s ≤ (left - min (tally.along + outer) (2 ^ 64 - 1) - tally.excess) / count
along_within left count more outer tally s pos small so_far =
    omega (arith, so_far, less_each (left - outer - tally.along - tally.excess) (left - min (tally.along + outer) (2 ^ 64 - 1) - tally.excess) (count + more) count pos (omega arith) (omega (arith, small)))

-- a tally with one more window, by whether it is along the axis and expands
abbrev pub over : Bool → Bool → ℕ → Tally → Tally
over b e outer tally =
    if b
    then record tally { along = min (tally.along + outer) (2 ^ 64 - 1); count = tally.count + (if e then 1 else 0) }
    else record tally { excess = max tally.excess (outer - tally.along) }

within_by : (b e : Bool) (left count outer : ℕ) (tally : Tally) (s : ℕ → ℕ → ℕ) → 0 < count → left < 2 ^ 64
    → s (left - outer) (count + 1) ≤ (left - outer - tally.along - tally.excess) / (count + 1)
    → s (left - outer) count ≤ (left - outer - tally.along - tally.excess) / count
    → s left count ≤ (left - tally.along - tally.excess) / count
    → (if b then s (left - outer) (if e then count + 1 else count) else min ((left - outer) / count) (s left count))
    ≤ (left - (over b e outer tally).along - (over b e outer tally).excess) / count
within_by true true left count outer tally s pos small more same across = along_within left count 1 outer tally (s (left - outer) (count + 1)) pos small more
within_by true false left count outer tally s pos small more same across =
    let as_many : (left - outer - tally.along - tally.excess) / count ≡ (left - outer - tally.along - tally.excess) / (count + 0) =
    same_each (left - outer - tally.along - tally.excess) (left - outer - tally.along - tally.excess) count (count + 0) refl (omega arith) in
    along_within left count 0 outer tally (s (left - outer) count) pos small (omega (arith, same, as_many))
within_by false e left count outer tally s pos small more same across = across_within left count outer tally (s left count) pos across

share_within : (left count : ℕ) (asks : List Ask) → 0 < count → left < 2 ^ 64 → share left count asks ≤ (left - (tally_of asks).along - (tally_of asks).excess) / count
unfolding share tally_of
share_within left count [] pos small = less_each left (left - 0 - 0) count count pos (omega arith) (omega arith)
share_within left count (ask ∷ later) pos small =
    within_by (is_some ask.edge) ask.expands left count (outer_length ask) (tally_of later) (λ l c. share l c later) pos small
    (share_within (left - outer_length ask) (count + 1) later (omega arith) (omega arith))
    (share_within (left - outer_length ask) count later pos (omega arith))
    (share_within left count later pos small)

-- ── the share is the least one ──
abbrev pub narrow_if : Bool → Tally → List Narrow
narrow_if b tally = if b then record { excess = tally.excess; count = tally.count } ∷ [] else []

pub raised : (tally other : Tally) → tally.excess < other.excess → narrowed tally other ≡ record { excess = other.excess; count = other.count } ∷ []
raised tally other more = ap (λ b. narrow_if b other) (lt-ltb tally.excess other.excess more)

pub not_raised : (tally other : Tally) → other.excess ≤ tally.excess → narrowed tally other ≡ []
not_raised tally other few = ap (λ b. narrow_if b other) (le-ltb tally.excess other.excess few)

along_is : (left all outer more : ℕ) (tally : Tally) (narrows : List Narrow) (s : ℕ) → left < 2 ^ 64 → s ≡ least_share (left - outer - tally.along) all narrows
    → s ≡ least_share (left - min (tally.along + outer) (2 ^ 64 - 1)) all
    (narrows ++ narrowed tally (record tally { along = min (tally.along + outer) (2 ^ 64 - 1); count = tally.count + more }))
along_is left all outer more tally narrows s small so_far =
    let room : left - outer - tally.along ≡ left - min (tally.along + outer) (2 ^ 64 - 1) = omega (arith, small) in
    let none = not_raised tally (record tally { along = min (tally.along + outer) (2 ^ 64 - 1); count = tally.count + more }) (omega arith) in
    so_far ∙ ap (λ n. least_share n all narrows) room
    ∙ sym (ap (λ (ns : List Narrow). least_share (left - min (tally.along + outer) (2 ^ 64 - 1)) all (narrows ++ ns)) none
    ∙ ap (least_share (left - min (tally.along + outer) (2 ^ 64 - 1)) all) (append-nil narrows))

across_by : (b : Bool) (left count all outer most : ℕ) (tally : Tally) (narrows : List Narrow) (s : ℕ) → nat_lt tally.excess most ≡ b → most ≡ max tally.excess (outer - tally.along)
    → 0 < count → all + 1 ≡ count + tally.count → s ≤ (left - tally.along - tally.excess) / count → s ≡ least_share (left - tally.along) all narrows
    → min ((left - outer) / count) s ≡ least_share (left - tally.along) all (narrows ++ narrow_if b (record tally { excess = most }))
across_by true left count all outer most tally narrows s is most_is pos counted within so_far =
    let more = ltb-true tally.excess most is in
    let beside = same_each (left - tally.along - most) (left - outer) (all - tally.count + 1) count (omega (arith, more, most_is)) (omega (arith, counted, pos)) in
    let last = least_more (left - tally.along) all narrows (record { excess = most; count = tally.count }) in
    omega (arith, last, beside, so_far)
across_by false left count all outer most tally narrows s is most_is pos counted within so_far =
    let few = ltb-false tally.excess most is in
    let less = less_each (left - tally.along - tally.excess) (left - outer) count count pos (omega arith) (omega (arith, few, most_is)) in
    let least : min ((left - outer) / count) s ≡ s = omega (arith, within, less) in
    least ∙ so_far ∙ sym (ap (least_share (left - tally.along) all) (append-nil narrows))

is_by : (b e : Bool) (left count all outer : ℕ) (tally : Tally) (narrows : List Narrow) (s : ℕ → ℕ → ℕ) → 0 < count → left < 2 ^ 64
    → (all + 1 ≡ count + 1 + tally.count → s (left - outer) (count + 1) ≡ least_share (left - outer - tally.along) all narrows)
    → (all + 1 ≡ count + tally.count → s (left - outer) count ≡ least_share (left - outer - tally.along) all narrows)
    → (all + 1 ≡ count + tally.count → s left count ≡ least_share (left - tally.along) all narrows)
    → s left count ≤ (left - tally.along - tally.excess) / count
    → all + 1 ≡ count + (over b e outer tally).count
    → (if b then s (left - outer) (if e then count + 1 else count) else min ((left - outer) / count) (s left count))
    ≡ least_share (left - (over b e outer tally).along) all (narrows ++ narrowed tally (over b e outer tally))
is_by true true left count all outer tally narrows s pos small more same across within counted =
    along_is left all outer 1 tally narrows (s (left - outer) (count + 1)) small (more (omega (arith, counted)))
is_by true false left count all outer tally narrows s pos small more same across within counted =
    along_is left all outer 0 tally narrows (s (left - outer) count) small (same (omega (arith, counted)))
is_by false e left count all outer tally narrows s pos small more same across within counted =
    let most = max tally.excess (outer - tally.along) in
    across_by (nat_lt tally.excess most) left count all outer most tally narrows (s left count) refl refl pos counted within (across counted)

pub share_is : (left count all : ℕ) (asks : List Ask) → 0 < count → left < 2 ^ 64 → all + 1 ≡ count + (tally_of asks).count
    → share left count asks ≡ least_share (left - (tally_of asks).along) all (narrows_of asks)
unfolding share tally_of narrows_of least_share
share_is left count all [] pos small is = same_each left (left - 0) count all (omega arith) (omega (arith, is))
share_is left count all (ask ∷ later) pos small is =
    is_by (is_some ask.edge) ask.expands left count all (outer_length ask) (tally_of later) (narrows_of later) (λ l c. share l c later) pos small
    (λ more. share_is (left - outer_length ask) (count + 1) all later (omega arith) (omega arith) more)
    (λ same. share_is (left - outer_length ask) count all later pos (omega arith) same)
    (λ across. share_is left count all later pos small across)
    (share_within left count later pos small) is
