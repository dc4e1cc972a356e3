use Rattle.std.proofs.Common.{◌≡◌, ◌≢◌, ◌⊎◌, inl, inr, ◌<◌, ◌≤◌, ℕ, true, length, List, arith, ap, sym, subst}
use Rattle.std.specs.BTreeSet.{contains}
use Rattle.std.specs.Ordering.{nat_cmp}
use Rattle.tk_packer.specs.Standing.{Standing}
use Rattle.tk_packer.proofs.Sets.{gap, gap_above, gap_within}
use Rattle.tk_packer.proofs.rearranging.rearrange_all.Goals as goal

behind : (q place : ℕ) (P : Type 0) → (P → place ≤ q) → (place < q) ⊎ ((q ≢ place) × P) → place < q
behind q place P first (inl lt) = lt
behind q place P first (inr both) = (let le = first both.1 in let differ = both.0 in omega (arith, le, differ))

pub loop-place-smaller : goal.loop-place-smaller
loop-place-smaller c =
    let first = c.in-Some.ensures in
    let place : ℕ = c.in-Some.place in
    let count : ℕ = length c.loop-place.windows.shapes.items in
    let old : List ℕ = c.loop-place.windows.rearrange.keys in
    let new : List ℕ = c.rearrange_window.new.windows.rearrange.keys in
    let same : length c.rearrange_window.new.windows.shapes.items ≡ count = ap (λ (x : Standing). length x.shapes) c.in_ok-rearrange_window.ensures.parts in
    let within : place < count = c.loop-place.invariant.standing.within place first.0 in
    let below = gap_within count place new (λ q is. behind q place (contains nat_cmp c.loop-place.windows.rearrange q ≡ true) (first.1 q) (c.in_ok-rearrange_window.ensures.less q is)) in
    let above = gap_above count old place first.0 in
    subst (λ (n : ℕ). gap n new < gap count old) (sym same) (omega (arith, within, below, above))
