use Rattle.std.proofs.Common.{◌≡◌, ◌≢◌, ◌⊎◌, inl, inr, ℕ, ◌<◌, ◌≤◌, true, arith}
use Rattle.std.specs.BTreeSet.{contains}
use Rattle.std.specs.Ordering.{nat_cmp}
use Rattle.tk_packer.proofs.Sets.{top_above, top_within}
use Rattle.tk_packer.proofs.resizing.resize_all.Goals as goal

before : (q place : ℕ) (P : Type 0) → (P → q ≤ place) → (q < place) ⊎ ((q ≢ place) × P) → q < place
before q place P last (inl lt) = lt
before q place P last (inr both) = (let le = last both.1 in let differ = both.0 in omega (arith, le, differ))

pub loop-place-smaller : goal.loop-place-smaller
loop-place-smaller c =
    let last = c.in-Some.ensures in
    let place = c.in-Some.place in
    let below = top_within c.note_size.new.windows.resize.keys place (λ q is. before q place (contains nat_cmp c.loop-place.windows.resize q ≡ true) (last.1 q) (c.in_ok-note_size.ensures.less q is)) in
    let above = top_above c.loop-place.windows.resize.keys place last.0 in
    omega (arith, below, above)
