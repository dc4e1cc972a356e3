use Rattle.std.proofs.Common.{◌≡◌, ℕ, ◌++◌, length, ap, sym, ◌∙◌, arith, List, Option}
use Rattle.tk_base.specs.declared.rect.Rect.{Rect}
use Rattle.tk_packer.specs.declared.parcel.Extent.{Extent}
use Rattle.tk_packer.specs.declared.request.Request.{Request}
use Rattle.tk_packer.specs.Parcels.{packed, arrangement}
use Rattle.tk_packer.proofs.Packing.{packed_more, packed_all}
use Rattle.tk_packer.proofs.Inside.{packed-lies, length-packed}
use Rattle.tk_packer.proofs.places.arrange.Goals as goal

pub loop-request-preserved : goal.loop-request-preserved
loop-request-preserved c =
    let places = c.loop-request.places.items in
    let columns = c.loop-request.columns in
    let rows = c.loop-request.rows in
    let left = c.in_ok-across.columns_left in
    let below = c.in_ok-down.rows_left in
    let more = packed_more places columns rows c.in-Some.request.now c.in-Some.later.now c.rect_of.result left below
    (rw (← c.in_ok-across.ensures.place, ← c.in_ok-down.ensures.place) c.rect_of.ensures)
    c.in_ok-across.ensures.cavity c.in_ok-down.ensures.cavity in
    record {
      places = ap (λ (xs : List (Option Rect)). xs ++ packed left below c.in-Some.later.now) c.in_ok-push.ensures.items
          ∙ more ∙ ap (λ (rest : List Request). places ++ packed columns rows rest) (sym c.in-Some.ensures.cases.0) ∙ c.loop-request.invariant.places;
      columns = omega (arith, c.in_ok-across.ensures.end, c.loop-request.invariant.columns);
      rows = omega (arith, c.in_ok-down.ensures.end, c.loop-request.invariant.rows);
      beside = c.in_ok-across.ensures.behind;
      below = c.in_ok-down.ensures.behind;
    }

-- the windows so far are all of them
all_placed : (size : ℕ × ℕ) (requests rest : List Request) (places : List (Option Rect)) (columns rows : Extent) → length rest ≡ 0
    → places ++ packed columns rows rest ≡ arrangement size requests → places ≡ arrangement size requests
all_placed size requests rest places columns rows none so_far = sym (packed_all places columns rows rest none) ∙ so_far

pub returns-clause-places : goal.returns-clause-places
returns-clause-places c = all_placed _ c.args.requests.now _ _ _ _ c.in_default.ensures.cases c.loop-request.invariant.places

pub returns-clause-length : goal.returns-clause-length
returns-clause-length c =
    rw (all_placed c.args.size c.args.requests.now _ _ _ _ c.in_default.ensures.cases c.loop-request.invariant.places) (length-packed _ _ c.args.requests.now)

pub returns-clause-inside : goal.returns-clause-inside
returns-clause-inside c =
    rw (all_placed c.args.size c.args.requests.now _ _ _ _ c.in_default.ensures.cases c.loop-request.invariant.places)
    (packed-lies c.args.size _ _ c.args.requests.now (omega arith) (omega arith))
