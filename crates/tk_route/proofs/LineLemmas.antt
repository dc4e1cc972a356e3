-- What one more line says.
use Rattle.std.proofs.Common.{◌≡◌, ℕ, Bool, true, false, not, if◌then◌else◌, List, [], ◌∷◌, Option, None, refl, ap, sym, ◌∙◌}
use Rattle.tk_base.specs.declared.rect.Rect.{Rect}
use Rattle.tk_route.specs.Lines.{Line, at, holder_after, is_any_held_after, under_after, values}
use Rattle.tk_route.specs.Routes.{routes, stamp_of, told}
use Rattle.tk_route.specs.Changes.{changed}
use Rattle.tk_route.specs.Values.{Values}
use Rattle.tk_route.specs.declared.delivery.Delivery.{Delivery}
use Rattle.tk_route.specs.declared.delivery.Stamp.{Stamp}
use Rattle.tk_route.specs.declared.line.HostLine.{HostLine}
use Rattle.tk_route.specs.declared.line.HostLine.TheVariants.{Move, Press, Release, Keydown, Keyup, Focus, Rect as Placed}

-- ---- who has the held buttons

none_unless : (b : Bool) (x : Option ℕ) → b ≡ false → (if not b then None else x) ≡ None
none_unless b x h = rw h

-- while all are free nobody has them
holder-free : (first : List Rect) (lines : List Line) → is_any_held_after lines ≡ false → holder_after first lines ≡ None
holder-free first [] h = refl
holder-free first (last ∷ earlier) h = none_unless (is_any_held_after (last ∷ earlier)) _ h

same_holder : (before after : Bool) (holder under : Option ℕ) → after ≡ before → (before ≡ false → holder ≡ None)
    → (if not after then None else (if before then holder else under)) ≡ holder
same_holder true after holder under same free = rw same
same_holder false after holder under same free = rw same (sym (free refl))

-- a line that leaves the buttons as they are leaves their application too
holder-kept : (first : List Rect) (line : Line) (earlier : List Line) → is_any_held_after (line ∷ earlier) ≡ is_any_held_after earlier
    → holder_after first (line ∷ earlier) ≡ holder_after first earlier
holder-kept first line earlier same =
    same_holder (is_any_held_after earlier) (is_any_held_after (line ∷ earlier)) (holder_after first earlier) (under_after first earlier)
    same (holder-free first earlier)

-- ---- all values

with_holder : List Rect → List Line → HostLine → ℕ → Option ℕ → Values
with_holder first earlier line moment holder = record (record (changed line (values first earlier)) { moment = moment }) { holder = holder }

pub values-more : (first : List Rect) (moment : ℕ) (line : HostLine) (earlier : List Line)
    → values first (at moment line ∷ earlier) ≡ record (changed line (values first earlier)) { moment = moment }
unfolding with_holder
values-more first moment (Move x y) earlier =
    ap (with_holder first earlier (Move x y) moment) (holder-kept first (at moment (Move x y)) earlier refl)
values-more first moment (Press button) earlier = refl
values-more first moment (Release button) earlier = refl
values-more first moment (Keydown key) earlier =
    ap (with_holder first earlier (Keydown key) moment) (holder-kept first (at moment (Keydown key)) earlier refl)
values-more first moment (Keyup key) earlier =
    ap (with_holder first earlier (Keyup key) moment) (holder-kept first (at moment (Keyup key)) earlier refl)
values-more first moment (Focus slot) earlier =
    ap (with_holder first earlier (Focus slot) moment) (holder-kept first (at moment (Focus slot)) earlier refl)
values-more first moment (Placed slot rect) earlier =
    ap (with_holder first earlier (Placed slot rect) moment) (holder-kept first (at moment (Placed slot rect)) earlier refl)

-- ---- who gets a line

-- the moment reached has no part in it
told-moment : (line : HostLine) (stamp : Stamp) (before after : Values) (moment : ℕ)
    → told line stamp before (record after { moment = moment }) ≡ told line stamp before after
told-moment (Move x y) stamp before after moment = refl
told-moment (Press button) stamp before after moment = refl
told-moment (Release button) stamp before after moment = refl
told-moment (Keydown key) stamp before after moment = refl
told-moment (Keyup key) stamp before after moment = refl
told-moment (Focus slot) stamp before after moment = refl
told-moment (Placed slot rect) stamp before after moment = refl

-- a router that changes as the line says, and has its moment then, holds what the lines say
pub holds-more : (first : List Rect) (earlier : List Line) (moment : ℕ) (line : HostLine) (before after : Values) → before ≡ values first earlier
    → after ≡ changed line before → record after { moment = moment } ≡ values first (at moment line ∷ earlier)
holds-more first earlier moment line before after held same =
    ap (λ (v : Values). record v { moment = moment }) (same ∙ ap (changed line) held) ∙ sym (values-more first moment line earlier)

pub routes-told : (first : List Rect) (earlier : List Line) (moment : ℕ) (line : HostLine) (before after : Values) (given : List Delivery)
    → before ≡ values first earlier → after ≡ changed line before → given ≡ told line (stamp_of moment before) before after
    → given ≡ routes first earlier (at moment line)
routes-told first earlier moment line before after given held same told_so =
    told_so ∙ sym (told-moment line (stamp_of moment before) before after moment)
    ∙ ap (λ (v : Values). told line (stamp_of moment before) before v) (holds-more first earlier moment line before after held same)
    ∙ ap (λ (v : Values). told line (stamp_of moment v) v (values first (at moment line ∷ earlier))) held
