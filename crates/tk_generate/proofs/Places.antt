-- Events that tell no place: the corner of their window is no part of them.
use Rattle.std.proofs.Common.{◌≡◌, ℕ, ℤ, Bool, true, false, cond, List, Option, None, Some, Result, Ok, refl, sym, ap, ◌∙◌}
use Rattle.std.specs.Prelude.{◌||◌, is_some}
use Rattle.tcl_text.specs.Answers.{◌>>=◌}
use Rattle.tk_generate.specs.declared.asked.EventRequest.{EventRequest}
use Rattle.tk_generate.specs.declared.asked.EventRequest.TheVariants as asks
use Rattle.tk_generate.specs.declared.generate.Receiver.{Receiver}
use Rattle.tk_generate.specs.declared.given.Given.{Given}
use Rattle.tk_generate.specs.Fields.{button_for, detail_for, from_corner, is_inside, is_of_pointer, key_for, may_have_place, place_for, root_for, state_for}
use Rattle.tk_generate.specs.Generate.{event_in}
use Rattle.tk_generate.specs.Told.{is_by_pointer, tells_place}
use Rattle.tk_sequences.specs.declared.event.Event.{Event}
use Rattle.tk_sequences.specs.declared.event.EventKind.TheVariants.{Physical}
use Rattle.tk_sequences.specs.declared.event_type.EventType.{EventType}
use Rattle.tk_sequences.specs.declared.pattern.Pattern.{Pattern}
use Rattle.tk_sequences.specs.Event.{bare_event}
use Rattle.tk_tree.specs.declared.corner.Corner.{Corner}

none_of : (a b c : Bool) → (a || b) || c ≡ false → (a ≡ false) × (b ≡ false) × (c ≡ false)
none_of false false false e = (refl, refl, refl)
none_of false false true e = cc
none_of false true c e = cc
none_of true b c e = cc

no_place : (place : Option ℤ) → is_some place ≡ false → place ≡ None
no_place None e = refl
no_place (Some x) e = cc

either_way : (b : Bool) (place : Option ℤ) → cond b place place ≡ place
either_way true place = refl
either_way false place = refl

placeless : (kind : EventType) → is_of_pointer kind ≡ false → place_for kind None ≡ None
placeless kind away = rw away (either_way (may_have_place kind) None)

rootless : (kind : EventType) (given : Option ℤ) (corner other : ℕ) → given ≡ None → is_of_pointer kind ≡ false → root_for kind given corner ≡ root_for kind given other
rootless kind given corner other none away =
    let place : place_for kind given ≡ None = ap (place_for kind) none ∙ placeless kind away in
    ap (λ (place : Option ℤ). cond (is_inside kind) (from_corner place corner) None) place
    ∙ ap (λ (place : Option ℤ). cond (is_inside kind) (from_corner place other) None) (sym place)

rooted : Pattern → Given → Receiver → ℕ → Option ℤ → Option ℤ → Result Event (List ℕ)
rooted pattern given receiver moment root_x root_y = do
  key ← key_for pattern given.keysym
  button ← button_for pattern given.button
  Ok (record (bare_event (Physical pattern.kind) receiver.number receiver.path moment) {
    state = state_for pattern given.state;
    x = place_for pattern.kind given.x;
    y = place_for pattern.kind given.y;
    root_x = root_x;
    root_y = root_y;
    button = button;
    key = key;
    detail = detail_for pattern.kind given.detail;
  })

told_nowhere : (asked : EventRequest) (given : Given) (receiver : Receiver) (corner other : Corner) (moment : ℕ)
    → given.x ≡ None → given.y ≡ None → is_by_pointer asked ≡ false → event_in asked given receiver corner moment ≡ event_in asked given receiver other moment
unfolding rooted
told_nowhere (asks.Physical pattern) given receiver corner other moment no_x no_y away =
    ap (λ root. rooted pattern given receiver moment root (root_for pattern.kind given.y corner.y)) (rootless pattern.kind given.x corner.x other.x no_x away)
    ∙ ap (λ root. rooted pattern given receiver moment (root_for pattern.kind given.x other.x) root) (rootless pattern.kind given.y corner.y other.y no_y away)
told_nowhere (asks.Virtual name) given receiver corner other moment no_x no_y away = rw (no_x, no_y) refl

pub same_anywhere : (asked : EventRequest) (given : Given) (receiver : Receiver) (corner other : Corner) (moment : ℕ)
    → tells_place asked given ≡ false → event_in asked given receiver corner moment ≡ event_in asked given receiver other moment
same_anywhere asked given receiver corner other moment untold =
    let none = none_of (is_some given.x) (is_some given.y) (is_by_pointer asked) untold in
    told_nowhere asked given receiver corner other moment (no_place given.x none.0) (no_place given.y none.1) none.2
