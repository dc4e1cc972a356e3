-- A kept list to which another is added.
use Rattle.std.proofs.Common.{◌≡◌, ℕ, ◌+◌, ◌≤◌, List, ◌++◌, take, length, arith, ap, sym, ◌∙◌}
use Rattle.tcl_text.specs.ListForm.{others_form}
use Rattle.tcl_text.specs.ListString.{AreEnds, KeepsList, ends_behind, items_kept}
use Rattle.tcl_text.proofs.KeptLists.{ends-append_first, kept_items}
use Rattle.tcl_text.proofs.KeptSteps.{KeepsList-made, width-append}
use Rattle.tcl_text.proofs.ListFormLemmas.{others_form-append}

-- its places may be moved behind a string that leaves room for it
pub ends_movable : (string ends shown : List ℕ) (seen : List (List ℕ)) (place : ℕ) → KeepsList string ends seen → shown ≡ ends → place + length (others_form seen) ≤ 65537 → AreEnds 0 place shown
ends_movable string ends shown seen place h is room = record { items = seen; places = is ∙ h.places; short = room }

pub forms_behind : (string ends shown before after : List ℕ) (seen : List (List ℕ)) → KeepsList string ends seen → shown ≡ string → after ≡ before ++ shown → after ≡ before ++ others_form seen
forms_behind string ends shown before after seen h is pushed = pushed ∙ ap (λ (t : List ℕ). before ++ t) (is ∙ h.forms)

pub places_behind : (string ends shown before after : List ℕ) (seen : List (List ℕ)) (place end : ℕ) → KeepsList string ends seen → shown ≡ ends → end ≡ place
    → ((items : List (List ℕ)) → shown ≡ ends_behind 0 items → after ≡ before ++ ends_behind end items) → after ≡ before ++ ends_behind place seen
places_behind string ends shown before after seen place end h is same pushed = pushed seen (is ∙ h.places) ∙ ap (λ (p : ℕ). before ++ ends_behind p seen) same

-- both grow
grown_forms : (string ends grown : List ℕ) (seen more : List (List ℕ)) → KeepsList string ends seen → grown ≡ string ++ others_form more → grown ≡ others_form (seen ++ more)
grown_forms string ends grown seen more h is = is ∙ ap (λ (t : List ℕ). t ++ others_form more) h.forms ∙ sym (others_form-append seen more)

pub grown_keeps : (string ends grown grown_ends : List ℕ) (seen more : List (List ℕ)) → KeepsList string ends seen → length (others_form seen) + length (others_form more) ≤ 65537
    → grown ≡ string ++ others_form more → grown_ends ≡ ends ++ ends_behind (length string) more → KeepsList grown grown_ends (items_kept grown)
grown_keeps string ends grown grown_ends seen more h room forms places =
    let whole = grown_forms string ends grown seen more h forms in
    let sum = width-append seen more in
    let both : ends ++ ends_behind (length string) more ≡ ends_behind 0 seen ++ ends_behind (length (others_form seen)) more = λ k. h.places k ++ ends_behind (length (h.forms k)) more in
    KeepsList-made grown grown_ends (seen ++ more) whole (places ∙ both ∙ sym (ends-append_first seen more)) (omega (arith, ap length whole, sum))

pub grown_items : (string ends grown : List ℕ) (seen more : List (List ℕ)) → KeepsList string ends seen → grown ≡ string ++ others_form more → items_kept grown ≡ seen ++ more
grown_items string ends grown seen more h forms = kept_items grown (seen ++ more) (grown_forms string ends grown seen more h forms)

-- or stay as they were
pub stayed_keeps : (string ends same cut rest : List ℕ) (seen : List (List ℕ)) (count : ℕ) → KeepsList string ends seen → same ≡ string → take (length ends) cut ≡ ends → count ≡ length ends
    → rest ≡ take count cut → KeepsList same rest (items_kept same)
stayed_keeps string ends same cut rest seen count h is front counted left =
    KeepsList-made same rest seen (is ∙ h.forms) (left ∙ ap (λ (n : ℕ). take n cut) counted ∙ front ∙ h.places) (omega (arith, ap length is, h.short))

pub stayed_items : (string ends same : List ℕ) (seen : List (List ℕ)) → KeepsList string ends seen → same ≡ string → items_kept same ≡ seen
stayed_items string ends same seen h is = kept_items same seen (is ∙ h.forms)
