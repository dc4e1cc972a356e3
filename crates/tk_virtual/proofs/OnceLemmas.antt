-- Pairs of which none stands twice.
use Rattle.std.proofs.Common.{◌≡◌, ℕ, zero, suc, ◌<◌, Bool, false, ◌||◌, List, [], ◌∷◌, length, take, get_or, refl, sym, ap, ◌∙◌, arith}
use Rattle.std.specs.Bool.{one_answer}
use Rattle.std.specs.List.{IsDistinct, list_any}
use Rattle.std.specs.Str.{bytes_eq}
use Rattle.std.proofs.lemmas.List.Elements.{All-from_recursion}
use Rattle.std.proofs.lemmas.Map.Keys.{IsDistinct-head, IsDistinct-tail}
use Rattle.std.proofs.lemmas.Slice.Eq.{bytes_eq-Decides}
use Rattle.tk_sequences.specs.Writing.{canonical}
use Rattle.tk_virtual.specs.Virtual.{is_same}
use Rattle.tk_virtual.specs.declared.pair.Pair.{Pair}

equal_back : (one other : List ℕ) → bytes_eq one other ≡ bytes_eq other one
equal_back one other =
    let back = bytes_eq-Decides other one in
    one_answer (bytes_eq one other) (bytes_eq other one) (bytes_eq-Decides one other) (λ t. sym (back.0 t), λ is. back.1 (sym is))

pub same_back : (one other : Pair) → is_same one other ≡ is_same other one
same_back one other = rw (equal_back other.name one.name, equal_back (canonical other.sequence) (canonical one.sequence)) refl

-- none before a pair is the same
pub not_before : (pairs : List Pair) (i : ℕ) (pair : Pair) → IsDistinct is_same pairs → i < length pairs → pair ≡ get_or pairs i pair
    → list_any (is_same pair) (take i pairs) ≡ false
not_before [] i pair once within is = absurd (omega arith)
not_before (first ∷ rest) zero pair once within is = refl
not_before (first ∷ rest) (suc i) pair once within is =
    let other : is_same pair first ≡ false =
    same_back pair first ∙ ap (is_same first) is
    ∙ All-from_recursion (λ later. is_same first later ≡ false) rest (IsDistinct-head is_same first rest once) i pair (omega arith) in
    ap (λ t. t || list_any (is_same pair) (take i rest)) other ∙ not_before rest i pair (IsDistinct-tail is_same first rest once) (omega arith) is
