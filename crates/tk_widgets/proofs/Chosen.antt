-- The selection changed item by item.
use Rattle.std.proofs.Common.{◌≡◌, ℕ, zero, suc, ◌+◌, ◌<◌, List, [], ◌∷◌, ◌++◌, length, map, take, drop, set, get_or, refl, sym, ap, ◌∙◌, arith}
use Rattle.std.specs.List.{enumerate_from}
use Rattle.tk_widgets.specs.declared.items.Item.{Item}
use Rattle.tk_widgets.specs.declared.choice.Choice.{Choice}
use Rattle.tcl_text.specs.Readings.{list_form}
use Rattle.tk_widgets.specs.Items.{texts}
use Rattle.tk_widgets.specs.Kept.{IsKept}
use Rattle.tk_widgets.specs.Listboxes.{choice, chosen, selected_by}

-- the item at a place after a choice
abbrev pub changed : Choice → ℕ → Item → Item
changed how place item = record { text = item.text; selected = choice how place item.selected }

-- the items after it, where the first stands at a place
abbrev pub chosen_from : Choice → ℕ → List Item → List Item
chosen_from how start items = map (chosen how) (enumerate_from start items)

-- one item on
pub chosen_from-more : (how : Choice) (start place : ℕ) (items : List Item) (p : ℕ) (d : Item) → start + p ≡ place → p < length items
    → set (chosen_from how start (take p items) ++ drop p items) p (changed how place (get_or (chosen_from how start (take p items) ++ drop p items) p d))
    ≡ chosen_from how start (take (p + 1) items) ++ drop (p + 1) items
chosen_from-more how start place [] p d is lt = absurd (omega arith)
chosen_from-more how start place (item ∷ items) zero d is lt =
    let same : place ≡ start = omega arith in ap (λ (k : ℕ). changed how k item ∷ items) same
chosen_from-more how start place (item ∷ items) (suc p) d is lt =
    let next : suc p + 1 ≡ suc (p + 1) = omega arith in
    ap (λ (others : List Item). changed how start item ∷ others) (chosen_from-more how (start + 1) place items p d (omega arith) (omega arith))
    ∙ sym (ap (λ (k : ℕ). chosen_from how start (take k (item ∷ items)) ++ drop k (item ∷ items)) next)

-- what is kept beside the items doesn't depend on the selection
texts-chosen_from : (how : Choice) (start : ℕ) (items : List Item) → texts (chosen_from how start items) ≡ texts items
texts-chosen_from how start [] = refl
texts-chosen_from how start (item ∷ items) = ap (λ (all : List (List ℕ)). item.text ∷ all) (texts-chosen_from how (start + 1) items)

length-chosen_from : (how : Choice) (start : ℕ) (items : List Item) → length (chosen_from how start items) ≡ length items
length-chosen_from how start [] = refl
length-chosen_from how start (item ∷ items) = ap suc (length-chosen_from how (start + 1) items)

pub IsKept-selected_by : (how : Choice) (items now : List Item) (list : List ℕ) (active : ℕ) → now ≡ selected_by how items → IsKept items list active → IsKept now list active
IsKept-selected_by how items now list active is kept = record {
  list_is = kept.list_is ∙ ap list_form (sym (texts-chosen_from how 0 items) ∙ ap texts (sym is));
  active_is = omega (arith, kept.active_is, length-chosen_from how 0 items, ap length is);
}
