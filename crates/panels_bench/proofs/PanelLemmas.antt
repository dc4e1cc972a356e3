-- Lemmas on the panels of a bench.
use Rattle.std.proofs.Common.{◌≡◌, ℕ, ◌+◌, ◌<◌, List, [], ◌∷◌, ◌++◌, length, get_or, drop, Option, Some, None, refl, ap, subst, sym, append_assoc, ◌∙◌}
use Rattle.std.proofs.lemmas.List.{drop_more, append-nil}
use Rattle.toml.proofs.Views.{items_view-drop, view-Table}
use Rattle.toml.specs.Data.{Data, Items, item, no_items, array, boolean, datetime, float, integer, string, table}
use Rattle.toml.specs.View.{items_view, table_view, view}
use Rattle.toml.specs.declared.value.Value.{Value, Table}
use Rattle.tk_session.specs.declared.session.AliasLine.{AliasLine}
use Rattle.tk_session.specs.declared.session.AppBlock.{AppBlock}
use Rattle.tk_session.specs.Reading.{◌>>=◌}
use Rattle.panels_bench.specs.Panels.{AreAliases, ArePanels, IsAlias, IsPair, IsPanel, IsSide}
use Rattle.panels_bench.specs.Values.{both, pair_in, pair_of}
use Rattle.panels_bench.specs.declared.sides.Side.{Side}
use Rattle.panels_text.specs.Tables.{number_in, values_of}
use Rattle.panels_text.specs.declared.table.Part.{Part}

-- what the tables that are left say stands behind what those before said
abbrev pub Continues : List Part → List Part → List AppBlock → List Side → Type 0
Continues parts left panels sides = (more : List AppBlock) (others : List Side) → ArePanels left more others → ArePanels parts (panels ++ more) (sides ++ others)

pub panels_begin : (parts : List Part) (panels : List AppBlock) (sides : List Side) → panels ≡ [] → sides ≡ [] → Continues parts parts panels sides
panels_begin parts panels sides none no_side more others are =
    let P : List AppBlock → Type 0 = λ front. ArePanels parts (front ++ more) others in
    let Q : List Side → Type 0 = λ front. ArePanels parts (panels ++ more) (front ++ others) in
    subst Q (sym no_side) (subst P (sym none) are)

pub panels_step : (parts : List Part) (i : ℕ) (part : Part) (panels next : List AppBlock) (sides later : List Side) (panel : AppBlock) (side : Side)
    → i < length parts → part ≡ get_or parts i part
    → IsPanel (table_view part.table.now) panel → IsSide part side → next ≡ panels ++ panel ∷ [] → later ≡ sides ++ side ∷ []
    → Continues parts (drop i parts) panels sides → Continues parts (drop (i + 1) parts) next later
panels_step parts i part panels next sides later panel side lt is of_panel of_side pushed set_aside before more others rest =
    let P : List Part → Type 0 = λ left. ArePanels left (panel ∷ more) (side ∷ others) in
    let here : drop i parts ≡ part ∷ drop (i + 1) parts = drop_more parts i part lt ∙ ap (λ first. first ∷ drop (i + 1) parts) (sym is) in
    let whole = before (panel ∷ more) (side ∷ others) (subst P (sym here) ((of_panel, of_side), rest)) in
    let Q : List AppBlock → Type 0 = λ all. ArePanels parts all (sides ++ side ∷ others) in
    let R : List Side → Type 0 = λ all. ArePanels parts (next ++ more) all in
    subst R (sym (ap (λ all. all ++ others) set_aside ∙ append_assoc sides (side ∷ []) others)) (subst Q (sym (ap (λ all. all ++ more) pushed ∙ append_assoc panels (panel ∷ []) more)) whole)

pub panels_end : (parts left : List Part) (panels : List AppBlock) (sides : List Side) → left ≡ [] → Continues parts left panels sides → ArePanels parts panels sides
panels_end parts left panels sides gone before =
    let P : List Part → Type 0 = λ rest. ArePanels rest [] [] in
    let whole = before [] [] (subst P (sym gone) tt) in
    let Q : List AppBlock → Type 0 = λ all. ArePanels parts all (sides ++ []) in
    let R : List Side → Type 0 = λ all. ArePanels parts panels all in
    subst R (append-nil sides) (subst Q (append-nil panels) whole)

-- what the values that are left say stands behind what those before said
abbrev pub AliasesContinue : Items → Items → List AliasLine → Type 0
AliasesContinue values left aliases = (more : List AliasLine) → AreAliases left more → AreAliases values (aliases ++ more)

pub aliases_step : (values : Items) (all : List Value) (i : ℕ) (d : Value) (inner : _) (aliases next : List AliasLine) (alias : AliasLine) → i < length all → get_or all i d ≡ Table inner → IsAlias (table_view inner) alias
    → next ≡ aliases ++ alias ∷ [] → AliasesContinue values (items_view (drop i all)) aliases → AliasesContinue values (items_view (drop (i + 1) all)) next
aliases_step values all i d inner aliases next alias lt is of_alias pushed before more rest =
    let P : Items → Type 0 = λ left. AreAliases left (alias ∷ more) in
    let Q : Data → Type 0 = λ value. AreAliases (item value (items_view (drop (i + 1) all))) (alias ∷ more) in
    let here = subst Q (sym (ap view is ∙ view-Table inner)) (of_alias, rest) in
    let whole = before (alias ∷ more) (subst P (sym (items_view-drop all i d lt)) here) in
    let R : List AliasLine → Type 0 = λ front. AreAliases values front in
    subst R (sym (ap (λ front. front ++ more) pushed ∙ append_assoc aliases (alias ∷ []) more)) whole

pub aliases_end : (values left : Items) (aliases : List AliasLine) → left ≡ no_items → AliasesContinue values left aliases → AreAliases values aliases
aliases_end values left aliases gone before =
    let P : Items → Type 0 = λ rest. AreAliases rest [] in
    let R : List AliasLine → Type 0 = λ all. AreAliases values all in
    subst R (append-nil aliases) (before [] (subst P (sym gone) tt))

-- two numbers of an array
pub pair_said : (most : ℕ) (value : Option Data) (items : Items) (pair : ℕ × ℕ) → values_of value ≡ Some items → Some pair ≡ pair_of most items → pair_in most value ≡ Some pair
pair_said most value items pair there is = let P : Option Items → Type 0 = λ own. (own >>= pair_of most) ≡ Some pair in subst P (sym there) (sym is)

pub pair_lacking : (most : ℕ) (value : Option Data) (items : Items) → values_of value ≡ Some items → None ≡ pair_of most items → pair_in most value ≡ None
pair_lacking most value items there is = let P : Option Items → Type 0 = λ own. (own >>= pair_of most) ≡ None in subst P (sym there) (sym is)

parts : (most : ℕ) (one other : Data) (x y : Option ℕ) (pair : ℕ × ℕ) → number_in most (Some one) ≡ x → number_in most (Some other) ≡ y → Some pair ≡ both x y → (number_in most (Some one) ≡ Some pair.0) × (number_in most (Some other) ≡ Some pair.1)
parts most one other None y pair p q is = absurd (cc)
parts most one other (Some x) None pair p q is = absurd (cc)
parts most one other (Some x) (Some y) pair p q is =
    let same : pair ≡ (x, y) = cc in
    (p ∙ ap (λ (own : ℕ × ℕ). Some own.0) (sym same), q ∙ ap (λ (own : ℕ × ℕ). Some own.1) (sym same))

pub pair_is : (most : ℕ) (value : Option Data) (items : Items) (pair : ℕ × ℕ) → values_of value ≡ Some items → Some pair ≡ pair_of most items → IsPair most value pair.0 pair.1
pair_is most value no_items pair there is = absurd (cc)
pair_is most value (item one no_items) pair there is = absurd (cc)
pair_is most value (item one (item other (item third others))) pair there is = absurd (cc)
pair_is most None (item one (item other no_items)) pair there is = absurd (cc)
pair_is most (Some (array own)) (item one (item other no_items)) pair there is =
    let same : own ≡ item one (item other no_items) = cc in
    let P : Items → Type 0 = λ inner. IsPair most (Some (array inner)) pair.0 pair.1 in
    subst P (sym same) (parts most one other (number_in most (Some one)) (number_in most (Some other)) pair refl refl is)
pair_is most (Some (string own)) (item one (item other no_items)) pair there is = absurd (cc)
pair_is most (Some (integer own)) (item one (item other no_items)) pair there is = absurd (cc)
pair_is most (Some (float own)) (item one (item other no_items)) pair there is = absurd (cc)
pair_is most (Some (boolean own)) (item one (item other no_items)) pair there is = absurd (cc)
pair_is most (Some (datetime own)) (item one (item other no_items)) pair there is = absurd (cc)
pair_is most (Some (table own)) (item one (item other no_items)) pair there is = absurd (cc)
