-- Steps over words and windows in their order.
use Rattle.std.proofs.Common.{◌≡◌, ℕ, List, [], ◌∷◌, ◌++◌, Option, Some, None, Result, Ok, Err, refl, sym, ap, ◌∙◌, append_assoc, append-nil}
use Rattle.std.specs.Prelude.{Vec, length}
use Rattle.tk_tree.specs.Own.{Tree}
use Rattle.tk_packer.specs.Packs.{Packing}
use Rattle.tk_pack_commands.specs.declared.settings.PackSetting.{PackSetting}
use Rattle.tk_pack_commands.specs.declared.targets.Target.{Target}
use Rattle.tcl_text.specs.Answers.{Gives, ◌>>=◌}
use Rattle.tcl_text.specs.declared.commands.answers.Refusal.{Refusal}
use Rattle.tcl_text.specs.declared.commands.answers.Refusal.TheVariants.{Error, NoMemory}
use Rattle.tk_pack_commands.specs.declared.settings.PackOption.{PackOption}
use Rattle.tk_pack_commands.specs.Faults.{no_value}
use Rattle.tk_pack_commands.specs.Options.{known, option_named, setting_in, settings_in, without_value}
use Rattle.tk_pack_commands.specs.Given.{GivesItems}
use Rattle.tk_pack_commands.specs.Targets.{target_in, targets_in}

-- items behind others
abbrev pub items_behind : {T : Type 0} → List T → Result (List T) (List ℕ) → Result (List T) (List ℕ)
items_behind front (Ok more) = Ok (front ++ more)
items_behind front (Err text) = Err text

pub items_behind-end : {T : Type 0} (front : List T) → items_behind front (Ok []) ≡ Ok front
items_behind-end front = ap Ok (append-nil front)

pub items_behind-err : {T : Type 0} (front : List T) (all more : Result (List T) (List ℕ)) (text : List ℕ) → items_behind front more ≡ all → more ≡ Err text → all ≡ Err text
items_behind-err front all more text is at = sym is ∙ ap (items_behind front) at

-- one more stands before those that are left
one_behind : {T : Type 0} (front : List T) (first : T) (rest : Result (List T) (List ℕ))
    → items_behind (front ++ first ∷ []) rest ≡ items_behind front (rest >>= λ others. Ok (first ∷ others))
one_behind front first (Ok others) = ap Ok (append_assoc front (first ∷ []) others)
one_behind front first (Err text) = refl

-- one more is found
pub targets_behind-more : (front : List Target) (first : Target) (path : List ℕ) (paths : List (List ℕ)) (tree : Tree)
    → target_in path tree ≡ Ok first
    → items_behind (front ++ first ∷ []) (targets_in paths tree) ≡ items_behind front (targets_in (path ∷ paths) tree)
targets_behind-more front first path paths tree is = rw is (one_behind front first (targets_in paths tree))

-- one is refused
pub targets_behind-refused : (front : List Target) (path : List ℕ) (paths : List (List ℕ)) (tree : Tree) (text : List ℕ)
    → target_in path tree ≡ Err text → items_behind front (targets_in (path ∷ paths) tree) ≡ Err text
targets_behind-refused front path paths tree text is = rw is refl

-- one more is set
pub settings_behind-more : (front : List PackSetting) (first : PackSetting) (name value : List ℕ) (words : List (List ℕ)) (targets : List Target) (tree : Tree) (packs : Packing)
    → setting_in name value targets tree packs ≡ Ok first
    → items_behind (front ++ first ∷ []) (settings_in words targets tree packs) ≡ items_behind front (settings_in (name ∷ value ∷ words) targets tree packs)
settings_behind-more front first name value words targets tree packs is = rw is (one_behind front first (settings_in words targets tree packs))

-- one is refused
pub settings_behind-refused : (front : List PackSetting) (name value : List ℕ) (words : List (List ℕ)) (targets : List Target) (tree : Tree) (packs : Packing) (text : List ℕ)
    → setting_in name value targets tree packs ≡ Err text → items_behind front (settings_in (name ∷ value ∷ words) targets tree packs) ≡ Err text
settings_behind-refused front name value words targets tree packs text is = rw is refl

-- the last lacks its value: an error, whatever would be given
abbrev failed : {A : Type 0} → List ℕ → Result A (List ℕ)
failed text = Err text

as_error : {A B : Type 0} (text other : List ℕ) → failed {A = A} text ≡ failed other → failed {A = B} text ≡ failed other
as_error text other is = (let same : text ≡ other = cc in ap failed same)

lacks_same : {A B : Type 0} (name text : List ℕ) → without_value {T = A} name ≡ Err text → without_value {T = B} name ≡ Err text
unfolding without_value
lacks_same name text is = by (option_named name) is
  where
    by : {A B : Type 0} (option : Option PackOption) → (known name option >>= λ _. no_value {T = A} name) ≡ Err text → (known name option >>= λ _. no_value {T = B} name) ≡ Err text
    by None is = as_error _ text is
    by (Some option) is = as_error _ text is

lacks : {A : Type 0} (name : List ℕ) (value : A) → without_value {T = A} name ≡ Ok value → ⊥
unfolding without_value
lacks name value is = by (option_named name) is
  where
    by : {A : Type 0} {value : A} (option : Option PackOption) → (known name option >>= λ _. no_value {T = A} name) ≡ Ok value → ⊥
    by None is = absurd (cc)
    by (Some option) is = absurd (cc)

pub settings_behind-lacking : {Z : Type 0} (front : List PackSetting) (name : List ℕ) (all : Result (List PackSetting) (List ℕ)) (given : Result (Vec PackSetting Z) Refusal)
    → items_behind front (without_value name) ≡ all → Gives given (without_value name) → GivesItems given all
settings_behind-lacking front name all (Ok list) is gives = absurd (lacks name list gives)
settings_behind-lacking front name all (Err (Error message)) is gives = sym is ∙ ap (items_behind front) (lacks_same name message gives)
settings_behind-lacking front name all (Err NoMemory) is gives = tt

pub no_more : {X : Type 0} (xs : List X) → length xs ≡ 0 → xs ≡ []
no_more [] is = refl
no_more (x ∷ xs) is = absurd (cc)
