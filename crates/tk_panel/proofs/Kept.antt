-- What binding a script leaves of the bindings of other tags.
use Rattle.std.proofs.Common.{◌≡◌, ℕ, Bool, true, false, cond, List, [], ◌∷◌, ◌++◌, refl, sym, ap, ◌∙◌}
use Rattle.std.specs.Prelude.{◌&&◌, not, filter, is_some}
use Rattle.std.specs.Str.{bytes_eq}
use Rattle.std.proofs.lemmas.List.{append-nil}
use Rattle.std.proofs.lemmas.List.Elements.{filter-append}
use Rattle.std.proofs.lemmas.Slice.Eq.{bytes_eq-Decides}
use Rattle.tk_base.specs.declared.kind.Kind.TheVariants as kind
use Rattle.tk_base.specs.Kind.{class_of}
use Rattle.tk_panel.specs.ClassBindings.{without_class, without_class_bindings}
use Rattle.tk_patterns.specs.declared.binding.Binding.{Binding}
use Rattle.tk_patterns.specs.Own.{binding_of, bound_again, has_tag, with_binding, without_tag}
use Rattle.tk_patterns.specs.Same.{same_sequence}
use Rattle.tk_sequences.specs.declared.sequence.Sequence.{Sequence}

module _ (tag : List ℕ) (sequence : Sequence) (script : List ℕ) where
  again_kept : (own : List Binding) → without_tag tag (bound_again tag sequence script own) ≡ without_tag tag own
  again_kept [] = refl
  again_kept (b ∷ own) = by (has_tag tag b) (same_sequence b.sequence sequence) refl (again_kept own)
    where
      by : (has same : Bool) → has_tag tag b ≡ has → without_tag tag (bound_again tag sequence script own) ≡ without_tag tag own
          → without_tag tag (cond (has && same) (record b { script = script } ∷ own) (b ∷ bound_again tag sequence script own)) ≡ cond (not has) (b ∷ without_tag tag own) (without_tag tag own)
      by true true is later = rw is refl
      by true false is later = rw is later
      by false same is later = rw is (ap (λ bs. b ∷ bs) later)

  new_kept : (own : List Binding) → without_tag tag (own ++ record { tag = tag; sequence = sequence; script = script } ∷ []) ≡ without_tag tag own
  new_kept own =
      let itself : bytes_eq tag tag ≡ true = (bytes_eq-Decides tag tag).1 refl in
      filter-append (λ binding. not (has_tag tag binding)) own (record { tag = tag; sequence = sequence; script = script } ∷ [])
      ∙ rw itself (append-nil (without_tag tag own))

  pub with_binding_kept : (own : List Binding) → without_tag tag (with_binding tag sequence script own) ≡ without_tag tag own
  with_binding_kept own = by (is_some (binding_of tag sequence own))
    where
      by : (b : Bool) → without_tag tag (cond b (bound_again tag sequence script own) (own ++ record { tag = tag; sequence = sequence; script = script } ∷ [])) ≡ without_tag tag own
      by true = again_kept own
      by false = new_kept own

-- ── one tag after another ──

module _ {X : Type 0} (p q : X → Bool) where
  swapped : (xs : List X) → filter p (filter q xs) ≡ filter q (filter p xs)
  swapped [] = refl
  swapped (x ∷ xs) = by (p x) (q x) refl refl (swapped xs)
    where
      by : (a b : Bool) → p x ≡ a → q x ≡ b → filter p (filter q xs) ≡ filter q (filter p xs)
          → filter p (cond b (x ∷ filter q xs) (filter q xs)) ≡ filter q (cond a (x ∷ filter p xs) (filter p xs))
      by true true pa qb later = rw (pa, qb) (ap (λ ys. x ∷ ys) later)
      by true false pa qb later = rw qb later
      by false true pa qb later = rw pa later
      by false false pa qb later = later

tags_swapped : (tag other : List ℕ) (own : List Binding) → without_tag tag (without_tag other own) ≡ without_tag other (without_tag tag own)
tags_swapped tag other own = swapped (λ binding. not (has_tag tag binding)) (λ binding. not (has_tag other binding)) own

pub button_kept : (new old : List Binding) → without_class kind.Button new ≡ without_class kind.Button old → without_class_bindings new ≡ without_class_bindings old
button_kept new old same = ap (λ own. without_class kind.Listbox (without_class kind.Entry own)) same

pub entry_kept : (new old : List Binding) → without_class kind.Entry new ≡ without_class kind.Entry old → without_class_bindings new ≡ without_class_bindings old
entry_kept new old same = at new ∙ ap (λ own. without_class kind.Listbox (without_class kind.Button own)) same ∙ sym (at old)
  where
    at : (own : List Binding) → without_class_bindings own ≡ without_class kind.Listbox (without_class kind.Button (without_class kind.Entry own))
    at own = ap (without_class kind.Listbox) (tags_swapped (class_of kind.Entry) (class_of kind.Button) own)

pub listbox_kept : (new old : List Binding) → without_class kind.Listbox new ≡ without_class kind.Listbox old → without_class_bindings new ≡ without_class_bindings old
listbox_kept new old same = at new ∙ ap (λ own. without_class kind.Entry (without_class kind.Button own)) same ∙ sym (at old)
  where
    at : (own : List Binding) → without_class_bindings own ≡ without_class kind.Entry (without_class kind.Button (without_class kind.Listbox own))
    at own =
        tags_swapped (class_of kind.Listbox) (class_of kind.Entry) (without_class kind.Button own)
        ∙ ap (without_class kind.Entry) (tags_swapped (class_of kind.Listbox) (class_of kind.Button) own)
