-- The options of a widget, as the map of a table has them.
use Rattle.std.proofs.Common.{◌≡◌, ℕ, List, [], ◌∷◌, Some, None, Result, Ok, Err, OnOk, OnErr, Bool, true, false, cond, bytes_eq, Bor, refl, sym, ap, subst, ◌∙◌}
use Rattle.std.specs.Prelude.{find, fold}
use Rattle.std.specs.Cmp.Lexicographic.{pointwise}
use Rattle.std.specs.Map.{lookup, set_value}
use Rattle.std.proofs.Common.{nat_eq}
use Rattle.std.proofs.lemmas.Slice.Eq.{bytes_eq-Decides}
use Rattle.indexmap.specs.IndexMap.{insert_entry}
use Rattle.tk_base.specs.declared.kind.Kind.{Kind}
use Rattle.tk_base.specs.declared.kind.Kind.TheVariants as kind
use Rattle.tk_options.specs.declared.option.OptionEntry.{OptionEntry}
use Rattle.tk_options.specs.Entries.{options_in, AreUnderTheirNames, with_option}
use Rattle.tk_options.specs.Names.{name_of}
use Rattle.tk_options.specs.Options.{is_named, first_set}
use Rattle.tk_options.specs.Rows.{options_of}

-- what a map under names has
abbrev pub Named : Type 0
Named = List (Bor (List ℕ) × OptionEntry)

same_either_way : (xs ys : List ℕ) → bytes_eq xs ys ≡ bytes_eq ys xs
same_either_way xs ys = by (bytes_eq xs ys) (bytes_eq ys xs) refl refl
  where
    by : (a b : Bool) → bytes_eq xs ys ≡ a → bytes_eq ys xs ≡ b → bytes_eq xs ys ≡ bytes_eq ys xs
    by true b is at = is ∙ sym ((bytes_eq-Decides ys xs).1 (sym ((bytes_eq-Decides xs ys).0 is)))
    by false true is at = (bytes_eq-Decides xs ys).1 (sym ((bytes_eq-Decides ys xs).0 at)) ∙ sym at
    by false false is at = is ∙ sym at

-- the test of a map is that of the list
key_is : (name key option : List ℕ) → key ≡ option → bytes_eq name key ≡ bytes_eq option name
key_is name key option is = ap (bytes_eq name) is ∙ same_either_way name option

-- what a map finds is what the list finds
pub lookup-named : (name : List ℕ) (es : Named) → AreUnderTheirNames es → lookup (λ k. bytes_eq name k.now) es ≡ find (is_named name) (options_in es)
lookup-named name [] named = refl
lookup-named name (e ∷ es) named =
    ap (λ (b : Bool). cond b (Some e.1) (lookup (λ k. bytes_eq name k.now) es)) (key_is name e.0.now (name_of e.1.option) named.0)
    ∙ ap (cond (is_named name e.1) (Some e.1)) (lookup-named name es named.1)

-- what is inserted under its name
pub named-inserted : (key : Bor (List ℕ)) (option : OptionEntry) (es : Named) → key.now ≡ name_of option.option → AreUnderTheirNames es
    → (AreUnderTheirNames (insert_entry (λ x y. pointwise nat_eq x.now y.now) es key option))
    × (options_in (insert_entry (λ x y. pointwise nat_eq x.now y.now) es key option) ≡ with_option option (options_in es))
named-inserted key option [] is named = ((is, tt), refl)
named-inserted key option (e ∷ es) is named = by (bytes_eq key.now e.0.now) refl (named-inserted key option es is named.1)
  where
    same : bytes_eq key.now e.0.now ≡ is_named (name_of option.option) e.1
    same = key_is key.now e.0.now (name_of e.1.option) named.0 ∙ ap (bytes_eq (name_of e.1.option)) is

    inserted : Named
    inserted = insert_entry (λ x y. pointwise nat_eq x.now y.now) es key option

    by : (b : Bool) → bytes_eq key.now e.0.now ≡ b → (AreUnderTheirNames inserted) × (options_in inserted ≡ with_option option (options_in es))
        → (AreUnderTheirNames (cond b ((e.0, option) ∷ es) (e ∷ inserted)))
        × (options_in (cond b ((e.0, option) ∷ es) (e ∷ inserted)) ≡ cond (is_named (name_of option.option) e.1) (option ∷ options_in es) (e.1 ∷ with_option option (options_in es)))
    by true at rest = (
      (sym ((bytes_eq-Decides key.now e.0.now).0 at) ∙ is, named.1),
      ap (λ (b : Bool). cond b (option ∷ options_in es) (e.1 ∷ with_option option (options_in es))) (sym at ∙ same),
    )
    by false at rest = (
      (named.0, rest.0),
      ap (λ (xs : List OptionEntry). e.1 ∷ xs) rest.1 ∙ ap (λ (b : Bool). cond b (option ∷ options_in es) (e.1 ∷ with_option option (options_in es))) (sym at ∙ same),
    )

-- after an insertion, which may be refused, each is under its name
pub still-named : {V E : Type 0} (key : Bor (List ℕ)) (option : OptionEntry) (old new : Named) (r : Result V E) → key.now ≡ name_of option.option → AreUnderTheirNames old
    → OnOk r (new ≡ insert_entry (λ x y. pointwise nat_eq x.now y.now) old key option) → OnErr r (new ≡ old) → AreUnderTheirNames new
still-named key option old new (Ok v) is named ok err = subst AreUnderTheirNames (sym ok) (named-inserted key option old is named).0
still-named key option old new (Err e) is named ok err = subst AreUnderTheirNames (sym err) named

-- a value written where a name is found
pub named-written : (name value : List ℕ) (found : OptionEntry) (es : Named) → AreUnderTheirNames es → lookup (λ k. bytes_eq name k.now) es ≡ Some found
    → (AreUnderTheirNames (set_value (λ k. bytes_eq name k.now) es (record found { value = value })))
    × (options_in (set_value (λ k. bytes_eq name k.now) es (record found { value = value })) ≡ first_set (is_named name) value (options_in es))
named-written name value found [] named at = absurd (cc)
named-written name value found (e ∷ es) named at = by (bytes_eq name e.0.now) refl at (named-written name value found es named.1)
  where
    test : Bor (List ℕ) → Bool
    test = λ k. bytes_eq name k.now

    put : OptionEntry
    put = record found { value = value }

    by : (b : Bool) → bytes_eq name e.0.now ≡ b → cond b (Some e.1) (lookup test es) ≡ Some found
        → (lookup test es ≡ Some found → (AreUnderTheirNames (set_value test es put)) × (options_in (set_value test es put) ≡ first_set (is_named name) value (options_in es)))
        → (AreUnderTheirNames (cond b ((e.0, put) ∷ es) (e ∷ set_value test es put)))
        × (options_in (cond b ((e.0, put) ∷ es) (e ∷ set_value test es put))
        ≡ cond (is_named name e.1) ((record e.1 { value = value }) ∷ options_in es) (e.1 ∷ first_set (is_named name) value (options_in es)))
    by true is here rest =
        let same : e.1 ≡ found = cc in (
          (named.0 ∙ ap (λ (x : OptionEntry). name_of x.option) same, named.1),
          ap (λ (x : OptionEntry). (record x { value = value }) ∷ options_in es) (sym same)
              ∙ ap (λ (b : Bool). cond b ((record e.1 { value = value }) ∷ options_in es) (e.1 ∷ first_set (is_named name) value (options_in es)))
              (sym is ∙ key_is name e.0.now (name_of e.1.option) named.0),
        )
    by false is here rest = (
      (named.0, (rest here).0),
      ap (λ (xs : List OptionEntry). e.1 ∷ xs) (rest here).1
          ∙ ap (λ (b : Bool). cond b ((record e.1 { value = value }) ∷ options_in es) (e.1 ∷ first_set (is_named name) value (options_in es)))
          (sym is ∙ key_is name e.0.now (name_of e.1.option) named.0),
    )

-- a name that isn't found has no value to be set
pub not-found : (name value : List ℕ) (es : Named) → AreUnderTheirNames es → lookup (λ k. bytes_eq name k.now) es ≡ None
    → options_in es ≡ first_set (is_named name) value (options_in es)
not-found name value [] named at = refl
not-found name value (e ∷ es) named at = by (bytes_eq name e.0.now) refl at (not-found name value es named.1)
  where
    by : (b : Bool) → bytes_eq name e.0.now ≡ b → cond b (Some e.1) (lookup (λ k. bytes_eq name k.now) es) ≡ None
        → (lookup (λ k. bytes_eq name k.now) es ≡ None → options_in es ≡ first_set (is_named name) value (options_in es))
        → e.1 ∷ options_in es ≡ cond (is_named name e.1) ((record e.1 { value = value }) ∷ options_in es) (e.1 ∷ first_set (is_named name) value (options_in es))
    by true is none rest = absurd (cc)
    by false is none rest =
        ap (λ (xs : List OptionEntry). e.1 ∷ xs) (rest none)
        ∙ ap (λ (b : Bool). cond b ((record e.1 { value = value }) ∷ options_in es) (e.1 ∷ first_set (is_named name) value (options_in es)))
        (sym is ∙ key_is name e.0.now (name_of e.1.option) named.0)

-- the options with some more
abbrev pub with_options : List OptionEntry → List OptionEntry → List OptionEntry
with_options options more = fold (λ entries entry. with_option entry entries) options more

-- the names of each kind's options differ
pub each_is_new : (k : Kind) → with_options [] (options_of k) ≡ options_of k
each_is_new kind.Frame = refl
each_is_new kind.Label = refl
each_is_new kind.Button = refl
each_is_new kind.Entry = refl
each_is_new kind.Listbox = refl
