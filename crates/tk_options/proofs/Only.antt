-- The only option whose name begins with a word, by the first place at which one stands.
use Rattle.std.proofs.Common.{◌≡◌, ℕ, ◌+◌, List, [], ◌∷◌, get_or, drop, Option, Some, None, Ok, Err, Bool, true, false, refl, sym, ap, ◌∙◌}
use Rattle.std.specs.Prelude.{filter, position}
use Rattle.std.specs.Option.{is_some}
use Rattle.tk_options.specs.declared.fault.OptionFault.TheVariants.{UnknownOption, Ambiguous}
use Rattle.tk_options.specs.declared.option.OptionEntry.{OptionEntry}
use Rattle.tk_options.specs.declared.form.Form.TheVariants.{AnyText}
use Rattle.tk_options.specs.declared.option.OptionName.TheVariants.{Text}
use Rattle.tk_options.specs.Rows.{row}
use Rattle.tk_options.specs.Options.{is_begun, only}
use Rattle.tk_options.proofs.Places.{filter_at, filter_nowhere}

-- where the first option stands that begins with a word, by what was found for the same bytes
pub found_at : (word said : List ℕ) (entries : List OptionEntry) (found place : Option ℕ) → said ≡ word → found ≡ position (is_begun said) entries → found ≡ place
    → position (is_begun word) entries ≡ place
found_at word said entries found place same is here = ap (λ (w : List ℕ). position (is_begun w) entries) (sym same) ∙ sym is ∙ here

pub only_none : (word : List ℕ) (p : OptionEntry → Bool) (entries : List OptionEntry) → position p entries ≡ None
    → only word (filter p entries) ≡ Err (UnknownOption word)
only_none word p entries none = ap (only word) (filter_nowhere p entries none)

pub only_one : (word : List ℕ) (p : OptionEntry → Bool) (entries others : List OptionEntry) (place : ℕ) (entry : OptionEntry)
    → position p entries ≡ Some place → others ≡ drop (place + 1) entries → entry ≡ get_or entries place entry
    → is_some (position p others) ≡ false → only word (filter p entries) ≡ Ok entry
only_one word p entries others place entry at behind is none = by (position p others) refl none
  where
    by : (o : Option ℕ) → position p others ≡ o → is_some o ≡ false → only word (filter p entries) ≡ Ok entry
    by (Some k) second none = absurd (cc)
    by None second none =
        ap (only word) (filter_at p entries place entry at)
        ∙ ap (λ (xs : List OptionEntry). only word (get_or entries place entry ∷ filter p xs)) (sym behind)
        ∙ ap (λ (xs : List OptionEntry). only word (get_or entries place entry ∷ xs)) (filter_nowhere p others second)
        ∙ ap (λ (x : OptionEntry). only word (x ∷ [])) (sym is)

-- some option, for places that have none
some_entry : OptionEntry
some_entry = row Text AnyText []

pub only_many : (word : List ℕ) (p : OptionEntry → Bool) (entries others : List OptionEntry) (place : ℕ)
    → position p entries ≡ Some place → others ≡ drop (place + 1) entries
    → is_some (position p others) ≡ true → only word (filter p entries) ≡ Err (Ambiguous word)
only_many word p entries others place at behind some = by (position p others) refl some
  where
    by : (o : Option ℕ) → position p others ≡ o → is_some o ≡ true → only word (filter p entries) ≡ Err (Ambiguous word)
    by None second some = absurd (cc)
    by (Some k) second some =
        ap (only word) (filter_at p entries place some_entry at)
        ∙ ap (λ (xs : List OptionEntry). only word (get_or entries place some_entry ∷ filter p xs)) (sym behind)
        ∙ ap (λ (xs : List OptionEntry). only word (get_or entries place some_entry ∷ xs)) (filter_at p others k some_entry second)
