-- Meaning. What values options take, and how they are kept.
use Rattle.std.specs.Prelude.{ℕ, ℤ, pos, negsuc, Bool, nat_le, if◌then◌else◌, List, [], ◌∷◌, Option, Some, None, option_map, codes}
use Rattle.std.specs.Fmt.{decimal}
use Rattle.std.specs.List.{list_any}
use Rattle.std.specs.Str.{bytes_eq}
use Rattle.tcl_text.specs.Readings.{integer_of}
use Rattle.tk_options.specs.declared.form.Form.{Form}
use Rattle.tk_options.specs.declared.form.Form.TheVariants.{Amount, Relief, Anchor, ButtonState, EntryState, SelectMode, AnyText}

-- the most pixels, columns or lines that an option takes
abbrev pub most_amount : ℕ
most_amount = 32767

-- a number of pixels, columns or lines
abbrev pub amount : Option ℤ → Option ℕ
amount (Some (pos n)) = if nat_le n most_amount then Some n else None
amount (Some (negsuc n)) = None
amount None = None

unfoldable pub amount_in : List ℕ → Option ℕ
amount_in text = amount (integer_of text)

-- the words of a form
abbrev pub words_of : Form → List (List ℕ)
words_of Relief = codes "flat" ∷ codes "raised" ∷ codes "sunken" ∷ codes "groove" ∷ codes "ridge" ∷ codes "solid" ∷ []
words_of Anchor =
    codes "center" ∷ codes "n" ∷ codes "ne" ∷ codes "e" ∷ codes "se" ∷ codes "s" ∷ codes "sw" ∷ codes "w" ∷ codes "nw" ∷ []
words_of ButtonState = codes "normal" ∷ codes "active" ∷ codes "disabled" ∷ []
words_of EntryState = codes "normal" ∷ codes "disabled" ∷ codes "readonly" ∷ []
words_of SelectMode = codes "single" ∷ codes "browse" ∷ codes "multiple" ∷ []
words_of Amount = []
words_of AnyText = []

abbrev pub is_word_of : Form → List ℕ → Bool
is_word_of form text = list_any (λ word. bytes_eq text word) (words_of form)

abbrev pub word_in : Form → List ℕ → Option (List ℕ)
word_in form text = if is_word_of form text then Some text else None

-- a value as it is kept: an amount in decimal, one of the words as it is written, any text as it is
abbrev pub value_in : Form → List ℕ → Option (List ℕ)
value_in Amount text = option_map decimal (amount_in text)
value_in AnyText text = Some text
value_in Relief text = word_in Relief text
value_in Anchor text = word_in Anchor text
value_in ButtonState text = word_in ButtonState text
value_in EntryState text = word_in EntryState text
value_in SelectMode text = word_in SelectMode text
