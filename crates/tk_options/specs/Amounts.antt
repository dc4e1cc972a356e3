-- Steps. The amounts among a widget's options as its table keeps them beside the texts.
use Rattle.std.specs.Prelude.{◌≡◌, ℕ, List, Option, Some, None, unwrap_or}
use Rattle.std.specs.Borrow.{Bor}
use Rattle.tk_options.specs.Entries.{options_in, AreUnderTheirNames}
use Rattle.tk_options.specs.Forms.{amount_in}
use Rattle.tk_options.specs.Options.{amount_of}
use Rattle.tk_options.specs.declared.amounts.Amounts.{Amounts}
use Rattle.tk_options.specs.declared.option.OptionEntry.{OptionEntry}
use Rattle.tk_options.specs.declared.option.OptionName.{OptionName}
use Rattle.tk_options.specs.declared.option.OptionName.TheVariants.{BorderWidth, Height, PadX, PadY, Width}

-- the amount that a value spells, or 0
abbrev pub amount_read : List ℕ → ℕ
amount_read value = unwrap_or (amount_in value) 0

-- each is what reading the option's value gives
abbrev pub amounts_of : List OptionEntry → Amounts
amounts_of table = record {
  border_width = amount_of BorderWidth table;
  height = amount_of Height table;
  pad_x = amount_of PadX table;
  pad_y = amount_of PadY table;
  width = amount_of Width table;
}

-- the amount of an option that takes one
abbrev pub amount_kept : OptionName → Amounts → Option ℕ
amount_kept BorderWidth amounts = Some amounts.border_width
amount_kept Height amounts = Some amounts.height
amount_kept PadX amounts = Some amounts.pad_x
amount_kept PadY amounts = Some amounts.pad_y
amount_kept Width amounts = Some amounts.width
amount_kept _ amounts = None

-- the amounts with that of an option
abbrev pub with_amount : OptionName → ℕ → Amounts → Amounts
with_amount BorderWidth n amounts = record amounts { border_width = n }
with_amount Height n amounts = record amounts { height = n }
with_amount PadX n amounts = record amounts { pad_x = n }
with_amount PadY n amounts = record amounts { pad_y = n }
with_amount Width n amounts = record amounts { width = n }
with_amount _ n amounts = amounts

-- a table's options stand under their names, and its amounts are theirs
pub record AreKept (entries : List (Bor (List ℕ) × OptionEntry)) (amounts : Amounts) : Type 0 where
  pub named : AreUnderTheirNames entries
  pub read : amounts ≡ amounts_of (options_in entries)
