-- Steps. Adding to the integer that a variable is.
use Rattle.std.specs.Prelude.{◌≡◌, ℕ, ℤ, ◌+ℤ◌, FitsSigned, List, Some, Ok}
use Rattle.std.specs.Int.{w64}
use Rattle.std.specs.Fmt.{signed_decimal}
use Rattle.tcl_text.specs.Readings.{integer_of}
use Rattle.tcl_vars.specs.declared.content.Content.{Content}
use Rattle.tcl_vars.specs.declared.content.Content.TheVariants.{Scalar}
use Rattle.tcl_vars.specs.Put.{PutsText}
use Rattle.tcl_vars.specs.Store.{Store, Frame, variable_in, variable_place, with_variable}
use Rattle.tcl_vars.specs.Table.{value_at}

-- the sum of the integer that a text is and an amount, where 64 bits hold it, in decimal
pub record IsSum (held : List ℕ) (amount : ℤ) (sum : List ℕ) : Type 0 where
  pub number : ℤ
  pub read : integer_of held ≡ Some number
  pub fits : FitsSigned w64 (number +ℤ amount)
  pub written : sum ≡ signed_decimal (number +ℤ amount)

-- the content is a text, which becomes a sum
abbrev pub AddsContent : Content → ℤ → List ℕ → Content → Type 0
AddsContent old amount sum new = (held : List ℕ) × (old ≡ Scalar held) × IsSum held amount sum × (new ≡ Scalar sum)

-- the variable of a frame has a text, which becomes a sum
pub record AddsText (old : Frame) (variable : List ℕ) (amount : ℤ) (sum : List ℕ) (new : Frame) : Type 0 where
  pub held : List ℕ
  pub content : value_at old variable ≡ Some (Scalar held)
  pub is : IsSum held amount sum
  pub set : (frame room : ℕ) → PutsText old (variable_place frame variable) sum room 0 new

-- the variable that a name means in a frame is set to a sum
pub record Adds (old : Store) (frame : ℕ) (name : List ℕ) (amount : ℤ) (sum : List ℕ) (new : Store) : Type 0 where
  pub held : List ℕ
  pub read : variable_in old frame name ≡ Ok held
  pub is : IsSum held amount sum
  pub set : with_variable old frame name sum ≡ Ok new
