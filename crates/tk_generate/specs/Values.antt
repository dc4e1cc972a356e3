-- Meaning. What the values of options are read as.
use Rattle.std.specs.Prelude.{ℕ, ℤ, pos, negsuc, ◌&&◌, nat_le, List, [], ◌∷◌, Option, Some, None, Result, Ok, codes, if◌then◌else◌}
use Rattle.tcl_text.specs.Readings.{integer_of}
use Rattle.tk_base.specs.Names.{key_named}
use Rattle.tk_sequences.specs.declared.fault.SequenceFault.TheVariants.{BadKeysym}
use Rattle.tk_sequences.specs.Lookup.{looked_up}
use Rattle.tk_generate.specs.declared.given.When.{When}
use Rattle.tk_generate.specs.declared.given.When.TheVariants.{Now, Tail, Head}
use Rattle.tk_generate.specs.Refusals.{or_bad_value, sequence_refused}

-- when an event comes
abbrev pub when_words : List (List ℕ × When)
when_words = (codes "now", Now) ∷ (codes "tail", Tail) ∷ (codes "head", Head) ∷ []

abbrev pub when_named : List ℕ → Option When
when_named word = looked_up word when_words

abbrev pub when_in : List ℕ → List ℕ → Result When (List ℕ)
when_in option value = or_bad_value option value (when_named value)

-- an integer from -2147483648 to 2147483647
abbrev pub coordinate : Option ℤ → Option ℤ
coordinate (Some (pos n)) = if nat_le n 2147483647 then Some (pos n) else None
coordinate (Some (negsuc n)) = if nat_le n 2147483647 then Some (negsuc n) else None
coordinate None = None

abbrev pub coordinate_in : List ℕ → List ℕ → Result ℤ (List ℕ)
coordinate_in option value = or_bad_value option value (coordinate (integer_of value))

-- an integer from one number to another
abbrev pub within : ℕ → ℕ → Option ℤ → Option ℕ
within least most (Some (pos n)) = if nat_le least n && nat_le n most then Some n else None
within least most (Some (negsuc n)) = None
within least most None = None

abbrev pub button_in : List ℕ → List ℕ → Result ℕ (List ℕ)
button_in option value = or_bad_value option value (within 1 5 (integer_of value))

abbrev pub state_in : List ℕ → List ℕ → Result ℕ (List ℕ)
state_in option value = or_bad_value option value (within 0 8191 (integer_of value))

-- the key of a name
abbrev pub key_or_fault : List ℕ → Option ℕ → Result ℕ (List ℕ)
key_or_fault value (Some key) = Ok key
key_or_fault value None = sequence_refused (BadKeysym value)

abbrev pub keysym_in : List ℕ → Result ℕ (List ℕ)
keysym_in value = key_or_fault value (key_named value)
