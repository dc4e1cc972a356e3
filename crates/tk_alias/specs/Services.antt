-- Meaning. What the program's services answer, by their kinds.
use Rattle.std.specs.Prelude.{ℕ, ◌%◌, ◌^◌, ℤ, pos, negsuc, ◌+ℤ◌, fold, Bool, ◌==◌, nat_lt, if◌then◌else◌, List, [], ◌∷◌, ◌++◌, length, Option, Some, None, Result, Ok, Err, codes}
use Rattle.std.specs.Fmt.{signed_decimal}
use Rattle.std.specs.List.{join_with_byte}
use Rattle.std.specs.Str.{bytes_eq, str_to_ascii_uppercase}
use Rattle.tcl_text.specs.Answers.{◌>>=◌, Answer, answers, fails, integer_in, quoted, too_large}
use Rattle.tcl_text.specs.Readings.{list_of}
use Rattle.tcl_text.specs.declared.fault.ListFault.{ListFault}
use Rattle.tk_alias.specs.declared.service.Service.{Service}
use Rattle.tk_alias.specs.declared.service.ServiceKind.{ServiceKind}
use Rattle.tk_alias.specs.declared.service.ServiceKind.TheVariants.{Const, Upper, Table, Sum, Fail}

-- ---- the configuration as a list

abbrev pub bad_configuration_text : List ℕ
bad_configuration_text = codes "bad alias configuration"

abbrev pub bad_configuration : {T : Type 0} → Result T (List ℕ)
bad_configuration = fails bad_configuration_text

abbrev pub items_or_bad : Result (List (List ℕ)) ListFault → Result (List (List ℕ)) (List ℕ)
items_or_bad (Ok items) = Ok items
items_or_bad (Err fault) = bad_configuration

-- the items of the configuration
abbrev pub items_of : List ℕ → Result (List (List ℕ)) (List ℕ)
items_of config = items_or_bad (list_of config)

-- the items of the configuration, followed by the arguments
abbrev pub listed : List ℕ → List (List ℕ) → Result (List (List ℕ)) (List ℕ)
listed config args = do
  items ← items_of config
  Ok (items ++ args)

-- ---- upper

-- the list with blanks between its items, and its ASCII letters raised
abbrev pub upper : List ℕ → List (List ℕ) → Answer
upper config args = do
  words ← listed config args
  text ← answers (join_with_byte 32 words)
  answers (str_to_ascii_uppercase text)

-- ---- sum

-- the integers that the words are
abbrev pub integers_in : List (List ℕ) → Result (List ℤ) (List ℕ)
integers_in [] = Ok []
integers_in (word ∷ words) = do
  number ← integer_in word
  numbers ← integers_in words
  Ok (number ∷ numbers)

-- the sum of the integers that the words are
abbrev pub total_of : List (List ℕ) → Result ℤ (List ℕ)
total_of words = do
  numbers ← integers_in words
  Ok (fold ◌+ℤ◌ (pos 0) numbers)

-- the integer, where 64 bits hold it
abbrev pub fits_64_bits : ℤ → Bool
fits_64_bits (pos n) = nat_lt n (2 ^ 63)
fits_64_bits (negsuc n) = nat_lt n (2 ^ 63)

abbrev pub whole : ℤ → Answer
whole n = if fits_64_bits n then Ok (signed_decimal n) else too_large

-- the sum of the list; each item is an integer, and the sum alone has to be one of 64 bits
abbrev pub sum : List ℕ → List (List ℕ) → Answer
sum config args = do
  words ← listed config args
  total ← total_of words
  whole total

-- ---- table

-- the items, where they are keys and values in turn
abbrev pub pairs_in : List (List ℕ) → Result (List (List ℕ)) (List ℕ)
pairs_in items = if length items % 2 == 0 then Ok items else bad_configuration

abbrev pub pairs_of : List ℕ → Result (List (List ℕ)) (List ℕ)
pairs_of config = do
  items ← items_of config
  pairs_in items

-- the first value of a key among keys and values in turn
abbrev pub value_of : List ℕ → List (List ℕ) → Option (List ℕ)
value_of key [] = None
value_of key (last ∷ []) = None
value_of key (own ∷ value ∷ rest) = if bytes_eq own key then Some value else value_of key rest

abbrev pub value_or_error : List ℕ → Option (List ℕ) → Answer
value_or_error key (Some value) = answers value
value_or_error key None = fails (codes "no such key " ++ quoted key)

-- the value of the one argument
abbrev pub looked_up : List (List ℕ) → List (List ℕ) → Answer
looked_up pairs (key ∷ []) = value_or_error key (value_of key pairs)
looked_up pairs [] = fails (codes "wrong # args")
looked_up pairs (key ∷ other ∷ args) = fails (codes "wrong # args")

-- the configuration's value for the argument
abbrev pub table : List ℕ → List (List ℕ) → Answer
table config args = do
  pairs ← pairs_of config
  looked_up pairs args

-- ---- all kinds

abbrev pub answer_of : ServiceKind → List ℕ → List (List ℕ) → Answer
answer_of Const config args = answers config
answer_of Upper config args = upper config args
answer_of Table config args = table config args
answer_of Sum config args = sum config args
answer_of Fail config args = fails config
