-- Steps. The bytes of a text, however it keeps them.
use Rattle.std.specs.Prelude.{ℕ, List, take}
use Rattle.std.specs.Fmt.{signed_decimal}
use Rattle.tcl_text.specs.Readings.{list_form}
use Rattle.tcl_text.specs.declared.short.ShortText.{ShortText}
use Rattle.tcl_text.specs.declared.text.TextForm.{TextForm}
use Rattle.tcl_text.specs.declared.text.TextForm.TheVariants.{Short, Number, Shared, Listed}

abbrev pub short_bytes : ShortText → List ℕ
short_bytes s = take s.length s.bytes

abbrev pub form_bytes : TextForm → List ℕ
form_bytes (Short s) = short_bytes s
form_bytes (Number n) = signed_decimal n.number
form_bytes (Shared r) = r.value
form_bytes (Listed r) = list_form r.value
