-- What the definitions compute on texts whose readings a Tcl shell shows.
use lib.Utf8.{encode}
use Rattle.std.proofs.Common.{◌≡◌, refl, [], ◌∷◌, Some, None, Ok, Err, false, codes}
use Rattle.std.specs.Prelude.{pos, negsuc}
use Rattle.tcl_text.specs.Backslash.{kind_of, escape, marks}
use Rattle.tcl_text.specs.Readings.{integer_of, boolean_of, list_of, list_form}
use Rattle.tcl_text.specs.ListFaults.{IsListFault}
use Rattle.tcl_text.specs.declared.fault.ListFault.TheVariants.{OpenBrace, OpenQuote, ExtraCharacters}
use Rattle.tcl_text.proofs.ListFaultsTold.{IsListFault-from_list_of}

hexadecimal : integer_of (codes " -0X1f ") ≡ Some (negsuc 30)
unfolding integer_of
hexadecimal = refl

no_octal : integer_of (codes "08") ≡ None
unfolding integer_of
no_octal = refl

octal : integer_of (codes "010") ≡ Some (pos 8)
unfolding integer_of
octal = refl

least : integer_of (codes "-9223372036854775808") ≡ Some (negsuc 9223372036854775807)
unfolding integer_of
least = refl

too_large : integer_of (codes "9223372036854775808") ≡ None
unfolding integer_of
too_large = refl

prefix : boolean_of (codes "oF") ≡ Some false
unfolding integer_of boolean_of
prefix = refl

two_words : boolean_of (codes "o") ≡ None
unfolding integer_of boolean_of
two_words = refl

forms : list_of (codes "a {b c}\t\"d e\" \\x41\\{") ≡ Ok (codes "a" ∷ codes "b c" ∷ codes "d e" ∷ codes "A{" ∷ [])
unfolding list_of marks escape kind_of encode
forms = refl

open_brace : list_of (codes "{a") ≡ Err OpenBrace
unfolding list_of marks escape kind_of encode
open_brace = refl

extra : list_of (codes "\"a\"b {") ≡ Err ExtraCharacters
unfolding list_of marks escape kind_of encode
extra = refl

brace_fault : IsListFault (codes "{a") OpenBrace
brace_fault = IsListFault-from_list_of (codes "{a") OpenBrace open_brace

quote_fault : IsListFault (codes "\"a") OpenQuote
unfolding list_of marks escape kind_of encode
quote_fault = IsListFault-from_list_of (codes "\"a") OpenQuote refl

behind_brace : IsListFault (codes "{a}b") ExtraCharacters
unfolding list_of marks escape kind_of encode
behind_brace = IsListFault-from_list_of (codes "{a}b") ExtraCharacters refl

extra_fault : IsListFault (codes "\"a\"b {") ExtraCharacters
extra_fault = IsListFault-from_list_of (codes "\"a\"b {") ExtraCharacters extra

written_items : list_form ([] ∷ codes "a b" ∷ codes "#x" ∷ codes "{" ∷ []) ≡ codes "{} {a b} {#x} \\{"
unfolding list_form marks escape kind_of
written_items = refl
