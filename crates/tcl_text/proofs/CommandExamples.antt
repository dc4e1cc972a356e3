-- Worked examples of the definitions, from the manual pages: each computes.
use Rattle.std.proofs.Common.{◌≡◌, [], ◌∷◌, Some, None, Ok, Err, true, false, refl}
use Rattle.std.specs.Prelude.{codes}
use Rattle.std.specs.Fmt.{digits}
use Rattle.std.specs.Str.{chars}
use lib.Utf8.{encode}
use Rattle.tcl_text.specs.Backslash.{kind_of, escape, marks}
use Rattle.tcl_text.specs.Readings.{integer_of, list_of, list_form}
use Rattle.tcl_text.specs.Glob.{glob_matches}
use Rattle.tcl_text.specs.Answers.{answers, bounded, integer_in, items_in}
use Rattle.tcl_text.specs.Indices.{index_of, index_in}
use Rattle.tcl_text.specs.StringCommands.{string_named}
use Rattle.tcl_text.specs.ListCommands.{with_option}
use Rattle.tcl_text.specs.Commands.{text_command_named, text_command_of}

glob-star : glob_matches (codes "a*b*c") (codes "aXXbYYc") ≡ true
unfolding glob_matches
glob-star = refl

glob-range : glob_matches (codes "[a-c]x") (codes "dx") ≡ false
unfolding glob_matches
glob-range = refl

string-match : text_command_of (codes "string" ∷ codes "match" ∷ codes "a?c" ∷ codes "abc" ∷ []) ≡ Some (Ok (codes "1"))
unfolding text_command_named string_named glob_matches answers chars
string-match = refl

string-range : text_command_of (codes "string" ∷ codes "range" ∷ codes "abcdef" ∷ codes "end-2" ∷ codes "end" ∷ []) ≡ Some (Ok (codes "def"))
unfolding text_command_named string_named index_of index_in integer_of answers chars encode
string-range = refl

llength : text_command_of (codes "llength" ∷ codes "a {b c} d" ∷ []) ≡ Some (Ok (codes "3"))
unfolding text_command_named items_in list_of marks escape kind_of answers digits
llength = refl

lsort : text_command_of (codes "lsort" ∷ codes "-integer" ∷ codes "5 3 11" ∷ []) ≡ Some (Ok (codes "3 5 11"))
unfolding text_command_named with_option items_in list_of marks escape kind_of integer_in integer_of list_form answers
lsort = refl

no-such-command : text_command_of (codes "set" ∷ codes "a" ∷ []) ≡ None
unfolding text_command_named
no-such-command = refl

wrong-args : text_command_of (codes "llength" ∷ []) ≡ Some (Err (codes "wrong # args: should be \"llength list\""))
unfolding text_command_named bounded
wrong-args = refl

bad-index : text_command_of (codes "lindex" ∷ codes "a b" ∷ codes "x" ∷ []) ≡ Some (Err (codes "bad index \"x\""))
unfolding text_command_named items_in list_of marks escape kind_of index_of index_in integer_of bounded
bad-index = refl
