-- Meaning. The errors of `pack`.
use Rattle.std.specs.Prelude.{ℕ, List, ◌++◌, Result, codes}
use Rattle.tcl_text.specs.Answers.{fails, missing_value, quoted}
use Rattle.tcl_text.specs.FaultTexts.{boolean_text}

-- the main window is packed nowhere
abbrev pub is_top_level : {T : Type 0} → Result T (List ℕ)
is_top_level = fails (codes "can't pack \".\": it's a top-level window")

abbrev pub not_packed : {T : Type 0} → List ℕ → Result T (List ℕ)
not_packed path = fails (codes "window " ++ quoted path ++ codes " isn't packed")

abbrev pub not_sibling : {T : Type 0} → List ℕ → Result T (List ℕ)
not_sibling path = fails (codes "window " ++ quoted path ++ codes " isn't a sibling")

-- 20, 22 and 23
abbrev pub unknown_option : {T : Type 0} → List ℕ → Result T (List ℕ)
unknown_option name = fails (codes "unknown option " ++ quoted name)

abbrev pub bad_value : {T : Type 0} → List ℕ → List ℕ → Result T (List ℕ)
bad_value value name = fails ((codes "bad value " ++ quoted value ++ codes " for option ") ++ quoted name)

abbrev pub no_value : {T : Type 0} → List ℕ → Result T (List ℕ)
no_value name = missing_value name

-- 2
abbrev pub not_boolean : {T : Type 0} → List ℕ → Result T (List ℕ)
not_boolean word = fails (boolean_text word)
