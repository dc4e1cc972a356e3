-- Meaning. Whether a panel ends with the section that it has to.
use Rattle.std.specs.Prelude.{ℕ, Bool, true, false, if◌then◌else◌, List, [], ◌∷◌, ◌++◌, codes, Option, Some, None, option_map}
use Rattle.std.specs.Str.{bytes_eq}
use Rattle.std.specs.String.{string_bytes}
use Rattle.panels.specs.Verdict.{compared}
use Rattle.panels_bench.specs.declared.sides.Side.{Side}
use Rattle.panels_text.specs.Differences.{differences}

module _ {S : Type 0} where
  -- the section is the text of the file, where one is named
  abbrev pub is_file : Option S → Option (List ℕ) → List ℕ → Bool
  is_file None wanted got = true
  is_file (Some name) None got = false
  is_file (Some name) (Some wanted) got = bytes_eq wanted got

abbrev pub is_as_expected : Side → Option (List ℕ) → List ℕ → Bool
is_as_expected side wanted got = is_file side.expect wanted got

-- ---- in words

abbrev pub missing_words : List ℕ → List ℕ
missing_words file = codes "there is no file " ++ (file ++ codes ": panels accept writes it")

abbrev pub differing : Option (List ℕ) → Option (List ℕ) → List ℕ → List (List ℕ)
differing (Some wanted) expect got = differences wanted got
differing None None got = []
differing None (Some name) got = missing_words name ∷ []

-- what differs from the expected file, or that it isn't there
abbrev pub unlike : Side → Option (List ℕ) → List ℕ → List (List ℕ)
unlike side wanted got = if is_as_expected side wanted got then [] else differing wanted (option_map string_bytes side.expect) got

abbrev pub unexpected : Side → Option (List ℕ) → List ℕ → List (List ℕ)
unexpected side wanted section = unlike side wanted (compared side.counts_steps section)
