-- Meaning. What differs between two sections.
use Rattle.std.specs.Prelude.{ℕ, Bool, ◌&&◌, ◌||◌, if◌then◌else◌, List, [], ◌∷◌, ◌++◌, map, drop, codes, nat_eq}
use Rattle.std.specs.List.{starts_with}
use Rattle.std.specs.Str.{bytes_eq}
use Rattle.panels_text.specs.Texts.{first_word, lines_without, text_of}

-- what a line tells of: a kind, and of a window its path
pub record Topic : Type 0 where
  pub kind : List ℕ
  pub path : List ℕ

-- the path in the line of a window
abbrev pub path_in : List ℕ → List ℕ
path_in line = first_word (if starts_with nat_eq line (codes "win ") then drop 4 line else [])

abbrev pub topic : List ℕ → Topic
topic line =
    let first = first_word line in
    if bytes_eq first (codes "app") then record { kind = codes "state"; path = [] }
    else if bytes_eq first (codes "out") || bytes_eq first (codes "err") then record { kind = codes "transcript"; path = [] }
    else if bytes_eq first (codes "timer") || bytes_eq first (codes "idle") then record { kind = codes "timers"; path = [] }
    else if bytes_eq first (codes "win") then record { kind = codes "window "; path = path_in line }
    else record { kind = codes "section"; path = [] }

-- two lines tell of the same
abbrev pub is_alike : List ℕ → List ℕ → Bool
is_alike line other = bytes_eq (topic other).kind (topic line).kind && bytes_eq (topic other).path (topic line).path

-- a line that was wanted beside one that there is, and what they tell of
pub record Difference : Type 0 where
  pub of : Topic
  pub wanted : List ℕ
  pub got : List ℕ

-- what stands for a line that isn't there
abbrev pub no_line : List ℕ
no_line = codes "(no line)"

-- the first of the others that tells of the same
abbrev pub counterpart : List ℕ → List (List ℕ) → List ℕ
counterpart line [] = no_line
counterpart line (other ∷ others) = if is_alike line other then other else counterpart line others

-- the others but for that one
abbrev pub without_counterpart : List ℕ → List (List ℕ) → List (List ℕ)
without_counterpart line [] = []
without_counterpart line (other ∷ others) = if is_alike line other then others else other ∷ without_counterpart line others

-- each line that was wanted in vain, beside the first of those left over that tells of the same; then each that is left over
abbrev pub paired : List (List ℕ) → List (List ℕ) → List Difference
paired [] others = map (λ line. record { of = topic line; wanted = no_line; got = line }) others
paired (line ∷ lines) others = record { of = topic line; wanted = line; got = counterpart line others } ∷ paired lines (without_counterpart line others)

-- a difference in words
abbrev pub difference_words : Difference → List ℕ
difference_words difference =
    difference.of.kind ++ (difference.of.path ++ (codes ", at the end:\n      wanted: " ++ (difference.wanted ++ (codes "\n      got: " ++ difference.got))))

abbrev pub same_lines : List ℕ
same_lines = codes "the same lines stand in another order, or another number of times"

abbrev pub or_same_lines : List (List ℕ) → List (List ℕ)
or_same_lines [] = same_lines ∷ []
or_same_lines (words ∷ others) = words ∷ others

-- what differs between the section that was wanted and the one that there is
abbrev pub differences : List ℕ → List ℕ → List (List ℕ)
differences wanted got =
    or_same_lines (map difference_words (paired (lines_without (text_of wanted) (text_of got)) (lines_without (text_of got) (text_of wanted))))
