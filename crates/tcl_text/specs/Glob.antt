-- Meaning. Glob patterns. A pattern and a text are lists of characters here.
use Rattle.std.specs.Prelude.{◌≡◌, ◌≢◌, ℕ, Bool, true, false, ◌&&◌, ◌||◌, ◌==◌, nat_le, if◌then◌else◌, List, [], ◌∷◌, ◌++◌, ◌⊎◌, length, IsTrue}
use Rattle.tcl_text.specs.Bytes.{star, minus_sign, question_mark, open_bracket, backslash_sign, close_bracket}

-- whether a class has the character: its text is read from the left, a `-` between two characters
-- makes them the ends of a range, and every other character stands for itself
abbrev pub in_class : List ℕ → ℕ → Bool
in_class [] c = false
in_class (low ∷ []) c = low == c
in_class (low ∷ dash ∷ []) c = (low == c) || (dash == c)
in_class (low ∷ dash ∷ high ∷ rest) c =
    if dash == minus_sign then ((nat_le low c && nat_le c high) || in_class rest c) else ((low == c) || in_class (dash ∷ high ∷ rest) c)

-- no element of the list is x
abbrev pub Lacks : ℕ → List ℕ → Type 0
Lacks x [] = Unit {0}
Lacks x (y ∷ ys) = (y ≢ x) × Lacks x ys

-- the text is a class up to its first `]`, which has the character, and then rest
abbrev pub AllowsByClass : List ℕ → ℕ → List ℕ → Type 0
AllowsByClass text c rest = (class : List ℕ) × Lacks close_bracket class × (text ≡ class ++ close_bracket ∷ rest) × IsTrue (in_class class c)

-- the pattern begins with a part for one character, which allows c, and rest follows that part:
-- `?`, a backslash and the character, a class up to its first `]`, or the character itself
abbrev pub AllowsFirst : List ℕ → ℕ → List ℕ → Type 0
AllowsFirst [] c rest = ⊥
AllowsFirst (first ∷ after) c rest =
    ((first ≡ question_mark) × (after ≡ rest))
    ⊎ ((first ≡ backslash_sign) × (after ≡ c ∷ rest))
    ⊎ ((first ≡ open_bracket) × AllowsByClass after c rest)
    ⊎ ((first ≢ star) × (first ≢ question_mark) × (first ≢ open_bracket) × (first ≢ backslash_sign) × (first ≡ c) × (after ≡ rest))

-- the pattern matches the whole text
pub data GlobMatches : List ℕ → List ℕ → Type 0 where
  nothing_left : GlobMatches [] []
  -- `*` stands for any text
  skips : {rest text : List ℕ} (skipped left : List ℕ) → text ≡ skipped ++ left → GlobMatches rest left → GlobMatches (star ∷ rest) text
  allows : {pattern rest left : List ℕ} {c : ℕ} → AllowsFirst pattern c rest → GlobMatches rest left → GlobMatches pattern (c ∷ left)

-- ── the same as a function ──

-- where reading a pattern stands: at a part, behind a backslash, or in a class with its characters so far
pub data PatternPlace : Type 0 where
  at_part : PatternPlace
  behind_backslash : PatternPlace
  inside_class : List ℕ → PatternPlace

-- the text begins with a character that passes, and what follows passes
abbrev pub first_passes : (ℕ → Bool) → (List ℕ → Bool) → List ℕ → Bool
first_passes test rest [] = false
first_passes test rest (c ∷ cs) = test c && rest cs

-- what follows some characters passes
abbrev pub some_end_passes : (List ℕ → Bool) → List ℕ → Bool
some_end_passes test [] = test []
some_end_passes test (c ∷ cs) = test (c ∷ cs) || some_end_passes test cs

abbrev pub glob_from : PatternPlace → List ℕ → List ℕ → Bool
glob_from at_part [] text = length text == 0
glob_from at_part (p ∷ ps) text =
    if p == star then some_end_passes (glob_from at_part ps) text
    else (if p == question_mark then first_passes (λ _. true) (glob_from at_part ps) text
    else (if p == open_bracket then glob_from (inside_class []) ps text
    else (if p == backslash_sign then glob_from behind_backslash ps text
    else first_passes (λ c. p == c) (glob_from at_part ps) text)))
glob_from behind_backslash [] text = false
glob_from behind_backslash (p ∷ ps) text = first_passes (λ c. p == c) (glob_from at_part ps) text
glob_from (inside_class class) [] text = false
glob_from (inside_class class) (p ∷ ps) text =
    if p == close_bracket then first_passes (in_class class) (glob_from at_part ps) text
    else glob_from (inside_class (class ++ p ∷ [])) ps text

-- whether the pattern matches the whole text. Other definitions compute with this one; the meaning is GlobMatches, which clause matches of glob_match says
-- it is
unfoldable pub glob_matches : List ℕ → List ℕ → Bool
glob_matches pattern text = glob_from at_part pattern text
