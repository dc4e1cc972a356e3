-- Steps. What the steps of a glob search say to one another.
use Rattle.std.specs.Prelude.{◌≡◌, ◌≢◌, ◌+◌, ◌<◌, ◌≤◌, ◌⊎◌, ℕ, Bool, not, ◌||◌, ◌&&◌, ◌==◌, if◌then◌else◌, true, false, List, [], ◌∷◌, ◌++◌, take, drop, length, get_or, nat_lt, slice_index}
use Rattle.std.specs.Int.{bit_at}
use Rattle.std.specs.List.{list_all}
use Rattle.std.specs.Str.{chars}
use Rattle.memchr.specs.Find.{OccursAt}
use Rattle.tcl_text.specs.Bytes.{star, question_mark, open_bracket, backslash_sign}
use Rattle.tcl_text.specs.Glob.{AllowsFirst, GlobMatches}

-- the pattern begins with a part for one character, and not with `*`
abbrev pub HasPart : List ℕ → Type 0
HasPart [] = ⊥
HasPart (first ∷ after) = first ≢ star

-- where a run of such parts stops: at a `*`, or where pattern and text both end
abbrev pub StopsAt : List ℕ → List ℕ → Type 0
StopsAt [] text = text ≡ []
StopsAt (first ∷ after) text = first ≡ star

-- the parts that lead from the pattern to rest stand for the characters that lead from the text to left
pub record Runs (pattern text rest left : List ℕ) : Type 0 where
  pub count : ℕ
  pub cut : left ≡ drop count text
  pub forth : (any : List ℕ) → GlobMatches pattern any → GlobMatches rest (drop count any)
  pub back : GlobMatches rest left → GlobMatches pattern text

-- the character stands for itself in a pattern, wherever that isn't inside a class
abbrev pub is_plain : ℕ → Bool
is_plain c = not (c == star || c == question_mark || c == open_bracket || c == backslash_sign)

-- the parts that lead from the pattern to rest are so many, one for each character that they stand for
pub record Spans (pattern rest : List ℕ) (count : ℕ) : Type 0 where
  pub forth : (any : List ℕ) → GlobMatches pattern any → (count ≤ length any) × GlobMatches rest (drop count any)

-- left is what stands in the text behind the first place of the piece
pub record IsBehindFirst (text piece left : List ℕ) : Type 0 where
  pub place : ℕ
  pub occurs : OccursAt text piece place
  pub before : (k : ℕ) → k < place → OccursAt text piece k → ⊥
  pub is : left ≡ drop (place + length piece) text

-- rest is what stands in the pattern from a byte on, and the characters before it are plain
pub record PassesPlain (pattern rest : List ℕ) : Type 0 where
  pub start : ℕ
  pub within : start ≤ length pattern
  pub is : rest ≡ drop start pattern
  pub passed : ℕ
  pub at : chars rest ≡ drop passed (chars pattern)
  pub plain : list_all is_plain (take passed (chars pattern)) ≡ true

-- left is what stands in the text behind so many characters, and the pattern matches at none of the places before it
pub record IsBehindDead (pattern text left : List ℕ) : Type 0 where
  pub passed : ℕ
  pub at : left ≡ drop passed text
  pub none : (place : ℕ) → place < passed → GlobMatches pattern (drop place text) → ⊥

-- places that are tried at once live or are dead. The dead ones are such that the pattern doesn't match there, whatever stands behind the window
pub record AreDead (pattern window : List ℕ) (alive : List Bool) : Type 0 where
  pub none : (place : ℕ) → place < length alive → get_or alive place false ≡ false → (behind : List ℕ) → GlobMatches pattern (drop place (window ++ behind)) → ⊥

-- places that are tried at once in a whole text: the pattern doesn't match at the dead ones
pub record AreDeadIn (pattern text : List ℕ) (alive : List Bool) : Type 0 where
  pub none : (place : ℕ) → place < length alive → get_or alive place false ≡ false → GlobMatches pattern (drop place text) → ⊥

-- places die alone at which the pattern doesn't match, whatever stands behind the letters
abbrev pub KeepsMatching : List ℕ → List ℕ → List Bool → List Bool → Type 0
KeepsMatching pattern letters before after =
    (place : ℕ) → place < length before → get_or after place false ≡ false
    → (get_or before place false ≡ false) ⊎ ((behind : List ℕ) → GlobMatches pattern (drop place (letters ++ behind)) → ⊥)

-- the letter at the place isn't below the number
abbrev pub IsHigh : ℕ → List ℕ → ℕ → Type 0
IsHigh low letters at = (at < length letters) × (low ≤ slice_index letters at)

-- the mask of the letter at the place: one of those of the letters below the number, or the place's
abbrev pub mask_at : ℕ → List ℕ → List ℕ → List ℕ → ℕ → ℕ
mask_at below low letters high at = if nat_lt (slice_index letters at) below then slice_index low (slice_index letters at) else slice_index high at

-- some places have a letter and its mask, whose bits tell which of so many of the pattern's parts allow it: wherever the pattern matches, the mask of a
-- letter of the text has the bit of the place at which it stands there
pub record Allows (pattern : List ℕ) (Has : ℕ → Type 0) (letter mask : ℕ → ℕ) (count : ℕ) : Type 0 where
  pub told : (text : List ℕ) → GlobMatches pattern text → (part : ℕ) → part < count → (place : ℕ) → Has place → letter place ≡ slice_index text part
      → bit_at (mask place) part ≡ 1

-- the bit is set in the masks of the letters for which the test holds, and nothing else has changed
abbrev pub Marks : (ℕ → Type 0) → (ℕ → ℕ) → (ℕ → Bool) → ℕ → List ℕ → List ℕ → Type 0
Marks Has letter test bit before after =
    (place : ℕ) → Has place → (part : ℕ)
    → bit_at (slice_index after place) part ≡ (if part == bit && test (letter place) then 1 else bit_at (slice_index before place) part)

-- the bit is set in the masks of the letters that the pattern's first part allows, and no other bit has changed
pub record MarksAllowed (pattern : List ℕ) (Has : ℕ → Type 0) (letter : ℕ → ℕ) (bit : ℕ) (before after : List ℕ) : Type 0 where
  pub noted : (place : ℕ) → Has place → (rest : List ℕ) → AllowsFirst pattern (letter place) rest → bit_at (slice_index after place) bit ≡ 1
  pub others : (place : ℕ) → Has place → (part : ℕ) → part ≢ bit → bit_at (slice_index after place) part ≡ bit_at (slice_index before place) part

-- each of so many parts allows its letter, from the place on, as the masks tell
abbrev pub AllowsAt : (ℕ → ℕ) → ℕ → ℕ → Type 0
AllowsAt mask parts place = (part : ℕ) → part < parts → bit_at (mask (place + part)) part ≡ 1

-- places at which each part allows its letter live on, if they lived
abbrev pub KeepsAllowed : (ℕ → ℕ) → ℕ → List Bool → List Bool → Type 0
KeepsAllowed mask parts before after =
    (place : ℕ) → place < length before → AllowsAt mask parts place → get_or after place false ≡ get_or before place false
