-- Steps. A mark that tells of a text whether it is all ASCII.
use Rattle.std.specs.Prelude.{◌≡◌, Bool, true, ℕ, List}
use Rattle.std.specs.Str.{IsAscii}

-- the text is marked, and only then is it ASCII
pub record MarksAscii (mark : Bool) (text : List ℕ) : Type 0 where
  pub ascii : mark ≡ true → IsAscii text
  pub only : IsAscii text → mark ≡ true
