-- Meaning. What the scripts of an application see of it beside its variables: its panel, and the commands that the program serves for it.
use Rattle.std.specs.Prelude.{ℕ, List, [], ◌∷◌, Option, Some, None, if◌then◌else◌, bytes_eq, map}
use Rattle.tk_alias.specs.Replies.{Answer}
use Rattle.tk_panel.specs.Panel.{Panel}

-- what an alias answers to the words behind its name
abbrev pub Meaning : Type 0
Meaning = List (List ℕ) → Answer

pub record Seen : Type 0 where
  pub serves : List (List ℕ × Meaning)
  pub panel : Panel

-- what the alias of a name means, where there is one
abbrev pub served_by : List ℕ → List (List ℕ × Meaning) → Option Meaning
served_by name [] = None
served_by name (alias ∷ serves) = if bytes_eq alias.0 name then Some alias.1 else served_by name serves

module _ {M : Type 0} where
  -- aliases, each by its name and what it is set up with: their names
  abbrev pub names_of : List (List ℕ × M) → List (List ℕ)
  names_of aliases = map (λ alias. alias.0) aliases

  -- and what they mean, by what each thing that they are set up with answers
  abbrev pub meanings : (M → Meaning) → List (List ℕ × M) → List (List ℕ × Meaning)
  meanings answer aliases = map (λ alias. (alias.0, answer alias.1)) aliases
