-- Meaning. What a table of a bench says of a panel.
use Rattle.std.specs.Prelude.{◌≡◌, ℕ, ◌≤◌, Bool, false, List, [], ◌∷◌, ◌++◌, codes, Option, Some, None, option_map}
use Rattle.std.specs.Str.Parse.{IsNumeral, digits_value, without_leading_plus}
use Rattle.std.specs.String.{string_bytes}
use Rattle.toml.specs.Data.{Data, Items, no_items, item, Members, array, boolean, get_member, string, table}
use Rattle.toml.specs.View.{table_view}
use Rattle.tk_base.specs.declared.budget.Budget.{Budget}
use Rattle.tk_base.specs.declared.rect.Rect.{Rect}
use Rattle.tk_session.specs.Reading.{service_kind}
use Rattle.tk_session.specs.declared.session.AliasLine.{AliasLine}
use Rattle.tk_session.specs.declared.session.AppBlock.{AppBlock}
use Rattle.panels_bench.specs.declared.sides.Side.{Side}
use Rattle.panels_text.specs.Tables.{line, number_in, values_of}
use Rattle.panels_text.specs.Texts.{plain_script}
use Rattle.panels_text.specs.declared.table.Part.{Part}

-- whether a key is true: it isn't where it isn't there
abbrev pub is_said : Option Data → Option Bool
is_said None = Some false
is_said (Some (boolean value)) = Some value
is_said _ = None

-- two numbers of an array, none larger than the most
abbrev pub IsPair : ℕ → Option Data → ℕ → ℕ → Type 0
IsPair most (Some (array (item one (item other no_items)))) x y = (number_in most (Some one) ≡ Some x) × (number_in most (Some other) ≡ Some y)
IsPair most _ x y = ⊥

-- the largest place and size, in pixels
abbrev pub most_pixels : ℕ
most_pixels = 32767

-- `at` and `size`
abbrev pub IsRect : Members → Rect → Type 0
IsRect members rect =
    IsPair most_pixels (get_member (codes "at") members) rect.x rect.y × IsPair most_pixels (get_member (codes "size") members) rect.width rect.height

-- the largest number of steps
abbrev pub most_steps : ℕ
most_steps = 10000000

-- a text spells a number of steps, in decimal
abbrev pub IsSteps : List ℕ → ℕ → Type 0
IsSteps text steps = IsNumeral 10 (without_leading_plus text) × (digits_value 10 (without_leading_plus text) ≡ steps) × (steps ≤ most_steps)

-- all steps at first, a slash, and how many each event gives back
abbrev pub IsRefilled : List ℕ → Budget → Type 0
IsRefilled text budget = (total : List ℕ) × (refill : List ℕ) × (text ≡ total ++ 47 ∷ refill) × IsSteps total budget.total × IsSteps refill budget.refill

abbrev pub IsBudget : Option Data → Budget → Type 0
IsBudget None budget = ⊥
IsBudget (Some (string text)) budget = IsRefilled text budget
IsBudget (Some value) budget = (number_in most_steps (Some value) ≡ Some budget.total) × (budget.refill ≡ 0)

-- a text, which is empty where the key isn't there
abbrev pub text_or_empty : Option Data → Option (List ℕ)
text_or_empty None = Some []
text_or_empty (Some (string text)) = Some text
text_or_empty _ = None

-- what a table says of an alias
pub record IsAlias (members : Members) (alias : AliasLine) : Type 0 where
  pub name : get_member (codes "name") members ≡ Some (string alias.name)
  pub kind : (word : List ℕ) × (get_member (codes "kind") members ≡ Some (string word)) × (service_kind word ≡ Some alias.service.kind)
  pub config : text_or_empty (get_member (codes "config") members) ≡ Some alias.service.config

-- table by table what they say
abbrev pub AreAliases : Items → List AliasLine → Type 0
AreAliases no_items [] = Unit {0}
AreAliases (item (table members) others) (alias ∷ aliases) = IsAlias members alias × AreAliases others aliases
AreAliases _ _ = ⊥

abbrev pub AreAliasesOf : Option Items → List AliasLine → Type 0
AreAliasesOf None aliases = ⊥
AreAliasesOf (Some values) aliases = AreAliases values aliases

-- by `script` and `text`, of which one is there: the text is the script itself, and what a file has no contract sees
abbrev pub IsScript : Option Data → Option Data → List ℕ → Type 0
IsScript None (Some (string text)) script = script ≡ plain_script text
IsScript (Some (string name)) None script = Unit {0}
IsScript _ _ script = ⊥

-- what a table says of a panel's application
pub record IsPanel (members : Members) (panel : AppBlock) : Type 0 where
  pub name : get_member (codes "name") members ≡ Some (string panel.name)
  pub rect : IsRect members panel.rect
  pub budget : IsBudget (get_member (codes "steps") members) panel.budget
  pub aliases : AreAliasesOf (values_of (get_member (codes "aliases") members)) panel.aliases
  pub script : IsScript (get_member (codes "script") members) (get_member (codes "text") members) panel.script

-- what it says beside
pub record IsSide (part : Part) (side : Side) : Type 0 where
  pub line_of_name : side.line ≡ line part (codes "name")
  pub script : option_map (λ text. string (string_bytes text)) side.script ≡ get_member (codes "script") (table_view part.table.now)
  pub expect : option_map (λ text. string (string_bytes text)) side.expect ≡ get_member (codes "expect") (table_view part.table.now)
  pub counts_steps : is_said (get_member (codes "expect-steps") (table_view part.table.now)) ≡ Some side.counts_steps
  pub may_fail : is_said (get_member (codes "errors") (table_view part.table.now)) ≡ Some side.may_fail
  pub may_run_out : is_said (get_member (codes "exhausted") (table_view part.table.now)) ≡ Some side.may_run_out

-- table by table what they say
abbrev pub ArePanels : List Part → List AppBlock → List Side → Type 0
ArePanels [] [] [] = Unit {0}
ArePanels (part ∷ parts) (panel ∷ panels) (side ∷ sides) = (IsPanel (table_view part.table.now) panel × IsSide part side) × ArePanels parts panels sides
ArePanels _ _ _ = ⊥
