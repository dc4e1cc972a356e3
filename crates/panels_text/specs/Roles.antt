-- Meaning. Which words of a command are scripts.
use Rattle.std.specs.Prelude.{ℕ, ◌+◌, ◌-◌, Bool, false, ◌&&◌, ◌||◌, ◌==◌, nat_lt, if◌then◌else◌, List, [], map, length, slice_get, codes, Option, Some, None, String, option_map}
use Rattle.std.specs.Str.{bytes_eq}
use Rattle.std.specs.String.{string_bytes}
use Rattle.std.specs.declared.alloc.Global.{Global}
use Rattle.panels_text.specs.declared.roles.Role.{Role}
use Rattle.panels_text.specs.declared.roles.Role.TheVariants.{Plain, Script, Condition, Cases}

-- the text of each word of a command, nothing where it isn't literal
abbrev pub Texts : Type 0
Texts = List (Option (List ℕ))

abbrev pub texts_of : List (Option (String Global)) → Texts
texts_of words = map (option_map string_bytes) words

abbrev pub text_or_empty : Option (Option (List ℕ)) → List ℕ
text_or_empty None = []
text_or_empty (Some None) = []
text_or_empty (Some (Some text)) = text

-- the text of a word; empty where it isn't literal
abbrev pub word_at : Texts → ℕ → List ℕ
word_at words index = text_or_empty (slice_get words index)

-- a word of `if`: behind it and `elseif` stand conditions, and `then`, `else` and `elseif` are its own words
abbrev pub role_in_if : List ℕ → List ℕ → ℕ → Role
role_in_if before word index =
    if bytes_eq word (codes "then") || (bytes_eq word (codes "else") || bytes_eq word (codes "elseif")) then Plain
    else if index == 1 || bytes_eq before (codes "elseif") then Condition
    else Script

abbrev pub role_in_while : ℕ → Role
role_in_while index = if index == 1 then Condition else if index == 2 then Script else Plain

abbrev pub role_in_for : ℕ → Role
role_in_for index = if index == 2 then Condition else if index == 1 || (index == 3 || index == 4) then Script else Plain

-- the body is the last word of `foreach`
abbrev pub role_in_foreach : ℕ → Bool → Role
role_in_foreach index is_last = if is_last && nat_lt 2 index then Script else Plain

-- the words that other commands run as scripts
abbrev pub is_script : List ℕ → ℕ → Bool → Bool
is_script name index is_last =
    if bytes_eq name (codes "proc") || bytes_eq name (codes "bind") then index == 3
    else if bytes_eq name (codes "catch") then index == 1
    else if bytes_eq name (codes "eval") then index == 1 && is_last
    else if bytes_eq name (codes "uplevel") then is_last
    else if bytes_eq name (codes "after") then index == 2 && is_last
    else false

-- a script, by its place or as the value of `-command`
abbrev pub role_in_other : List ℕ → List ℕ → ℕ → Bool → Role
role_in_other name before index is_last = if is_script name index is_last || bytes_eq before (codes "-command") then Script else Plain

abbrev pub role_named : List ℕ → List ℕ → List ℕ → ℕ → Bool → Role
role_named name before word index is_last =
    if bytes_eq name (codes "if") then role_in_if before word index
    else if bytes_eq name (codes "while") then role_in_while index
    else if bytes_eq name (codes "for") then role_in_for index
    else if bytes_eq name (codes "foreach") then role_in_foreach index is_last
    else if bytes_eq name (codes "expr") then Condition
    else if bytes_eq name (codes "switch") && (is_last && nat_lt 1 index) then Cases
    else role_in_other name before index is_last

-- what a word of a command is, by the commands that run scripts
abbrev pub role_of : Texts → ℕ → Role
role_of words index =
    if index == 0 then Plain
    else role_named (word_at words 0) (word_at words (index - 1)) (word_at words index) index (index + 1 == length words)
