-- Meaning. Names of virtual events, as they stand between `<<` and `>>`.
use Rattle.std.specs.Prelude.{ℕ, ◌<◌, ◌≤◌, ◌≢◌, List, length, All}

-- not empty, without `>`, and short enough that a text holds it with its brackets
pub record IsName (name : List ℕ) : Type 0 where
  pub some : 0 < length name
  pub few : length name ≤ 65532
  pub closed : All (λ byte. byte ≢ 62) name
