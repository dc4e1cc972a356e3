-- Meaning. Verdicts as a person reads them, and the shares of a check.
use Rattle.std.specs.Prelude.{ℕ, ◌%◌, Bool, not, ◌||◌, ◌==◌, if◌then◌else◌, List, ◌++◌, length, filter, codes}
use Rattle.std.specs.String.{string_bytes}
use Rattle.panels_text.specs.declared.cases.Case.{Case}
use Rattle.panels_text.specs.declared.shards.Shard.{Shard}

-- all is as it has to be
abbrev pub is_fine : Case → Bool
is_fine case = length case.problems.items == 0

abbrev pub count_failed : List Case → ℕ
count_failed cases = length (filter (λ case. not (is_fine case)) cases)

-- the bench's file, and behind it the panel where the case is of one
abbrev pub title : Case → List ℕ
title case = if length (string_bytes case.panel) == 0 then string_bytes case.bench else string_bytes case.bench ++ (codes ": " ++ string_bytes case.panel)

-- a share has the benches of each number that leaves its own where it is divided by how many shares there are
abbrev pub is_in_share : Shard → ℕ → Bool
is_in_share shard number = shard.count == 0 || number % shard.count == shard.index
