-- Meaning. The counters of applications, by their numbers.
use Rattle.std.specs.Prelude.{◌≡◌, ◌≢◌, ℕ, nat_eq, List}
use Rattle.std.specs.Map.{lookup}
use Rattle.std.specs.Option.{option_map_or}
use Rattle.tk_base.specs.declared.counter.Counter.{Counter}

abbrev pub next_of : ℕ → List (ℕ × Counter) → ℕ
next_of owner counters = option_map_or (λ counter. counter.next) (lookup (nat_eq owner) counters) 0

abbrev pub count_of : ℕ → List (ℕ × Counter) → ℕ
count_of owner counters = option_map_or (λ counter. counter.count) (lookup (nat_eq owner) counters) 0

-- an application's counter is this one, and the others' are as before
pub record Counts (owner : ℕ) (counter : Counter) (old new : List (ℕ × Counter)) : Type 0 where
  pub next_is : next_of owner new ≡ counter.next
  pub count_is : count_of owner new ≡ counter.count
  pub nexts : (other : ℕ) → other ≢ owner → next_of other new ≡ next_of other old
  pub counts : (other : ℕ) → other ≢ owner → count_of other new ≡ count_of other old
