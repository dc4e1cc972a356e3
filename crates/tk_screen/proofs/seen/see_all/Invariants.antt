use Rattle.std.proofs.Common.{◌≡◌, ◌⊎◌, ℕ, ◌++◌, length}
use Rattle.std.specs.List.{filter_map}
use Rattle.tk_screen.specs.Shared.{own_of}
use Rattle.tk_screen.specs.Reads.{IsKept, IsOneOf}
use Rattle.tk_screen.specs.Shapes.{shape_at}
use Rattle.tk_screen.proofs.seen.see_all.Given as goal

abbrev pub invariant-loop-number : goal.invariant-loop-number
invariant-loop-number l = record {
  shapes :
      l.shapes.items ++ filter_map (shape_at (own_of l.slot l.screen) l.scopes) l.rest ≡ filter_map (shape_at (own_of l.slot l.screen) l.scopes) l.numbers;
  reads : (number : ℕ) → IsOneOf number l.numbers → IsOneOf number l.rest ⊎ IsKept (own_of l.slot l.screen) l.scopes l.reads.entries number;
}

abbrev pub decreases-loop-number : goal.decreases-loop-number
decreases-loop-number l = length l.rest
