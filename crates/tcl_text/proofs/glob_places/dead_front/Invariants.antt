use Rattle.std.proofs.Common.{◌≡◌, ◌<◌, ◌≤◌, ◌-◌, ℕ, false, get_or, length}
use Rattle.tcl_text.proofs.glob_places.dead_front.Given as goal

abbrev pub invariant-loop-dead : goal.invariant-loop-dead
invariant-loop-dead l = (l.dead ≤ length l.alive) × ((place : ℕ) → place < l.dead → get_or l.alive place false ≡ false)

abbrev pub decreases-loop-dead : goal.decreases-loop-dead
decreases-loop-dead l = length l.alive - l.dead
