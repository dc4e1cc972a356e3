-- Lines of a session's blocks.
use Rattle.std.proofs.Common.{◌≡◌, ℕ, subst}
use Rattle.std.proofs.lemmas.Bool.{eq-eqb}
use Rattle.panels_report.specs.Blocks.{IsScript, IsTaken, Parts, ended, with_block, without_block}
use Rattle.panels_report.specs.declared.blocks.Taken.{Taken}

-- the last line of a script ends its block
pub script_ends : (left : ℕ) (expected now after : Parts) (taken : Taken) → left ≡ 0 → now ≡ expected → IsTaken (ended now) (with_block now) (without_block now) after taken
    → IsScript left expected after taken
script_ends left expected now after taken none same is =
    let P : Parts → Type 0 = λ p. IsTaken (ended p) (with_block p) (without_block p) after taken in
    rw (eq-eqb left 0 none) (subst P same is)
