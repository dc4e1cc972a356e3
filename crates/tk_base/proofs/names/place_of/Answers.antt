use Rattle.std.proofs.Common.{◌≡◌, ℕ, ◌<◌, IfSome, Bool, true, false, cond, Some, None, nat_lt, refl, arith, rules, tests}
use Rattle.std.proofs.lemmas.Bool.Decides.{nat_tests}
use Rattle.std.proofs.lemmas.Iterator.Search.{position_from_yields_List}
use Rattle.std.proofs.lemmas.Iterator.Splits.{YieldsList-from_lines}
use Rattle.std.specs.Str.{bytes_eq}
use Rattle.tk_base.proofs.names.place_of.Goals as goal

pub returns-clause-value : goal.returns-clause-value
returns-clause-value c =
    position_from_yields_List (λ line. bytes_eq line c.args.wanted.now) _ _ _ c.position.ensures.ran
    (YieldsList-from_lines c.args.text.now c.lines.ensures.rest) (λ x b q k. search (rules, tests))

-- a number that passes a test of being below a bound is
below : (n m : ℕ) (b : Bool) → nat_lt n m ≡ b → IfSome (cond b (Some n) None) (λ place. place < m)
below n m true e = grind (arith, nat_tests)
below n m false e = search rules

pub returns-clause-bound : goal.returns-clause-bound
returns-clause-bound c = rw (returns-clause-value c) (below _ _ _ refl)
