use Rattle.std.proofs.Common.{◌≡◌, ℕ, List, Bool, true, nat_lt, length, sym, ap, ◌∙◌, arith, ◌&&◌}
use Rattle.std.proofs.lemmas.Bool.Decides.{nat_tests}
use Rattle.tk_sequences.specs.Words.{has_no_closing}
use Rattle.tk_sequences.proofs.virtual_name.is_name.Goals as goal

pub returns-then-not-is_empty : goal.returns-then-not-is_empty
returns-then-not-is_empty c =
    let some : nat_lt 0 (length c.args.name.now) ≡ true = grind (arith, nat_tests) in
    c.has_no_closing.ensures ∙ ap has_no_closing c.as_bytes.ensures.value
    ∙ ap (λ (test : Bool). test && has_no_closing c.args.name.now) (sym some)
