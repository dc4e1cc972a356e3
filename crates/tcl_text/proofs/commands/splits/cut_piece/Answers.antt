use Rattle.std.proofs.Common.{◌≡◌, ◌∷◌, [], sym, subst, ℕ, List, length, arith}
use Rattle.std.specs.Option.{option_copied}
use Rattle.tcl_text.specs.ListCommands.{is_one_of}
use Rattle.tcl_text.specs.ListSteps.{CutsOnce}
use Rattle.tcl_text.proofs.SeparatorLemmas.{only_item}
use Rattle.tcl_text.proofs.commands.splits.cut_piece.Goals as goal

pub returns-then-is_ascii-clause-cut : goal.returns-then-is_ascii-clause-cut
returns-then-is_ascii-clause-cut c =
    let one : length c.args.separators.now ≡ 1 = omega (arith, c.in-len1.len_at_least, c.in-len1.len_below) in
    let is : c.args.separators.now ≡ c.separator-item.result ∷ [] = only_item c.args.separators.now c.separator-item.result one c.separator-item.is in
    subst (λ (t : List ℕ). CutsOnce (is_one_of t) c.args.text.now c.cut_at_byte.result.0.now (option_copied c.cut_at_byte.result.1)) (sym is) c.cut_at_byte.ensures.cut
