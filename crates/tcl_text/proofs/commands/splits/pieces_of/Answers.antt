use Rattle.std.proofs.Common.{rules, arith, ◌∙◌, ◌++◌, ◌∷◌, [], ap, List, ℕ}
use Rattle.tcl_text.specs.ListCommands.{pieces_of}
use Rattle.tcl_text.proofs.ListLemmas.{pieces-more, pieces-last}
use Rattle.tcl_text.proofs.commands.splits.pieces_of.Goals as goal

pub loop-pieces-preserved : goal.loop-pieces-preserved
loop-pieces-preserved c =
    let cut = rw c.in-Some.is at c.cut_piece.ensures.cut in
    let shorter = rw c.in-Some.is at c.cut_piece.ensures.shorter in
    let separators = c.args.separators.now in
    let pushed = c.in_ok-push.ensures.items ∙ ap (λ (t : List ℕ). c.loop-pieces.pieces.items ++ t ∷ []) c.in_ok-of_short.ensures in (
      search rules,
      omega (arith, shorter),
      ap (λ (t : List (List ℕ)). t ++ pieces_of c.in-Some.after.now separators) pushed ∙ pieces-more _ _ c.loop-pieces.rest.now c.cut_piece.result.0.now c.in-Some.after.now separators (search rules) cut c.loop-pieces.invariant.2,
    )

pub returns-in-None : goal.returns-in-None
returns-in-None c =
    let cut = rw c.in-None.is at c.cut_piece.ensures.cut in
    let separators = c.args.separators.now in
    c.in_ok-push.ensures.items ∙ ap (λ (t : List ℕ). c.loop-pieces.pieces.items ++ t ∷ []) c.in_ok-of_short.ensures ∙ pieces-last _ _ c.loop-pieces.rest.now c.cut_piece.result.0.now separators (search rules) cut c.loop-pieces.invariant.2
