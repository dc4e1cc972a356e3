use Rattle.std.proofs.Common.{◌∙◌, ap, sym, subst, Some, ◌+◌}
use Rattle.std.proofs.lemmas.List.{take_rest}
use Rattle.tcl_text.specs.Backslash.{escape}
use Rattle.tcl_text.specs.Splitting.{KeepsBalance, StepsInBraces}
use Rattle.tcl_text.proofs.BalanceLemmas.{balance_escape}
use Rattle.tcl_text.proofs.SplittingLemmas.{step_escape, step_close}
use Rattle.tcl_text.proofs.splitting.brace_step.Goals as goal

pub returns-in-Backslash-clause-reads : goal.returns-in-Backslash-clause-reads
returns-in-Backslash-clause-reads c =
    let text = c.args.text.now in
    let length_is = sym (ap (λ e. e.length) c.escape_behind.ensures.exact ∙ ap (λ behind. (escape behind).length) (take_rest text 1)) in
    subst (λ n. StepsInBraces c.args.depth text (Some (n + 1, c.args.depth))) length_is
    (step_escape c.args.depth text c.requires.some (sym c.kind.ensures ∙ c.in-Backslash.is))

pub returns-in-CloseBrace-clause-reads : goal.returns-in-CloseBrace-clause-reads
returns-in-CloseBrace-clause-reads c =
    step_close c.args.depth c.args.text.now c.requires.some (sym c.kind.ensures ∙ c.in-CloseBrace.is) c.if-depth-eq0.true

pub returns-in-Backslash-clause-balance : goal.returns-in-Backslash-clause-balance
returns-in-Backslash-clause-balance c =
    let text = c.args.text.now in
    let length_is = sym (ap (λ e. e.length) c.escape_behind.ensures.exact ∙ ap (λ behind. (escape behind).length) (take_rest text 1)) in
    subst (λ n. KeepsBalance c.args.depth text (Some (n + 1, c.args.depth))) length_is
    (balance_escape c.args.depth text c.requires.some (sym c.kind.ensures ∙ c.in-Backslash.is))
