use Rattle.std.proofs.Common.{sym, ◌∙◌, ap}
use Rattle.tk_patterns.specs.Copies.{all_copies}
use Rattle.tk_patterns.specs.Specific.{is_alike}
use Rattle.tk_patterns.proofs.VerdictLemmas.{decided_at, alike_at, ended_at}
use Rattle.tk_patterns.proofs.candidate.by_modifiers.Goals as goal

pub returns-in_default-copy_at : goal.returns-in_default-copy_at
returns-in_default-copy_at c =
    sym (ended_at (all_copies c.args.patterns.now) (all_copies c.args.others.now) c.loop-place.place c.in-Some.copy (sym c.in-Some.ensures) (sym c.in_default-copy_at.ensures)) ∙ c.loop-place.invariant

pub returns-then-not-is_alike : goal.returns-then-not-is_alike
returns-then-not-is_alike c =
    c.by_held-verdict.ensures
    ∙ sym (decided_at (all_copies c.args.patterns.now) (all_copies c.args.others.now) c.loop-place.place c.in-Some.copy c.in-Some-copy_at.other (sym c.in-Some.ensures) (sym c.in-Some-copy_at.ensures) (ap is_alike (sym c.by_held-verdict.ensures) ∙ sym c.if-not-is_alike.ensures))
    ∙ c.loop-place.invariant

pub loop-place-preserved : goal.loop-place-preserved
loop-place-preserved c =
    sym (alike_at (all_copies c.args.patterns.now) (all_copies c.args.others.now) c.loop-place.place c.in-Some.copy c.in-Some-copy_at.other (sym c.in-Some.ensures) (sym c.in-Some-copy_at.ensures) (ap is_alike (sym c.by_held-verdict.ensures) ∙ sym c.if-not-is_alike.ensures))
    ∙ c.loop-place.invariant
