use Rattle.std.proofs.Common.{ℕ, List, ◌∷◌, ◌∙◌, ap}
use Rattle.std.specs.Str.{chars}
use Rattle.tcl_text.specs.Glob.{AllowsByClass}
use Rattle.tcl_text.proofs.GlobLemmas.{IfNone-then, AllowsFirst-class}
use Rattle.tcl_text.proofs.glob.after_first.Goals as goal

pub returns-in-91-clause-none : goal.returns-in-91-clause-none
returns-in-91-clause-none c =
    IfNone-then c.after_class.result ((rest : List ℕ) → AllowsByClass (chars c.in_ok-first.after.now) c.args.character rest → ⊥) _ c.after_class.ensures.none (λ none rest h. none rest (AllowsFirst-class (chars c.args.pattern.now) (chars c.in_ok-first.after.now) c.args.character rest (c.in_ok-first.ensures.cut ∙ ap (λ (x : ℕ). x ∷ chars c.in_ok-first.after.now) c.in-91.is) h))
