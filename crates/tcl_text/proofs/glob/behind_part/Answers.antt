use Rattle.std.proofs.Common.{◌≡◌, ℕ, List, ◌∷◌, ◌∙◌, ap}
use denote.Ref.{Bor}
use Rattle.std.specs.Str.{chars}
use Rattle.tcl_text.specs.Glob.{AllowsByClass}
use Rattle.tcl_text.proofs.GlobLemmas.{IfNone-then, AllowsFirst-class}
use Rattle.tcl_text.proofs.GlobPieces.{IfSome-then}
use Rattle.tcl_text.proofs.glob.behind_part.Goals as goal

pub returns-in-91-clause-behind : goal.returns-in-91-clause-behind
returns-in-91-clause-behind c =
    IfSome-then c.behind_class.result (λ (rest : Bor (List ℕ)). (character : ℕ) (other : List ℕ) → AllowsByClass (chars c.in_ok-first.after.now) character other → other ≡ chars rest.now) _ c.behind_class.ensures.behind (λ rest behind character other a. behind character other (AllowsFirst-class (chars c.args.pattern.now) (chars c.in_ok-first.after.now) character other (c.in_ok-first.ensures.cut ∙ ap (λ (x : ℕ). x ∷ chars c.in_ok-first.after.now) c.in-91.is) a))

pub returns-in-91-clause-none : goal.returns-in-91-clause-none
returns-in-91-clause-none c =
    IfNone-then c.behind_class.result ((character : ℕ) (other : List ℕ) → AllowsByClass (chars c.in_ok-first.after.now) character other → ⊥) _ c.behind_class.ensures.none (λ none character other a. none character other (AllowsFirst-class (chars c.args.pattern.now) (chars c.in_ok-first.after.now) character other (c.in_ok-first.ensures.cut ∙ ap (λ (x : ℕ). x ∷ chars c.in_ok-first.after.now) c.in-91.is) a))
