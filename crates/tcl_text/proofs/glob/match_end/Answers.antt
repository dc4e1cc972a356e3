use Rattle.std.proofs.Common.{◌≡◌, ◌-◌, ◌∙◌, ℕ, List, ap, drop, length, subst, sym}
use denote.Ref.{Bor}
use Rattle.std.specs.Str.{chars}
use Rattle.tcl_text.specs.Glob.{GlobMatches}
use Rattle.tcl_text.specs.GlobSteps.{Runs}
use Rattle.tcl_text.proofs.GlobLemmas.{IfNone-then}
use Rattle.tcl_text.proofs.GlobPieces.{IfSome-then, end_found, end_matched, end_matches}
use Rattle.tcl_text.proofs.glob.match_end.Goals as goal

pub returns-clause-found : goal.returns-clause-found
returns-clause-found c =
    let pattern = chars c.args.pattern.now in
    let text = chars c.args.text.now in
    let at : chars c.split_characters.result.1.now ≡ drop (length text - c.args.parts) text =
    c.split_characters.ensures.back ∙ ap (λ (n : ℕ). drop (n - c.args.parts) text) c.count-size.ensures.count
    in
    IfSome-then c.match_run.result (λ (rests : Bor (List ℕ) × Bor (List ℕ)). Runs pattern (chars c.split_characters.result.1.now) (chars rests.0.now) (chars rests.1.now)) _ c.match_run.ensures.found (λ rests run.
    let there = subst (λ (t : List ℕ). Runs pattern t (chars rests.0.now) (chars rests.1.now)) at run in (
      λ m. end_matched pattern text (chars rests.0.now) (chars rests.1.now) c.args.parts there m,
      λ m. end_found pattern text (chars rests.0.now) (chars rests.1.now) c.args.parts c.requires there m,
    ))

pub returns-clause-none : goal.returns-clause-none
returns-clause-none c =
    let pattern = chars c.args.pattern.now in
    let text = chars c.args.text.now in
    let at : chars c.split_characters.result.1.now ≡ drop (length text - c.args.parts) text =
    c.split_characters.ensures.back ∙ ap (λ (n : ℕ). drop (n - c.args.parts) text) c.count-size.ensures.count
    in
    IfNone-then c.match_run.result (GlobMatches pattern (chars c.split_characters.result.1.now) → ⊥) _ c.match_run.ensures.none (λ none m. none (subst (λ (t : List ℕ). GlobMatches pattern t) (sym at) (end_matches pattern text c.args.parts c.requires m).1))
