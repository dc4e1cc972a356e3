use Rattle.std.proofs.Common.{◌<◌, ◌∙◌, arith, length, rules, sym}
use Rattle.std.specs.Str.{chars}
use Rattle.std.proofs.lemmas.Bool.{false≢true}
use Rattle.std.proofs.lemmas.Bool.Decides.{nat_tests}
use Rattle.tcl_text.specs.GlobSteps.{StopsAt}
use Rattle.tcl_text.proofs.GlobLemmas.{Stops-at_end, bytes_left}
use Rattle.tcl_text.proofs.GlobPieces.{piece_none, piece_found, piece_matched, piece_long}
use Rattle.tcl_text.proofs.glob.find_run.Goals as goal

pub returns-then-piece-text-clause-none : goal.returns-then-piece-text-clause-none
returns-then-piece-text-clause-none c =
    piece_long c.args.text.now c.plain_front.result.0.now (chars c.args.pattern.now) (chars c.plain_front.result.1.now) c.utf8.text (search rules) c.plain_front.ensures.cut c.plain_front.ensures.plain (omega arith)

pub returns-in_err-left-clause-none : goal.returns-in_err-left-clause-none
returns-in_err-left-clause-none c =
    rw c.from_residual.ensures (piece_none c.args.text.now c.plain_front.result.0.now (chars c.args.pattern.now) (chars c.plain_front.result.1.now) c.utf8.text (search rules) c.plain_front.ensures.cut c.plain_front.ensures.plain c.in_err-left.ensures.none)

pub returns-clause-stops : goal.returns-clause-stops
returns-clause-stops c =
    Stops-at_end (chars c.plain_front.result.1.now) (chars c.in_ok-left.left.now) (λ part. false≢true (sym c.if-has_part.false ∙ c.has_part.ensures.1 part)) (λ none. absurd (bytes_left c.plain_front.result.1.now (search rules) none (λ e. grind (arith, nat_tests))))

pub returns-clause-found : goal.returns-clause-found
returns-clause-found c =
    let text = c.args.text.now in
    let piece = c.plain_front.result.0.now in
    let rest = c.plain_front.result.1.now in
    let left = c.in_ok-left.left.now in
    let some : 0 < length piece = grind (arith, nat_tests) in
    let stops : StopsAt (chars rest) (chars left) =
    Stops-at_end (chars rest) (chars left) (λ part. false≢true (sym c.if-has_part.false ∙ c.has_part.ensures.1 part)) (λ none. absurd (bytes_left rest (search rules) none (λ e. grind (arith, nat_tests))))
    in (
      λ m. piece_matched text piece (chars c.args.pattern.now) (chars rest) left c.utf8.text (search rules) some c.plain_front.ensures.cut c.plain_front.ensures.plain c.in_ok-left.ensures.found m,
      λ m. piece_found text piece (chars c.args.pattern.now) (chars rest) left c.utf8.text (search rules) (search rules) some c.plain_front.ensures.cut c.plain_front.ensures.plain c.in_ok-left.ensures.found stops m,
    )
