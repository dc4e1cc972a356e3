-- An element's name and index are stretches behind its opener.
use Rattle.std.proofs.Common.{◌≡◌, ◌+◌, suc, refl, ap, sym, ◌∙◌, arith, Ok}
use Rattle.std.specs.List.{slice_range}
use Rattle.tcl_words.specs.Reading.{index_pieces_of}
use Rattle.tcl_words.proofs.SliceLemmas.{slice_behind, slice_first}
use Rattle.tcl_words.proofs.reader.piece_of.Goals as goal

pub new-requires-in-Index : goal.new-requires-in-Index
new-requires-in-Index c =
    let source = c.args.source.now in
    let base = c.args.at + 1 in
    let count = c.in-Index.count in
    let begins : base + count + 1 ≡ base + suc count = omega arith in
    let index = c.in_ok-text-in-Index.ensures.ok ∙ ap (λ n. slice_range source n (base + c.args.close)) begins ∙ slice_behind source base (suc count) c.args.close in
    let parse = rw c.in-Index.is at c.requires.parse in
    ap index_pieces_of index ∙ parse.0 ∙ ap Ok (sym c.into_pieces.ensures)

pub returns-in_ok-index-in-Index-clause-ok : goal.returns-in_ok-index-in-Index-clause-ok
returns-in_ok-index-in-Index-clause-ok c =
    let source = c.args.source.now in
    let base = c.args.at + 1 in
    let count = c.in-Index.count in
    let begins : base + count + 1 ≡ base + suc count = omega arith in
    let name = c.in_ok-name-in-Index.ensures.ok ∙ slice_first source base count in
    let index = c.in_ok-text-in-Index.ensures.ok ∙ ap (λ n. slice_range source n (base + c.args.close)) begins ∙ slice_behind source base (suc count) c.args.close in
    rw c.in-Index.is (rw (c.in_ok-index-in-Index.ensures, name, index) refl)
