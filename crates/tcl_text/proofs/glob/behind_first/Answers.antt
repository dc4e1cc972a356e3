use Rattle.tcl_text.proofs.GlobPieces.{behind_first_is, nowhere, piece_end}
use Rattle.tcl_text.proofs.glob.behind_first.Goals as goal

pub returns-in_err-place-clause-none : goal.returns-in_err-place-clause-none
returns-in_err-place-clause-none c = rw c.from_residual.ensures (nowhere c.args.text.now c.args.piece.now c.in_err-place.ensures)

pub range_from-requires : goal.range_from-requires
range_from-requires c = λ _. piece_end c.args.text.now c.args.piece.now c.in_ok-place.place c.utf8.text c.utf8.piece c.requires c.in_ok-place.ensures.1

pub returns-clause-found : goal.returns-clause-found
returns-clause-found c = behind_first_is c.args.text.now c.args.piece.now _ c.in_ok-place.place c.in_ok-place.ensures c.range_from.ensures.value
