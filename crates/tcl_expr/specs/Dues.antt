-- Steps. The steps of what is still to be written of a text with substitution, as the code has it on a stack, the topmost last.
use Rattle.std.specs.Prelude.{ℕ, zero, suc, ◌+◌, ◌≡◌, ◌⊎◌, List, [], ◌∷◌, ◌++◌, Result, Ok, Err}
use Rattle.tcl_words.specs.Reading.{index_pieces_of}
use Rattle.tcl_words.specs.declared.script.Piece.{Piece}
use Rattle.tcl_words.specs.declared.script.Piece.TheVariants as piece
use Rattle.tcl_text.specs.declared.fault.ParseFault.{ParseFault}
use Rattle.tcl_expr.specs.declared.fault.ExprFault.{ExprFault}
use Rattle.tcl_expr.specs.Faults.{no_memory}
use Rattle.tcl_expr.specs.declared.step.Step.{Step}
use Rattle.tcl_expr.specs.declared.step.Step.TheVariants as step
use Rattle.tcl_expr.specs.declared.substitution.Due.{Due}
use Rattle.tcl_expr.specs.declared.substitution.Due.TheVariants as due
use Rattle.tcl_expr.specs.Trees.{Tree}
use Rattle.tcl_expr.specs.Steps.{steps_of}
use Rattle.tcl_expr.specs.Substitution.{piece_tree}

-- steps, and those that come behind them
abbrev pub with_steps : List Step → Result (List Step) ExprFault → Result (List Step) ExprFault
with_steps steps (Ok others) = Ok (steps ++ others)
with_steps steps (Err fault) = Err fault

-- the same, where the first may have a fault, which is the one that counts
abbrev pub written_before : Result (List Step) ExprFault → Result (List Step) ExprFault → Result (List Step) ExprFault
written_before (Ok steps) others = with_steps steps others
written_before (Err fault) others = Err fault

abbrev pub tree_steps : Result Tree ExprFault → Result (List Step) ExprFault
tree_steps (Ok tree) = Ok (steps_of tree)
tree_steps (Err fault) = Err fault

abbrev pub piece_steps : ℕ → Piece → Result (List Step) ExprFault
piece_steps room own = tree_steps (piece_tree room own)

-- pieces, each of them joined to what stands before it
abbrev pub others_steps : ℕ → List Piece → Result (List Step) ExprFault
others_steps room [] = Ok []
others_steps room (own ∷ pieces) = written_before (piece_steps room own) (with_steps (step.Join ∷ []) (others_steps room pieces))

abbrev pub text_steps : ℕ → List Piece → Result (List Step) ExprFault
text_steps room [] = Ok (step.Plain [] ∷ [])
text_steps room (own ∷ pieces) = written_before (piece_steps room own) (others_steps room pieces)

abbrev pub due_steps : Due → Result (List Step) ExprFault
due_steps (due.Piece own room) = piece_steps room own.now
due_steps (due.Others pieces room) = others_steps room pieces.now
due_steps due.Join = Ok (step.Join ∷ [])
due_steps (due.Element array) = Ok (step.Element array.now ∷ [])

-- all that is due, and what comes behind it
abbrev pub steps_before : List Due → Result (List Step) ExprFault → Result (List Step) ExprFault
steps_before [] others = others
steps_before (own ∷ dues) others = steps_before dues (written_before (due_steps own) others)

abbrev pub dues_steps : List Due → Result (List Step) ExprFault
dues_steps dues = steps_before dues (Ok [])

-- Steps were written, and others are due: together they are those that were to be written.
abbrev pub GoesOn : List Step → Result (List Step) ExprFault → Result (Unit {0}) ExprFault → List Step → Result (List Step) ExprFault → Type 0
GoesOn old expected (Ok done) new left = with_steps old expected ≡ with_steps new left
GoesOn old expected (Err fault) new left = (expected ≡ Err fault) ⊎ (fault ≡ no_memory)

-- ── how much is due, which falls with each that is written ──

abbrev pub others_weight_by : (Piece → ℕ) → List Piece → ℕ
others_weight_by weight [] = 1
others_weight_by weight (own ∷ pieces) = 3 + weight own + others_weight_by weight pieces

abbrev pub index_weight_by : (Piece → ℕ) → Result (List Piece) ParseFault → ℕ
index_weight_by weight (Ok pieces) = others_weight_by weight pieces
index_weight_by weight (Err fault) = 0

abbrev pub piece_weight : ℕ → Piece → ℕ
piece_weight room (piece.Literal text) = 1
piece_weight room (piece.Variable name) = 1
piece_weight room (piece.Bracket script) = 1
piece_weight zero (piece.Element name index) = 1
piece_weight (suc room) (piece.Element name index) = 2 + index_weight_by (piece_weight room) (index_pieces_of index)

abbrev pub text_weight : ℕ → List Piece → ℕ
text_weight room pieces = others_weight_by (piece_weight room) pieces

abbrev pub due_weight : Due → ℕ
due_weight (due.Piece own room) = piece_weight room own.now
due_weight (due.Others pieces room) = text_weight room pieces.now
due_weight due.Join = 1
due_weight (due.Element array) = 1

abbrev pub dues_weight : List Due → ℕ
dues_weight [] = 0
dues_weight (own ∷ dues) = due_weight own + dues_weight dues
