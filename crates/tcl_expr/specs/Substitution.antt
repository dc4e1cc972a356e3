-- Steps. The tree of a text with substitution: of what stands in quotes, and of the index of an element.
use Rattle.std.specs.Prelude.{◌≡◌, ◌⊎◌, ℕ, zero, suc, List, [], ◌∷◌, ◌++◌, Result, Ok, Err}
use Rattle.tcl_words.specs.Reading.{index_pieces_of}
use Rattle.tcl_words.specs.declared.script.Piece.{Piece}
use Rattle.tcl_words.specs.declared.script.Piece.TheVariants as piece
use Rattle.tcl_text.specs.declared.fault.ParseFault.{ParseFault}
use Rattle.tcl_expr.specs.declared.fault.ExprFault.{ExprFault}
use Rattle.tcl_expr.specs.declared.fault.ExprFault.TheVariants.{Script}
use Rattle.tcl_expr.specs.Faults.{too_long, no_memory}
use Rattle.tcl_expr.specs.declared.step.Step.{Step}
use Rattle.tcl_expr.specs.Trees.{Tree, Plain, Variable, Element, Command, Joined}
use Rattle.tcl_expr.specs.Steps.{steps_of}

abbrev pub on_tree : Result Tree ExprFault → (Tree → Result Tree ExprFault) → Result Tree ExprFault
on_tree (Ok tree) go = go tree
on_tree (Err fault) go = Err fault

-- a tree, and behind it those of pieces, by what each of them is
abbrev pub joined_trees : (Piece → Result Tree ExprFault) → Tree → List Piece → Result Tree ExprFault
joined_trees of tree [] = Ok tree
joined_trees of tree (own ∷ pieces) = on_tree (of own) (λ next. joined_trees of (Joined tree next) pieces)

abbrev pub text_tree_by : (Piece → Result Tree ExprFault) → List Piece → Result Tree ExprFault
text_tree_by of [] = Ok (Plain [])
text_tree_by of (own ∷ pieces) = on_tree (of own) (λ tree. joined_trees of tree pieces)

abbrev pub element_tree : List ℕ → Result Tree ExprFault → Result Tree ExprFault
element_tree name index = on_tree index (λ tree. Ok (Element name tree))

abbrev pub index_tree_by : (Piece → Result Tree ExprFault) → Result (List Piece) ParseFault → Result Tree ExprFault
index_tree_by of (Ok pieces) = text_tree_by of pieces
index_tree_by of (Err fault) = Err (Script fault)

-- the tree of a piece, where so many indices may stand in one another
abbrev pub piece_tree : ℕ → Piece → Result Tree ExprFault
piece_tree room (piece.Literal text) = Ok (Plain text)
piece_tree room (piece.Variable name) = Ok (Variable name)
piece_tree zero (piece.Element name index) = Err too_long
piece_tree (suc room) (piece.Element name index) = element_tree name (index_tree_by (piece_tree room) (index_pieces_of index))
piece_tree room (piece.Bracket script) = Ok (Command script)

-- the tree of a text of these pieces
abbrev pub text_tree : ℕ → List Piece → Result Tree ExprFault
text_tree room pieces = text_tree_by (piece_tree room) pieces

-- the code has written the steps of a tree behind those that were there
abbrev pub Writes : List Step → Result (Unit {0}) ExprFault → List Step → Result Tree ExprFault → Type 0
Writes old (Ok done) new expected = (tree : Tree) × (expected ≡ Ok tree) × (new ≡ old ++ steps_of tree)
Writes old (Err fault) new expected = (expected ≡ Err fault) ⊎ (fault ≡ no_memory)
