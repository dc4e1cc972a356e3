-- What is read of a script's pieces is a tree, which is the one that the grammar relates.
use Rattle.std.proofs.Common.{◌≡◌, ℕ, zero, suc, ◌≤◌, Bool, List, [], ◌∷◌, ◌++◌, Result, Ok, Err, refl, sym, ap, ◌∙◌, arith}
use Rattle.tcl_text.specs.Backslash.{escape}
use Rattle.tcl_words.specs.Grammar.{TextEnding, leaves as leaves_text, fails as text_fails, index, with_bytes, ArePieces, IsInnerOf, IsIndexOf}
use Rattle.tcl_words.specs.Grammar.ArePieces.{stop, unended, byte, backslash, dollar, variable as body_variable, braced_name as body_braced_name, unclosed_name, element as body_element, faulty_index, bracket as body_bracket, faulty_script}
use Rattle.tcl_words.specs.OperandGrammar.{IsSubstitution}
use Rattle.tcl_words.specs.OperandGrammar.IsSubstitution.{variable as name_behind, braced_name as braced_behind, element as element_behind}
use Rattle.tcl_words.specs.declared.kind.Mode.{Mode}
use Rattle.tcl_words.specs.declared.script.Piece.{Piece}
use Rattle.tcl_words.specs.declared.script.Piece.TheVariants as piece
use Rattle.tcl_text.specs.declared.fault.ParseFault.TheVariants.{TooLong as TextTooLong}
use Rattle.tcl_words.proofs.IndicesAlone.{index_by_itself}
use Rattle.tcl_words.proofs.Parses.{index_walked}
use Rattle.tcl_expr.specs.declared.fault.ExprFault.{ExprFault}
use Rattle.tcl_expr.specs.Faults.{too_long}
use Rattle.tcl_expr.specs.Substitution.{on_tree as with_part, joined_trees, element_tree, index_tree_by, piece_tree, text_tree}
use Rattle.tcl_expr.specs.Trees.{Tree, Plain, Variable, Element, Command, Joined}
use Rattle.tcl_expr.specs.Grammar.{IsPieceTree, IsTextTree, IsJoinedTree}
use Rattle.tcl_expr.specs.Grammar.IsPieceTree.{literal, variable, bracket, element}
use Rattle.tcl_expr.specs.Grammar.IsTextTree.{none, some}
use Rattle.tcl_expr.specs.Grammar.IsJoinedTree.{all, more}

-- ── what is related is what is read, where anything is ──

element_same : (name : List ℕ) (tree u : Tree) (read : Result Tree ExprFault) → ((v : Tree) → read ≡ Ok v → tree ≡ v) → element_tree name read ≡ Ok u → Element name tree ≡ u
element_same name tree u (Ok v) same e = let k : Ok (Element name v) ≡ Ok u = e in let f : Element name v ≡ u = cc in ap (Element name) (same v refl) ∙ f
element_same name tree u (Err fault) same e = let k : Err fault ≡ Ok u = e in absurd (cc)

part_same : (first tree u : Tree) (read : Result Tree ExprFault) (go : Tree → Result Tree ExprFault) → ((v : Tree) → read ≡ Ok v → first ≡ v) → (go first ≡ Ok u → tree ≡ u) → with_part read go ≡ Ok u → tree ≡ u
part_same first tree u (Ok v) go same then e = let k : go v ≡ Ok u = e in then (ap go (same v refl) ∙ k)
part_same first tree u (Err fault) go same then e = let k : Err fault ≡ Ok u = e in absurd (cc)

mutual
  pub piece_same : {own : Piece} {tree : Tree} → IsPieceTree own tree → (room : ℕ) (u : Tree) → piece_tree room own ≡ Ok u → tree ≡ u
  piece_same (literal text) room u e = let k : Ok (Plain text) ≡ Ok u = e in cc
  piece_same (variable name) room u e = let k : Ok (Variable name) ≡ Ok u = e in cc
  piece_same (bracket script) room u e = let k : Ok (Command script) ≡ Ok u = e in cc
  piece_same (element name own pieces tree is trees) zero u e = let k : Err too_long ≡ Ok u = e in absurd (cc)
  piece_same (element name own pieces tree is trees) (suc room) u e =
      element_same name tree u (text_tree room pieces) (λ v f. text_same trees room v f) (ap (λ r. element_tree name (index_tree_by (piece_tree room) r)) (sym (index_walked own pieces is)) ∙ e)

  pub text_same : {pieces : List Piece} {tree : Tree} → IsTextTree pieces tree → (room : ℕ) (u : Tree) → text_tree room pieces ≡ Ok u → tree ≡ u
  text_same none room u e = let k : Ok (Plain []) ≡ Ok u = e in cc
  text_same (some own pieces first tree is trees) room u e =
      part_same first tree u (piece_tree room own) (λ t. joined_trees (piece_tree room) t pieces) (λ v f. piece_same is room v f) (λ f. joined_same trees room u f) e

  joined_same : {first : Tree} {pieces : List Piece} {tree : Tree} → IsJoinedTree first pieces tree → (room : ℕ) (u : Tree) → joined_trees (piece_tree room) first pieces ≡ Ok u → tree ≡ u
  joined_same (all tree) room u e = let k : Ok tree ≡ Ok u = e in cc
  joined_same (more own pieces first next tree is trees) room u e =
      part_same next tree u (piece_tree room own) (λ t. joined_trees (piece_tree room) (Joined first t) pieces) (λ v f. piece_same is room v f) (λ f. joined_same trees room u f) e

-- ── pieces that were read with so much room have trees with it ──

abbrev pub HasTree : ℕ → Piece → Type 0
HasTree room own = (tree : Tree) × (piece_tree room own ≡ Ok tree) × IsPieceTree own tree

abbrev pub HaveTrees : ℕ → List Piece → Type 0
HaveTrees room [] = Unit {0}
HaveTrees room (own ∷ pieces) = HasTree room own × HaveTrees room pieces

bytes_have : (room : ℕ) (bytes : List ℕ) (pieces : List Piece) → HaveTrees room pieces → HaveTrees room (with_bytes bytes pieces)
bytes_have room [] pieces have = have
bytes_have room (b ∷ bytes) [] have = ((Plain (b ∷ bytes), refl, literal (b ∷ bytes)), tt)
bytes_have room (b ∷ bytes) (piece.Literal text ∷ pieces) have = ((Plain (b ∷ (bytes ++ text)), refl, literal (b ∷ (bytes ++ text))), have.1)
bytes_have room (b ∷ bytes) (piece.Variable name ∷ pieces) have = ((Plain (b ∷ bytes), refl, literal (b ∷ bytes)), have)
bytes_have room (b ∷ bytes) (piece.Element name key ∷ pieces) have = ((Plain (b ∷ bytes), refl, literal (b ∷ bytes)), have)
bytes_have room (b ∷ bytes) (piece.Bracket own ∷ pieces) have = ((Plain (b ∷ bytes), refl, literal (b ∷ bytes)), have)

abbrev JoinedHas : ℕ → List Piece → Tree → Type 0
JoinedHas room pieces first = (tree : Tree) × (joined_trees (piece_tree room) first pieces ≡ Ok tree) × IsJoinedTree first pieces tree

joined_has : (room : ℕ) (pieces : List Piece) (first : Tree) → HaveTrees room pieces → JoinedHas room pieces first
joined_has room [] first have = (first, refl, all first)
joined_has room (own ∷ pieces) first ((next, e, is), have) =
    let rest : JoinedHas room pieces (Joined first next) = joined_has room pieces (Joined first next) have in
    (rest.0, ap (λ r. with_part r (λ t. joined_trees (piece_tree room) (Joined first t) pieces)) e ∙ rest.1, more own pieces first next rest.0 is rest.2)

pub text_has : (room : ℕ) (pieces : List Piece) → HaveTrees room pieces → (tree : Tree) × (text_tree room pieces ≡ Ok tree) × IsTextTree pieces tree
text_has room [] have = (Plain [], refl, none)
text_has room (own ∷ pieces) ((first, e, is), have) =
    let rest : JoinedHas room pieces first = joined_has room pieces first have in
    (rest.0, ap (λ r. with_part r (λ t. joined_trees (piece_tree room) t pieces)) e ∙ rest.1, some own pieces first rest.0 is rest.2)

-- each element whose index was read with so much room
abbrev ElementsHave : ℕ → Type 0
ElementsHave room = (name own text : List ℕ) → IsInnerOf room index (own ++ 41 ∷ text) (leaves_text (41 ∷ text)) → HasTree room (piece.Element name own)

body_have : (room : ℕ) → ElementsHave room → {inside : Bool} {mode : Mode} {text : List ℕ} {pieces : List Piece} {ending : TextEnding} → ArePieces (IsInnerOf room) inside mode text pieces ending → HaveTrees room pieces
body_have room elements (stop h) = tt
body_have room elements (unended h) = tt
body_have room elements (byte {b} {text} {pieces} h p rest) = bytes_have room (b ∷ []) pieces (body_have room elements rest)
body_have room elements (backslash {text} {pieces} h rest) = bytes_have room (escape text).meaning pieces (body_have room elements rest)
body_have room elements (dollar {text} {pieces} h k rest) = bytes_have room (36 ∷ []) pieces (body_have room elements rest)
body_have room elements (body_variable name is h k rest) = ((Variable name, refl, variable name), body_have room elements rest)
body_have room elements (body_braced_name name h rest) = ((Variable name, refl, variable name), body_have room elements rest)
body_have room elements (unclosed_name h) = tt
body_have room elements (body_element name own {text} is h rest) = (elements name own text h, body_have room elements rest)
body_have room elements (faulty_index name is h) = tt
body_have room elements (body_bracket own h rest) = ((Command own, refl, bracket own), body_have room elements rest)
body_have room elements (faulty_script h) = tt

elements_have : (room : ℕ) → room ≤ 200 → (name own text : List ℕ) → IsInnerOf room index (own ++ 41 ∷ text) (leaves_text (41 ∷ text)) → HasTree room (piece.Element name own)
elements_have zero small name own text h = let k : leaves_text (41 ∷ text) ≡ text_fails TextTooLong = h in absurd (cc)
elements_have (suc room) small name own text (pieces, are) =
    let less : room ≤ 200 = omega (arith, small) in
    let whole = text_has room pieces (body_have room (elements_have room less) are) in
    let is : IsIndexOf own pieces = index_by_itself room own text pieces less are in (
      Element name whole.0,
      ap (λ r. element_tree name (index_tree_by (piece_tree room) r)) (index_walked own pieces is) ∙ ap (element_tree name) whole.1,
      element name own pieces whole.0 is whole.2,
    )

pub pieces_have : (room : ℕ) → room ≤ 200 → {inside : Bool} {mode : Mode} {text : List ℕ} {pieces : List Piece} {ending : TextEnding} → ArePieces (IsInnerOf room) inside mode text pieces ending → HaveTrees room pieces
pieces_have room small are = body_have room (elements_have room small) are

pub substitution_has : (room : ℕ) → room ≤ 200 → {text : List ℕ} {own : Piece} {rest : List ℕ} → IsSubstitution room text own rest → HasTree room own
substitution_has room small (name_behind name is h k) = (Variable name, refl, variable name)
substitution_has room small (braced_behind name h) = (Variable name, refl, variable name)
substitution_has room small (element_behind name own {text} is h) = elements_have room small name own text h

-- ── so what is related is read ──

pub text_tree_is : (room : ℕ) → room ≤ 200 → {inside : Bool} {mode : Mode} {text : List ℕ} {pieces : List Piece} {ending : TextEnding} {tree : Tree} → ArePieces (IsInnerOf room) inside mode text pieces ending →
    IsTextTree pieces tree → text_tree room pieces ≡ Ok tree
text_tree_is room small {pieces = pieces} are is =
    let whole = text_has room pieces (pieces_have room small are) in whole.1 ∙ ap Ok (sym (text_same is room whole.0 whole.1))

pub piece_tree_is : (room : ℕ) → room ≤ 200 → {text : List ℕ} {own : Piece} {rest : List ℕ} {tree : Tree} → IsSubstitution room text own rest → IsPieceTree own tree → piece_tree room own ≡ Ok tree
piece_tree_is room small sub is = let has = substitution_has room small sub in has.1 ∙ ap Ok (sym (piece_same is room has.0 has.1))
