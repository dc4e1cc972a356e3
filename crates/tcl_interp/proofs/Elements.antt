-- Elements are read by their equation alone, and no index has more of them in one another than the code goes down.
use Rattle.std.proofs.Common.{◌≡◌, ℕ, zero, suc, ◌≤◌, ◌<◌, Bool, true, false, cond, List, [], ◌∷◌, ◌++◌, length, drop, nat_le, Result, Ok, Err, refl, ap, sym, ◌∙◌, length-append, length-drop, arith}
use Rattle.std.proofs.Math.Path.{fun_ext}
use Rattle.tcl_text.specs.Backslash.{escape}
use Rattle.tcl_text.specs.declared.fault.ParseFault.{ParseFault}
use Rattle.tcl_text.specs.declared.fault.ParseFault.TheVariants.{TooLong}
use Rattle.tcl_words.specs.declared.kind.Mode.{Mode}
use Rattle.tcl_words.specs.declared.kind.Mode.TheVariants.{Parens}
use Rattle.tcl_words.specs.declared.script.Piece.{Piece}
use Rattle.tcl_words.specs.declared.script.Piece.TheVariants.{Literal, Variable, Element, Bracket}
use Rattle.tcl_words.specs.Grammar.{TextEnding, leaves, fails, Inner, index as of_index, with_bytes, ArePieces, IsInnerOf, IsIndexOf, IsIndexParse}
use Rattle.tcl_words.specs.Grammar.ArePieces.{stop, unended, byte, backslash, dollar, variable, braced_name, unclosed_name, element, faulty_index, bracket, faulty_script}
use Rattle.tcl_words.proofs.IndicesAlone.{index_by_itself}
use Rattle.tcl_control.specs.declared.code.Code.TheVariants.{Error}
use Rattle.tcl_table.specs.Texts.{limit_text}
use Rattle.tcl_interp.specs.Evaluation.{State, Outcome, Ended, and_then, on_normal, with_value_of, with_joined, only_index_parse, index_pieces, element_read, on_index, pieces_meaning, element_by, element_within, element_meaning}
use Rattle.tcl_interp.specs.ElementLaws.{ElementsAreRead, OnlyElements}
use Rattle.tcl_interp.specs.Moves.{index_depth}

-- ── what holds of each index among pieces ──

abbrev IndicesMeet : (List ℕ → Type 0) → List Piece → Type 0
IndicesMeet Q [] = Unit {0}
IndicesMeet Q (Literal text ∷ pieces) = IndicesMeet Q pieces
IndicesMeet Q (Variable name ∷ pieces) = IndicesMeet Q pieces
IndicesMeet Q (Element name own ∷ pieces) = Q own × IndicesMeet Q pieces
IndicesMeet Q (Bracket script ∷ pieces) = IndicesMeet Q pieces

meet_too : (Q R : List ℕ → Type 0) → ((own : List ℕ) → Q own → R own) → (pieces : List Piece) → IndicesMeet Q pieces → IndicesMeet R pieces
meet_too Q R h [] meet = tt
meet_too Q R h (Literal text ∷ pieces) meet = meet_too Q R h pieces meet
meet_too Q R h (Variable name ∷ pieces) meet = meet_too Q R h pieces meet
meet_too Q R h (Element name own ∷ pieces) meet = (h own meet.0, meet_too Q R h pieces meet.1)
meet_too Q R h (Bracket script ∷ pieces) meet = meet_too Q R h pieces meet

meet_with_bytes : (Q : List ℕ → Type 0) (bytes : List ℕ) (pieces : List Piece) → IndicesMeet Q pieces → IndicesMeet Q (with_bytes bytes pieces)
meet_with_bytes Q [] pieces meet = meet
meet_with_bytes Q (b ∷ bytes) [] meet = meet
meet_with_bytes Q (b ∷ bytes) (Literal text ∷ pieces) meet = meet
meet_with_bytes Q (b ∷ bytes) (Variable name ∷ pieces) meet = meet
meet_with_bytes Q (b ∷ bytes) (Element name own ∷ pieces) meet = meet
meet_with_bytes Q (b ∷ bytes) (Bracket script ∷ pieces) meet = meet

module _ (IsInner : Inner → List ℕ → TextEnding → Type 0) (inside : Bool) (mode : Mode) (Q : List ℕ → Type 0) (n : ℕ)
    (shorter_meet : (own behind : List ℕ) → length own < n → IsInner of_index (own ++ 41 ∷ behind) (leaves (41 ∷ behind)) → Q own) where
  -- Each index that stands in a text is shorter than it. What holds of such holds of each.
  indices_meet : {text : List ℕ} {pieces : List Piece} {ending : TextEnding} → ArePieces IsInner inside mode text pieces ending → length text ≤ n → IndicesMeet Q pieces
  indices_meet (stop h) le = tt
  indices_meet (unended h) le = tt
  indices_meet (byte {b} {text} {pieces} {ending} h p more) le = meet_with_bytes Q (b ∷ []) pieces (indices_meet more (omega (arith, le)))
  indices_meet (backslash {text} {pieces} {ending} h more) le =
      meet_with_bytes Q (escape text).meaning pieces (indices_meet more (omega (arith, le, length-drop (escape text).length text)))
  indices_meet (dollar {text} {pieces} {ending} h k more) le = meet_with_bytes Q (36 ∷ []) pieces (indices_meet more (omega (arith, le)))
  indices_meet (variable name {text} {pieces} {ending} is h k more) le = indices_meet more (omega (arith, le, length-append name text))
  indices_meet (braced_name name {text} {pieces} {ending} h more) le = indices_meet more (omega (arith, le, length-append name (125 ∷ text)))
  indices_meet (unclosed_name h) le = tt
  indices_meet (element name own {text} {pieces} {ending} is h more) le =
      let sum = length-append name (40 ∷ (own ++ 41 ∷ text)) in
      let inner = length-append own (41 ∷ text) in
      (shorter_meet own text (omega (arith, le, sum, inner)) h, indices_meet more (omega (arith, le, sum, inner)))
  indices_meet (faulty_index name is h) le = tt
  indices_meet (bracket own {text} {pieces} {ending} h more) le = indices_meet more (omega (arith, le, length-append own (93 ∷ text)))
  indices_meet (faulty_script h) le = tt

is_parse : (index : List ℕ) → IsIndexParse index (index_pieces index)
unfolding index_pieces
is_parse index = (only_index_parse index).holds

is_read : (index : List ℕ) (pieces : List Piece) → IsIndexOf index pieces → index_pieces index ≡ Ok pieces
unfolding index_pieces
is_read index pieces is = sym ((only_index_parse index).only (Ok pieces) is)

-- ── how many stand in one another ──

-- it is an index, in which so many others stand in one another at most
abbrev Nests : ℕ → List ℕ → Type 0
Nests zero index = ⊥
Nests (suc room) index = (pieces : List Piece) × IsIndexOf index pieces × IndicesMeet (Nests room) pieces

nests_within : (room : ℕ) → room ≤ 200 → (own behind : List ℕ) → IsInnerOf room of_index (own ++ 41 ∷ behind) (leaves (41 ∷ behind)) → Nests room own
nests_within zero small own behind is = let k : leaves (41 ∷ behind) ≡ fails TooLong = is in absurd (cc)
nests_within (suc room) small own behind (pieces, are) = (
  pieces,
  index_by_itself room own behind pieces (omega (arith, small)) are,
  indices_meet (IsInnerOf room) true Parens (Nests room) (length (own ++ 41 ∷ behind)) (λ inner rest less is. nests_within room (omega (arith, small)) inner rest is) are (omega arith),
)

-- ── two ways to read elements ──

module _ {S : Type 0} (run : List ℕ → State S → Outcome S) where
  abbrev Reading : Type 0
  Reading = List ℕ → List ℕ → State S → Outcome S

  -- they are the same on the elements of this index
  abbrev SameOn : Reading → Reading → List ℕ → Type 0
  SameOn one other index = (name : List ℕ) (state : State S) → one name index state ≡ other name index state

  -- what comes behind a piece
  abbrev behind_piece : Reading → List Piece → List ℕ → (State S → List ℕ → Outcome S) → State S → List ℕ → Outcome S
  behind_piece reading pieces so_far after = λ state text. with_joined so_far text state (λ state' joined. pieces_meaning run reading pieces joined state' after)

  behind_same : (one other : Reading) (pieces : List Piece) (after : State S → List ℕ → Outcome S)
      → ((so_far : List ℕ) (state : State S) → pieces_meaning run one pieces so_far state after ≡ pieces_meaning run other pieces so_far state after)
      → (so_far : List ℕ) → behind_piece one pieces so_far after ≡ behind_piece other pieces so_far after
  behind_same one other pieces after h so_far =
      fun_ext (λ state. fun_ext (λ text. ap (λ (o : Outcome S). cond (nat_le (length (so_far ++ text)) 65536) o (Ended state Error limit_text)) (h (so_far ++ text) state)))

  pieces_same : (one other : Reading) (after : State S → List ℕ → Outcome S) (pieces : List Piece) → IndicesMeet (SameOn one other) pieces
      → (so_far : List ℕ) (state : State S) → pieces_meaning run one pieces so_far state after ≡ pieces_meaning run other pieces so_far state after
  pieces_same one other after [] meet so_far state = refl
  pieces_same one other after (Literal text ∷ pieces) meet so_far state =
      ap (λ (k : State S → List ℕ → Outcome S). k state text) (behind_same one other pieces after (pieces_same one other after pieces meet) so_far)
  pieces_same one other after (Variable name ∷ pieces) meet so_far state =
      ap (λ (k : State S → List ℕ → Outcome S). with_value_of name state k) (behind_same one other pieces after (pieces_same one other after pieces meet) so_far)
  pieces_same one other after (Element name own ∷ pieces) meet so_far state =
      ap (λ (o : Outcome S). and_then o (on_normal (behind_piece one pieces so_far after))) (meet.0 name state)
      ∙ ap (λ (k : State S → List ℕ → Outcome S). and_then (other name own state) (on_normal k)) (behind_same one other pieces after (pieces_same one other after pieces meet.1) so_far)
  pieces_same one other after (Bracket script ∷ pieces) meet so_far state =
      ap (λ (k : State S → List ℕ → Outcome S). and_then (run script state) (on_normal k)) (behind_same one other pieces after (pieces_same one other after pieces meet) so_far)

  read_by : (one other : Reading) (name index : List ℕ) (state : State S) → ((pieces : List Piece) → IsIndexOf index pieces → IndicesMeet (SameOn one other) pieces)
      → element_by run one name index state ≡ element_by run other name index state
  read_by one other name index state meet = by (index_pieces index) (is_parse index)
    where
      by : (parse : Result (List Piece) ParseFault) → IsIndexParse index parse
          → on_index state (λ pieces. pieces_meaning run one pieces [] state (element_read name)) parse ≡ on_index state (λ pieces. pieces_meaning run other pieces [] state (element_read name)) parse
      by (Ok pieces) is = pieces_same one other (element_read name) pieces (meet pieces is) [] state
      by (Err fault) is = refl

  -- where they are the same on the elements of shorter indices, they read the elements of this one in the same way
  shorter_same : (one other : Reading) (name index : List ℕ) (state : State S) → ((own : List ℕ) → length own < length index → SameOn one other own)
      → element_by run one name index state ≡ element_by run other name index state
  shorter_same one other name index state same =
      read_by one other name index state (λ pieces is.
      indices_meet (IsInnerOf 200) false Parens (SameOn one other) (length index) (λ own behind less inner. same own less) is.cut (omega arith))

  -- ── the equation ──

  -- the number doesn't matter where it is above that of the bytes
  within_same : (m n : ℕ) (name index : List ℕ) (state : State S) → length index < m → length index < n → element_within run m name index state ≡ element_within run n name index state
  within_same zero n name index state v w = absurd (omega (arith, v))
  within_same (suc m) zero name index state v w = absurd (omega (arith, w))
  within_same (suc m) (suc n) name index state v w =
      shorter_same (element_within run m) (element_within run n) name index state (λ own less name' state'. within_same m n name' own state' (omega (arith, v, less)) (omega (arith, w, less)))

  equation : (name index : List ℕ) (state : State S) → element_meaning run name index state ≡ element_by run (element_meaning run) name index state
  equation name index state =
      shorter_same (element_within run (length index)) (element_meaning run) name index state
      (λ own less name' state'. within_same (length index) (suc (length own)) name' own state' less (omega arith))

  module _ (other : Reading) (meets : (name index : List ℕ) (state : State S) → other name index state ≡ element_by run other name index state) where
    by_bytes : (n : ℕ) (name index : List ℕ) (state : State S) → length index < n → other name index state ≡ element_within run n name index state
    by_bytes zero name index state w = absurd (omega (arith, w))
    by_bytes (suc n) name index state w =
        meets name index state ∙ shorter_same other (element_within run n) name index state (λ own less name' state'. by_bytes n name' own state' (omega (arith, w, less)))

    only : (name index : List ℕ) (state : State S) → other name index state ≡ element_meaning run name index state
    only name index state = by_bytes (suc (length index)) name index state (omega arith)

  -- ── the depth of the code ──

  -- an index in which so many others stand in one another at most needs no more
  nested_same : (room : ℕ) (index : List ℕ) → Nests room index → SameOn (element_within run room) (element_meaning run) index
  nested_same zero index nests name state = absurd nests
  nested_same (suc room) index (pieces, is, all) name state =
      let e : index_pieces index ≡ Ok pieces = is_read index pieces is in
      let same : IndicesMeet (SameOn (element_within run room) (element_meaning run)) pieces =
      meet_too (Nests room) (SameOn (element_within run room) (element_meaning run)) (λ own nests name' state'. nested_same room own nests name' state') pieces all in
      ap (on_index state (λ ps. pieces_meaning run (element_within run room) ps [] state (element_read name))) e
      ∙ pieces_same (element_within run room) (element_meaning run) (element_read name) pieces same [] state
      ∙ sym (ap (on_index state (λ ps. pieces_meaning run (element_meaning run) ps [] state (element_read name))) e)
      ∙ sym (equation name index state)

  pub deep_enough : (name index : List ℕ) (state : State S) → element_within run index_depth name index state ≡ element_meaning run name index state
  unfolding index_depth
  deep_enough name index state =
      read_by (element_within run 200) (element_meaning run) name index state (λ pieces is.
      indices_meet (IsInnerOf 200) false Parens (SameOn (element_within run 200) (element_meaning run)) (length index)
      (λ own behind less inner name' state'. nested_same 200 own (nests_within 200 (omega arith) own behind inner) name' state') is.cut (omega arith))
      ∙ sym (equation name index state)

pub elements_are_read : {S : Type 0} → ElementsAreRead S
elements_are_read run name index state = equation run name index state

pub only_elements : {S : Type 0} → OnlyElements S
only_elements run other meets name index state = only run other meets name index state
