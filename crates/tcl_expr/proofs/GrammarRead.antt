-- What the grammar relates is read.
use Rattle.std.proofs.Common.{◌≡◌, ℕ, zero, suc, ◌-◌, ◌≤◌, ◌⊎◌, inl, inr, nat_lt, nat_le, ◌==◌, Bool, true, false, not, List, [], ◌∷◌, drop, take, Option, Some, None, Result, Ok, Err, refl, sym, ap, subst, ◌∙◌, arith}
use Rattle.std.proofs.lemmas.Bool.{and_parts}
use Rattle.std.proofs.lemmas.Bool.Decides.{nat_tests}
use Rattle.std.specs.Prelude.{nat_eq}
use Rattle.tcl_text.specs.Readings.{boolean_of}
use Rattle.tcl_words.specs.Operands.{bracket_of, substitution_of, quoted_of}
use Rattle.tcl_words.specs.declared.script.Piece.{Piece}
use Rattle.tcl_text.specs.declared.fault.ParseFault.{ParseFault}
use Rattle.tcl_expr.specs.declared.braces.BracePlace.TheVariants.{Plain as Unescaped}
use Rattle.tcl_expr.specs.declared.fault.ExprFault.{ExprFault}
use Rattle.tcl_expr.specs.declared.fault.ExprFault.TheVariants.{Syntax}
use Rattle.tcl_expr.specs.Faults.{too_long}
use Rattle.tcl_expr.specs.declared.operators.UnaryOperator.{UnaryOperator}
use Rattle.tcl_expr.specs.declared.operators.UnaryOperator.TheVariants.{Negate, Keep, Complement, Not}
use Rattle.tcl_expr.specs.declared.operators.Infix.{Infix}
use Rattle.tcl_expr.specs.declared.operators.Infix.TheVariants as infixed
use Rattle.tcl_expr.specs.declared.operators.BinaryOperator.TheVariants as binary
use Rattle.tcl_expr.specs.declared.operators.ArithmeticOperator.{ArithmeticOperator}
use Rattle.tcl_expr.specs.declared.operators.ArithmeticOperator.TheVariants.{Multiply, Divide, Remainder, Add, Subtract, ShiftLeft, ShiftRight, BitAnd, BitXor, BitOr}
use Rattle.tcl_expr.specs.declared.operators.Comparison.{Comparison}
use Rattle.tcl_expr.specs.declared.operators.Comparison.TheVariants as comparison
use Rattle.tcl_expr.specs.declared.tokens.Mark.{Mark}
use Rattle.tcl_expr.specs.declared.tokens.Mark.TheVariants as mark
use Rattle.tcl_expr.specs.declared.tokens.Link.{Link}
use Rattle.tcl_expr.specs.declared.tokens.Link.TheVariants as link
use Rattle.tcl_expr.specs.Braces.{braced}
use Rattle.tcl_expr.specs.Substitution.{piece_tree, text_tree}
use Rattle.tcl_expr.specs.Tokens.{mark_of, link_at, ends_number}
use Rattle.tcl_words.specs.Classes.{begins_newline}
use Rattle.tcl_words.specs.Kinds.{name_bytes}
use Rattle.tcl_expr.specs.Counts.{number_length}
use Rattle.tcl_expr.specs.Trees.{Tree, Unary, Choice}
use Rattle.tcl_expr.specs.Reading.{Opened, Before, After as Pending, Paren, Question, Otherwise, parens, ends_at, Closed, close, OperandPlace, AtOperand, AtOperator, ReadingMove, move, Next, link_next, link_move, at_infix, at_question, at_colon, at_close, at_paren, at_number, at_brace, word_or_fault, with_piece, with_pieces, with_substitution, with_operand, room_in, with_skip, operand_move, operator_move, on_move, tree_reading, whole}
use Rattle.tcl_expr.specs.Operators.{level_of, arithmetic_level, comparison_level, between}
use Rattle.tcl_expr.specs.Grammar.{blank_mark, past_blanks, After, at_end, linked, nothing, after_link, after_blanks, after, ExprEnding, leaves, fails, goes_on, stops, with_tree, sign, paren, operand, first_of, closed_by, closed, colon_fault, unchosen, IsExpr, whole_by, whole_of}
use Rattle.tcl_expr.specs.Grammar.IsExpr.{lacks, operand_read, signed, deep, parens as in_parens, tighter, operated, choice, no_choice}
use Rattle.tcl_expr.proofs.OperandsFound.{number_at, word_by, brace_at, with_count, piece_at, pieces_at, variable_at, operand_of, operand_ending, operand_found}
use Rattle.tcl_expr.proofs.StandLemmas.{reading_skip}

-- ── blanks ──

newline : (behind : List ℕ) (place : OperandPlace) (opened : List Opened) → tree_reading 1 place opened (10 ∷ behind) ≡ tree_reading 0 place opened (10 ∷ behind)
unfolding mark_of
newline behind AtOperand opened = refl
newline behind (AtOperator tree) opened = refl

is_newline : (b : ℕ) (behind : List ℕ) (place : OperandPlace) (opened : List Opened) → begins_newline (b ∷ behind) ≡ true → tree_reading 1 place opened (b ∷ behind) ≡ tree_reading 0 place opened (b ∷ behind)
is_newline b behind place opened h =
    let first : 10 ≡ b = grind (arith, nat_tests, (and_parts (nat_eq 10 b) true h).0) in
    subst (λ c. tree_reading 1 place opened (c ∷ behind) ≡ tree_reading 0 place opened (c ∷ behind)) first (newline behind place opened)

newline_behind : (behind : List ℕ) (place : OperandPlace) (opened : List Opened) → begins_newline behind ≡ true → tree_reading 1 place opened behind ≡ tree_reading 0 place opened behind
newline_behind [] place opened h = absurd (cc)
newline_behind (b ∷ behind) place opened h = is_newline b behind place opened h

-- a blank is as if it weren't there
blank_step : (b : ℕ) (behind : List ℕ) (place : OperandPlace) (opened : List Opened) (m : Mark) → mark_of b ≡ m → blank_mark m behind ≡ true → tree_reading 0 place opened (b ∷ behind) ≡ tree_reading 0 place opened behind
blank_step b behind AtOperand opened mark.White e h = rw e refl
blank_step b behind (AtOperator tree) opened mark.White e h = rw e refl
blank_step b behind AtOperand opened mark.Backslash e h = rw (e, h) (newline_behind behind AtOperand opened h)
blank_step b behind (AtOperator tree) opened mark.Backslash e h = rw (e, h) (newline_behind behind (AtOperator tree) opened h)
blank_step b behind place opened m e h = absurd (cc)

pub decide : (b : Bool) → (b ≡ true) ⊎ (b ≡ false)
decide true = inl refl
decide false = inr refl

pub blanks : (place : OperandPlace) (opened : List Opened) (text : List ℕ) → tree_reading 0 place opened text ≡ tree_reading 0 place opened (past_blanks text)
blanks place opened [] = refl
blanks place opened (b ∷ behind) = go (blanks place opened behind) (decide (blank_mark (mark_of b) behind))
  where
    go : tree_reading 0 place opened behind ≡ tree_reading 0 place opened (past_blanks behind) → (blank_mark (mark_of b) behind ≡ true) ⊎ (blank_mark (mark_of b) behind ≡ false) →
        tree_reading 0 place opened (b ∷ behind) ≡ tree_reading 0 place opened (past_blanks (b ∷ behind))
    go further (inl h) = rw h (blank_step b behind place opened (mark_of b) refl h ∙ further)
    go further (inr h) = rw h refl

-- and what comes behind them is none
pub not_blank : (text : List ℕ) (b : ℕ) (behind : List ℕ) → past_blanks text ≡ b ∷ behind → blank_mark (mark_of b) behind ≡ false
not_blank [] b behind e = absurd (cc)
not_blank (c ∷ text) b behind e = go (λ p. not_blank text b behind p) (decide (blank_mark (mark_of c) text)) e
  where
    go : (past_blanks text ≡ b ∷ behind → blank_mark (mark_of b) behind ≡ false) → (blank_mark (mark_of c) text ≡ true) ⊎ (blank_mark (mark_of c) text ≡ false) →
        past_blanks (c ∷ text) ≡ b ∷ behind → blank_mark (mark_of b) behind ≡ false
    go further (inl h) p = further (rw h at p)
    go further (inr h) p =
        let q : c ∷ text ≡ b ∷ behind = rw h at p in
        let x : c ≡ b = cc in
        let y : text ≡ behind = cc in
        subst (λ d. blank_mark (mark_of d) behind ≡ false) x (subst (λ t. blank_mark (mark_of c) t ≡ false) y h)

-- ── levels ──

-- the levels of operators between operands
pub record InLevels (n : ℕ) : Type 0 where
  pub least : 1 ≤ n
  pub most : n ≤ 10

arithmetic_levels : (operator : ArithmeticOperator) → InLevels (arithmetic_level operator)
arithmetic_levels Multiply = record { least = omega arith; most = omega arith }
arithmetic_levels Divide = record { least = omega arith; most = omega arith }
arithmetic_levels Remainder = record { least = omega arith; most = omega arith }
arithmetic_levels Add = record { least = omega arith; most = omega arith }
arithmetic_levels Subtract = record { least = omega arith; most = omega arith }
arithmetic_levels ShiftLeft = record { least = omega arith; most = omega arith }
arithmetic_levels ShiftRight = record { least = omega arith; most = omega arith }
arithmetic_levels BitAnd = record { least = omega arith; most = omega arith }
arithmetic_levels BitXor = record { least = omega arith; most = omega arith }
arithmetic_levels BitOr = record { least = omega arith; most = omega arith }

comparison_levels : (operator : Comparison) → InLevels (comparison_level operator)
comparison_levels comparison.Less = record { least = omega arith; most = omega arith }
comparison_levels comparison.LessOrEqual = record { least = omega arith; most = omega arith }
comparison_levels comparison.Greater = record { least = omega arith; most = omega arith }
comparison_levels comparison.GreaterOrEqual = record { least = omega arith; most = omega arith }
comparison_levels comparison.Same = record { least = omega arith; most = omega arith }
comparison_levels comparison.Different = record { least = omega arith; most = omega arith }

pub levels : (operator : Infix) → InLevels (level_of operator)
levels (infixed.Binary (binary.Arithmetic operator)) = arithmetic_levels operator
levels (infixed.Binary (binary.Comparison operator)) = comparison_levels operator
levels operator = record { least = omega arith; most = omega arith }

-- what stands open last doesn't end before an operator of this level or a tighter one
abbrev pub Guards : ℕ → List Opened → Type 0
Guards n [] = Unit {0}
Guards n (own ∷ opened) = (m : ℕ) → n ≤ m → InLevels m → ends_at m own ≡ false

pub stays : (n m : ℕ) (opened : List Opened) (tree : Tree) → Guards n opened → n ≤ m → InLevels m → close m opened tree ≡ record { opened = opened; tree = tree }
stays n m [] tree g h i = refl
stays n m (own ∷ opened) tree g h i = rw (g m h i) refl

guards_tighter : (n : ℕ) (opened : List Opened) → Guards n opened → Guards (suc n) opened
guards_tighter n [] g = g
guards_tighter n (own ∷ opened) g = λ m h i. g m (omega (arith, h)) i

above : (m n : ℕ) → suc n ≤ m → nat_le m n ≡ false
above m n h = grind (arith, nat_tests)

not_zero : (m : ℕ) → 1 ≤ m → (m == 0) ≡ false
not_zero m h = grind (arith, nat_tests)

pub guards_after : (operator : Infix) (a : Tree) (opened : List Opened) → Guards (suc (level_of operator)) (Pending operator a ∷ opened)
guards_after operator a opened = λ m h i. above m (level_of operator) h

pub guards_before : (operator : UnaryOperator) (opened : List Opened) → Guards 11 (Before operator ∷ opened)
guards_before operator opened = λ m h i. absurd (omega (arith, h, i.most))

pub guards_paren : (opened : List Opened) → Guards 0 (Paren ∷ opened)
guards_paren opened = λ m h i. refl

pub guards_question : (a : Tree) (opened : List Opened) → Guards 0 (Question a ∷ opened)
guards_question a opened = λ m h i. refl

pub guards_otherwise : (a b : Tree) (opened : List Opened) → Guards 0 (Otherwise a b ∷ opened)
guards_otherwise a b opened = λ m h i. not_zero m i.least

-- ── operands ──

-- an operand, with as many of the bytes behind its first
abbrev pub moved : List Opened → Result (Tree × ℕ) ExprFault → Result ReadingMove ExprFault
moved opened (Ok found) = move found.1 (AtOperator found.0) opened
moved opened (Err fault) = Err fault

number_moves : (opened : List Opened) (n : ℕ) (text : List ℕ) (ends : Bool) → ends_number (drop n text) ≡ ends → at_number n opened text ≡ moved opened (number_at n text)
number_moves opened n text true e = rw e refl
number_moves opened n text false e = rw e refl

word_moves_by : (opened : List Opened) (n : ℕ) (word : List ℕ) (read : Option Bool) → word_or_fault n opened word read ≡ moved opened (word_by word n read)
word_moves_by opened n word (Some truth) = refl
word_moves_by opened n word None = refl

brace_moves : (opened : List Opened) (found : Result (List ℕ × ℕ) ExprFault) → at_brace opened found ≡ moved opened (brace_at found)
brace_moves opened (Ok found) = refl
brace_moves opened (Err fault) = refl

operand_moves_by : (opened : List Opened) (n : ℕ) (tree : Result Tree ExprFault) → with_operand n opened tree ≡ moved opened (with_count n tree)
operand_moves_by opened n (Ok tree) = refl
operand_moves_by opened n (Err fault) = refl

piece_moves : (opened : List Opened) (found : Result (Piece × ℕ) ParseFault) → with_piece opened found ≡ moved opened (piece_at (room_in opened) found)
piece_moves opened (Ok found) = operand_moves_by opened found.1 (piece_tree (room_in opened) found.0)
piece_moves opened (Err fault) = refl

pieces_moves : (opened : List Opened) (found : Result (List Piece × ℕ) ParseFault) → with_pieces opened found ≡ moved opened (pieces_at (room_in opened) found)
pieces_moves opened (Ok found) = operand_moves_by opened found.1 (text_tree (room_in opened) found.0)
pieces_moves opened (Err fault) = refl

variable_moves : (opened : List Opened) (found : Result (Option (Piece × ℕ)) ParseFault) → with_substitution opened found ≡ moved opened (variable_at (room_in opened) found)
variable_moves opened (Ok (Some found)) = operand_moves_by opened found.1 (piece_tree (room_in opened) found.0)
variable_moves opened (Ok None) = refl
variable_moves opened (Err fault) = refl

pub operand_moves : (opened : List Opened) (text behind : List ℕ) (m : Mark) → first_of m ≡ operand → blank_mark m behind ≡ false →
    operand_move m opened text behind ≡ moved opened (operand_of (room_in opened) m text behind)
operand_moves opened text behind mark.White f h = absurd (cc)
operand_moves opened text behind mark.Backslash f h = rw h refl
operand_moves opened text behind mark.Minus f h = absurd (cc)
operand_moves opened text behind mark.Plus f h = absurd (cc)
operand_moves opened text behind mark.Tilde f h = absurd (cc)
operand_moves opened text behind mark.Bang f h = absurd (cc)
operand_moves opened text behind mark.OpenParen f h = absurd (cc)
operand_moves opened text behind mark.Digit f h = number_moves opened (number_length text) text (ends_number (drop (number_length text) text)) refl
operand_moves opened text behind mark.Letter f h = word_moves_by opened (name_bytes text) (take (name_bytes text) text) (boolean_of (take (name_bytes text) text))
operand_moves opened text behind mark.OpenBrace f h = brace_moves opened (braced Unescaped 0 behind)
operand_moves opened text behind mark.Quote f h = pieces_moves opened (quoted_of (room_in opened) behind)
operand_moves opened text behind mark.OpenBracket f h = piece_moves opened (bracket_of (room_in opened) behind)
operand_moves opened text behind mark.Dollar f h = variable_moves opened (substitution_of (room_in opened) behind)
operand_moves opened text behind m f h = refl

same_sign : (p q : UnaryOperator) → sign p ≡ sign q → p ≡ q
same_sign p q e = cc

pub sign_moves : (opened : List Opened) (text behind : List ℕ) (operator : UnaryOperator) (m : Mark) → first_of m ≡ sign operator →
    operand_move m opened text behind ≡ move 0 AtOperand (Before operator ∷ opened)
sign_moves opened text behind operator mark.Minus f = ap (λ o. move 0 AtOperand (Before o ∷ opened)) (same_sign Negate operator f)
sign_moves opened text behind operator mark.Plus f = ap (λ o. move 0 AtOperand (Before o ∷ opened)) (same_sign Keep operator f)
sign_moves opened text behind operator mark.Tilde f = ap (λ o. move 0 AtOperand (Before o ∷ opened)) (same_sign Complement operator f)
sign_moves opened text behind operator mark.Bang f = ap (λ o. move 0 AtOperand (Before o ∷ opened)) (same_sign Not operator f)
sign_moves opened text behind operator m f = absurd (cc)

pub paren_moves : (opened : List Opened) (text behind : List ℕ) (m : Mark) → first_of m ≡ paren → operand_move m opened text behind ≡ at_paren opened
paren_moves opened text behind mark.OpenParen f = refl
paren_moves opened text behind m f = absurd (cc)

-- ── what stands behind an operand ──

abbrev pub on_next : Result Next ExprFault → List ℕ → Result Tree ExprFault
on_next (Ok next) behind = tree_reading 0 next.place next.opened behind
on_next (Err fault) behind = Err fault

abbrev pub goes : List Opened → Tree → After → Result Tree ExprFault
goes opened tree at_end = whole (close 0 opened tree).opened (close 0 opened tree).tree
goes opened tree (linked own behind) = on_next (link_next opened tree own) behind
goes opened tree nothing = Err Syntax

operator_moves : (opened : List Opened) (tree : Tree) (b : ℕ) (behind : List ℕ) (m : Mark) → mark_of b ≡ m → blank_mark m behind ≡ false →
    operator_move m opened tree (b ∷ behind) behind ≡ link_move opened tree (link_at (b ∷ behind))
operator_moves opened tree b behind mark.White e h = absurd (cc)
operator_moves opened tree b behind mark.Backslash e h = rw (e, h) refl
operator_moves opened tree b behind m e h = refl

on_link : (opened : List Opened) (tree : Tree) (behind : List ℕ) (found : Option (Link × ℕ)) →
    on_move (link_move opened tree found) (λ further next left. tree_reading further next left behind) ≡ goes opened tree (after_link behind found)
on_link opened tree behind None = refl
on_link opened tree behind (Some found) = go (link_next opened tree found.0)
  where
    go : (next : Result Next ExprFault) → on_move (with_skip (found.1 - 1) next) (λ further place left. tree_reading further place left behind) ≡ on_next next (drop (found.1 - 1) behind)
    go (Ok next) = reading_skip (found.1 - 1) next.place next.opened behind
    go (Err fault) = refl

pub reading_goes : (opened : List Opened) (tree : Tree) (text : List ℕ) → tree_reading 0 (AtOperator tree) opened text ≡ goes opened tree (after text)
reading_goes opened tree text = blanks (AtOperator tree) opened text ∙ go (past_blanks text) (λ b behind e. not_blank text b behind e)
  where
    go : (rest : List ℕ) → ((b : ℕ) (behind : List ℕ) → rest ≡ b ∷ behind → blank_mark (mark_of b) behind ≡ false) → tree_reading 0 (AtOperator tree) opened rest ≡ goes opened tree (after_blanks rest)
    go [] none = refl
    go (b ∷ behind) none =
        ap (λ moved_on. on_move moved_on (λ further next left. tree_reading further next left behind)) (operator_moves opened tree b behind (mark_of b) refl (none b behind refl))
        ∙ on_link opened tree behind (link_at (b ∷ behind))

-- ── expressions ──

-- where reading has come past a tree, which ends at these levels as it does by itself
pub record Reached (n : ℕ) (opened : List Opened) (text : List ℕ) (tree : Tree) (left : List ℕ) : Type 0 where
  pub more : List Opened
  pub last : Tree
  pub reads : tree_reading 0 AtOperand opened text ≡ tree_reading 0 (AtOperator last) more left
  pub closes : (m : ℕ) → m ≤ n → close m more last ≡ close m opened tree

abbrev pub Comes : ℕ → List Opened → List ℕ → ExprEnding → Type 0
Comes n opened text (leaves tree left) = Reached n opened text tree left
Comes n opened text (fails fault) = tree_reading 0 AtOperand opened text ≡ Err fault

abbrev pub Reads : ℕ → ℕ → List ℕ → ExprEnding → Type 0
Reads room n text ending = (opened : List Opened) → room ≡ room_in opened → Guards n opened → Comes n opened text ending

-- what stands first
pub first_byte : (opened : List Opened) (text : List ℕ) (b : ℕ) (behind : List ℕ) (next : Result ReadingMove ExprFault) → past_blanks text ≡ b ∷ behind → operand_move (mark_of b) opened (b ∷ behind) behind ≡ next →
    tree_reading 0 AtOperand opened text ≡ on_move next (λ further place left. tree_reading further place left behind)
first_byte opened text b behind next e m =
    blanks AtOperand opened text ∙ ap (tree_reading 0 AtOperand opened) e ∙ ap (λ moved_on. on_move moved_on (λ further place left. tree_reading further place left behind)) m

pub lacks_read : (opened : List Opened) (text : List ℕ) → past_blanks text ≡ [] → tree_reading 0 AtOperand opened text ≡ Err Syntax
lacks_read opened text e = blanks AtOperand opened text ∙ ap (tree_reading 0 AtOperand opened) e

operand_comes : (opened : List Opened) (text behind : List ℕ) (found : Result (Tree × ℕ) ExprFault) →
    tree_reading 0 AtOperand opened text ≡ on_move (moved opened found) (λ further place left. tree_reading further place left behind) → Comes 11 opened text (operand_ending behind found)
operand_comes opened text behind (Ok found) e = record {
  more = opened;
  last = found.0;
  reads = e ∙ reading_skip found.1 (AtOperator found.0) opened behind;
  closes = λ m h. refl;
}
operand_comes opened text behind (Err fault) e = e

signed_comes : (opened : List Opened) (text behind : List ℕ) (operator : UnaryOperator) (ending : ExprEnding) → tree_reading 0 AtOperand opened text ≡ tree_reading 0 AtOperand (Before operator ∷ opened) behind →
    Comes 11 (Before operator ∷ opened) behind ending → Comes 11 opened text (with_tree (Unary operator) ending)
signed_comes opened text behind operator (leaves tree left) e c = record {
  more = c.more;
  last = c.last;
  reads = e ∙ c.reads;
  closes = c.closes;
}
signed_comes opened text behind operator (fails fault) e c = e ∙ c

-- behind what was read within something that ends at level 0
goes_closed : (opened : List Opened) (tree last : Tree) (more : List Opened) (next : After) → goes_on next ≡ false → close 0 more last ≡ close 0 opened tree → goes more last next ≡ goes opened tree next
goes_closed opened tree last more at_end h e = ap (λ (c : Closed). whole c.opened c.tree) e
goes_closed opened tree last more (linked (link.Infix operator) behind) h e = absurd (cc)
goes_closed opened tree last more (linked link.Question behind) h e = absurd (cc)
goes_closed opened tree last more (linked link.Colon behind) h e = ap (λ (c : Closed). on_next (at_colon c.opened c.tree) behind) e
goes_closed opened tree last more (linked link.Close behind) h e = ap (λ (c : Closed). on_next (at_close c.opened c.tree) behind) e
goes_closed opened tree last more nothing h e = refl

pub not_true : (b : Bool) → not b ≡ true → b ≡ false
not_true true e = absurd (cc)
not_true false e = refl

zero_least : (n : ℕ) → 0 ≤ n
zero_least n = omega arith

-- past what was read, reading goes as behind its tree
past_closed : (n : ℕ) (opened : List Opened) (text : List ℕ) (tree : Tree) (left : List ℕ) → Reached n opened text tree left → goes_on (after left) ≡ false →
    tree_reading 0 AtOperand opened text ≡ goes opened tree (after left)
past_closed n opened text tree left c h =
    c.reads ∙ reading_goes c.more c.last left ∙ goes_closed opened tree c.last c.more (after left) h (c.closes 0 (zero_least n))

closed_comes : (opened : List Opened) (text : List ℕ) (tree : Tree) (next : After) → goes_on next ≡ false → tree_reading 0 AtOperand opened text ≡ goes (Paren ∷ opened) tree next →
    Comes 11 opened text (closed_by tree next)
closed_comes opened text tree (linked (link.Infix operator) behind) h e = absurd (cc)
closed_comes opened text tree (linked link.Question behind) h e = absurd (cc)
closed_comes opened text tree (linked link.Close behind) h e = record { more = opened; last = tree; reads = e; closes = λ m k. refl }
closed_comes opened text tree next h e = e

parens_come : (opened : List Opened) (text behind : List ℕ) (inner : ExprEnding) → stops inner ≡ true → tree_reading 0 AtOperand opened text ≡ tree_reading 0 AtOperand (Paren ∷ opened) behind →
    Comes 0 (Paren ∷ opened) behind inner → Comes 11 opened text (closed inner)
parens_come opened text behind (leaves tree left) h e c =
    let k : goes_on (after left) ≡ false = not_true (goes_on (after left)) h in
    closed_comes opened text tree (after left) k (e ∙ past_closed 0 (Paren ∷ opened) behind tree left c k)
parens_come opened text behind (fails fault) h e c = e ∙ c

tighter_comes : (n : ℕ) (opened : List Opened) (text : List ℕ) (ending : ExprEnding) → Comes (suc n) opened text ending → Comes n opened text ending
tighter_comes n opened text (leaves tree left) c = record { more = c.more; last = c.last; reads = c.reads; closes = λ m h. c.closes m (omega (arith, h)) }
tighter_comes n opened text (fails fault) c = c

-- behind an operator that goes on
past_infix : (opened : List Opened) (text : List ℕ) (operator : Infix) (a : Tree) (left behind : List ℕ) → Guards (level_of operator) opened → Reached (level_of operator) opened text a left →
    after left ≡ linked (link.Infix operator) behind → tree_reading 0 AtOperand opened text ≡ tree_reading 0 AtOperand (Pending operator a ∷ opened) behind
past_infix opened text operator a left behind g c e =
    c.reads
    ∙ reading_goes c.more c.last left
    ∙ ap (goes c.more c.last) e
    ∙ ap (λ closed_at. on_next (at_infix operator closed_at) behind) (c.closes (level_of operator) (omega arith) ∙ stays (level_of operator) (level_of operator) opened a g (omega arith) (levels operator))

infix_comes : (opened : List Opened) (text behind : List ℕ) (operator : Infix) (a : Tree) (ending : ExprEnding) → tree_reading 0 AtOperand opened text ≡ tree_reading 0 AtOperand (Pending operator a ∷ opened) behind →
    Comes (suc (level_of operator)) (Pending operator a ∷ opened) behind ending → Comes (level_of operator) opened text (with_tree (between operator a) ending)
infix_comes opened text behind operator a (leaves tree left) e c = record {
  more = c.more;
  last = c.last;
  reads = e ∙ c.reads;
  closes = λ m h. c.closes m (omega (arith, h)) ∙ ends_here m h;
}
  where
    at_most : (m : ℕ) → m ≤ level_of operator → nat_le m (level_of operator) ≡ true
    at_most m h = grind (arith, nat_tests)

    ends_here : (m : ℕ) → m ≤ level_of operator → close m (Pending operator a ∷ opened) tree ≡ close m opened (between operator a tree)
    ends_here m h = rw (at_most m h) refl
infix_comes opened text behind operator a (fails fault) e c = e ∙ c

pub one : InLevels 1
one = record { least = omega arith; most = omega arith }

past_question : (opened : List Opened) (text : List ℕ) (a : Tree) (left behind : List ℕ) → Guards 0 opened → Reached 1 opened text a left → after left ≡ linked link.Question behind →
    tree_reading 0 AtOperand opened text ≡ tree_reading 0 AtOperand (Question a ∷ opened) behind
past_question opened text a left behind g c e =
    c.reads
    ∙ reading_goes c.more c.last left
    ∙ ap (goes c.more c.last) e
    ∙ ap (λ closed_at. on_next (at_question closed_at) behind) (c.closes 1 (omega arith) ∙ stays 0 1 opened a g (omega arith) one)

past_colon : (opened : List Opened) (text : List ℕ) (a b : Tree) (left behind : List ℕ) → Reached 0 (Question a ∷ opened) text b left → after left ≡ linked link.Colon behind →
    tree_reading 0 AtOperand (Question a ∷ opened) text ≡ tree_reading 0 AtOperand (Otherwise a b ∷ opened) behind
past_colon opened text a b left behind c e =
    c.reads ∙ reading_goes c.more c.last left ∙ ap (goes c.more c.last) e ∙ ap (λ (k : Closed). on_next (at_colon k.opened k.tree) behind) (c.closes 0 (omega arith))

choice_comes : (opened : List Opened) (text behind : List ℕ) (a b : Tree) (ending : ExprEnding) → tree_reading 0 AtOperand opened text ≡ tree_reading 0 AtOperand (Otherwise a b ∷ opened) behind →
    Comes 0 (Otherwise a b ∷ opened) behind ending → Comes 0 opened text (with_tree (Choice a b) ending)
choice_comes opened text behind a b (leaves tree left) e c = record {
  more = c.more;
  last = c.last;
  reads = e ∙ c.reads;
  closes = λ m h. c.closes m h ∙ ends_here m h;
}
  where
    none : (m : ℕ) → m ≤ 0 → (m == 0) ≡ true
    none m h = grind (arith, nat_tests)

    ends_here : (m : ℕ) → m ≤ 0 → close m (Otherwise a b ∷ opened) tree ≡ close m opened (Choice a b tree)
    ends_here m h = rw (none m h) refl
choice_comes opened text behind a b (fails fault) e c = e ∙ c

colon_fails : (opened : List Opened) (a b : Tree) (fault : ExprFault) (next : After) → goes_on next ≡ false → colon_fault next ≡ Some fault → goes (Question a ∷ opened) b next ≡ Err fault
colon_fails opened a b fault at_end h e = ap Err (same_fault fault e)
  where
    same_fault : (f : ExprFault) → Some Syntax ≡ Some f → Syntax ≡ f
    same_fault f p = cc
colon_fails opened a b fault (linked link.Close behind) h e = ap Err (same_fault fault e)
  where
    same_fault : (f : ExprFault) → Some Syntax ≡ Some f → Syntax ≡ f
    same_fault f p = cc
colon_fails opened a b fault nothing h e = ap Err (same_fault fault e)
  where
    same_fault : (f : ExprFault) → Some Syntax ≡ Some f → Syntax ≡ f
    same_fault f p = cc
colon_fails opened a b fault next h e = absurd (cc)

unchosen_fails : (opened : List Opened) (text behind : List ℕ) (a : Tree) (fault : ExprFault) (ending : ExprEnding) → stops ending ≡ true → unchosen ending ≡ Some fault →
    tree_reading 0 AtOperand opened text ≡ tree_reading 0 AtOperand (Question a ∷ opened) behind → Comes 0 (Question a ∷ opened) behind ending → tree_reading 0 AtOperand opened text ≡ Err fault
unchosen_fails opened text behind a fault (leaves tree left) h u e c =
    let k : goes_on (after left) ≡ false = not_true (goes_on (after left)) h in
    e ∙ past_closed 0 (Question a ∷ opened) behind tree left c k ∙ colon_fails opened a tree fault (after left) k u
unchosen_fails opened text behind a fault (fails own) h u e c = e ∙ c ∙ ap Err (same own fault u)
  where
    same : (f g : ExprFault) → Some f ≡ Some g → f ≡ g
    same f g p = cc

pub room_left : (opened : List Opened) (room : ℕ) → suc room ≡ room_in opened → nat_lt (parens opened) 200 ≡ true
room_left opened room e = grind (arith, nat_tests)

pub no_room : (opened : List Opened) → zero ≡ room_in opened → nat_lt (parens opened) 200 ≡ false
no_room opened e = grind (arith, nat_tests)

pub less_room : (opened : List Opened) (room : ℕ) → suc room ≡ room_in opened → room ≡ room_in (Paren ∷ opened)
less_room opened room e = omega (arith, e)

pub read : {room n : ℕ} {text : List ℕ} {ending : ExprEnding} → IsExpr room n text ending → (opened : List Opened) → room ≡ room_in opened → Guards n opened → Comes n opened text ending
read (lacks {room} {text} e) opened r g = lacks_read opened text e
read (operand_read {room} {text} {ending} b behind e f is) opened r g =
    let small : room ≤ 200 = omega (arith, r) in
    subst (Comes 11 opened text) (operand_found room small is)
    (operand_comes opened text behind (operand_of room (mark_of b) (b ∷ behind) behind)
    (first_byte opened text b behind (moved opened (operand_of room (mark_of b) (b ∷ behind) behind)) e
    (operand_moves opened (b ∷ behind) behind (mark_of b) f (not_blank text b behind e) ∙ ap (λ k. moved opened (operand_of k (mark_of b) (b ∷ behind) behind)) (sym r))))
read (signed {room} {text} b behind operator {ending} e f is) opened r g =
    signed_comes opened text behind operator ending
    (first_byte opened text b behind (move 0 AtOperand (Before operator ∷ opened)) e (sign_moves opened (b ∷ behind) behind operator (mark_of b) f))
    (read is (Before operator ∷ opened) r (guards_before operator opened))
read (deep {text} b behind e f) opened r g =
    first_byte opened text b behind (Err too_long) e (paren_moves opened (b ∷ behind) behind (mark_of b) f ∙ none)
  where
    none : at_paren opened ≡ Err too_long
    none = rw (no_room opened r) refl
read (in_parens {room} {text} b behind {inner} e f is s) opened r g =
    parens_come opened text behind inner s
    (first_byte opened text b behind (move 0 AtOperand (Paren ∷ opened)) e (paren_moves opened (b ∷ behind) behind (mark_of b) f ∙ some))
    (read is (Paren ∷ opened) (less_room opened room r) (guards_paren opened))
  where
    some : at_paren opened ≡ move 0 AtOperand (Paren ∷ opened)
    some = rw (room_left opened room r) refl
read (tighter {room} {level} {text} {ending} is) opened r g = tighter_comes level opened text ending (read is opened r (guards_tighter level opened g))
read (operated {room} {text} operator a left behind {ending} is e is') opened r g =
    infix_comes opened text behind operator a ending
    (past_infix opened text operator a left behind g (read is opened r g) e)
    (read is' (Pending operator a ∷ opened) r (guards_after operator a opened))
read (choice {room} {text} a b left behind left' behind' {ending} is e is' e' is'') opened r g =
    choice_comes opened text behind' a b ending
    (past_question opened text a left behind g (read is opened r (guards_tighter 0 opened g)) e ∙ past_colon opened behind a b left' behind' (read is' (Question a ∷ opened) r (guards_question a opened)) e')
    (read is'' (Otherwise a b ∷ opened) r (guards_otherwise a b opened))
read (no_choice {room} {text} a left behind fault {ending} is e is' s u) opened r g =
    unchosen_fails opened text behind a fault ending s u
    (past_question opened text a left behind g (read is opened r (guards_tighter 0 opened g)) e)
    (read is' (Question a ∷ opened) r (guards_question a opened))

-- ── whole texts ──

whole_comes : (tree : Tree) (next : After) → goes_on next ≡ false → goes [] tree next ≡ whole_by tree next
whole_comes tree (linked (link.Infix operator) behind) h = absurd (cc)
whole_comes tree (linked link.Question behind) h = absurd (cc)
whole_comes tree next h = refl

whole_read_by : (text : List ℕ) (ending : ExprEnding) → stops ending ≡ true → Comes 0 [] text ending → tree_reading 0 AtOperand [] text ≡ whole_of ending
whole_read_by text (leaves tree left) h c =
    let k : goes_on (after left) ≡ false = not_true (goes_on (after left)) h in
    past_closed 0 [] text tree left c k ∙ whole_comes tree (after left) k
whole_read_by text (fails fault) h c = c

pub whole_read : (text : List ℕ) (ending : ExprEnding) → IsExpr 200 0 text ending → stops ending ≡ true → tree_reading 0 AtOperand [] text ≡ whole_of ending
whole_read text ending is h = let r : 200 ≡ room_in [] = omega arith in whole_read_by text ending h (read is [] r tt)
