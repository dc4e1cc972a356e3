-- Of each text with an operand in front, what is found is what the grammar relates.
use Rattle.std.proofs.Common.{◌≡◌, ◌≢◌, ℕ, suc, ◌+◌, ◌-◌, ◌≤◌, ◌<◌, ◌⊎◌, inl, inr, Bool, true, false, nat_lt, nat_le, ◌==◌, ◌||◌, ◌&&◌, List, [], ◌∷◌, ◌++◌, length, take, drop, Option, Some, None, Result, Ok, Err, refl, sym, ap, subst, ◌∙◌, append_assoc, length-append, eqb-true, arith, if◌then◌else◌}
use Rattle.std.proofs.lemmas.Bool.{ne_eqb, and_parts, leb-true, lt-ltb}
use Rattle.std.proofs.lemmas.Str.{digit_value_digit}
use Rattle.std.specs.Char.{digit_value}
use Rattle.tcl_text.specs.Readings.{boolean_of, base_named}
use Rattle.tcl_words.specs.Grammar.{begins_name_byte, AreNameBytes, IsBraced, IsUnclosed}
use Rattle.tcl_words.specs.OperandGrammar.{IsSubstitution, IsBehindBracket, IsBehindDollar, IsBehindQuote}
use Rattle.tcl_words.specs.OperandGrammar.IsSubstitution.{variable as name_behind, braced_name, element as element_behind}
use Rattle.tcl_words.specs.Operands.{bracket_of, substitution_of, quoted_of}
use Rattle.tcl_words.specs.declared.script.Piece.{Piece}
use Rattle.tcl_words.specs.declared.script.Piece.TheVariants as piece
use Rattle.tcl_text.specs.declared.fault.ParseFault.{ParseFault}
use Rattle.tcl_words.proofs.BracesCut.{braces_cut}
use Rattle.tcl_words.proofs.OperandsRead.{bracket_read, bracket_is, substitution_read, substitution_is}
use Rattle.tcl_words.proofs.QuotesRead.{quotes_given, quotes_are}
use Rattle.tcl_expr.specs.declared.braces.BracePlace.TheVariants.{Plain as Unescaped}
use Rattle.tcl_expr.specs.declared.fault.ExprFault.{ExprFault}
use Rattle.tcl_expr.specs.declared.fault.ExprFault.TheVariants.{Syntax, Script}
use Rattle.tcl_expr.specs.Faults.{missing_brace}
use Rattle.tcl_expr.specs.declared.tokens.Mark.{Mark}
use Rattle.tcl_expr.specs.declared.tokens.Mark.TheVariants as mark
use Rattle.tcl_expr.specs.Braces.{braced}
use Rattle.tcl_expr.specs.Substitution.{piece_tree, text_tree}
use Rattle.tcl_words.specs.Classes.{is_digit, is_alphabetic, is_name_byte}
use Rattle.tcl_words.specs.Kinds.{name_bytes}
use Rattle.tcl_expr.specs.Tokens.{mark_of, ends_number}
use Rattle.tcl_expr.specs.Counts.{digits, based_or, past_zero_by, past_zero, number_length}
use Rattle.tcl_expr.specs.Trees.{Tree, Integer, Plain, Command}
use Rattle.tcl_expr.specs.Grammar.{ExprEnding, leaves, fails, AreDigits, begins_digit, begins_digit_of, begins_base, IsNumber, begins_operand, IsOperand}
use Rattle.tcl_expr.specs.Grammar.IsNumber.{based, octal, decimal}
use Rattle.tcl_expr.specs.Grammar.IsOperand.{number, unended_number, word, other_word, braces, unclosed_braces, quotes, faulty_quotes, bracket, faulty_bracket, variable, faulty_variable, no_variable, none}
use Rattle.tcl_expr.proofs.BracesOfScripts.{braces_read, unclosed_read}
use Rattle.tcl_expr.proofs.PieceTrees.{HasTree, text_has, pieces_have, substitution_has, piece_tree_is, text_tree_is}

-- ── what is found, and how many of the bytes behind the first are its own ──

abbrev pub Found : Type 0
Found = Result (Tree × ℕ) ExprFault

abbrev pub number_by : Bool → List ℕ → ℕ → Found
number_by ends spelling n = if ends then Ok (Integer spelling, n) else Err Syntax

abbrev pub number_at : ℕ → List ℕ → Found
number_at n text = number_by (ends_number (drop n text)) (take n text) (n - 1)

abbrev pub word_by : List ℕ → ℕ → Option Bool → Found
word_by spelling n (Some truth) = Ok (Plain spelling, n - 1)
word_by spelling n None = Err Syntax

abbrev pub word_at : ℕ → List ℕ → Found
word_at n text = word_by (take n text) n (boolean_of (take n text))

abbrev pub brace_at : Result (List ℕ × ℕ) ExprFault → Found
brace_at (Ok found) = Ok (Plain found.0, suc found.1)
brace_at (Err fault) = Err fault

abbrev pub with_count : ℕ → Result Tree ExprFault → Found
with_count n (Ok tree) = Ok (tree, n)
with_count n (Err fault) = Err fault

abbrev pub piece_at : ℕ → Result (Piece × ℕ) ParseFault → Found
piece_at room (Ok found) = with_count found.1 (piece_tree room found.0)
piece_at room (Err fault) = Err (Script fault)

abbrev pub pieces_at : ℕ → Result (List Piece × ℕ) ParseFault → Found
pieces_at room (Ok found) = with_count found.1 (text_tree room found.0)
pieces_at room (Err fault) = Err (Script fault)

abbrev pub variable_at : ℕ → Result (Option (Piece × ℕ)) ParseFault → Found
variable_at room (Ok (Some found)) = with_count found.1 (piece_tree room found.0)
variable_at room (Ok None) = Err Syntax
variable_at room (Err fault) = Err (Script fault)

-- an operand that begins with a byte of this kind, where so many brackets and indices may stand in one another
abbrev pub operand_of : ℕ → Mark → List ℕ → List ℕ → Found
operand_of room mark.Digit text behind = number_at (number_length text) text
operand_of room mark.Letter text behind = word_at (name_bytes text) text
operand_of room mark.OpenBrace text behind = brace_at (braced Unescaped 0 behind)
operand_of room mark.Quote text behind = pieces_at room (quoted_of room behind)
operand_of room mark.OpenBracket text behind = piece_at room (bracket_of room behind)
operand_of room mark.Dollar text behind = variable_at room (substitution_of room behind)
operand_of room _ text behind = Err Syntax

abbrev pub operand_ending : List ℕ → Found → ExprEnding
operand_ending behind (Ok found) = leaves found.0 (drop found.1 behind)
operand_ending behind (Err fault) = fails fault

abbrev pub found_ending : ℕ → List ℕ → ExprEnding
found_ending room [] = fails Syntax
found_ending room (b ∷ behind) = operand_ending behind (operand_of room (mark_of b) (b ∷ behind) behind)

-- ── fronts ──

take_front : (own rest : List ℕ) → take (length own) (own ++ rest) ≡ own
take_front [] rest = refl
take_front (b ∷ own) rest = ap (λ t. b ∷ t) (take_front own rest)

drop_front : (own rest : List ℕ) → drop (length own) (own ++ rest) ≡ rest
drop_front [] rest = refl
drop_front (b ∷ own) rest = drop_front own rest

drop_past : (own : List ℕ) (c : ℕ) (rest : List ℕ) → drop (suc (length own)) (own ++ c ∷ rest) ≡ rest
drop_past [] c rest = refl
drop_past (b ∷ own) c rest = drop_past own c rest

-- ── numbers and words ──

digits_counted : (base : ℕ) (own rest : List ℕ) → AreDigits base own → begins_digit base rest ≡ false → digits base (own ++ rest) ≡ length own
digits_counted base [] [] are stop = refl
digits_counted base [] (b ∷ rest) are stop = rw stop refl
digits_counted base (b ∷ own) rest are stop = rw are.0 (ap (λ n. suc n) (digits_counted base own rest are.1 stop))

no_digits : (base : ℕ) (text : List ℕ) → begins_digit base text ≡ false → digits base text ≡ 0
no_digits base text stop = digits_counted base [] text tt stop

past_zero_octal_by : (letter : ℕ) (behind : List ℕ) (base : Option ℕ) → begins_digit_of base behind ≡ false → past_zero_by base (letter ∷ behind) behind ≡ suc (digits 8 (letter ∷ behind))
past_zero_octal_by letter behind (Some base) h = ap (based_or (letter ∷ behind)) (no_digits base behind h)
past_zero_octal_by letter behind None h = refl

past_zero_octal : (text : List ℕ) → begins_base text ≡ false → past_zero text ≡ suc (digits 8 text)
past_zero_octal [] h = refl
past_zero_octal (letter ∷ behind) h = past_zero_octal_by letter behind (base_named letter) h

past_zero_based : (letter base : ℕ) (own rest : List ℕ) → base_named letter ≡ Some base → digits base (own ++ rest) ≡ length own → past_zero (letter ∷ (own ++ rest)) ≡ based_or (letter ∷ (own ++ rest)) (length own)
past_zero_based letter base own rest e count = ap (λ b. past_zero_by b (letter ∷ (own ++ rest)) (own ++ rest)) e ∙ ap (based_or (letter ∷ (own ++ rest))) count

number_counted : (rest : List ℕ) {own : List ℕ} → IsNumber rest own → number_length (own ++ rest) ≡ length own
number_counted rest (based letter base digit ds e are stop) =
    let n : suc (length ds) + 2 ≡ suc (suc (suc (length ds))) = omega arith in
    past_zero_based letter base (digit ∷ ds) rest e (digits_counted base (digit ∷ ds) rest are stop) ∙ n
number_counted rest (octal ds are stop apart) = past_zero_octal (ds ++ rest) apart ∙ ap (λ n. suc n) (digits_counted 8 ds rest are stop)
number_counted rest (decimal digit ds other are stop) = rw (ne_eqb digit 48 other) (digits_counted 10 (digit ∷ ds) rest are stop)

number_picked : (b : ℕ) (own rest : List ℕ) (ends : Bool) → ends_number rest ≡ ends →
    operand_ending (own ++ rest) (number_at (suc (length own)) (b ∷ (own ++ rest))) ≡ operand_ending (own ++ rest) (number_by ends (b ∷ own) (length own))
number_picked b own rest ends e =
    let less : suc (length own) - 1 ≡ length own = omega arith in
    ap (λ r. operand_ending (own ++ rest) (number_by (ends_number r) (b ∷ take (length own) (own ++ rest)) (suc (length own) - 1))) (drop_front own rest)
    ∙ ap (λ t. operand_ending (own ++ rest) (number_by t (b ∷ take (length own) (own ++ rest)) (suc (length own) - 1))) e
    ∙ ap (λ w. operand_ending (own ++ rest) (number_by ends (b ∷ w) (suc (length own) - 1))) (take_front own rest)
    ∙ ap (λ n. operand_ending (own ++ rest) (number_by ends (b ∷ own) n)) less

number_found : (b : ℕ) (own rest : List ℕ) (ends : Bool) → IsNumber rest (b ∷ own) → ends_number rest ≡ ends →
    operand_ending (own ++ rest) (number_at (number_length (b ∷ (own ++ rest))) (b ∷ (own ++ rest))) ≡ operand_ending (own ++ rest) (number_by ends (b ∷ own) (length own))
number_found b own rest ends is e =
    ap (λ n. operand_ending (own ++ rest) (number_at n (b ∷ (own ++ rest)))) (number_counted rest is) ∙ number_picked b own rest ends e

names_counted : (own rest : List ℕ) → AreNameBytes own → begins_name_byte rest ≡ false → name_bytes (own ++ rest) ≡ length own
names_counted [] [] are stop = refl
names_counted [] (b ∷ rest) are stop = rw stop refl
names_counted (b ∷ own) rest are stop = rw are.0 (ap (λ n. suc n) (names_counted own rest are.1 stop))

word_found : (b : ℕ) (own rest : List ℕ) (read : Option Bool) → AreNameBytes (b ∷ own) → begins_name_byte rest ≡ false → boolean_of (b ∷ own) ≡ read →
    operand_ending (own ++ rest) (word_at (name_bytes (b ∷ (own ++ rest))) (b ∷ (own ++ rest))) ≡ operand_ending (own ++ rest) (word_by (b ∷ own) (suc (length own)) read)
word_found b own rest read are stop e =
    ap (λ n. operand_ending (own ++ rest) (word_at n (b ∷ (own ++ rest)))) (names_counted (b ∷ own) rest are stop)
    ∙ ap (λ w. operand_ending (own ++ rest) (word_by (b ∷ w) (suc (length own)) (boolean_of (b ∷ w)))) (take_front own rest)
    ∙ ap (λ r. operand_ending (own ++ rest) (word_by (b ∷ own) (suc (length own)) r)) e

word_left : (tree : Tree) (own rest : List ℕ) → leaves tree (drop (suc (length own) - 1) (own ++ rest)) ≡ leaves tree rest
word_left tree own rest =
    let less : suc (length own) - 1 ≡ length own = omega arith in ap (λ n. leaves tree (drop n (own ++ rest))) less ∙ ap (leaves tree) (drop_front own rest)

-- ── what a `$` begins stands in front of what is left ──

abbrev InFront : List ℕ → List ℕ → Type 0
InFront text rest = (front : List ℕ) × (text ≡ front ++ rest)

substitution_front : {room : ℕ} {text : List ℕ} {own : Piece} {rest : List ℕ} → IsSubstitution room text own rest → InFront text rest
substitution_front (name_behind name {text = rest} is h k) = (name, refl)
substitution_front (braced_name name {text = rest} h) = (123 ∷ (name ++ 125 ∷ []), ap (λ t. 123 ∷ t) (sym (append_assoc name (125 ∷ []) rest)))
substitution_front (element_behind name own {text = rest} is h) =
    (name ++ 40 ∷ (own ++ 41 ∷ []), sym (append_assoc name (40 ∷ (own ++ 41 ∷ [])) rest ∙ ap (λ t. name ++ 40 ∷ t) (append_assoc own (41 ∷ []) rest)))

-- ── what the grammar relates is found ──

at_mark : (room b : ℕ) (behind : List ℕ) (m : Mark) (ending : ExprEnding) → mark_of b ≡ m → operand_ending behind (operand_of room m (b ∷ behind) behind) ≡ ending → found_ending room (b ∷ behind) ≡ ending
at_mark room b behind m ending same e = ap (λ k. operand_ending behind (operand_of room k (b ∷ behind) behind)) same ∙ e

brace_mark : mark_of 123 ≡ mark.OpenBrace
unfolding mark_of
brace_mark = refl

quote_mark : mark_of 34 ≡ mark.Quote
unfolding mark_of
quote_mark = refl

bracket_mark : mark_of 91 ≡ mark.OpenBracket
unfolding mark_of
bracket_mark = refl

dollar_mark : mark_of 36 ≡ mark.Dollar
unfolding mark_of
dollar_mark = refl

no_operand : (room : ℕ) (m : Mark) (text behind : List ℕ) → begins_operand m ≡ false → operand_of room m text behind ≡ Err Syntax
no_operand room mark.Digit text behind h = absurd (cc)
no_operand room mark.Letter text behind h = absurd (cc)
no_operand room mark.OpenBrace text behind h = absurd (cc)
no_operand room mark.Quote text behind h = absurd (cc)
no_operand room mark.OpenBracket text behind h = absurd (cc)
no_operand room mark.Dollar text behind h = absurd (cc)
no_operand room m text behind h = refl

-- so many bytes with one more
left_past : (tree : Tree) (own : List ℕ) (c : ℕ) (rest : List ℕ) → leaves tree (drop (suc (length own)) (own ++ c ∷ rest)) ≡ leaves tree rest
left_past tree own c rest = ap (leaves tree) (drop_past own c rest)

bracket_found : (room : ℕ) (own rest : List ℕ) → bracket_of room (own ++ 93 ∷ rest) ≡ Ok (piece.Bracket own, suc (length own)) →
    operand_ending (own ++ 93 ∷ rest) (piece_at room (bracket_of room (own ++ 93 ∷ rest))) ≡ leaves (Command own) rest
bracket_found room own rest e = ap (λ f. operand_ending (own ++ 93 ∷ rest) (piece_at room f)) e ∙ left_past (Command own) own 93 rest

quotes_found : (room : ℕ) (own rest : List ℕ) (pieces : List Piece) (tree : Tree) → quoted_of room (own ++ 34 ∷ rest) ≡ Ok (pieces, suc (length own)) → text_tree room pieces ≡ Ok tree →
    operand_ending (own ++ 34 ∷ rest) (pieces_at room (quoted_of room (own ++ 34 ∷ rest))) ≡ leaves tree rest
quotes_found room own rest pieces tree e f =
    ap (λ q. operand_ending (own ++ 34 ∷ rest) (pieces_at room q)) e
    ∙ ap (λ t. operand_ending (own ++ 34 ∷ rest) (with_count (suc (length own)) t)) f
    ∙ left_past tree own 34 rest

variable_found : (room : ℕ) (front rest : List ℕ) (own : Piece) (tree : Tree) → substitution_of room (front ++ rest) ≡ Ok (Some (own, length front)) → piece_tree room own ≡ Ok tree →
    operand_ending (front ++ rest) (variable_at room (substitution_of room (front ++ rest))) ≡ leaves tree rest
variable_found room front rest own tree e f =
    ap (λ s. operand_ending (front ++ rest) (variable_at room s)) e
    ∙ ap (λ t. operand_ending (front ++ rest) (with_count (length front) t)) f
    ∙ ap (leaves tree) (drop_front front rest)

variable_found_in : (room : ℕ) (text rest : List ℕ) (own : Piece) (tree : Tree) → InFront text rest → IsSubstitution room text own rest → piece_tree room own ≡ Ok tree →
    operand_ending text (variable_at room (substitution_of room text)) ≡ leaves tree rest
variable_found_in room text rest own tree (front, cut) is f =
    let there : IsSubstitution room (front ++ rest) own rest = subst (λ t. IsSubstitution room t own rest) cut is in
    let count : length front + length rest ≡ length (front ++ rest) = sym (length-append front rest) in
    subst (λ t. operand_ending t (variable_at room (substitution_of room t)) ≡ leaves tree rest) (sym cut)
    (variable_found room front rest own tree (substitution_read room (front ++ rest) (Ok (Some (own, length front))) (rest, there, count)) f)

pub operand_found : (room : ℕ) → room ≤ 200 → {text : List ℕ} {ending : ExprEnding} → IsOperand room text ending → found_ending room text ≡ ending
operand_found room small (number b own rest same is ends) =
    at_mark room b (own ++ rest) mark.Digit (leaves (Integer (b ∷ own)) rest) same (number_found b own rest true is ends ∙ ap (leaves (Integer (b ∷ own))) (drop_front own rest))
operand_found room small (unended_number b own rest same is goes) = at_mark room b (own ++ rest) mark.Digit (fails Syntax) same (number_found b own rest false is goes)
operand_found room small (word b own rest truth same are stop e) =
    at_mark room b (own ++ rest) mark.Letter (leaves (Plain (b ∷ own)) rest) same (word_found b own rest (Some truth) are stop e ∙ word_left (Plain (b ∷ own)) own rest)
operand_found room small (other_word b own rest same are stop e) = at_mark room b (own ++ rest) mark.Letter (fails Syntax) same (word_found b own rest None are stop e)
operand_found room small (braces own value rest is) =
    at_mark room 123 (own ++ 125 ∷ rest) mark.OpenBrace (leaves (Plain value) rest) brace_mark
    (ap (λ f. operand_ending (own ++ 125 ∷ rest) (brace_at f)) (braces_read own value rest is) ∙ left_past (Plain value) own 125 rest)
operand_found room small (unclosed_braces text is) = at_mark room 123 text mark.OpenBrace (fails missing_brace) brace_mark (ap (λ f. operand_ending text (brace_at f)) (unclosed_read text is))
operand_found room small (quotes own rest pieces tree are is) =
    at_mark room 34 (own ++ 34 ∷ rest) mark.Quote (leaves tree rest) quote_mark
    (quotes_found room own rest pieces tree (quotes_given room (own ++ 34 ∷ rest) (Ok (pieces, suc (length own))) (own, rest, refl, are, refl)) (text_tree_is room small are is))
operand_found room small (faulty_quotes text pieces fault are) =
    at_mark room 34 text mark.Quote (fails (Script fault)) quote_mark (ap (λ f. operand_ending text (pieces_at room f)) (quotes_given room text (Err fault) (pieces, are)))
operand_found room small (bracket own rest is) =
    at_mark room 91 (own ++ 93 ∷ rest) mark.OpenBracket (leaves (Command own) rest) bracket_mark
    (bracket_found room own rest (bracket_read room (own ++ 93 ∷ rest) (Ok (piece.Bracket own, suc (length own))) (own, rest, refl, is, refl)))
operand_found room small (faulty_bracket text fault is) =
    at_mark room 91 text mark.OpenBracket (fails (Script fault)) bracket_mark (ap (λ f. operand_ending text (piece_at room f)) (bracket_read room text (Err fault) is))
operand_found room small (variable text rest own tree sub is) =
    at_mark room 36 text mark.Dollar (leaves tree rest) dollar_mark (variable_found_in room text rest own tree (substitution_front sub) sub (piece_tree_is room small sub is))
operand_found room small (faulty_variable text fault is) =
    at_mark room 36 text mark.Dollar (fails (Script fault)) dollar_mark (ap (λ f. operand_ending text (variable_at room f)) (substitution_read room text (Err fault) is))
operand_found room small (no_variable text h k) =
    at_mark room 36 text mark.Dollar (fails Syntax) dollar_mark (ap (λ f. operand_ending text (variable_at room f)) (substitution_read room text (Ok None) (h, k)))
operand_found room small (none b behind h) = ap (operand_ending behind) (no_operand room (mark_of b) (b ∷ behind) behind h)

-- ── each text has an operand or is at fault ──

decide : (b : Bool) → (b ≡ true) ⊎ (b ≡ false)
decide true = inl refl
decide false = inr refl

-- what a byte of a kind is
abbrev ByteOf : Mark → ℕ → Type 0
ByteOf mark.Digit b = is_digit b ≡ true
ByteOf mark.Letter b = is_alphabetic b ≡ true
ByteOf mark.OpenBrace b = b ≡ 123
ByteOf mark.Quote b = b ≡ 34
ByteOf mark.OpenBracket b = b ≡ 91
ByteOf mark.Dollar b = b ≡ 36
ByteOf _ b = Unit {0}

-- the kind of the first test that holds, and what each test has to tell
abbrev first_kind : List (Bool × Mark) → Mark
first_kind [] = mark.Other
first_kind (test ∷ tests) = if test.0 then test.1 else first_kind tests

abbrev AllTell : ℕ → List (Bool × Mark) → Type 0
AllTell b [] = Unit {0}
AllTell b (test ∷ tests) = (test.0 ≡ true → ByteOf test.1 b) × AllTell b tests

told_first : (b : ℕ) (holds : Bool) (m next : Mark) → (holds ≡ true → ByteOf m b) → ByteOf next b → ByteOf (if holds then m else next) b
told_first b true m next tells further = tells refl
told_first b false m next tells further = further

all_told : (b : ℕ) (tests : List (Bool × Mark)) → AllTell b tests → ByteOf (first_kind tests) b
all_told b [] all = tt
all_told b (test ∷ tests) all = told_first b test.0 test.1 (first_kind tests) all.0 (all_told b tests all.1)

-- the tests of a byte that tell most of it come last
abbrev last_tests : ℕ → List (Bool × Mark)
last_tests b =
    (b == 36, mark.Dollar)
    ∷ (b == 123, mark.OpenBrace)
    ∷ (b == 34, mark.Quote)
    ∷ (b == 91, mark.OpenBracket)
    ∷ (b == 92, mark.Backslash)
    ∷ (is_digit b, mark.Digit)
    ∷ (is_alphabetic b, mark.Letter)
    ∷ []

abbrev plain_tests : ℕ → List (Bool × Mark) → List (Bool × Mark)
plain_tests b further =
    (b == 32 || (nat_le 9 b && nat_le b 13), mark.White)
    ∷ (b == 43, mark.Plus)
    ∷ (b == 45, mark.Minus)
    ∷ (b == 42, mark.Star)
    ∷ (b == 47, mark.Slash)
    ∷ (b == 37, mark.Percent)
    ∷ (b == 60, mark.Less)
    ∷ (b == 62, mark.Greater)
    ∷ (b == 61, mark.Equals)
    ∷ (b == 33, mark.Bang)
    ∷ (b == 38, mark.Ampersand)
    ∷ (b == 124, mark.Bar)
    ∷ (b == 94, mark.Caret)
    ∷ (b == 126, mark.Tilde)
    ∷ (b == 63, mark.Question)
    ∷ (b == 58, mark.Colon)
    ∷ (b == 40, mark.OpenParen)
    ∷ (b == 41, mark.CloseParen)
    ∷ further

last_tell : (b : ℕ) → AllTell b (last_tests b)
last_tell b = (λ e. eqb-true b 36 e, (λ e. eqb-true b 123 e, (λ e. eqb-true b 34 e, (λ e. eqb-true b 91 e, (λ _. tt, (λ e. e, (λ e. e, tt)))))))

plain_tell : (b : ℕ) (further : List (Bool × Mark)) → AllTell b further → AllTell b (plain_tests b further)
plain_tell b further tell = (λ _. tt, (λ _. tt, (λ _. tt, (λ _. tt, (λ _. tt, (λ _. tt, (λ _. tt, (λ _. tt, (λ _. tt, (λ _. tt, (λ _. tt, (λ _. tt, (λ _. tt, (λ _. tt, (λ _. tt, (λ _. tt, (λ _. tt, (λ _. tt, tell))))))))))))))))))

byte_of : (b : ℕ) → ByteOf (mark_of b) b
unfolding mark_of
byte_of b = all_told b (plain_tests b (last_tests b)) (plain_tell b (last_tests b) (last_tell b))

byte_as : (b : ℕ) (m : Mark) → mark_of b ≡ m → ByteOf m b
byte_as b m e = subst (λ k. ByteOf k b) e (byte_of b)

abbrev DigitsCut : ℕ → List ℕ → Type 0
DigitsCut base text = (own : List ℕ) × (rest : List ℕ) × (text ≡ own ++ rest) × AreDigits base own × (begins_digit base rest ≡ false)

digits_cut : (base : ℕ) (text : List ℕ) → DigitsCut base text
digits_cut base [] = ([], [], refl, tt, refl)
digits_cut base (b ∷ text) = at (decide (nat_lt (digit_value b) base)) (digits_cut base text)
  where
    at : (nat_lt (digit_value b) base ≡ true) ⊎ (nat_lt (digit_value b) base ≡ false) → DigitsCut base text → DigitsCut base (b ∷ text)
    at (inl h) (own, rest, cut, are, stop) = (b ∷ own, rest, ap (λ t. b ∷ t) cut, (h, are), stop)
    at (inr h) more = ([], b ∷ text, refl, tt, h)

-- what is behind the first byte of a number
abbrev NumberCut : ℕ → List ℕ → Type 0
NumberCut b behind = (own : List ℕ) × (rest : List ℕ) × (behind ≡ own ++ rest) × IsNumber rest (b ∷ own)

based_cut : (letter base : ℕ) (more : List ℕ) → base_named letter ≡ Some base → begins_digit base more ≡ true → NumberCut 48 (letter ∷ more)
based_cut letter base [] e h = absurd (cc)
based_cut letter base (digit ∷ more) e h = at (digits_cut base more)
  where
    at : DigitsCut base more → NumberCut 48 (letter ∷ digit ∷ more)
    at (own, rest, cut, are, stop) = (letter ∷ digit ∷ own, rest, ap (λ t. letter ∷ digit ∷ t) cut, based letter base digit own e (h, are) stop)

named_cut : (letter : ℕ) (more : List ℕ) (base : Option ℕ) → base_named letter ≡ base → begins_digit_of base more ≡ true → NumberCut 48 (letter ∷ more)
named_cut letter more (Some base) e h = based_cut letter base more e h
named_cut letter more None e h = absurd (cc)

zero_cut : (behind : List ℕ) → (begins_base behind ≡ true) ⊎ (begins_base behind ≡ false) → NumberCut 48 behind
zero_cut [] (inl h) = absurd (cc)
zero_cut (letter ∷ more) (inl h) = named_cut letter more (base_named letter) refl h
zero_cut behind (inr h) = at (digits_cut 8 behind)
  where
    at : DigitsCut 8 behind → NumberCut 48 behind
    at (own, rest, cut, are, stop) = (own, rest, cut, octal own are stop (subst (λ t. begins_base t ≡ false) cut h))

not_zero : (b : ℕ) → (b == 48) ≡ false → b ≢ 48
not_zero b h e = let k : (b == 48) ≡ true = ap (λ c. c == 48) e in let f : false ≡ true = sym h ∙ k in cc

decimal_cut : (b : ℕ) (behind : List ℕ) → (b == 48) ≡ false → nat_lt (digit_value b) 10 ≡ true → NumberCut b behind
decimal_cut b behind other digit = at (digits_cut 10 behind)
  where
    at : DigitsCut 10 behind → NumberCut b behind
    at (own, rest, cut, are, stop) = (own, rest, cut, decimal b own (not_zero b other) (digit, are) stop)

number_cut : (b : ℕ) (behind : List ℕ) → nat_lt (digit_value b) 10 ≡ true → ((b == 48) ≡ true) ⊎ ((b == 48) ≡ false) → NumberCut b behind
number_cut b behind digit (inl h) = subst (λ c. NumberCut c behind) (sym (eqb-true b 48 h)) (zero_cut behind (decide (begins_base behind)))
number_cut b behind digit (inr h) = decimal_cut b behind h digit

abbrev NamesCut : List ℕ → Type 0
NamesCut text = (own : List ℕ) × (rest : List ℕ) × (text ≡ own ++ rest) × AreNameBytes own × (begins_name_byte rest ≡ false)

names_cut : (text : List ℕ) → NamesCut text
names_cut [] = ([], [], refl, tt, refl)
names_cut (b ∷ text) = at (decide (is_name_byte b)) (names_cut text)
  where
    at : (is_name_byte b ≡ true) ⊎ (is_name_byte b ≡ false) → NamesCut text → NamesCut (b ∷ text)
    at (inl h) (own, rest, cut, are, stop) = (b ∷ own, rest, ap (λ t. b ∷ t) cut, (h, are), stop)
    at (inr h) more = ([], b ∷ text, refl, tt, h)

digit_counts : (b : ℕ) → is_digit b ≡ true → nat_lt (digit_value b) 10 ≡ true
digit_counts b h =
    let parts = and_parts (nat_le 48 b) (nat_le b 57) h in
    let low : 48 ≤ b = leb-true 48 b parts.0 in
    let high : b ≤ 57 = leb-true b 57 parts.1 in
    let e : digit_value b + 48 ≡ b = digit_value_digit b (low, high) in
    let k : digit_value b < 10 = omega (arith, e, high) in
    lt-ltb (digit_value b) 10 k

letter_names : (b : ℕ) → is_alphabetic b ≡ true → is_name_byte b ≡ true
letter_names b h = rw h refl

-- the text has an ending
abbrev HasEnding : ℕ → List ℕ → Type 0
HasEnding room text = (ending : ExprEnding) × IsOperand room text ending

number_ending : (room b : ℕ) (behind : List ℕ) → mark_of b ≡ mark.Digit → NumberCut b behind → HasEnding room (b ∷ behind)
number_ending room b behind same (own, rest, cut, is) = subst (λ t. HasEnding room (b ∷ t)) (sym cut) (at (decide (ends_number rest)))
  where
    at : (ends_number rest ≡ true) ⊎ (ends_number rest ≡ false) → HasEnding room (b ∷ (own ++ rest))
    at (inl h) = (leaves (Integer (b ∷ own)) rest, number b own rest same is h)
    at (inr h) = (fails Syntax, unended_number b own rest same is h)

word_ending : (room b : ℕ) (behind : List ℕ) → mark_of b ≡ mark.Letter → is_name_byte b ≡ true → NamesCut behind → HasEnding room (b ∷ behind)
word_ending room b behind same name (own, rest, cut, are, stop) = subst (λ t. HasEnding room (b ∷ t)) (sym cut) (at (boolean_of (b ∷ own)) refl)
  where
    at : (read : Option Bool) → boolean_of (b ∷ own) ≡ read → HasEnding room (b ∷ (own ++ rest))
    at (Some truth) e = (leaves (Plain (b ∷ own)) rest, word b own rest truth same (name, are) stop e)
    at None e = (fails Syntax, other_word b own rest same (name, are) stop e)

brace_ending : (room : ℕ) (text : List ℕ) → ((own : List ℕ) × (value : List ℕ) × (rest : List ℕ) × (text ≡ own ++ 125 ∷ rest) × IsBraced own value) ⊎ IsUnclosed text → HasEnding room (123 ∷ text)
brace_ending room text (inl (own, value, rest, cut, is)) = subst (λ t. HasEnding room (123 ∷ t)) (sym cut) (leaves (Plain value) rest, braces own value rest is)
brace_ending room text (inr is) = (fails missing_brace, unclosed_braces text is)

quote_ending : (room : ℕ) → room ≤ 200 → (text : List ℕ) (found : Result (List Piece × ℕ) ParseFault) → IsBehindQuote room text found → HasEnding room (34 ∷ text)
quote_ending room small text (Ok found) (own, rest, cut, are, count) =
    let has = text_has room found.0 (pieces_have room small are) in
    subst (λ t. HasEnding room (34 ∷ t)) (sym cut) (leaves has.0 rest, quotes own rest found.0 has.0 are has.2)
quote_ending room small text (Err fault) (pieces, are) = (fails (Script fault), faulty_quotes text pieces fault are)

bracket_ending : (room : ℕ) (text : List ℕ) (found : Result (Piece × ℕ) ParseFault) → IsBehindBracket room text found → HasEnding room (91 ∷ text)
bracket_ending room text (Ok found) (own, rest, cut, is, same) = subst (λ t. HasEnding room (91 ∷ t)) (sym cut) (leaves (Command own) rest, bracket own rest is)
bracket_ending room text (Err fault) is = (fails (Script fault), faulty_bracket text fault is)

dollar_ending : (room : ℕ) → room ≤ 200 → (text : List ℕ) (found : Result (Option (Piece × ℕ)) ParseFault) → IsBehindDollar room text found → HasEnding room (36 ∷ text)
dollar_ending room small text (Ok None) (h, k) = (fails Syntax, no_variable text h k)
dollar_ending room small text (Ok (Some found)) (rest, is, count) =
    let has : HasTree room found.0 = substitution_has room small is in (leaves has.0 rest, variable text rest found.0 has.0 is has.2)
dollar_ending room small text (Err fault) is = (fails (Script fault), faulty_variable text fault is)

ending_by : (room : ℕ) → room ≤ 200 → (b : ℕ) (behind : List ℕ) (m : Mark) → mark_of b ≡ m → ByteOf m b → HasEnding room (b ∷ behind)
ending_by room small b behind mark.Digit e digit = number_ending room b behind e (number_cut b behind (digit_counts b digit) (decide (b == 48)))
ending_by room small b behind mark.Letter e letter = word_ending room b behind e (letter_names b letter) (names_cut behind)
ending_by room small b behind mark.OpenBrace e byte = subst (λ c. HasEnding room (c ∷ behind)) (sym byte) (brace_ending room behind (braces_cut behind))
ending_by room small b behind mark.Quote e byte = subst (λ c. HasEnding room (c ∷ behind)) (sym byte) (quote_ending room small behind (quoted_of room behind) (quotes_are room behind (quoted_of room behind) refl))
ending_by room small b behind mark.OpenBracket e byte = subst (λ c. HasEnding room (c ∷ behind)) (sym byte) (bracket_ending room behind (bracket_of room behind) (bracket_is room behind (bracket_of room behind) refl))
ending_by room small b behind mark.Dollar e byte = subst (λ c. HasEnding room (c ∷ behind)) (sym byte) (dollar_ending room small behind (substitution_of room behind) (substitution_is room behind (substitution_of room behind) refl))
ending_by room small b behind m e byte = (fails Syntax, none b behind (ap begins_operand e))

-- what is found is what the grammar relates
pub operand_is : (room : ℕ) → room ≤ 200 → (b : ℕ) (behind : List ℕ) → IsOperand room (b ∷ behind) (found_ending room (b ∷ behind))
operand_is room small b behind =
    let some = ending_by room small b behind (mark_of b) refl (byte_of b) in subst (IsOperand room (b ∷ behind)) (sym (operand_found room small some.1)) some.1
