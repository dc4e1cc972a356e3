-- Each text has what the grammar relates to what is read.
use Rattle.std.proofs.Common.{◌≡◌, ℕ, zero, suc, ◌+◌, ◌-◌, ◌≤◌, ◌<◌, ◌⊎◌, inl, inr, nat_lt, nat_le, ◌==◌, true, false, not, List, [], ◌∷◌, length, drop, Option, Some, None, Result, Ok, Err, refl, sym, ap, subst, ◌∙◌, arith}
use Rattle.std.proofs.lemmas.Bool.Decides.{nat_tests}
use Rattle.std.proofs.lemmas.List.{length-drop}
use Rattle.tcl_expr.specs.declared.fault.ExprFault.{ExprFault}
use Rattle.tcl_expr.specs.declared.fault.ExprFault.TheVariants.{Syntax}
use Rattle.tcl_expr.specs.Faults.{too_long}
use Rattle.tcl_expr.specs.declared.operators.UnaryOperator.{UnaryOperator}
use Rattle.tcl_expr.specs.declared.operators.Infix.{Infix}
use Rattle.tcl_expr.specs.declared.tokens.Link.{Link}
use Rattle.tcl_expr.specs.declared.tokens.Link.TheVariants as link
use Rattle.tcl_expr.specs.Tokens.{mark_of, link_at}
use Rattle.tcl_expr.specs.Trees.{Tree, Unary, Choice}
use Rattle.tcl_expr.specs.Reading.{Opened, Before, After as Pending, Paren, Question, Otherwise, parens, ends_at, Closed, close, ended, AtOperand, AtOperator, move, at_colon, at_close, at_paren, room_in, on_move, tree_reading, whole}
use Rattle.tcl_expr.specs.Operators.{level_of, between}
use Rattle.tcl_expr.specs.Grammar.{blank_mark, past_blanks, After, at_end, linked, nothing, after_link, after_blanks, after, ExprEnding, leaves, fails, goes_on, stops, with_tree, First, sign, paren, operand, first_of, closed_by, closed, colon_fault, unchosen, IsExpr, whole_by, IsWholeExpr}
use Rattle.tcl_expr.specs.Grammar.IsExpr.{lacks, operand_read, signed, deep, parens as in_parens, tighter, operated, choice, no_choice}
use Rattle.tcl_expr.proofs.OperandsFound.{operand_of, operand_ending, operand_is}
use Rattle.tcl_expr.proofs.StandLemmas.{reading_skip}
use Rattle.tcl_expr.proofs.GrammarRead.{levels, decide, not_blank, moved, operand_moves, sign_moves, paren_moves, on_next, goes, reading_goes, first_byte, lacks_read}

-- ── operators that follow one another ──

-- how a text goes on behind a tree of a level, by operators of that level and less tight ones, down to another level
data Tail (room n : ℕ) : ℕ → Tree → List ℕ → ExprEnding → Type 0 where
  done : {cur : ℕ} {a : Tree} {start : List ℕ} → Tail room n cur a start (leaves a start)
  more : {cur : ℕ} {a : Tree} {start : List ℕ} (operator : Infix) (behind : List ℕ) (b : Tree) (left : List ℕ) {ending : ExprEnding} → n ≤ level_of operator → level_of operator ≤ cur →
      after start ≡ linked (link.Infix operator) behind → IsExpr room (suc (level_of operator)) behind (leaves b left) → Tail room n (level_of operator) (between operator a b) left ending → Tail room n cur a start ending
  faulty : {cur : ℕ} {a : Tree} {start : List ℕ} (operator : Infix) (behind : List ℕ) (fault : ExprFault) → n ≤ level_of operator → level_of operator ≤ cur →
      after start ≡ linked (link.Infix operator) behind → IsExpr room (suc (level_of operator)) behind (fails fault) → Tail room n cur a start (fails fault)
  chosen : {cur : ℕ} {a : Tree} {start : List ℕ} (b : Tree) (behind left behind' : List ℕ) {ending : ExprEnding} → n ≡ 0 → 1 ≤ cur → after start ≡ linked link.Question behind →
      IsExpr room 0 behind (leaves b left) → after left ≡ linked link.Colon behind' → IsExpr room 0 behind' ending → Tail room n cur a start (with_tree (Choice a b) ending)
  unended : {cur : ℕ} {a : Tree} {start : List ℕ} (behind : List ℕ) (fault : ExprFault) (ending : ExprEnding) → n ≡ 0 → 1 ≤ cur → after start ≡ linked link.Question behind →
      IsExpr room 0 behind ending → stops ending ≡ true → unchosen ending ≡ Some fault → Tail room n cur a start (fails fault)

lower_by : (room k n : ℕ) (text : List ℕ) (ending : ExprEnding) → IsExpr room (n + k) text ending → IsExpr room n text ending
lower_by room zero n text ending is = let e : n + 0 ≡ n = omega arith in subst (λ m. IsExpr room m text ending) e is
lower_by room (suc k) n text ending is = let e : n + suc k ≡ suc (n + k) = omega arith in lower_by room k n text ending (tighter (subst (λ m. IsExpr room m text ending) e is))

lower : (room k n : ℕ) (text : List ℕ) (ending : ExprEnding) → n ≤ k → IsExpr room k text ending → IsExpr room n text ending
lower room k n text ending h is = let e : k ≡ n + (k - n) = omega (arith, h) in lower_by room (k - n) n text ending (subst (λ m. IsExpr room m text ending) e is)

at_zero : (room n : ℕ) (text : List ℕ) (ending : ExprEnding) → n ≡ 0 → IsExpr room 0 text ending → IsExpr room n text ending
at_zero room n text ending e is = subst (λ m. IsExpr room m text ending) (sym e) is

tail_read : (room n : ℕ) (text : List ℕ) {cur : ℕ} {a : Tree} {start : List ℕ} {ending : ExprEnding} → Tail room n cur a start ending → n ≤ cur → IsExpr room cur text (leaves a start) → IsExpr room n text ending
tail_read room n text (done {cur} {a} {start}) h is = lower room cur n text (leaves a start) h is
tail_read room n text (more {cur} {a} {start} operator behind b left' {ending} low high e is' tail) h is =
    tail_read room n text tail low (operated operator a start behind (lower room cur (level_of operator) text (leaves a start) high is) e is')
tail_read room n text (faulty {cur} {a} {start} operator behind fault low high e is') h is =
    lower room (level_of operator) n text (fails fault) low (operated operator a start behind (lower room cur (level_of operator) text (leaves a start) high is) e is')
tail_read room n text (chosen {cur} {a} {start} b behind left' behind' {ending} none some e is' e' is'') h is =
    at_zero room n text (with_tree (Choice a b) ending) none (choice a b start behind left' behind' (lower room cur 1 text (leaves a start) some is) e is' e' is'')
tail_read room n text (unended {cur} {a} {start} behind fault ending none some e is' s u) h is =
    at_zero room n text (fails fault) none (no_choice a start behind fault (lower room cur 1 text (leaves a start) some is) e is' s u)

-- ── what stands open ──

-- the level of what is read within it
abbrev level_in : List Opened → ℕ
level_in (Before operator ∷ opened) = 11
level_in (Pending operator a ∷ opened) = suc (level_of operator)
level_in other = 0

-- operators in one another bind tighter, and a choice stands in none
abbrev Nests : List Opened → Type 0
Nests [] = Unit {0}
Nests (Before operator ∷ opened) = Nests opened
Nests (Pending operator a ∷ opened) = (level_in opened ≤ level_of operator) × Nests opened
Nests (Paren ∷ opened) = Nests opened
Nests (Question a ∷ opened) = (level_in opened ≡ 0) × Nests opened
Nests (Otherwise a b ∷ opened) = (level_in opened ≡ 0) × Nests opened

-- a closed parenthesis, where `Goes` says how a tree goes on
abbrev PastParen : (Tree → List ℕ → Type 0) → ExprEnding → Result Tree ExprFault → Type 0
PastParen Goes (leaves tree left) given = Goes tree left
PastParen Goes (fails fault) given = given ≡ Err fault

-- what stands open, filled with what was read within it, gives this in all
abbrev Filled : List Opened → ExprEnding → Result Tree ExprFault → Type 0
Filled opened (fails fault) given = given ≡ Err fault
Filled [] (leaves tree left) given = (goes_on (after left) ≡ false) × (given ≡ whole_by tree (after left))
Filled (Before operator ∷ opened) (leaves tree left) given =
    (ending : ExprEnding) × Tail (room_in opened) (level_in opened) 11 (Unary operator tree) left ending × Filled opened ending given
Filled (Pending operator a ∷ opened) (leaves tree left) given =
    (ending : ExprEnding) × Tail (room_in opened) (level_in opened) (level_of operator) (between operator a tree) left ending × Filled opened ending given
Filled (Paren ∷ opened) (leaves tree left) given =
    (goes_on (after left) ≡ false)
    × PastParen (λ own rest. (ending : ExprEnding) × Tail (room_in opened) (level_in opened) 11 own rest ending × Filled opened ending given) (closed_by tree (after left)) given
Filled (Question a ∷ opened) (leaves tree left) given =
    (goes_on (after left) ≡ false)
    × (((behind : List ℕ) × (ending : ExprEnding) × (after left ≡ linked link.Colon behind) × IsExpr (room_in opened) 0 behind ending × Filled opened (with_tree (Choice a tree) ending) given)
    ⊎ ((fault : ExprFault) × (colon_fault (after left) ≡ Some fault) × (given ≡ Err fault)))
Filled (Otherwise a b ∷ opened) (leaves tree left) given = Filled opened (leaves (Choice a b tree) left) given

-- how a tree of a level goes on within it
abbrev Continues : List Opened → ℕ → Tree → List ℕ → Result Tree ExprFault → Type 0
Continues opened cur tree text given = (ending : ExprEnding) × Tail (room_in opened) (level_in opened) cur tree text ending × Filled opened ending given

abbrev Started : List Opened → List ℕ → Result Tree ExprFault → Type 0
Started opened text given = (ending : ExprEnding) × IsExpr (room_in opened) (level_in opened) text ending × Filled opened ending given

level_most : (opened : List Opened) → level_in opened ≤ 11
level_most (Pending operator a ∷ opened) = let h = (levels operator).most in omega (arith, h)
level_most opened = omega arith

not_most : (m n : ℕ) → nat_le m n ≡ false → suc n ≤ m
not_most m n h = grind (arith, nat_tests)

is_most : (m n : ℕ) → nat_le m n ≡ true → m ≤ n
is_most m n h = grind (arith, nat_tests)

zero_most : (n : ℕ) → nat_le 0 n ≡ true
zero_most n = grind (arith, nat_tests)

least : (n : ℕ) → 0 ≤ n
least n = omega arith

one_not_zero : (m : ℕ) → 1 ≤ m → (m == 0) ≡ true → ⊥
one_not_zero m h e = let x : m ≡ 0 = grind (arith, nat_tests) in omega (arith, h, x)

-- what doesn't end before an operator holds one of its level
level_of_open : (m : ℕ) (own : Opened) (opened : List Opened) → ends_at m own ≡ false → level_in (own ∷ opened) ≤ m
level_of_open m (Before operator) opened e = absurd (cc)
level_of_open m (Pending operator a) opened e = not_most m (level_of operator) e
level_of_open m own opened e = least m

nests_rest : (own : Opened) (opened : List Opened) → Nests (own ∷ opened) → Nests opened
nests_rest (Before operator) opened w = w
nests_rest Paren opened w = w
nests_rest own opened w = w.1

-- what is left once all that ends has ended
record Left (m : ℕ) (opened : List Opened) : Type 0 where
  nests : Nests opened
  holds : level_in opened ≤ m

left_open : (m : ℕ) (opened : List Opened) (tree : Tree) → Nests opened → Left m (close m opened tree).opened
left_open m [] tree w = record { nests = tt; holds = least m }
left_open m (own ∷ opened) tree w = go (left_open m opened (ended own tree) (nests_rest own opened w)) (decide (ends_at m own))
  where
    go : Left m (close m opened (ended own tree)).opened → (ends_at m own ≡ true) ⊎ (ends_at m own ≡ false) → Left m (close m (own ∷ opened) tree).opened
    go further (inl e) = rw e further
    go further (inr e) = rw e (record { nests = w; holds = level_of_open m own opened e })

-- no operator is as loose as a choice
none_looser : (opened : List Opened) → level_in opened ≤ 1 → level_in opened ≡ 0
none_looser (Before operator ∷ opened) h = absurd (omega (arith, h))
none_looser (Pending operator a ∷ opened) h = let l = (levels operator).least in absurd (omega (arith, h, l))
none_looser opened h = refl

-- ── an operator behind a tree ──

-- what comes behind an operator, once all that ends before it has ended
abbrev PastInfix : Infix → List ℕ → Result Tree ExprFault → Closed → Type 0
PastInfix operator behind given closed_at =
    (ending : ExprEnding) × IsExpr (room_in closed_at.opened) (suc (level_of operator)) behind ending × Filled (Pending operator closed_at.tree ∷ closed_at.opened) ending given

infix_joins : (operator : Infix) (opened : List Opened) (cur : ℕ) (tree : Tree) (text behind : List ℕ) (given : Result Tree ExprFault) → level_in opened ≤ level_of operator → level_of operator ≤ cur →
    after text ≡ linked (link.Infix operator) behind → PastInfix operator behind given (record { opened = opened; tree = tree }) → Continues opened cur tree text given
infix_joins operator opened cur tree text behind given low high e (leaves b left, is, (ending, tail, filled)) = (ending, more operator behind b left low high e is tail, filled)
infix_joins operator opened cur tree text behind given low high e (fails fault, is, filled) = (fails fault, faulty operator behind fault low high e is, filled)

infix_continues : (operator : Infix) (opened : List Opened) (cur : ℕ) (tree : Tree) (text behind : List ℕ) (given : Result Tree ExprFault) → level_of operator ≤ cur →
    after text ≡ linked (link.Infix operator) behind → PastInfix operator behind given (close (level_of operator) opened tree) → Continues opened cur tree text given
infix_continues operator [] cur tree text behind given high e past = infix_joins operator [] cur tree text behind given (least (level_of operator)) high e past
infix_continues operator (own ∷ opened) cur tree text behind given high e past =
    go (λ cur' tree' high' p. infix_continues operator opened cur' tree' text behind given high' e p) (decide (ends_at (level_of operator) own))
  where
    ends : ((cur' : ℕ) (tree' : Tree) → level_of operator ≤ cur' → PastInfix operator behind given (close (level_of operator) opened tree') → Continues opened cur' tree' text given) →
        (held : Opened) → ends_at (level_of operator) held ≡ true → PastInfix operator behind given (close (level_of operator) opened (ended held tree)) → Filled (held ∷ opened) (leaves tree text) given
    ends further (Before sign_of) h p = let most = (levels operator).most in let k : level_of operator ≤ 11 = omega (arith, most) in further 11 (Unary sign_of tree) k p
    ends further (Pending other a) h p = further (level_of other) (between other a tree) (is_most (level_of operator) (level_of other) h) p
    ends further Paren h p = absurd (cc)
    ends further (Question a) h p = absurd (cc)
    ends further (Otherwise a b) h p = absurd (one_not_zero (level_of operator) (levels operator).least h)

    go : ((cur' : ℕ) (tree' : Tree) → level_of operator ≤ cur' → PastInfix operator behind given (close (level_of operator) opened tree') → Continues opened cur' tree' text given) →
        (ends_at (level_of operator) own ≡ true) ⊎ (ends_at (level_of operator) own ≡ false) → Continues (own ∷ opened) cur tree text given
    go further (inl h) = (leaves tree text, done, ends further own h (rw h at past))
    go further (inr h) = infix_joins operator (own ∷ opened) cur tree text behind given (level_of_open (level_of operator) own opened h) high e (rw h at past)

abbrev PastQuestion : List ℕ → Result Tree ExprFault → Closed → Type 0
PastQuestion behind given closed_at =
    (ending : ExprEnding) × IsExpr (room_in closed_at.opened) 0 behind ending × Filled (Question closed_at.tree ∷ closed_at.opened) ending given

stops_by : (tree : Tree) (left : List ℕ) → goes_on (after left) ≡ false → stops (leaves tree left) ≡ true
stops_by tree left h = ap not h

question_joins : (opened : List Opened) (cur : ℕ) (tree : Tree) (text behind : List ℕ) (given : Result Tree ExprFault) → level_in opened ≡ 0 → 1 ≤ cur →
    after text ≡ linked link.Question behind → PastQuestion behind given (record { opened = opened; tree = tree }) → Continues opened cur tree text given
question_joins opened cur tree text behind given none some e (leaves b left, is, (stop, inl (behind', ending, e', is', filled))) =
    (with_tree (Choice tree b) ending, chosen b behind left behind' none some e is e' is', filled)
question_joins opened cur tree text behind given none some e (leaves b left, is, (stop, inr (fault, u, filled))) =
    (fails fault, unended behind fault (leaves b left) none some e is (stops_by b left stop) u, filled)
question_joins opened cur tree text behind given none some e (fails fault, is, filled) = (fails fault, unended behind fault (fails fault) none some e is refl refl, filled)

question_continues : (opened : List Opened) (cur : ℕ) (tree : Tree) (text behind : List ℕ) (given : Result Tree ExprFault) → 1 ≤ cur → after text ≡ linked link.Question behind →
    PastQuestion behind given (close 1 opened tree) → Continues opened cur tree text given
question_continues [] cur tree text behind given some e past = question_joins [] cur tree text behind given refl some e past
question_continues (own ∷ opened) cur tree text behind given some e past =
    go (λ cur' tree' some' p. question_continues opened cur' tree' text behind given some' e p) (decide (ends_at 1 own))
  where
    ends : ((cur' : ℕ) (tree' : Tree) → 1 ≤ cur' → PastQuestion behind given (close 1 opened tree') → Continues opened cur' tree' text given) →
        (held : Opened) → ends_at 1 held ≡ true → PastQuestion behind given (close 1 opened (ended held tree)) → Filled (held ∷ opened) (leaves tree text) given
    ends further (Before sign_of) h p = further 11 (Unary sign_of tree) (omega arith) p
    ends further (Pending other a) h p = further (level_of other) (between other a tree) (levels other).least p
    ends further Paren h p = absurd (cc)
    ends further (Question a) h p = absurd (cc)
    ends further (Otherwise a b) h p = absurd (one_not_zero 1 (omega arith) h)

    go : ((cur' : ℕ) (tree' : Tree) → 1 ≤ cur' → PastQuestion behind given (close 1 opened tree') → Continues opened cur' tree' text given) →
        (ends_at 1 own ≡ true) ⊎ (ends_at 1 own ≡ false) → Continues (own ∷ opened) cur tree text given
    go further (inl h) = (leaves tree text, done, ends further own h (rw h at past))
    go further (inr h) = question_joins (own ∷ opened) cur tree text behind given (none_looser (own ∷ opened) (level_of_open 1 own opened h)) some e (rw h at past)

-- ── what ends every operator ──

-- what waits for more than that
abbrev Waits : List Opened → Type 0
Waits (Before operator ∷ opened) = ⊥
Waits (Pending operator a ∷ opened) = ⊥
Waits (Otherwise a b ∷ opened) = ⊥
Waits other = Unit {0}

left_waits : (opened : List Opened) (tree : Tree) → Waits (close 0 opened tree).opened
left_waits (Before operator ∷ opened) tree = left_waits opened (Unary operator tree)
left_waits (Pending operator a ∷ opened) tree = rw (zero_most (level_of operator)) (left_waits opened (between operator a tree))
left_waits (Otherwise a b ∷ opened) tree = left_waits opened (Choice a b tree)
left_waits opened tree = tt

choice_filled : (opened : List Opened) (tree : Tree) (text : List ℕ) (given : Result Tree ExprFault) → level_in opened ≡ 0 → Nests opened →
    Filled (close 0 opened tree).opened (leaves (close 0 opened tree).tree text) given → Filled opened (leaves tree text) given
choice_filled (Before operator ∷ opened) tree text given none w f = absurd (omega (arith, none))
choice_filled (Pending operator a ∷ opened) tree text given none w f = absurd (omega (arith, none))
choice_filled (Otherwise a b ∷ opened) tree text given none w f = choice_filled opened (Choice a b tree) text given w.0 w.1 f
choice_filled opened tree text given none w f = f

end_continues : (opened : List Opened) (cur : ℕ) (tree : Tree) (text : List ℕ) (given : Result Tree ExprFault) → Nests opened →
    Filled (close 0 opened tree).opened (leaves (close 0 opened tree).tree text) given → Continues opened cur tree text given
end_continues (Before operator ∷ opened) cur tree text given w f = (leaves tree text, done, end_continues opened 11 (Unary operator tree) text given w f)
end_continues (Pending operator a ∷ opened) cur tree text given w f =
    (leaves tree text, done, end_continues opened (level_of operator) (between operator a tree) text given w.1 (rw (zero_most (level_of operator)) at f))
end_continues (Otherwise a b ∷ opened) cur tree text given w f = (leaves tree text, done, choice_filled opened (Choice a b tree) text given w.0 w.1 f)
end_continues opened cur tree text given w f = (leaves tree text, done, f)

-- ── shorter texts ──

past_shorter : (text : List ℕ) → length (past_blanks text) ≤ length text
past_shorter [] = omega arith
past_shorter (b ∷ behind) = go (past_shorter behind) (decide (blank_mark (mark_of b) behind))
  where
    go : length (past_blanks behind) ≤ length behind → (blank_mark (mark_of b) behind ≡ true) ⊎ (blank_mark (mark_of b) behind ≡ false) → length (past_blanks (b ∷ behind)) ≤ length (b ∷ behind)
    go further (inl h) = rw h (omega (arith, further))
    go further (inr h) = rw h (omega arith)

first_shorter : (text : List ℕ) (b : ℕ) (behind : List ℕ) → past_blanks text ≡ b ∷ behind → length behind < length text
first_shorter text b behind e = let h = past_shorter text in let k : length (past_blanks text) ≡ suc (length behind) = ap length e in omega (arith, h, k)

drop_shorter : (n : ℕ) (text : List ℕ) → length (drop n text) ≤ length text
drop_shorter n text = let e = length-drop n text in omega (arith, e)

link_shorter : (behind rest : List ℕ) (own : Link) (found : Option (Link × ℕ)) → after_link behind found ≡ linked own rest → length rest ≤ length behind
link_shorter behind rest own None e = absurd (cc)
link_shorter behind rest own (Some found) e =
    let same : drop (found.1 - 1) behind ≡ rest = cc in
    let h = drop_shorter (found.1 - 1) behind in
    let k : length (drop (found.1 - 1) behind) ≡ length rest = ap length same in
    omega (arith, h, k)

after_shorter : (text behind : List ℕ) (own : Link) → after text ≡ linked own behind → length behind < length text
after_shorter text behind own e = go (past_blanks text) (past_shorter text) e
  where
    go : (rest : List ℕ) → length rest ≤ length text → after_blanks rest ≡ linked own behind → length behind < length text
    go [] h p = absurd (cc)
    go (b ∷ left) h p = let k = link_shorter left behind own (link_at (b ∷ left)) p in omega (arith, h, k)

-- ── what is read ──

-- what is read from a text on, whatever stands open before it
record Cuts (text : List ℕ) : Type 0 where
  operands : (opened : List Opened) → Nests opened → Started opened text (tree_reading 0 AtOperand opened text)
  operators : (opened : List Opened) (tree : Tree) → Nests opened → Continues opened 11 tree text (tree_reading 0 (AtOperator tree) opened text)

abbrev Below : List ℕ → Type 0
Below text = (other : List ℕ) → length other < length text → Cuts other

-- what is read where everything but this has ended
abbrev goes_within : List Opened → Tree → After → Result Tree ExprFault
goes_within opened tree at_end = whole opened tree
goes_within opened tree (linked link.Colon behind) = on_next (at_colon opened tree) behind
goes_within opened tree (linked link.Close behind) = on_next (at_close opened tree) behind
goes_within opened tree _ = Err Syntax

otherwise_filled : (opened : List Opened) (a b : Tree) (ending : ExprEnding) (given : Result Tree ExprFault) → Filled (Otherwise a b ∷ opened) ending given → Filled opened (with_tree (Choice a b) ending) given
otherwise_filled opened a b (leaves tree left) given f = f
otherwise_filled opened a b (fails fault) given f = f

module _ (text : List ℕ) (below : Below text) where
  whole_filled : (tree : Tree) (next : After) → goes_on next ≡ false → goes_within [] tree next ≡ whole_by tree next
  whole_filled tree (linked (link.Infix operator) behind) h = absurd (cc)
  whole_filled tree (linked link.Question behind) h = absurd (cc)
  whole_filled tree next h = refl

  paren_filled : (opened : List Opened) (tree : Tree) (next : After) → after text ≡ next → goes_on next ≡ false → Nests opened →
      PastParen (λ own rest. Continues opened 11 own rest (goes_within (Paren ∷ opened) tree next)) (closed_by tree next) (goes_within (Paren ∷ opened) tree next)
  paren_filled opened tree (linked (link.Infix operator) behind) e h w = absurd (cc)
  paren_filled opened tree (linked link.Question behind) e h w = absurd (cc)
  paren_filled opened tree (linked link.Close behind) e h w = (below behind (after_shorter text behind link.Close e)).operators opened tree w
  paren_filled opened tree next e h w = refl

  abbrev Coloned : List Opened → Tree → Tree → Result Tree ExprFault → Type 0
  Coloned opened a tree given =
      ((behind : List ℕ) × (ending : ExprEnding) × (after text ≡ linked link.Colon behind) × IsExpr (room_in opened) 0 behind ending × Filled opened (with_tree (Choice a tree) ending) given)
      ⊎ ((fault : ExprFault) × (colon_fault (after text) ≡ Some fault) × (given ≡ Err fault))

  question_filled : (opened : List Opened) (a tree : Tree) (next : After) → after text ≡ next → goes_on next ≡ false → (level_in opened ≡ 0) × Nests opened →
      Coloned opened a tree (goes_within (Question a ∷ opened) tree next)
  question_filled opened a tree (linked (link.Infix operator) behind) e h w = absurd (cc)
  question_filled opened a tree (linked link.Question behind) e h w = absurd (cc)
  question_filled opened a tree (linked link.Colon behind) e h w =
      let s = (below behind (after_shorter text behind link.Colon e)).operands (Otherwise a tree ∷ opened) w in
      inl (behind, s.0, e, s.1, otherwise_filled opened a tree s.0 (tree_reading 0 AtOperand (Otherwise a tree ∷ opened) behind) s.2)
  question_filled opened a tree next e h w = inr (Syntax, ap colon_fault e, refl)

  within_filled : (opened : List Opened) (tree : Tree) (next : After) → after text ≡ next → goes_on next ≡ false → Waits opened → Nests opened →
      Filled opened (leaves tree text) (goes_within opened tree next)
  within_filled [] tree next e h waits w = (ap goes_on e ∙ h, whole_filled tree next h ∙ ap (whole_by tree) (sym e))
  within_filled (Before operator ∷ opened) tree next e h waits w = absurd waits
  within_filled (Pending operator a ∷ opened) tree next e h waits w = absurd waits
  within_filled (Paren ∷ opened) tree next e h waits w = (
    ap goes_on e ∙ h,
    subst (λ n. PastParen (λ own rest. Continues opened 11 own rest (goes_within (Paren ∷ opened) tree next)) (closed_by tree n) (goes_within (Paren ∷ opened) tree next)) (sym e)
        (paren_filled opened tree next e h w),
  )
  within_filled (Question a ∷ opened) tree next e h waits w = (ap goes_on e ∙ h, question_filled opened a tree next e h w)
  within_filled (Otherwise a b ∷ opened) tree next e h waits w = absurd waits

  -- the same where all that ends has not ended yet
  end_reads : (opened : List Opened) (tree : Tree) (next : After) → after text ≡ next → goes_on next ≡ false → Nests opened →
      Continues opened 11 tree text (goes_within (close 0 opened tree).opened (close 0 opened tree).tree next)
  end_reads opened tree next e h w =
      end_continues opened 11 tree text (goes_within (close 0 opened tree).opened (close 0 opened tree).tree next) w
      (within_filled (close 0 opened tree).opened (close 0 opened tree).tree next e h (left_waits opened tree) (left_open 0 opened tree w).nests)

  operator_next : (opened : List Opened) (tree : Tree) → Nests opened → (next : After) → after text ≡ next → Continues opened 11 tree text (goes opened tree next)
  operator_next opened tree w at_end e = end_reads opened tree at_end e refl w
  operator_next opened tree w (linked (link.Infix operator) behind) e =
      let held = left_open (level_of operator) opened tree w in
      let most = (levels operator).most in
      let high : level_of operator ≤ 11 = omega (arith, most) in
      let at : Closed = close (level_of operator) opened tree in
      infix_continues operator opened 11 tree text behind (tree_reading 0 AtOperand (Pending operator at.tree ∷ at.opened) behind) high e
      ((below behind (after_shorter text behind (link.Infix operator) e)).operands (Pending operator at.tree ∷ at.opened) (held.holds, held.nests))
  operator_next opened tree w (linked link.Question behind) e =
      let held = left_open 1 opened tree w in
      let at : Closed = close 1 opened tree in
      question_continues opened 11 tree text behind (tree_reading 0 AtOperand (Question at.tree ∷ at.opened) behind) (omega arith) e
      ((below behind (after_shorter text behind link.Question e)).operands (Question at.tree ∷ at.opened) (none_looser at.opened held.holds, held.nests))
  operator_next opened tree w (linked link.Colon behind) e = end_reads opened tree (linked link.Colon behind) e refl w
  operator_next opened tree w (linked link.Close behind) e = end_reads opened tree (linked link.Close behind) e refl w
  operator_next opened tree w nothing e = end_reads opened tree nothing e refl w

  operator_cut : (opened : List Opened) (tree : Tree) → Nests opened → Continues opened 11 tree text (tree_reading 0 (AtOperator tree) opened text)
  operator_cut opened tree w = subst (λ given. Continues opened 11 tree text given) (sym (reading_goes opened tree text)) (operator_next opened tree w (after text) refl)

  -- an operand, and what comes behind it
  starts_past : (opened : List Opened) (own : ExprEnding) (given : Result Tree ExprFault) → IsExpr (room_in opened) 11 text own →
      PastParen (λ tree left. Continues opened 11 tree left given) own given → Started opened text given
  starts_past opened (leaves tree left) given is (ending, tail, filled) = (ending, tail_read (room_in opened) (level_in opened) text tail (level_most opened) is, filled)
  starts_past opened (fails fault) given is e = (fails fault, lower (room_in opened) 11 (level_in opened) text (fails fault) (level_most opened) is, e)

  started_as : (opened : List Opened) (given other : Result Tree ExprFault) → given ≡ other → Started opened text other → Started opened text given
  started_as opened given other e s = subst (λ r. Started opened text r) (sym e) s

  operand_past : (opened : List Opened) (behind : List ℕ) (found : Result (Tree × ℕ) ExprFault) → length behind < length text → Nests opened →
      PastParen (λ tree left. Continues opened 11 tree left (on_move (moved opened found) (λ further place left. tree_reading further place left behind))) (operand_ending behind found)
      (on_move (moved opened found) (λ further place left. tree_reading further place left behind))
  operand_past opened behind (Ok found) short w =
      let h = drop_shorter found.1 behind in
      subst (λ given. Continues opened 11 found.0 (drop found.1 behind) given) (sym (reading_skip found.1 (AtOperator found.0) opened behind))
      ((below (drop found.1 behind) (omega (arith, h, short))).operators opened found.0 w)
  operand_past opened behind (Err fault) short w = refl

  sign_past : (opened : List Opened) (operator : UnaryOperator) (ending : ExprEnding) (given : Result Tree ExprFault) → Filled (Before operator ∷ opened) ending given →
      PastParen (λ tree left. Continues opened 11 tree left given) (with_tree (Unary operator) ending) given
  sign_past opened operator (leaves tree left) given f = f
  sign_past opened operator (fails fault) given f = f

  paren_past : (opened : List Opened) (inner : ExprEnding) (given : Result Tree ExprFault) → Filled (Paren ∷ opened) inner given →
      PastParen (λ tree left. Continues opened 11 tree left given) (closed inner) given
  paren_past opened (leaves tree left) given f = f.1
  paren_past opened (fails fault) given f = f

  inner_stops : (opened : List Opened) (inner : ExprEnding) (given : Result Tree ExprFault) → Filled (Paren ∷ opened) inner given → stops inner ≡ true
  inner_stops opened (leaves tree left) given f = stops_by tree left f.0
  inner_stops opened (fails fault) given f = refl

  paren_cut : (opened : List Opened) (b : ℕ) (behind : List ℕ) → Nests opened → past_blanks text ≡ b ∷ behind → first_of (mark_of b) ≡ paren →
      (nat_lt (parens opened) 200 ≡ true) ⊎ (nat_lt (parens opened) 200 ≡ false) → Started opened text (tree_reading 0 AtOperand opened text)
  paren_cut opened b behind w e f (inl some) =
      let s = (below behind (first_shorter text b behind e)).operands (Paren ∷ opened) w in
      let room : suc (room_in (Paren ∷ opened)) ≡ room_in opened = one_less opened some in
      started_as opened (tree_reading 0 AtOperand opened text) (tree_reading 0 AtOperand (Paren ∷ opened) behind)
      (first_byte opened text b behind (move 0 AtOperand (Paren ∷ opened)) e (paren_moves opened (b ∷ behind) behind (mark_of b) f ∙ opens opened some))
      (starts_past opened (closed s.0) (tree_reading 0 AtOperand (Paren ∷ opened) behind)
      (subst (λ n. IsExpr n 11 text (closed s.0)) room (in_parens b behind e f s.1 (inner_stops opened s.0 (tree_reading 0 AtOperand (Paren ∷ opened) behind) s.2)))
      (paren_past opened s.0 (tree_reading 0 AtOperand (Paren ∷ opened) behind) s.2))
    where
      one_less : (o : List Opened) → nat_lt (parens o) 200 ≡ true → suc (room_in (Paren ∷ o)) ≡ room_in o
      one_less o h = let k : parens o < 200 = grind (arith, nat_tests) in omega (arith, k)

      opens : (o : List Opened) → nat_lt (parens o) 200 ≡ true → at_paren o ≡ move 0 AtOperand (Paren ∷ o)
      opens o h = rw h refl
  paren_cut opened b behind w e f (inr none) =
      let room : 0 ≡ room_in opened = no_more opened none in
      started_as opened (tree_reading 0 AtOperand opened text) (Err too_long)
      (first_byte opened text b behind (Err too_long) e (paren_moves opened (b ∷ behind) behind (mark_of b) f ∙ fails_to opened none))
      (starts_past opened (fails too_long) (Err too_long) (subst (λ n. IsExpr n 11 text (fails too_long)) room (deep b behind e f)) refl)
    where
      no_more : (o : List Opened) → nat_lt (parens o) 200 ≡ false → 0 ≡ room_in o
      no_more o h = let k : 200 ≤ parens o = grind (arith, nat_tests) in omega (arith, k)

      fails_to : (o : List Opened) → nat_lt (parens o) 200 ≡ false → at_paren o ≡ Err too_long
      fails_to o h = rw h refl

  first_cut : (opened : List Opened) (b : ℕ) (behind : List ℕ) → Nests opened → past_blanks text ≡ b ∷ behind → (first : First) → first_of (mark_of b) ≡ first →
      Started opened text (tree_reading 0 AtOperand opened text)
  first_cut opened b behind w e operand f =
      let small : room_in opened ≤ 200 = omega arith in
      let found : Result (Tree × ℕ) ExprFault = operand_of (room_in opened) (mark_of b) (b ∷ behind) behind in
      started_as opened (tree_reading 0 AtOperand opened text) (on_move (moved opened found) (λ further place left. tree_reading further place left behind))
      (first_byte opened text b behind (moved opened found) e (operand_moves opened (b ∷ behind) behind (mark_of b) f (not_blank text b behind e)))
      (starts_past opened (operand_ending behind found) (on_move (moved opened found) (λ further place left. tree_reading further place left behind)) (operand_read b behind e f (operand_is (room_in opened) small b behind))
      (operand_past opened behind found (first_shorter text b behind e) w))
  first_cut opened b behind w e (sign operator) f =
      let s = (below behind (first_shorter text b behind e)).operands (Before operator ∷ opened) w in
      started_as opened (tree_reading 0 AtOperand opened text) (tree_reading 0 AtOperand (Before operator ∷ opened) behind)
      (first_byte opened text b behind (move 0 AtOperand (Before operator ∷ opened)) e (sign_moves opened (b ∷ behind) behind operator (mark_of b) f))
      (starts_past opened (with_tree (Unary operator) s.0) (tree_reading 0 AtOperand (Before operator ∷ opened) behind) (signed b behind operator e f s.1)
      (sign_past opened operator s.0 (tree_reading 0 AtOperand (Before operator ∷ opened) behind) s.2))
  first_cut opened b behind w e paren f = paren_cut opened b behind w e f (decide (nat_lt (parens opened) 200))

  operand_cut_by : (opened : List Opened) → Nests opened → (rest : List ℕ) → past_blanks text ≡ rest → Started opened text (tree_reading 0 AtOperand opened text)
  operand_cut_by opened w [] e = (fails Syntax, lower (room_in opened) 11 (level_in opened) text (fails Syntax) (level_most opened) (lacks e), lacks_read opened text e)
  operand_cut_by opened w (b ∷ behind) e = first_cut opened b behind w e (first_of (mark_of b)) refl

  operand_cut : (opened : List Opened) → Nests opened → Started opened text (tree_reading 0 AtOperand opened text)
  operand_cut opened w = operand_cut_by opened w (past_blanks text) refl

cuts : (n : ℕ) (text : List ℕ) → length text ≤ n → Cuts text
cuts zero text h = let below : Below text = λ other l. absurd (omega (arith, h, l)) in record { operands = operand_cut text below; operators = operator_cut text below }
cuts (suc n) text h = let below : Below text = λ other l. cuts n other (omega (arith, h, l)) in record { operands = operand_cut text below; operators = operator_cut text below }

gives : (text : List ℕ) (given : Result Tree ExprFault) → Started [] text given → IsWholeExpr text given
gives text given (leaves tree left, is, (stop, e)) = (leaves tree left, is, stops_by tree left stop, sym e)
gives text given (fails fault, is, e) = (fails fault, is, refl, sym e)

pub whole_cut : (text : List ℕ) → IsWholeExpr text (tree_reading 0 AtOperand [] text)
whole_cut text = gives text (tree_reading 0 AtOperand [] text) ((cuts (length text) text (omega arith)).operands [] tt)
