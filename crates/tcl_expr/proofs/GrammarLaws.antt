-- The tree or the fault of a text is that of the grammar.
use Rattle.std.proofs.Common.{◌≡◌, ◌≤◌, ◌<◌, ◌⊎◌, inl, inr, ℕ, ◌↔◌, true, false, List, length, Result, Ok, Err, IsOk, IfOk, IfErr, refl, sym, ap, subst, ◌∙◌, arith}
use Rattle.std.proofs.lemmas.Bool.{cases_lt}
use Rattle.std.specs.Str.{IsUtf8, is_utf8}
use Rattle.std.proofs.lemmas.Str.{is_utf8-from_IsUtf8, IsUtf8-from_is_utf8}
use Rattle.tcl_expr.specs.declared.fault.ExprFault.{ExprFault}
use Rattle.tcl_expr.specs.Faults.{too_long, no_memory}
use Rattle.tcl_expr.specs.Trees.{Tree}
use Rattle.tcl_expr.specs.Reading.{tree_of}
use Rattle.tcl_expr.specs.Standing.{IsFaultOrMemory}
use Rattle.tcl_text.specs.One.{One}
use Rattle.tcl_words.specs.Grammar.{IsText}
use Rattle.tcl_expr.specs.Grammar.{IsWholeExpr, IsTreeOf, IsExprFault, IsExprParse, IsExpression, OneTreeOrFault}
use Rattle.tcl_expr.specs.Grammar.IsExprFault.{no_text, faulty_text}
use Rattle.tcl_expr.proofs.ReadLemmas.{tree_of-long, tree_of-not_utf8, tree_of-read}
use Rattle.tcl_expr.proofs.GrammarRead.{decide, whole_read}
use Rattle.tcl_expr.proofs.GrammarCut.{whole_cut}

-- a text, or none of an expression
abbrev TextOrNone : List ℕ → Type 0
TextOrNone text = IsText text ⊎ ((tree_of text ≡ Err too_long) × (¬ IsText text))

text_by : (text : List ℕ) → length text ≤ 65536 → (is_utf8 text ≡ true) ⊎ (is_utf8 text ≡ false) → TextOrNone text
text_by text short (inl u) = inl (short, IsUtf8-from_is_utf8 text u)
text_by text short (inr u) =
    let none : ¬ IsUtf8 text = λ k. let t : is_utf8 text ≡ true = is_utf8-from_IsUtf8 text k in cc in
    inr (tree_of-not_utf8 text short none, λ t. none t.1)

length_by : (text : List ℕ) → (65536 < length text) ⊎ (length text ≤ 65536) → TextOrNone text
length_by text (inl long) = inr (tree_of-long text long, λ t. let h = t.0 in omega (arith, h, long))
length_by text (inr short) = text_by text short (decide (is_utf8 text))

text_or_none : (text : List ℕ) → TextOrNone text
text_or_none text = length_by text (cases_lt 65536 (length text))

gives_read : (text : List ℕ) (given : Result Tree ExprFault) → IsText text → IsWholeExpr text given → tree_of text ≡ given
gives_read text given (short, utf8) (ending, is, stop, e) = tree_of-read text short utf8 ∙ whole_read text ending is stop ∙ e

read_gives : (text : List ℕ) (given : Result Tree ExprFault) → IsText text → tree_of text ≡ given → IsWholeExpr text given
read_gives text given (short, utf8) e = subst (λ r. IsWholeExpr text r) (sym (tree_of-read text short utf8) ∙ e) (whole_cut text)

same_tree : (read : Result Tree ExprFault) (tree other : Tree) → read ≡ Ok tree → read ≡ Ok other → tree ≡ other
same_tree read tree other e f = cc

same_fault : (read : Result Tree ExprFault) (fault other : ExprFault) → read ≡ Err fault → read ≡ Err other → fault ≡ other
same_fault read fault other e f = cc

not_both : (read : Result Tree ExprFault) (tree : Tree) (fault : ExprFault) → read ≡ Ok tree → read ≡ Err fault → ⊥
not_both read tree fault e f = cc

tree_read : (text : List ℕ) (tree : Tree) → IsTreeOf text tree → tree_of text ≡ Ok tree
tree_read text tree t = gives_read text (Ok tree) t.is_text t.cut

tree_cut : (text : List ℕ) (tree : Tree) → TextOrNone text → tree_of text ≡ Ok tree → IsTreeOf text tree
tree_cut text tree (inl t) e = record { is_text = t; cut = read_gives text (Ok tree) t e }
tree_cut text tree (inr (none, h)) e = absurd (not_both (tree_of text) tree too_long e none)

fault_read : (text : List ℕ) (fault : ExprFault) → TextOrNone text → IsExprFault text fault → tree_of text ≡ Err fault
fault_read text fault (inl t) (faulty_text is g) = gives_read text (Err fault) is g
fault_read text fault (inl t) (no_text none) = absurd (none t)
fault_read text fault (inr (r, h)) (faulty_text is g) = absurd (h is)
fault_read text fault (inr (r, h)) (no_text none) = r

fault_cut : (text : List ℕ) (fault : ExprFault) → TextOrNone text → tree_of text ≡ Err fault → IsExprFault text fault
fault_cut text fault (inl t) e = faulty_text t (read_gives text (Err fault) t e)
fault_cut text fault (inr (none, h)) e = subst (IsExprFault text) (same_fault (tree_of text) too_long fault none e) (no_text h)

pub trees : (text : List ℕ) (tree : Tree) → IsTreeOf text tree ↔ (tree_of text ≡ Ok tree)
trees text tree = (tree_read text tree, tree_cut text tree (text_or_none text))

pub faults : (text : List ℕ) (fault : ExprFault) → IsExprFault text fault ↔ (tree_of text ≡ Err fault)
faults text fault = (fault_read text fault (text_or_none text), fault_cut text fault (text_or_none text))

expression_by : (text : List ℕ) (read : Result Tree ExprFault) → tree_of text ≡ read → IsOk read → IsExpression text
expression_by text (Ok tree) e ok = (tree, tree_cut text tree (text_or_none text) e)
expression_by text (Err fault) e ok = absurd (cc)

pub expression_read : (text : List ℕ) → IsOk (tree_of text) → IsExpression text
expression_read text ok = expression_by text (tree_of text) refl ok

pub fault_told : (text : List ℕ) (fault : ExprFault) → IsFaultOrMemory (tree_of text) fault → IsExprFault text fault ⊎ (fault ≡ no_memory)
fault_told text fault (inl e) = inl (fault_cut text fault (text_or_none text) e)
fault_told text fault (inr e) = inr e

pub one_tree_or_fault : OneTreeOrFault
one_tree_or_fault = record {
  one_tree = λ text tree other t u. same_tree (tree_of text) tree other (tree_read text tree t) (tree_read text other u);
  one_fault = λ text fault other f g. same_fault (tree_of text) fault other (fault_read text fault (text_or_none text) f) (fault_read text other (text_or_none text) g);
  never_both = λ text tree fault t f. not_both (tree_of text) tree fault (tree_read text tree t) (fault_read text fault (text_or_none text) f);
}

-- ── each text has one parse ──

read_is_parse : (text : List ℕ) (read : Result Tree ExprFault) → tree_of text ≡ read → IsExprParse text read
read_is_parse text (Ok tree) e = tree_cut text tree (text_or_none text) e
read_is_parse text (Err fault) e = fault_cut text fault (text_or_none text) e

-- what the grammar relates to a text is read
pub expr_parse_is_read : (text : List ℕ) (parse : Result Tree ExprFault) → IsExprParse text parse → parse ≡ tree_of text
expr_parse_is_read text (Ok tree) is = sym (tree_read text tree is)
expr_parse_is_read text (Err fault) is = sym (fault_read text fault (text_or_none text) is)

pub one_expr_parse : (text : List ℕ) → One (IsExprParse text)
one_expr_parse text = record { it = tree_of text; holds = read_is_parse text (tree_of text) refl; only = λ other is. expr_parse_is_read text other is }

-- ── what is answered of a text ──

abbrev IsRead : List ℕ → Result (List ℕ) ExprFault → Type 0
IsRead text answer = IfOk answer (λ _. IsOk (tree_of text)) × IfErr answer (λ fault. IsFaultOrMemory (tree_of text) fault)

pub tree_answered : (text : List ℕ) (answer : Result (List ℕ) ExprFault) → IsRead text answer → (tree : Tree) → IsTreeOf text tree → IfErr answer (λ fault. fault ≡ no_memory)
tree_answered text (Ok expr) read tree is = tt
tree_answered text (Err fault) (ok, inl e) tree is = absurd (not_both (tree_of text) tree fault (tree_read text tree is) e)
tree_answered text (Err fault) (ok, inr e) tree is = e

not_ok : (read : Result Tree ExprFault) (fault : ExprFault) → read ≡ Err fault → IsOk read → ⊥
not_ok (Ok tree) fault e ok = cc
not_ok (Err other) fault e ok = cc

pub fault_answered : (text : List ℕ) (answer : Result (List ℕ) ExprFault) → IsRead text answer → (fault : ExprFault) → IsExprFault text fault → (answer ≡ Err fault) ⊎ (answer ≡ Err no_memory)
fault_answered text (Ok expr) (ok, err) fault is = absurd (not_ok (tree_of text) fault (fault_read text fault (text_or_none text) is) ok)
fault_answered text (Err told) (ok, inl e) fault is = inl (ap Err (same_fault (tree_of text) told fault e (fault_read text fault (text_or_none text) is)))
fault_answered text (Err told) (ok, inr e) fault is = inr (ap Err e)

-- the tree of an expression is read
pub tree_walked : (text : List ℕ) (tree : Tree) → IsTreeOf text tree → tree_of text ≡ Ok tree
tree_walked = tree_read
