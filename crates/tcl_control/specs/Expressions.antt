-- Meaning. What an expression is that a command was given, and what its value says where a test is wanted.
use Rattle.std.specs.Prelude.{ℕ, Bool, List, Option, Some, None, Result, Ok, Err}
use Rattle.tcl_text.specs.One.{One}
use Rattle.tcl_text.specs.Readings.{boolean_of}
use Rattle.tcl_expr.specs.declared.fault.ExprFault.{ExprFault}
use Rattle.tcl_expr.specs.Grammar.{IsExprParse}
use Rattle.tcl_expr.specs.Messages.{parse_message}
use Rattle.tcl_expr.proofs.GrammarLaws.{one_expr_parse}
use Rattle.tcl_expr.specs.Trees.{Tree}
use Rattle.tcl_text.specs.FaultTexts.{boolean_text}
use Rattle.tcl_text.specs.Messages.{message}

-- the tree of an expression, or the text of its fault
abbrev pub tree_or_text : List ℕ → Result Tree ExprFault → Result Tree (List ℕ)
tree_or_text text (Ok tree) = Ok tree
tree_or_text text (Err fault) = Err (parse_message text fault)

-- The grammar of expressions relates one thing to each text, a tree or a fault, and no other. This type says what it is; the proof behind it says that it is
-- there.
abbrev pub only_expr_parse : (text : List ℕ) → One (IsExprParse text)
only_expr_parse text = one_expr_parse text

-- What a text is as an expression: its tree, or the text of its fault, of the one thing that the grammar relates to it.
unfoldable pub expression_of : List ℕ → Result Tree (List ℕ)
expression_of text = tree_or_text text (only_expr_parse text).it

-- ── tests ──

-- a value as a boolean, or the error's text
abbrev pub truth_or_text : List ℕ → Option Bool → Result Bool (List ℕ)
truth_or_text value (Some truth) = Ok truth
truth_or_text value None = Err (message (boolean_text value))

abbrev pub truth_of_text : List ℕ → Result Bool (List ℕ)
truth_of_text value = truth_or_text value (boolean_of value)
