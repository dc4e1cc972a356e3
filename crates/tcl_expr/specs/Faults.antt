-- Meaning. Why an expression has no value, and how an answer that may want memory stands to what it should be.
use Rattle.std.specs.Prelude.{◌≡◌, ◌⊎◌, ℕ, Option, Some, None, Result, Ok, Err}
use Rattle.tcl_text.specs.declared.fault.SplitFault.{SplitFault}
use Rattle.tcl_text.specs.declared.fault.SplitFault.TheVariants.{BadList as SplitBadList, NoMemory as SplitNoMemory}
use Rattle.tcl_text.specs.declared.fault.TextFault.{TextFault}
use Rattle.tcl_text.specs.declared.fault.TextFault.TheVariants.{TooLong as TextTooLong, NoMemory as TextNoMemory}
use Rattle.tcl_expr.specs.declared.fault.ExprFault.{ExprFault}
use Rattle.tcl_expr.specs.declared.fault.ExprFault.TheVariants as parse
use Rattle.tcl_text.specs.Faults.{parse_number}
use Rattle.tcl_text.specs.declared.fault.ParseFault.TheVariants as script
use Rattle.tcl_expr.specs.declared.fault.EvalFault.{EvalFault}
use Rattle.tcl_expr.specs.declared.fault.EvalFault.TheVariants.{NotBoolean, BadList, TooLong, DivideByZero, Overflow, NotNumber, NoMemory}

abbrev pub split_fault : SplitFault → EvalFault
split_fault (SplitBadList fault) = BadList fault
split_fault SplitNoMemory = NoMemory

abbrev pub text_fault : TextFault → EvalFault
text_fault TextTooLong = TooLong
text_fault TextNoMemory = NoMemory

-- Faults of a text that is no expression which a script can have too.
abbrev pub too_long : ExprFault
too_long = parse.Script script.TooLong

abbrev pub missing_brace : ExprFault
missing_brace = parse.Script script.MissingBrace

abbrev pub missing_paren : ExprFault
missing_paren = parse.Script script.MissingParen

abbrev pub no_memory : ExprFault
no_memory = parse.Script script.NoMemory

-- the number of why a text is no expression
abbrev pub expr_number : ExprFault → Option ℕ
expr_number (parse.Script fault) = parse_number fault
expr_number parse.Syntax = Some 11

-- the number of why it has no value
abbrev pub eval_number : EvalFault → Option ℕ
eval_number (NotBoolean text) = Some 2
eval_number (BadList fault) = Some 3
eval_number TooLong = Some 4
eval_number DivideByZero = Some 12
eval_number Overflow = Some 13
eval_number (NotNumber operator) = Some 14
eval_number NoMemory = None

-- the answer is what it should be, unless memory was refused
abbrev pub IsEvaluatedAs : {T : Type 0} → Result T EvalFault → Result T EvalFault → Type 0
IsEvaluatedAs (Ok value) expected = expected ≡ Ok value
IsEvaluatedAs (Err fault) expected = (expected ≡ Err fault) ⊎ (fault ≡ NoMemory)
