-- Steps. How the code stands where it has read some of an expression, and what it makes of what comes next.
use Rattle.std.specs.Prelude.{◌≡◌, ◌≢◌, ◌⊎◌, ℕ, Bool, true, false, List, [], ◌∷◌, ◌++◌, Option, Some, None, Result, Ok, Err}
use Rattle.tcl_expr.specs.declared.fault.ExprFault.{ExprFault}
use Rattle.tcl_expr.specs.declared.fault.ExprFault.TheVariants.{Syntax}
use Rattle.tcl_expr.specs.Faults.{no_memory}
use Rattle.tcl_expr.specs.declared.step.Step.{Step}
use Rattle.tcl_expr.specs.declared.open.Open.{Open}
use Rattle.tcl_expr.specs.declared.open.Open.TheVariants as open_form
use Rattle.tcl_expr.specs.declared.tokens.Link.{Link}
use Rattle.tcl_expr.specs.declared.parser.Parser.{Parser}
use Rattle.tcl_expr.specs.Trees.{Tree}
use Rattle.tcl_expr.specs.Steps.{steps_of}
use Rattle.tcl_expr.specs.Reading.{Opened, OperandPlace, AtOperand, AtOperator, parens, Next, ReadingMove, link_next, link_move, operand_move, operator_move, whole, tree_at_end}
use Rattle.tcl_expr.specs.Tokens.{mark_of}
use Rattle.tcl_expr.specs.Parsing.{Holds, all_kept}

abbrev pub PopsQuestion : List Open → Option ℕ → List Open → Type 0
PopsQuestion old (Some mark) new = old ≡ new ++ open_form.Question mark ∷ []
PopsQuestion old None new = (below : List Open) (mark : ℕ) → old ≢ below ++ open_form.Question mark ∷ []

abbrev pub PopsParen : List Open → Bool → List Open → Type 0
PopsParen old true new = old ≡ new ++ open_form.Paren ∷ []
PopsParen old false new = (below : List Open) → old ≢ below ++ open_form.Paren ∷ []

-- the steps of a tree that stands before
abbrev pub own_steps : OperandPlace → List Step
own_steps AtOperand = []
own_steps (AtOperator tree) = steps_of tree

abbrev pub is_due : OperandPlace → Bool
is_due AtOperand = true
is_due (AtOperator tree) = false

pub record Stands (parser : Parser) (place : OperandPlace) (opened : List Opened) : Type 0 where
  pub holds : Holds parser.opened.items parser.steps.items opened (own_steps place)
  pub counted : parser.parens ≡ parens opened
  pub due : parser.is_due ≡ is_due place

abbrev pub StandsNext : Parser → Result Next ExprFault → Type 0
StandsNext parser (Ok next) = Stands parser next.place next.opened
StandsNext parser (Err fault) = ⊥

-- from wherever the code stands behind an operand, it goes where this operator leads
abbrev pub Links : Link → Parser → Result (Unit {0}) ExprFault → Parser → Type 0
Links link old (Ok done) new = (before : List Opened) (tree : Tree) → Stands old (AtOperator tree) before → StandsNext new (link_next before tree link)
Links link old (Err fault) new =
    (fault ≡ no_memory) ⊎ ((before : List Opened) (tree : Tree) → Stands old (AtOperator tree) before → link_next before tree link ≡ Err fault)

-- the code goes where a move leads, and says how many further bytes it takes
abbrev pub FollowsMove : Parser → ℕ → Result ReadingMove ExprFault → Type 0
FollowsMove parser skip (Ok move) = (skip ≡ move.skip) × Stands parser move.place move.opened
FollowsMove parser skip (Err fault) = ⊥

-- from wherever the code stands at such a place
abbrev pub Takes : Parser → Result ℕ ExprFault → Parser → (List Opened → Result ReadingMove ExprFault) → Type 0
Takes old (Ok skip) new expected = (before : List Opened) → Stands old AtOperand before → FollowsMove new skip (expected before)
Takes old (Err fault) new expected = (fault ≡ no_memory) ⊎ ((before : List Opened) → Stands old AtOperand before → expected before ≡ Err fault)

-- an operand of these steps
pub record HasOperand (old new : Parser) (own : List Step) : Type 0 where
  pub steps : new.steps.items ≡ old.steps.items ++ own
  pub opened : new.opened.items ≡ old.opened.items
  pub parens_are : new.parens ≡ old.parens
  pub due : new.is_due ≡ false

-- what the bytes in front are where an operand is due, and behind one
abbrev pub operand_at : List ℕ → List Opened → Result ReadingMove ExprFault
operand_at [] before = Err Syntax
operand_at (b ∷ behind) before = operand_move (mark_of b) before (b ∷ behind) behind

abbrev pub operator_at : List ℕ → List Opened → Tree → Result ReadingMove ExprFault
operator_at [] before tree = Err Syntax
operator_at (b ∷ behind) before tree = operator_move (mark_of b) before tree (b ∷ behind) behind

abbrev pub move_at : List ℕ → OperandPlace → List Opened → Result ReadingMove ExprFault
move_at text AtOperand before = operand_at text before
move_at text (AtOperator tree) before = operator_at text before tree

abbrev pub TakesLink : Parser → Result ℕ ExprFault → Parser → List ℕ → Type 0
TakesLink old (Ok skip) new text =
    (before : List Opened) (tree : Tree) → Stands old (AtOperator tree) before → FollowsMove new skip (operator_at text before tree)
TakesLink old (Err fault) new text =
    (fault ≡ no_memory) ⊎ ((before : List Opened) (tree : Tree) → Stands old (AtOperator tree) before → operator_at text before tree ≡ Err fault)

abbrev pub TakesFound : Parser → Result ℕ ExprFault → Parser → Option (Link × ℕ) → Type 0
TakesFound old (Ok skip) new found =
    (before : List Opened) (tree : Tree) → Stands old (AtOperator tree) before → FollowsMove new skip (link_move before tree found)
TakesFound old (Err fault) new found =
    (fault ≡ no_memory) ⊎ ((before : List Opened) (tree : Tree) → Stands old (AtOperator tree) before → link_move before tree found ≡ Err fault)

abbrev pub TakesToken : Parser → Result ℕ ExprFault → Parser → List ℕ → Type 0
TakesToken old (Ok skip) new text = (place : OperandPlace) (before : List Opened) → Stands old place before → FollowsMove new skip (move_at text place before)
TakesToken old (Err fault) new text =
    (fault ≡ no_memory) ⊎ ((place : OperandPlace) (before : List Opened) → Stands old place before → move_at text place before ≡ Err fault)

-- the end of the text: its steps are those of the tree
abbrev pub IsWhole : Result Tree ExprFault → List Step → Type 0
IsWhole (Ok tree) steps = steps ≡ steps_of tree
IsWhole (Err fault) steps = ⊥

abbrev pub Finishes : Parser → List Step → Type 0
Finishes parser steps = (place : OperandPlace) (before : List Opened) → Stands parser place before → IsWhole (tree_at_end place before) steps

abbrev pub FailsAtEnd : Parser → ExprFault → Type 0
FailsAtEnd parser fault =
    (fault ≡ no_memory) ⊎ ((place : OperandPlace) (before : List Opened) → Stands parser place before → tree_at_end place before ≡ Err fault)

-- a fault, or else the tree
abbrev pub end_answer : Option ExprFault → Tree → Result Tree ExprFault
end_answer None tree = Ok tree
end_answer (Some fault) tree = Err fault

-- what is kept last where a text ends
abbrev pub EndsOpen : List Open → Option ExprFault → Type 0
EndsOpen opened answer = (before : List Opened) (tree : Tree) → opened ≡ all_kept before → whole before tree ≡ end_answer answer tree

-- the fault, or want of memory
abbrev pub IsFaultOrMemory : Result Tree ExprFault → ExprFault → Type 0
IsFaultOrMemory read fault = (read ≡ Err fault) ⊎ (fault ≡ no_memory)
