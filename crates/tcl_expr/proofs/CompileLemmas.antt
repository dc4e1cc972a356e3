-- The steps of a tree come to its value.
use Rattle.std.proofs.Common.{◌≡◌, ℕ, suc, Bool, true, false, ℤ, List, [], ◌∷◌, ◌++◌, length, Option, Some, None, Result, Ok, Err, refl, sym, ap, ◌∙◌, append_assoc, if◌then◌else◌, drop, IsOk}
use Rattle.tcl_text.specs.Readings.{integer_of}
use Rattle.tcl_expr.specs.declared.fault.ExprFault.{ExprFault}
use Rattle.tcl_expr.specs.declared.value.Value.{Value}
use Rattle.tcl_expr.specs.declared.step.Step.{Step}
use Rattle.tcl_expr.specs.declared.step.Step.TheVariants as step
use Rattle.tcl_expr.specs.Values.{truth_value}
use Rattle.tcl_expr.specs.Run.{Run, on_result, on_truth, value, evaluation}
use Rattle.tcl_expr.specs.Trees.{Tree, Integer, Plain, Variable, Element, Command, Joined, Unary, Binary, And, Or, Choice, literal}
use Rattle.tcl_expr.specs.Steps.{execute, literal_step, steps_of}
use Rattle.tcl_expr.specs.Reading.{compiled_by}
use Rattle.tcl_expr.specs.Resuming.{steps_in}

-- steps that are all left out
execute_past : (xs ys : List Step) (stack : List Value) → execute (length xs) (xs ++ ys) stack ≡ execute 0 ys stack
execute_past [] ys stack = refl
execute_past (x ∷ xs) ys stack = execute_past xs ys stack

execute_past_one : (xs : List Step) (x : Step) (ys : List Step) (stack : List Value) → execute (suc (length xs)) (xs ++ x ∷ ys) stack ≡ execute 0 ys stack
execute_past_one [] x ys stack = refl
execute_past_one (y ∷ xs) x ys stack = execute_past_one xs x ys stack

literal_is : (spelling : List ℕ) (read : Option ℤ) (rest : List Step) (stack : List Value) →
    execute 0 (literal_step spelling read ∷ rest) stack ≡ on_result (literal spelling read) (λ v. execute 0 rest (v ∷ stack))
literal_is spelling (Some n) rest stack = refl
literal_is spelling None rest stack = refl

-- both ways that a truth can lead
choose : {a b c d : Run} → a ≡ b → c ≡ d → (truth : Bool) → (if truth then a else c) ≡ (if truth then b else d)
choose p q true = p
choose p q false = q

pub execute_tree : (tree : Tree) (rest : List Step) (stack : List Value) → execute 0 (steps_of tree ++ rest) stack ≡ value tree (λ v. execute 0 rest (v ∷ stack))
execute_tree (Integer spelling) rest stack = literal_is spelling (integer_of spelling) rest stack
execute_tree (Plain text) rest stack = refl
execute_tree (Variable name) rest stack = refl
execute_tree (Element array index) rest stack =
    ap (λ s. execute 0 s stack) (append_assoc (steps_of index) (step.Element array ∷ []) rest) ∙ execute_tree index (step.Element array ∷ rest) stack
execute_tree (Command script) rest stack = refl
execute_tree (Joined a b) rest stack =
    ap (λ s. execute 0 s stack) (append_assoc (steps_of a) (steps_of b ++ step.Join ∷ []) rest ∙ ap (λ s. steps_of a ++ s) (append_assoc (steps_of b) (step.Join ∷ []) rest))
    ∙ execute_tree a (steps_of b ++ step.Join ∷ rest) stack
    ∙ (λ i. value a (λ x. execute_tree b (step.Join ∷ rest) (x ∷ stack) i))
execute_tree (Unary operator a) rest stack =
    ap (λ s. execute 0 s stack) (append_assoc (steps_of a) (step.Unary operator ∷ []) rest) ∙ execute_tree a (step.Unary operator ∷ rest) stack
execute_tree (Binary operator a b) rest stack =
    ap (λ s. execute 0 s stack) (append_assoc (steps_of a) (steps_of b ++ step.Binary operator ∷ []) rest ∙ ap (λ s. steps_of a ++ s) (append_assoc (steps_of b) (step.Binary operator ∷ []) rest))
    ∙ execute_tree a (steps_of b ++ step.Binary operator ∷ rest) stack
    ∙ (λ i. value a (λ x. execute_tree b (step.Binary operator ∷ rest) (x ∷ stack) i))
execute_tree (And a b) rest stack =
    let n = suc (length (steps_of b)) in
    ap (λ s. execute 0 s stack) (append_assoc (steps_of a) (step.And n ∷ (steps_of b ++ step.Truth ∷ [])) rest ∙ ap (λ s. steps_of a ++ step.And n ∷ s) (append_assoc (steps_of b) (step.Truth ∷ []) rest))
    ∙ execute_tree a (step.And n ∷ (steps_of b ++ step.Truth ∷ rest)) stack
    ∙ (λ i. value a (λ x. on_truth x (λ truth. choose (execute_tree b (step.Truth ∷ rest) stack) (execute_past_one (steps_of b) step.Truth rest (truth_value false ∷ stack)) truth i)))
execute_tree (Or a b) rest stack =
    let n = suc (length (steps_of b)) in
    ap (λ s. execute 0 s stack) (append_assoc (steps_of a) (step.Or n ∷ (steps_of b ++ step.Truth ∷ [])) rest ∙ ap (λ s. steps_of a ++ step.Or n ∷ s) (append_assoc (steps_of b) (step.Truth ∷ []) rest))
    ∙ execute_tree a (step.Or n ∷ (steps_of b ++ step.Truth ∷ rest)) stack
    ∙ (λ i. value a (λ x. on_truth x (λ truth. choose (execute_past_one (steps_of b) step.Truth rest (truth_value true ∷ stack)) (execute_tree b (step.Truth ∷ rest) stack) truth i)))
execute_tree (Choice a b c) rest stack =
    let n = suc (length (steps_of b)) in
    let m = length (steps_of c) in
    ap (λ s. execute 0 s stack) (append_assoc (steps_of a) (step.Branch n ∷ (steps_of b ++ step.Jump m ∷ steps_of c)) rest ∙ ap (λ s. steps_of a ++ step.Branch n ∷ s) (append_assoc (steps_of b) (step.Jump m ∷ steps_of c) rest))
    ∙ execute_tree a (step.Branch n ∷ (steps_of b ++ step.Jump m ∷ (steps_of c ++ rest))) stack
    ∙ (λ i. value a (λ x. on_truth x (λ truth. choose
    (execute_tree b (step.Jump m ∷ (steps_of c ++ rest)) stack ∙ (λ j. value b (λ v. execute_past (steps_of c) rest (v ∷ stack) j)))
    (execute_past_one (steps_of b) (step.Jump m) (steps_of c ++ rest) stack ∙ execute_tree c rest stack)
    truth i)))

append_nil : (xs : List Step) → xs ++ [] ≡ xs
append_nil [] = refl
append_nil (x ∷ xs) = ap (λ s. x ∷ s) (append_nil xs)

pub execute_whole : (tree : Tree) → execute 0 (steps_of tree) [] ≡ evaluation tree
execute_whole tree = ap (λ s. execute 0 s []) (sym (append_nil (steps_of tree))) ∙ execute_tree tree [] []

-- the steps of an expression come to the value of its tree
pub whole_of : (read : Result Tree ExprFault) (tree : Tree) → read ≡ Ok tree → execute 0 (drop 0 (steps_in (compiled_by read))) [] ≡ evaluation tree
whole_of (Ok own) tree e = let same : own ≡ tree = cc in execute_whole own ∙ ap evaluation same
whole_of (Err fault) tree e = absurd (cc)

-- where there are steps, there is a tree
pub tree_there : (read : Result Tree ExprFault) (steps : List Step) → compiled_by read ≡ Ok steps → IsOk read
tree_there (Ok tree) steps e = refl
tree_there (Err fault) steps e = absurd (cc)
