-- Lemmas on what is due of a text with substitution.
use Rattle.std.proofs.Common.{◌≡◌, ℕ, zero, suc, ◌+◌, ◌-◌, ◌<◌, List, [], ◌∷◌, ◌++◌, Result, Ok, Err, refl, sym, ap, subst, ◌∙◌, append_assoc, arith, ◌⊎◌, inl, inr}
use Rattle.std.proofs.lemmas.List.{append-nil}
use Rattle.tcl_words.specs.Reading.{index_pieces_of}
use Rattle.tcl_words.specs.declared.script.Piece.{Piece}
use Rattle.tcl_words.specs.declared.script.Piece.TheVariants as piece
use Rattle.tcl_expr.specs.declared.fault.ExprFault.{ExprFault}
use Rattle.tcl_expr.specs.Faults.{no_memory}
use Rattle.tcl_expr.specs.declared.step.Step.{Step}
use Rattle.tcl_expr.specs.declared.step.Step.TheVariants as step
use Rattle.tcl_expr.specs.declared.substitution.Due.{Due}
use Rattle.tcl_expr.specs.Trees.{Tree, Joined}
use Rattle.tcl_expr.specs.Steps.{steps_of}
use Rattle.tcl_expr.specs.Substitution.{on_tree, joined_trees, element_tree, index_tree_by, piece_tree, text_tree, Writes}
use Rattle.tcl_expr.specs.Dues.{with_steps, written_before, tree_steps, piece_steps, others_steps, text_steps, due_steps, steps_before, dues_steps, GoesOn, due_weight, dues_weight, piece_weight, text_weight, index_weight_by}

pub joins : (a b : List Step) (r : Result (List Step) ExprFault) → with_steps a (with_steps b r) ≡ with_steps (a ++ b) r
joins a b (Ok more) = ap Ok (sym (append_assoc a b more))
joins a b (Err fault) = refl

-- one more on the stack comes first
pub last_first : (dues : List Due) (own : Due) (others : Result (List Step) ExprFault) → steps_before (dues ++ own ∷ []) others ≡ written_before (due_steps own) (steps_before dues others)
last_first [] own others = refl
last_first (first ∷ dues) own others = last_first dues own (written_before (due_steps first) others)

pub last_weighs : (dues : List Due) (own : Due) → dues_weight (dues ++ own ∷ []) ≡ due_weight own + dues_weight dues
last_weighs [] own = refl
last_weighs (first ∷ dues) own = omega (arith, last_weighs dues own)

-- the steps of a tree that pieces are joined to
next_joined : (room : ℕ) (pieces : List Piece) (tree : Tree) → ((t : Tree) → tree_steps (joined_trees (piece_tree room) t pieces) ≡ with_steps (steps_of t) (others_steps room pieces)) → (next : Result Tree ExprFault) →
    tree_steps (on_tree next (λ x. joined_trees (piece_tree room) (Joined tree x) pieces)) ≡ with_steps (steps_of tree) (written_before (tree_steps next) (with_steps (step.Join ∷ []) (others_steps room pieces)))
next_joined room pieces tree all (Ok next) =
    all (Joined tree next)
    ∙ sym (joins (steps_of tree) (steps_of next ++ step.Join ∷ []) (others_steps room pieces))
    ∙ ap (with_steps (steps_of tree)) (sym (joins (steps_of next) (step.Join ∷ []) (others_steps room pieces)))
next_joined room pieces tree all (Err fault) = refl

others_joined : (room : ℕ) (pieces : List Piece) (tree : Tree) → tree_steps (joined_trees (piece_tree room) tree pieces) ≡ with_steps (steps_of tree) (others_steps room pieces)
others_joined room [] tree = ap Ok (sym (append-nil (steps_of tree)))
others_joined room (own ∷ pieces) tree = next_joined room pieces tree (others_joined room pieces) (piece_tree room own)

first_joined : (room : ℕ) (pieces : List Piece) (first : Result Tree ExprFault) → tree_steps (on_tree first (λ x. joined_trees (piece_tree room) x pieces)) ≡ written_before (tree_steps first) (others_steps room pieces)
first_joined room pieces (Ok tree) = others_joined room pieces tree
first_joined room pieces (Err fault) = refl

-- the steps of a text's tree are those of its pieces
pub text_is_pieces : (room : ℕ) (pieces : List Piece) → tree_steps (text_tree room pieces) ≡ text_steps room pieces
text_is_pieces room [] = refl
text_is_pieces room (own ∷ pieces) = first_joined room pieces (piece_tree room own)

element_of : (array : List ℕ) (index : Result Tree ExprFault) → tree_steps (element_tree array index) ≡ written_before (tree_steps index) (Ok (step.Element array ∷ []))
element_of array (Ok tree) = refl
element_of array (Err fault) = refl

-- the steps of an element are those of its index, and its own
pub element_is_index : (room : ℕ) (array index : List ℕ) (pieces : List Piece) → 0 < room → index_pieces_of index ≡ Ok pieces → piece_steps room (piece.Element array index) ≡ written_before (text_steps (room - 1) pieces) (Ok (step.Element array ∷ []))
element_is_index zero array index pieces some e = absurd (omega (arith, some))
element_is_index (suc room) array index pieces some e =
    let k : suc room - 1 ≡ room = omega arith in
    ap (λ r. tree_steps (element_tree array (index_tree_by (piece_tree room) r))) e
    ∙ element_of array (text_tree room pieces)
    ∙ ap (λ r. written_before r (Ok (step.Element array ∷ []))) (text_is_pieces room pieces)
    ∙ ap (λ n. written_before (text_steps n pieces) (Ok (step.Element array ∷ []))) (sym k)

pub before_joins : (a : Result (List Step) ExprFault) (b r : Result (List Step) ExprFault) → written_before (written_before a b) r ≡ written_before a (written_before b r)
before_joins (Ok a) (Ok b) r = sym (joins a b r)
before_joins (Ok a) (Err fault) r = refl
before_joins (Err fault) b r = refl

-- ── what the functions do ──

-- the first piece of a text, and the others, are on the stack
pub text_goes : (steps : List Step) (room : ℕ) (own : Piece) (others : List Piece) (dues new : List Due) (first second : Due) → new ≡ (dues ++ second ∷ []) ++ first ∷ [] → due_steps first ≡ piece_steps room own →
    due_steps second ≡ others_steps room others → with_steps steps (written_before (text_steps room (own ∷ others)) (dues_steps dues)) ≡ with_steps steps (dues_steps new)
text_goes steps room own others dues new first second e is_first is_second = ap (with_steps steps) (
    before_joins (piece_steps room own) (others_steps room others) (dues_steps dues)
    ∙ ap (λ x. written_before x (written_before (others_steps room others) (dues_steps dues))) (sym is_first)
    ∙ ap (λ x. written_before (due_steps first) (written_before x (dues_steps dues))) (sym is_second)
    ∙ sym (ap dues_steps e ∙ last_first (dues ++ second ∷ []) first (Ok []) ∙ ap (written_before (due_steps first)) (last_first dues second (Ok []))))

pub two_weigh : (dues new : List Due) (first second : Due) → new ≡ (dues ++ second ∷ []) ++ first ∷ [] → dues_weight new ≡ due_weight first + (due_weight second + dues_weight dues)
two_weigh dues new first second e = ap dues_weight e ∙ last_weighs (dues ++ second ∷ []) first ∙ ap (λ n. due_weight first + n) (last_weighs dues second)

-- a step is written
pub one_goes : (old new : List Step) (one : Step) (left : Result (List Step) ExprFault) → new ≡ old ++ one ∷ [] → with_steps old (written_before (Ok (one ∷ [])) left) ≡ with_steps new left
one_goes old new one left e = joins old (one ∷ []) left ∙ ap (λ s. with_steps s left) (sym e)

-- the index of an element is begun
pub element_goes : (old : List Step) (result : Result (Unit {0}) ExprFault) (new : List Step) (left : Result (List Step) ExprFault) (room : ℕ) (array index : List ℕ) (pieces : List Piece) (dues mid : List Due) (own : Due) → 0 < room →
    index_pieces_of index ≡ Ok pieces → mid ≡ dues ++ own ∷ [] → due_steps own ≡ Ok (step.Element array ∷ []) → GoesOn old (written_before (text_steps (room - 1) pieces) (dues_steps mid)) result new left →
    GoesOn old (written_before (piece_steps room (piece.Element array index)) (dues_steps dues)) result new left
element_goes old result new left room array index pieces dues mid own some e is_mid is_own goes =
    let same : written_before (text_steps (room - 1) pieces) (dues_steps mid) ≡ written_before (piece_steps room (piece.Element array index)) (dues_steps dues) =
    ap (λ x. written_before (text_steps (room - 1) pieces) (dues_steps x)) is_mid
    ∙ ap (written_before (text_steps (room - 1) pieces)) (last_first dues own (Ok []) ∙ ap (λ x. written_before x (dues_steps dues)) is_own)
    ∙ sym (before_joins (text_steps (room - 1) pieces) (Ok (step.Element array ∷ [])) (dues_steps dues))
    ∙ ap (λ x. written_before x (dues_steps dues)) (sym (element_is_index room array index pieces some e)) in
    subst (λ x. GoesOn old x result new left) same goes

pub element_weighs : (room : ℕ) (array index : List ℕ) (pieces : List Piece) → 0 < room → index_pieces_of index ≡ Ok pieces → piece_weight room (piece.Element array index) ≡ 2 + text_weight (room - 1) pieces
element_weighs zero array index pieces some e = absurd (omega (arith, some))
element_weighs (suc room) array index pieces some e =
    let k : suc room - 1 ≡ room = omega arith in
    ap (λ r. 2 + index_weight_by (piece_weight room) r) e ∙ ap (λ n. 2 + text_weight n pieces) (sym k)

-- a further piece of a text
pub other_goes : (steps : List Step) (room : ℕ) (own : Piece) (others : List Piece) (dues new : List Due) (first second third : Due) → new ≡ ((dues ++ third ∷ []) ++ second ∷ []) ++ first ∷ [] → due_steps first ≡ piece_steps room own →
    due_steps second ≡ Ok (step.Join ∷ []) → due_steps third ≡ others_steps room others → with_steps steps (written_before (others_steps room (own ∷ others)) (dues_steps dues)) ≡ with_steps steps (dues_steps new)
other_goes steps room own others dues new first second third e is_first is_second is_third = ap (with_steps steps) (
    before_joins (piece_steps room own) (with_steps (step.Join ∷ []) (others_steps room others)) (dues_steps dues)
    ∙ ap (written_before (piece_steps room own)) (before_joins (Ok (step.Join ∷ [])) (others_steps room others) (dues_steps dues))
    ∙ ap (λ x. written_before x (written_before (Ok (step.Join ∷ [])) (written_before (others_steps room others) (dues_steps dues)))) (sym is_first)
    ∙ ap (λ x. written_before (due_steps first) (written_before x (written_before (others_steps room others) (dues_steps dues)))) (sym is_second)
    ∙ ap (λ x. written_before (due_steps first) (written_before (due_steps second) (written_before x (dues_steps dues)))) (sym is_third)
    ∙ sym (ap dues_steps e ∙ last_first ((dues ++ third ∷ []) ++ second ∷ []) first (Ok []) ∙ ap (written_before (due_steps first)) (last_first (dues ++ third ∷ []) second (Ok []) ∙ ap (written_before (due_steps second)) (last_first dues third (Ok [])))))

-- the topmost is done, and then what is below it
pub next_due : (old steps : List Step) (expected : Result (List Step) ExprFault) (own : Due) (dues all : List Due) (new : List Step) (left : List Due) → all ≡ dues ++ own ∷ [] →
    with_steps old expected ≡ with_steps steps (dues_steps all) → GoesOn steps (written_before (due_steps own) (dues_steps dues)) (Ok tt) new (dues_steps left) → with_steps old expected ≡ with_steps new (dues_steps left)
next_due old steps expected own dues all new left e so_far goes = so_far ∙ ap (with_steps steps) (ap dues_steps e ∙ last_first dues own (Ok [])) ∙ goes

fault_of : (old : List Step) (expected : Result (List Step) ExprFault) (fault : ExprFault) → with_steps old expected ≡ Err fault → expected ≡ Err fault
fault_of old (Ok steps) fault e = absurd (let h : Ok (old ++ steps) ≡ Err fault = e in cc)
fault_of old (Err own) fault e = e

tree_fails : (old : List Step) (tree : Result Tree ExprFault) (fault : ExprFault) → with_steps old (tree_steps tree) ≡ Err fault → tree ≡ Err fault
tree_fails old (Ok tree) fault e = absurd (let h : Ok (old ++ steps_of tree) ≡ Err fault = e in cc)
tree_fails old (Err own) fault e = let h : Err own ≡ Err fault = e in cc

pub due_fails : (old steps : List Step) (expected : Result (List Step) ExprFault) (own : Due) (dues all : List Due) (fault : ExprFault) (new : List Step) (left : Result (List Step) ExprFault) → all ≡ dues ++ own ∷ [] →
    with_steps old expected ≡ with_steps steps (dues_steps all) → GoesOn steps (written_before (due_steps own) (dues_steps dues)) (Err fault) new left → (expected ≡ Err fault) ⊎ (fault ≡ no_memory)
due_fails old steps expected own dues all fault new left e so_far (inl h) = inl (fault_of old expected fault (so_far ∙ ap (with_steps steps) (ap dues_steps e ∙ last_first dues own (Ok []) ∙ h)))
due_fails old steps expected own dues all fault new left e so_far (inr h) = inr h

-- all that is due is written
pub all_written : (old new : List Step) (tree : Result Tree ExprFault) (result : Result (Unit {0}) ExprFault) (steps : List Step) (expected : Result (List Step) ExprFault) → with_steps old (tree_steps tree) ≡ with_steps steps expected →
    GoesOn steps expected result new (Ok []) → Writes old result new tree
all_written old new (Ok tree) (Ok done) steps expected e goes =
    let h : Ok (old ++ steps_of tree) ≡ Ok (new ++ []) = e ∙ goes in
    let k : old ++ steps_of tree ≡ new ++ [] = cc in
    (tree, refl, sym (append-nil new) ∙ sym k)
all_written old new (Err own) (Ok done) steps expected e goes = absurd (let h : Err own ≡ Ok (new ++ []) = e ∙ goes in cc)
all_written old new tree (Err fault) steps expected e (inl h) = inl (tree_fails old tree fault (e ∙ ap (with_steps steps) h))
all_written old new tree (Err fault) steps expected e (inr h) = inr h

pub three_weigh : (dues new : List Due) (first second third : Due) → new ≡ ((dues ++ third ∷ []) ++ second ∷ []) ++ first ∷ [] → dues_weight new ≡ due_weight first + (due_weight second + (due_weight third + dues_weight dues))
three_weigh dues new first second third e = two_weigh (dues ++ third ∷ []) new first second e ∙ ap (λ n. due_weight first + (due_weight second + n)) (last_weighs dues third)

before_none : (r : Result (List Step) ExprFault) → written_before r (Ok []) ≡ r
before_none (Ok steps) = ap Ok (append-nil steps)
before_none (Err fault) = refl

-- a text of these pieces is begun where nothing was due
pub text_begun : (room : ℕ) (pieces : List Piece) (dues : List Due) → dues ≡ [] → written_before (text_steps room pieces) (dues_steps dues) ≡ tree_steps (text_tree room pieces)
text_begun room pieces dues none = ap (λ l. written_before (text_steps room pieces) (dues_steps l)) none ∙ before_none (text_steps room pieces) ∙ sym (text_is_pieces room pieces)

steps_fail : (tree : Result Tree ExprFault) (fault : ExprFault) → tree_steps tree ≡ Err fault → tree ≡ Err fault
steps_fail (Ok tree) fault e = absurd (let h : Ok (steps_of tree) ≡ Err fault = e in cc)
steps_fail (Err own) fault e = let h : Err own ≡ Err fault = e in cc

pub begun_fails : (room : ℕ) (pieces : List Piece) (dues : List Due) (fault : ExprFault) → dues ≡ [] → (written_before (text_steps room pieces) (dues_steps dues) ≡ Err fault) ⊎ (fault ≡ no_memory) → (text_tree room pieces ≡ Err fault) ⊎ (fault ≡ no_memory)
begun_fails room pieces dues fault none (inl e) = inl (steps_fail (text_tree room pieces) fault (sym (text_begun room pieces dues none) ∙ e))
begun_fails room pieces dues fault none (inr e) = inr e
