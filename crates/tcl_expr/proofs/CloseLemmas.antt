-- Lemmas on what the code does where something that stood open ends.
use Rattle.std.proofs.Common.{◌≡◌, inl, inr, ℕ, suc, ◌+◌, ◌-◌, ◌≢◌, Bool, true, false, List, [], ◌∷◌, ◌++◌, length, set, Ok, Err, refl, sym, ap, subst, ◌∙◌, arith, append_assoc, length-append}
use Rattle.tcl_expr.specs.declared.operators.Infix.{Infix}
use Rattle.tcl_expr.specs.declared.operators.Infix.TheVariants as infixed
use Rattle.tcl_expr.specs.declared.step.Step.{Step}
use Rattle.tcl_expr.specs.declared.step.Step.TheVariants as step
use Rattle.tcl_expr.specs.declared.open.Open.{Open}
use Rattle.tcl_expr.specs.declared.open.Open.TheVariants as open_form
use Rattle.tcl_expr.specs.Trees.{Tree}
use Rattle.tcl_expr.specs.Steps.{steps_of}
use Rattle.tcl_expr.specs.Reading.{Opened, Before, After, Paren, Question, Otherwise, ended, ends_at, Closed, close, at_colon, at_close}
use Rattle.tcl_expr.specs.declared.fault.ExprFault.TheVariants.{Syntax}
use Rattle.tcl_expr.specs.Parsing.{is_ended_at, infix_hole, infix_written, own_written, opened_written, kept, all_kept, chosen_steps, open_ended, EndsLast, Holds, Closes}

pub append_nil : (xs : List Step) → xs ++ [] ≡ xs
append_nil [] = refl
append_nil (x ∷ xs) = ap (λ s. x ∷ s) (append_nil xs)

set_at : (p s : List Step) (x y : Step) → set (p ++ x ∷ s) (length p) y ≡ p ++ y ∷ s
set_at [] s x y = refl
set_at (z ∷ p) s x y = ap (λ l. z ∷ l) (set_at p s x y)

gathered : (p q s : List Step) (x : Step) → (p ++ (q ++ x ∷ [])) ++ s ≡ (p ++ q) ++ x ∷ s
gathered p q s x = append_assoc p (q ++ x ∷ []) s ∙ ap (λ l. p ++ l) (append_assoc q (x ∷ []) s) ∙ sym (append_assoc p q (x ∷ s))

-- a step is written over one behind p and q
patched : (p q s t : List Step) (x y : Step) → set ((p ++ (q ++ x ∷ [])) ++ s) (length p + length q) y ++ t ≡ p ++ (q ++ y ∷ (s ++ t))
patched p q s t x y =
    ap (λ l. set l (length p + length q) y ++ t) (gathered p q s x)
    ∙ ap (λ n. set ((p ++ q) ++ x ∷ s) n y ++ t) (sym (length-append p q))
    ∙ ap (λ l. l ++ t) (set_at (p ++ q) s x y)
    ∙ append_assoc (p ++ q) (y ∷ s) t
    ∙ append_assoc p q (y ∷ (s ++ t))

-- how many steps stand from such a step on
counted : (p q s : List Step) (x : Step) → length ((p ++ (q ++ x ∷ [])) ++ s) - (length p + length q) ≡ suc (length s)
counted p q s x = ap (λ l. length l - (length p + length q)) (gathered p q s x) ∙ omega (arith, length-append (p ++ q) (x ∷ s), length-append p q)

counted_less : (p q s : List Step) (x : Step) → length ((p ++ (q ++ x ∷ [])) ++ s) - (length p + length q) - 1 ≡ length s
counted_less p q s x = let e = counted p q s x in omega (arith, e)

-- what stood open, with what stands behind it, is one tree
ended_steps : (level : ℕ) (own : Opened) (w : List Step) (tree : Tree) → ends_at level own ≡ true →
    open_ended (kept own (length w)) ((w ++ own_written own) ++ steps_of tree) ≡ w ++ steps_of (ended own tree)
ended_steps level (Before operator) w tree h =
    ap (λ l. (l ++ steps_of tree) ++ step.Unary operator ∷ []) (append_nil w) ∙ append_assoc w (steps_of tree) (step.Unary operator ∷ [])
ended_steps level (After infixed.And a) w tree h =
    patched w (steps_of a) (steps_of tree) (step.Truth ∷ []) (step.And 0) _
    ∙ ap (λ n. w ++ (steps_of a ++ step.And n ∷ (steps_of tree ++ step.Truth ∷ []))) (counted w (steps_of a) (steps_of tree) (step.And 0))
ended_steps level (After infixed.Or a) w tree h =
    patched w (steps_of a) (steps_of tree) (step.Truth ∷ []) (step.Or 0) _
    ∙ ap (λ n. w ++ (steps_of a ++ step.Or n ∷ (steps_of tree ++ step.Truth ∷ []))) (counted w (steps_of a) (steps_of tree) (step.Or 0))
ended_steps level (After (infixed.Binary operator) a) w tree h =
    append_assoc (w ++ steps_of a) (steps_of tree) (step.Binary operator ∷ []) ∙ append_assoc w (steps_of a) (steps_of tree ++ step.Binary operator ∷ [])
ended_steps level Paren w tree h = absurd (cc)
ended_steps level (Question a) w tree h = absurd (cc)
ended_steps level (Otherwise a b) w tree h =
    sym (append_nil _)
    ∙ patched w (chosen_steps a b) (steps_of tree) [] (step.Jump 0) _
    ∙ ap (λ n. w ++ (chosen_steps a b ++ step.Jump n ∷ (steps_of tree ++ []))) (counted_less w (chosen_steps a b) (steps_of tree) (step.Jump 0))
    ∙ ap (λ l. w ++ (chosen_steps a b ++ step.Jump (length (steps_of tree)) ∷ l)) (append_nil (steps_of tree))
    ∙ ap (λ l. w ++ l) (append_assoc (steps_of a) (step.Branch (suc (length (steps_of b))) ∷ steps_of b) (step.Jump (length (steps_of tree)) ∷ steps_of tree))

kept_ends : (level n : ℕ) (own : Opened) → is_ended_at level (kept own n) ≡ ends_at level own
kept_ends level n (Before operator) = refl
kept_ends level n (After operator a) = refl
kept_ends level n Paren = refl
kept_ends level n (Question a) = refl
kept_ends level n (Otherwise a b) = refl

no_end : (xs : List Open) (x : Open) → [] ≡ xs ++ x ∷ [] → ⊥
no_end [] x e = cc
no_end (y ∷ xs) x e = cc

pub same_last : (xs ys : List Open) (x y : Open) → xs ++ x ∷ [] ≡ ys ++ y ∷ [] → (xs ≡ ys) × (x ≡ y)
same_last [] [] x y e = (refl, cc)
same_last [] (z ∷ ys) x y e = let t : [] ≡ ys ++ y ∷ [] = cc in absurd (no_end ys y t)
same_last (z ∷ xs) [] x y e = let t : [] ≡ xs ++ x ∷ [] = cc in absurd (no_end xs x t)
same_last (z ∷ xs) (v ∷ ys) x y e =
    let t : xs ++ x ∷ [] ≡ ys ++ y ∷ [] = cc in
    let h : z ≡ v = cc in
    let s = same_last xs ys x y t in (cc, s.1)

-- the last that ends, and the rest
pub go_on_closing : (level : ℕ) (opened opened' : List Open) (steps steps' : List Step) → EndsLast level opened steps (Ok true) opened' steps' →
    (before : List Opened) (tree : Tree) → Holds opened steps before (steps_of tree) →
    (rest : List Opened) × (tree' : Tree) × Holds opened' steps' rest (steps_of tree') × (close level rest tree' ≡ close level before tree)
go_on_closing level opened opened' steps steps' (last, e, ends, s) [] tree h = absurd (no_end opened' last (sym h.marks ∙ e))
go_on_closing level opened opened' steps steps' (last, e, ends, s) (own ∷ rest) tree h =
    let same = same_last (all_kept rest) opened' (kept own (length (opened_written rest))) last (sym h.marks ∙ e) in
    let here : ends_at level own ≡ true = sym (kept_ends level (length (opened_written rest)) own) ∙ ap (is_ended_at level) same.1 ∙ ends in (
      rest,
      ended own tree,
      record {
        marks = sym same.0;
        steps_are = s ∙ ap (λ l. open_ended l steps) (sym same.1) ∙ ap (open_ended (kept own (length (opened_written rest)))) h.steps_are ∙ ended_steps level own (opened_written rest) tree here;
      },
      rw here refl,
    )

-- nothing more ends
pub done_closing : (level : ℕ) (opened opened' : List Open) (steps steps' : List Step) → EndsLast level opened steps (Ok false) opened' steps' →
    (before : List Opened) (tree : Tree) → Holds opened steps before (steps_of tree) →
    Holds opened' steps' (close level before tree).opened (steps_of (close level before tree).tree)
done_closing level opened opened' steps steps' (o, s, any) [] tree h = record { marks = o ∙ h.marks; steps_are = s ∙ h.steps_are }
done_closing level opened opened' steps steps' (o, s, inl none) (own ∷ rest) tree h = absurd (no_end (all_kept rest) _ (sym none ∙ h.marks))
done_closing level opened opened' steps steps' (o, s, inr (below, last, e, ends)) (own ∷ rest) tree h =
    let same = same_last (all_kept rest) below (kept own (length (opened_written rest))) last (sym h.marks ∙ e) in
    let here : ends_at level own ≡ false = sym (kept_ends level (length (opened_written rest)) own) ∙ ap (is_ended_at level) same.1 ∙ ends in
    rw here (record { marks = o ∙ h.marks; steps_are = s ∙ h.steps_are })

-- what is left to close gives what is to be closed
abbrev pub StillCloses : ℕ → List Open → List Step → List Open → List Step → Type 0
StillCloses level opened steps opened' steps' =
    (before : List Opened) (tree : Tree) → Holds opened steps before (steps_of tree) →
    (rest : List Opened) × (tree' : Tree) × Holds opened' steps' rest (steps_of tree') × (close level rest tree' ≡ close level before tree)

pub closes_on : (level : ℕ) (first opened opened' : List Open) (start steps steps' : List Step) (more : Bool) → more ≡ true →
    EndsLast level opened steps (Ok more) opened' steps' → StillCloses level first start opened steps → StillCloses level first start opened' steps'
closes_on level first opened opened' start steps steps' false m e still before tree h = absurd (cc)
closes_on level first opened opened' start steps steps' true m e still before tree h =
    let i = still before tree h in
    let n = go_on_closing level opened opened' steps steps' e i.0 i.1 i.2 in (n.0, n.1, n.2, n.3 ∙ i.3)

pub closes_all : (level : ℕ) (first opened opened' : List Open) (start steps steps' : List Step) (more : Bool) → more ≡ false →
    EndsLast level opened steps (Ok more) opened' steps' → StillCloses level first start opened steps → Closes level first start opened' steps'
closes_all level first opened opened' start steps steps' true m e still before tree h = absurd (cc)
closes_all level first opened opened' start steps steps' false m e still before tree h =
    let i = still before tree h in
    let d = done_closing level opened opened' steps steps' e i.0 i.1 i.2 in
    subst (λ (closed : Closed). Holds opened' steps' closed.opened (steps_of closed.tree)) i.3 d

-- ── what opens ──

pub infix_opens : (opened : List Open) (steps : List Step) (before : List Opened) (tree : Tree) (operator : Infix) → Holds opened steps before (steps_of tree) →
    Holds (opened ++ open_form.After operator (length steps) ∷ []) (steps ++ infix_hole operator) (After operator tree ∷ before) []
infix_opens opened steps before tree operator h =
    record {
      marks = ap (λ l. l ++ open_form.After operator (length steps) ∷ []) h.marks
          ∙ ap (λ n. all_kept before ++ open_form.After operator n ∷ []) (ap length h.steps_are ∙ length-append (opened_written before) (steps_of tree));
      steps_are = ap (λ l. l ++ infix_hole operator) h.steps_are ∙ infix_put operator ∙ sym (append_nil _);
    }
  where
    infix_put : (o : Infix) → (opened_written before ++ steps_of tree) ++ infix_hole o ≡ opened_written before ++ infix_written o tree
    infix_put infixed.And = append_assoc (opened_written before) (steps_of tree) (step.And 0 ∷ [])
    infix_put infixed.Or = append_assoc (opened_written before) (steps_of tree) (step.Or 0 ∷ [])
    infix_put (infixed.Binary o) = append_nil _

pub question_opens : (opened : List Open) (steps : List Step) (before : List Opened) (tree : Tree) → Holds opened steps before (steps_of tree) →
    Holds (opened ++ open_form.Question (length steps) ∷ []) (steps ++ step.Branch 0 ∷ []) (Question tree ∷ before) []
question_opens opened steps before tree h =
    record {
      marks = ap (λ l. l ++ open_form.Question (length steps) ∷ []) h.marks
          ∙ ap (λ n. all_kept before ++ open_form.Question n ∷ []) (ap length h.steps_are ∙ length-append (opened_written before) (steps_of tree));
      steps_are = ap (λ l. l ++ step.Branch 0 ∷ []) h.steps_are ∙ append_assoc (opened_written before) (steps_of tree) (step.Branch 0 ∷ []) ∙ sym (append_nil _);
    }

-- what stands last in what is kept is of its own kind
not_question : (own : Opened) (n mark : ℕ) → kept own n ≡ open_form.Question mark → (a : Tree) × (own ≡ Question a) × (n + length (steps_of a) ≡ mark)
not_question (Before operator) n mark e = absurd (cc)
not_question (After operator a) n mark e = absurd (cc)
not_question Paren n mark e = absurd (cc)
not_question (Question a) n mark e = (a, refl, cc)
not_question (Otherwise a b) n mark e = absurd (cc)

chosen_length : (w : List Step) (a b : Tree) → length ((w ++ (steps_of a ++ step.Branch 0 ∷ [])) ++ steps_of b) ≡ length w + length (chosen_steps a b)
chosen_length w a b =
    ap length (gathered w (steps_of a) (steps_of b) (step.Branch 0))
    ∙ omega (arith, length-append (w ++ steps_of a) (step.Branch 0 ∷ steps_of b), length-append w (steps_of a), length-append (steps_of a) (step.Branch (suc (length (steps_of b))) ∷ steps_of b))

pub colon_opens : (opened opened' : List Open) (steps : List Step) (before : List Opened) (tree : Tree) (mark : ℕ) → Holds opened steps before (steps_of tree) →
    opened ≡ opened' ++ open_form.Question mark ∷ [] →
    (a : Tree) × (rest : List Opened) × (before ≡ Question a ∷ rest)
    × Holds (opened' ++ open_form.Otherwise (length steps) ∷ []) (set steps mark (step.Branch (length steps - mark)) ++ step.Jump 0 ∷ []) (Otherwise a tree ∷ rest) []
colon_opens opened opened' steps [] tree mark h e = absurd (no_end opened' _ (sym h.marks ∙ e))
colon_opens opened opened' steps (own ∷ rest) tree mark h e =
    let same = same_last (all_kept rest) opened' (kept own (length (opened_written rest))) (open_form.Question mark) (sym h.marks ∙ e) in
    let q = not_question own (length (opened_written rest)) mark same.1 in
    let s : steps ≡ (opened_written rest ++ (steps_of q.0 ++ step.Branch 0 ∷ [])) ++ steps_of tree = h.steps_are ∙ ap (λ o. (opened_written rest ++ own_written o) ++ steps_of tree) q.1 in (
      q.0,
      rest,
      ap (λ o. o ∷ rest) q.1,
      record {
        marks = ap (λ l. l ++ open_form.Otherwise (length steps) ∷ []) (sym same.0)
            ∙ ap (λ n. all_kept rest ++ open_form.Otherwise n ∷ []) (ap length s ∙ chosen_length (opened_written rest) q.0 tree);
        steps_are =
            ap (λ l. set l mark (step.Branch (length l - mark)) ++ step.Jump 0 ∷ []) s
            ∙ ap (λ m. set ((opened_written rest ++ (steps_of q.0 ++ step.Branch 0 ∷ [])) ++ steps_of tree) m (step.Branch (length ((opened_written rest ++ (steps_of q.0 ++ step.Branch 0 ∷ [])) ++ steps_of tree) - m)) ++ step.Jump 0 ∷ []) (sym q.2)
            ∙ patched (opened_written rest) (steps_of q.0) (steps_of tree) (step.Jump 0 ∷ []) (step.Branch 0) _
            ∙ ap (λ n. opened_written rest ++ (steps_of q.0 ++ step.Branch n ∷ (steps_of tree ++ step.Jump 0 ∷ []))) (counted (opened_written rest) (steps_of q.0) (steps_of tree) (step.Branch 0))
            ∙ ap (λ l. opened_written rest ++ l) (sym (append_assoc (steps_of q.0) (step.Branch (suc (length (steps_of tree))) ∷ steps_of tree) (step.Jump 0 ∷ [])))
            ∙ sym (append_nil _);
      },
    )

pub colon_fault : (opened : List Open) (steps own : List Step) (before : List Opened) (tree : Tree) → Holds opened steps before own →
    ((below : List Open) (mark : ℕ) → opened ≢ below ++ open_form.Question mark ∷ []) → at_colon before tree ≡ Err Syntax
colon_fault opened steps own [] tree h none = refl
colon_fault opened steps own (Before operator ∷ rest) tree h none = refl
colon_fault opened steps own (After operator a ∷ rest) tree h none = refl
colon_fault opened steps own (Paren ∷ rest) tree h none = refl
colon_fault opened steps own (Question a ∷ rest) tree h none = absurd (none _ _ h.marks)
colon_fault opened steps own (Otherwise a b ∷ rest) tree h none = refl

not_paren : (own : Opened) (n : ℕ) → kept own n ≡ open_form.Paren → own ≡ Paren
not_paren (Before operator) n e = absurd (cc)
not_paren (After operator a) n e = absurd (cc)
not_paren Paren n e = refl
not_paren (Question a) n e = absurd (cc)
not_paren (Otherwise a b) n e = absurd (cc)

pub paren_ends : (opened opened' : List Open) (steps own : List Step) (before : List Opened) → Holds opened steps before own → opened ≡ opened' ++ open_form.Paren ∷ [] →
    (rest : List Opened) × (before ≡ Paren ∷ rest) × Holds opened' steps rest own
paren_ends opened opened' steps own [] h e = absurd (no_end opened' _ (sym h.marks ∙ e))
paren_ends opened opened' steps own (first ∷ rest) h e =
    let same = same_last (all_kept rest) opened' (kept first (length (opened_written rest))) open_form.Paren (sym h.marks ∙ e) in
    let p = not_paren first (length (opened_written rest)) same.1 in (
      rest,
      ap (λ o. o ∷ rest) p,
      record { marks = sym same.0; steps_are = h.steps_are ∙ ap (λ o. (opened_written rest ++ own_written o) ++ own) p ∙ ap (λ l. l ++ own) (append_nil (opened_written rest)) },
    )

pub paren_fault : (opened : List Open) (steps own : List Step) (before : List Opened) (tree : Tree) → Holds opened steps before own →
    ((below : List Open) → opened ≢ below ++ open_form.Paren ∷ []) → at_close before tree ≡ Err Syntax
paren_fault opened steps own [] tree h none = refl
paren_fault opened steps own (Before operator ∷ rest) tree h none = refl
paren_fault opened steps own (After operator a ∷ rest) tree h none = refl
paren_fault opened steps own (Paren ∷ rest) tree h none = absurd (none _ h.marks)
paren_fault opened steps own (Question a ∷ rest) tree h none = refl
paren_fault opened steps own (Otherwise a b ∷ rest) tree h none = refl
