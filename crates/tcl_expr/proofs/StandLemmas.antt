-- Lemmas on how the code stands where it has read some of an expression.
use Rattle.std.proofs.Common.{◌≡◌, ℕ, zero, suc, ◌-◌, ◌≤◌, ◌<◌, min, ◌⊎◌, inl, inr, Bool, true, false, nat_le, ◌==◌, List, [], ◌∷◌, ◌++◌, length, set, drop, Result, Ok, Err, refl, sym, ap, subst, ◌∙◌, arith, if◌then◌else◌}
use Rattle.std.proofs.lemmas.Bool.{cases_lt}
use Rattle.tcl_expr.specs.declared.fault.ExprFault.{ExprFault}
use Rattle.tcl_expr.specs.declared.operators.Infix.{Infix}
use Rattle.tcl_expr.specs.declared.step.Step.{Step}
use Rattle.tcl_expr.specs.declared.step.Step.TheVariants as step
use Rattle.tcl_expr.specs.declared.open.Open.{Open}
use Rattle.tcl_expr.specs.declared.open.Open.TheVariants as open_form
use Rattle.tcl_expr.specs.declared.parser.Parser.{Parser}
use Rattle.tcl_expr.specs.Trees.{Tree}
use Rattle.tcl_expr.specs.Steps.{steps_of}
use Rattle.tcl_expr.specs.Reading.{Opened, Before, After, Paren, Question, Otherwise, ended, close, parens, OperandPlace, AtOperand, AtOperator, ReadingMove, at_colon, at_close, on_move, tree_reading}
use Rattle.tcl_expr.specs.Operators.{level_of}
use Rattle.tcl_expr.specs.Parsing.{infix_hole, opened_written, Closes}
use Rattle.tcl_expr.specs.Standing.{Stands, StandsNext, FollowsMove}
use Rattle.tcl_expr.proofs.CloseLemmas.{append_nil, infix_opens, question_opens, colon_opens, paren_ends}

parens_by : (b : Bool) (level : ℕ) (own : Opened) (rest : List Opened) (tree : Tree) → parens (own ∷ rest) ≡ parens rest → parens (close level rest (ended own tree)).opened ≡ parens rest →
    parens (if b then close level rest (ended own tree) else record { opened = own ∷ rest; tree = tree }).opened ≡ parens (own ∷ rest)
parens_by true level own rest tree e ih = ih ∙ sym e
parens_by false level own rest tree e ih = refl

-- no parenthesis ends with what it encloses
pub parens_close : (level : ℕ) (before : List Opened) (tree : Tree) → parens (close level before tree).opened ≡ parens before
parens_close level [] tree = refl
parens_close level (Before operator ∷ rest) tree = parens_close level rest (ended (Before operator) tree)
parens_close level (After operator a ∷ rest) tree =
    parens_by (nat_le level (level_of operator)) level (After operator a) rest tree refl (parens_close level rest (ended (After operator a) tree))
parens_close level (Paren ∷ rest) tree = refl
parens_close level (Question a ∷ rest) tree = refl
parens_close level (Otherwise a b ∷ rest) tree = parens_by (level == 0) level (Otherwise a b) rest tree refl (parens_close level rest (ended (Otherwise a b) tree))

-- a place is reached where what is kept holds
module _ (old new : Parser) (opened : List Open) (steps : List Step) (level : ℕ) (closes : Closes level old.opened.items old.steps.items opened steps) where
  still_counted : (before : List Opened) (tree : Tree) → Stands old (AtOperator tree) before → old.parens ≡ parens (close level before tree).opened
  still_counted before tree s = s.counted ∙ sym (parens_close level before tree)

  pub infix_stands : (operator : Infix) → new.steps.items ≡ steps ++ infix_hole operator → new.opened.items ≡ opened ++ open_form.After operator (length steps) ∷ [] →
      new.parens ≡ old.parens → new.is_due ≡ true → (before : List Opened) (tree : Tree) → Stands old (AtOperator tree) before →
      Stands new AtOperand (After operator (close level before tree).tree ∷ (close level before tree).opened)
  infix_stands operator es eo ep due before tree s =
      let h = closes before tree s.holds in
      let o = infix_opens opened steps (close level before tree).opened (close level before tree).tree operator h in
      record { holds = record { marks = eo ∙ o.marks; steps_are = es ∙ o.steps_are }; counted = ep ∙ still_counted before tree s; due = due }

  pub question_stands : new.steps.items ≡ steps ++ step.Branch 0 ∷ [] → new.opened.items ≡ opened ++ open_form.Question (length steps) ∷ [] →
      new.parens ≡ old.parens → new.is_due ≡ true → (before : List Opened) (tree : Tree) → Stands old (AtOperator tree) before →
      Stands new AtOperand (Question (close level before tree).tree ∷ (close level before tree).opened)
  question_stands es eo ep due before tree s =
      let h = closes before tree s.holds in
      let o = question_opens opened steps (close level before tree).opened (close level before tree).tree h in
      record { holds = record { marks = eo ∙ o.marks; steps_are = es ∙ o.steps_are }; counted = ep ∙ still_counted before tree s; due = due }

  pub colon_stands : (below : List Open) (mark : ℕ) → opened ≡ below ++ open_form.Question mark ∷ [] →
      new.steps.items ≡ set steps mark (step.Branch (length steps - mark)) ++ step.Jump 0 ∷ [] → new.opened.items ≡ below ++ open_form.Otherwise (length steps) ∷ [] →
      new.parens ≡ old.parens → new.is_due ≡ true → (before : List Opened) (tree : Tree) → Stands old (AtOperator tree) before →
      StandsNext new (at_colon (close level before tree).opened (close level before tree).tree)
  colon_stands below mark e es eo ep due before tree s =
      let h = closes before tree s.holds in
      let k = colon_opens opened below steps (close level before tree).opened (close level before tree).tree mark h e in
      let o = k.3 in
      subst (λ (open_ones : List Opened). StandsNext new (at_colon open_ones (close level before tree).tree)) (sym k.2)
      (record { holds = record { marks = eo ∙ o.marks; steps_are = es ∙ o.steps_are }; counted = ep ∙ still_counted before tree s ∙ ap parens k.2; due = due })

  pub close_stands : (below : List Open) → opened ≡ below ++ open_form.Paren ∷ [] → new.steps.items ≡ steps → new.opened.items ≡ below →
      new.parens ≡ old.parens - 1 → new.is_due ≡ old.is_due → (before : List Opened) (tree : Tree) → Stands old (AtOperator tree) before →
      StandsNext new (at_close (close level before tree).opened (close level before tree).tree)
  close_stands below e es eo ep due before tree s =
      let h = closes before tree s.holds in
      let k = paren_ends opened below steps (steps_of (close level before tree).tree) (close level before tree).opened h e in
      let o = k.2 in
      let n : old.parens ≡ suc (parens k.0) = still_counted before tree s ∙ ap parens k.1 in
      subst (λ (open_ones : List Opened). StandsNext new (at_close open_ones (close level before tree).tree)) (sym k.1)
      (record { holds = record { marks = eo ∙ o.marks; steps_are = es ∙ o.steps_are }; counted = ep ∙ omega (arith, n); due = due ∙ s.due })

-- an operand stands where it was due
pub operand_stands : (old new : Parser) (own : List Step) (tree : Tree) (before : List Opened) → steps_of tree ≡ own → new.steps.items ≡ old.steps.items ++ own →
    new.opened.items ≡ old.opened.items → new.parens ≡ old.parens → new.is_due ≡ false → Stands old AtOperand before → Stands new (AtOperator tree) before
operand_stands old new own tree before one es eo ep due s =
    record {
      holds = record {
        marks = eo ∙ s.holds.marks;
        steps_are = es ∙ ap (λ l. l ++ own) (s.holds.steps_are ∙ append_nil (opened_written before)) ∙ ap (λ l. opened_written before ++ l) (sym one);
      };
      counted = ep ∙ s.counted;
      due = due;
    }

-- bytes that are skipped are as if they weren't there
pub reading_skip : (n : ℕ) (place : OperandPlace) (opened : List Opened) (text : List ℕ) → tree_reading n place opened text ≡ tree_reading 0 place opened (drop n text)
reading_skip zero place opened text = refl
reading_skip (suc n) place opened [] = refl
reading_skip (suc n) place opened (b ∷ text) = reading_skip n place opened text

drop_all : (n : ℕ) (xs : List ℕ) → length xs ≤ n → drop n xs ≡ []
drop_all zero [] h = refl
drop_all zero (x ∷ xs) h = absurd (omega arith)
drop_all (suc n) [] h = refl
drop_all (suc n) (x ∷ xs) h = drop_all n xs (omega arith)

drop_min_by : (n : ℕ) (xs : List ℕ) → (n < length xs) ⊎ (length xs ≤ n) → drop n xs ≡ drop (min n (length xs)) xs
drop_min_by n xs (inl l) = let e : n ≡ min n (length xs) = omega arith in ap (λ k. drop k xs) e
drop_min_by n xs (inr l) = let q : length xs ≤ min n (length xs) = omega arith in drop_all n xs l ∙ sym (drop_all (min n (length xs)) xs q)

drop_min : (n : ℕ) (xs : List ℕ) → drop n xs ≡ drop (min n (length xs)) xs
drop_min n xs = drop_min_by n xs (cases_lt n (length xs))

-- where the code follows a move, reading goes on from there
pub follow_on : (moved : Result ReadingMove ExprFault) (new : Parser) (skip count : ℕ) (behind : List ℕ) → count ≡ min skip (length behind) → FollowsMove new skip moved →
    (place : OperandPlace) × (opened : List Opened) × Stands new place opened
    × (on_move moved (λ further next left. tree_reading further next left behind) ≡ tree_reading 0 place opened (drop count behind))
follow_on (Ok m) new skip count behind e f = (
  m.place,
  m.opened,
  f.1,
  reading_skip m.skip m.place m.opened behind
      ∙ ap (λ k. tree_reading 0 m.place m.opened (drop k behind)) (sym f.0)
      ∙ ap (tree_reading 0 m.place m.opened) (drop_min skip behind)
      ∙ ap (λ k. tree_reading 0 m.place m.opened (drop k behind)) (sym e),
)
follow_on (Err fault) new skip count behind e f = absurd f
