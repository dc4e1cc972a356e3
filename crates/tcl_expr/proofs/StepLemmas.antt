-- Lemmas on steps.
use Rattle.std.proofs.Common.{◌≡◌, ℕ, zero, suc, ◌+◌, ◌-◌, ◌<◌, ◌≤◌, min, List, [], ◌∷◌, ◌++◌, length, take, drop, get_or, refl, sym, ap, ◌∙◌, arith, ◌⊎◌, inl, inr, Result, Ok}
use Rattle.std.proofs.lemmas.Bool.{cases_lt}
use Rattle.std.proofs.Math.Seq.{drop-cons}
use Rattle.std.proofs.lemmas.List.{drop-drop}
use Rattle.tcl_expr.specs.declared.value.Value.{Value}
use Rattle.tcl_expr.specs.declared.step.Step.{Step}
use Rattle.tcl_expr.specs.declared.ask.Ask.{Ask}
use Rattle.tcl_expr.specs.declared.fault.EvalFault.{EvalFault}
use Rattle.tcl_expr.specs.Run.{Run, Ends}
use Rattle.tcl_expr.specs.Machine.{asking, AsksBy, weight, WeighsLess}
use Rattle.tcl_expr.specs.Steps.{top_of, perform, execute}
use Rattle.tcl_expr.specs.Trees.{final_text}

abbrev value_told : Value → Result (List ℕ) EvalFault
value_told last = Ok (final_text last)

-- steps that are left out are as if they weren't there
pub execute_skip : (n : ℕ) (steps : List Step) (stack : List Value) → execute n steps stack ≡ execute 0 (drop n steps) stack
execute_skip zero steps stack = refl
execute_skip (suc n) [] stack = refl
execute_skip (suc n) (step ∷ steps) stack = execute_skip n steps stack

pub drop_all : {A : Type 0} (n : ℕ) (xs : List A) → length xs ≤ n → drop n xs ≡ []
drop_all zero [] h = refl
drop_all zero (x ∷ xs) h = absurd (omega arith)
drop_all (suc n) [] h = refl
drop_all (suc n) (x ∷ xs) h = drop_all n xs (omega arith)

pub drop_capped : (place count : ℕ) (steps : List Step) → place < length steps → (count ≤ length steps - place - 1) ⊎ (length steps - place - 1 < count) →
    drop (suc place + count) steps ≡ drop (place + 1 + min count (length steps - place - 1)) steps
drop_capped place count steps h (inl l) = let e : suc place + count ≡ place + 1 + min count (length steps - place - 1) = omega arith in ap (λ n. drop n steps) e
drop_capped place count steps h (inr l) =
    let p : length steps ≤ suc place + count = omega arith in
    let q : length steps ≤ place + 1 + min count (length steps - place - 1) = omega arith in
    drop_all (suc place + count) steps p ∙ sym (drop_all (place + 1 + min count (length steps - place - 1)) steps q)

pub swap_sides : {A B : Type 0} → A ⊎ B → B ⊎ A
swap_sides (inl a) = inr a
swap_sides (inr b) = inl b

-- behind the step at a place, with so many left out, the steps go on
pub go_on : (steps : List Step) (place next count : ℕ) (step : Step) (old new : List Value) → place < length steps → step ≡ get_or steps place step →
    next ≡ place + 1 + min count (length steps - place - 1) → ((go : ℕ → List Value → Run) → perform step old go ≡ go count new) →
    execute 0 (drop place steps) old ≡ execute 0 (drop next steps) new
go_on steps place next count step old new h i e p =
    let at : drop place steps ≡ step ∷ drop (suc place) steps = drop-cons steps place step h ∙ ap (λ s. s ∷ drop (suc place) steps) (sym i) in
    ap (λ s. execute 0 s old) at
    ∙ p (λ skip rest. execute skip (drop (suc place) steps) rest)
    ∙ execute_skip count (drop (suc place) steps) new
    ∙ ap (λ s. execute 0 s new) (drop-drop count (suc place) steps ∙ drop_capped place count steps h (swap_sides (cases_lt (length steps - place - 1) count)) ∙ ap (λ n. drop n steps) (sym e))

-- no step is left
pub run_ends : (steps : List Step) (place : ℕ) (stack : List Value) (last : Value) (text : List ℕ) (whole : Run) → length steps ≤ place → last ≡ top_of stack →
    value_told last ≡ Ok text → execute 0 (drop place steps) stack ≡ whole → whole ≡ Ends (Ok text)
run_ends steps place stack last text whole h top e w =
    sym w ∙ ap (λ s. execute 0 s stack) (drop_all place steps h) ∙ ap (λ v. Ends (value_told v)) (sym top) ∙ ap Ends e

-- steps up to a place, and those from there on
split_at : (n : ℕ) (xs : List Step) → take n xs ++ drop n xs ≡ xs
split_at zero xs = refl
split_at (suc n) [] = refl
split_at (suc n) (x ∷ xs) = ap (λ l. x ∷ l) (split_at n xs)

pub passed : (steps : List Step) (start place : ℕ) → start ≤ place → (taken : List Step) × (drop start steps ≡ taken ++ drop place steps)
passed steps start place h =
    let e : start + (place - start) ≡ place = omega (arith, h) in (
      take (place - start) (drop start steps),
      sym (split_at (place - start) (drop start steps))
          ∙ ap (λ rest. take (place - start) (drop start steps) ++ rest) (drop-drop (place - start) start steps ∙ ap (λ n. drop n steps) e),
    )

-- a question that was asked at a place past the start
pub asked_past : (steps : List Step) (start place : ℕ) (ask : Ask) (left : List Step) → start ≤ place → drop place steps ≡ asking ask ++ left → AsksBy (drop start steps) ask left
asked_past steps start place ask left h e =
    let p = passed steps start place h in (p.0, p.1 ∙ ap (λ rest. p.0 ++ rest) e)

weight_parts : (weigh : Step → ℕ) (xs ys : List Step) → weight weigh (xs ++ ys) ≡ weight weigh xs + weight weigh ys
weight_parts weigh [] ys = omega arith
weight_parts weigh (x ∷ xs) ys = let e = weight_parts weigh xs ys in omega (arith, e)

pub weighs_less : WeighsLess
weighs_less weigh steps left ask (taken, e) =
    let p : weight weigh steps ≡ weight weigh (taken ++ (asking ask ++ left)) = ap (weight weigh) e in
    omega (arith, p, weight_parts weigh taken (asking ask ++ left), weight_parts weigh (asking ask) left)
