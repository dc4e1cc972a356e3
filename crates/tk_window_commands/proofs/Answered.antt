-- Answers from what steps gave.
use Rattle.std.proofs.Common.{◌≡◌, ℕ, List, [], refl, sym, ap, ◌∙◌, subst}
use Rattle.std.specs.Prelude.{Result, Ok, Err, IfOk}
use Rattle.tcl_text.specs.Answers.{Answer, Refuses, bounded, IsAnswerOf}
use Rattle.tcl_text.specs.declared.commands.answers.Refusal.{Refusal}
use Rattle.tcl_text.specs.declared.commands.answers.Refusal.TheVariants.{Error, NoMemory}
use Rattle.tcl_vars.specs.Store.{Store}
use Rattle.tk_screen.specs.Own.{Windowing}
use Rattle.tk_tree.specs.declared.fault.WindowFault.{WindowFault}
use Rattle.tk_window_commands.specs.Answers.{Done, Told}
use Rattle.tk_window_commands.specs.Steps.{Does, DoesThere}
use Rattle.tk_window_commands.specs.Create.{refusal_text}

nothing_is_two : (answer : Answer) → answer ≡ Ok [] → answer ≡ Err [] → (P : Type 0) → P
nothing_is_two answer one other P = absurd (cc)

abbrev done : Windowing → Store → Answer → Done
done own store answer = record { own = own; store = store; answer = answer }

abbrev told : Windowing → Answer → Told
told own answer = record { own = own; answer = answer }

-- the answer of steps that did what the definition says is the definition's
pub done_by : {E : Type 0} (given : Result (List ℕ) Refusal) (result : Result Answer E) (own : Windowing) (store : Store) (wanted : Done) → IfOk result (λ answer. IsAnswerOf given answer) → Does given own store wanted
    → IfOk result (λ answer. done own store answer ≡ wanted)
done_by given (Err e) own store wanted is does = tt
done_by (Ok text) (Ok answer) own store wanted is does = ap (done own store) (is (Ok text) refl) ∙ sym does
done_by (Err (Error message)) (Ok answer) own store wanted is does = ap (done own store) (is (Err message) refl) ∙ sym does
done_by (Err NoMemory) (Ok answer) own store wanted is does = nothing_is_two answer (is (Ok []) tt) (is (Err []) tt) (done own store answer ≡ wanted)

pub told_by : {E : Type 0} (given : Result (List ℕ) Refusal) (result : Result Answer E) (own : Windowing) (wanted : Told) → IfOk result (λ answer. IsAnswerOf given answer) → DoesThere given own wanted
    → IfOk result (λ answer. told own answer ≡ wanted)
told_by given (Err e) own wanted is does = tt
told_by (Ok text) (Ok answer) own wanted is does = ap (told own) (is (Ok text) refl) ∙ sym does
told_by (Err (Error message)) (Ok answer) own wanted is does = ap (told own) (is (Err message) refl) ∙ sym does
told_by (Err NoMemory) (Ok answer) own wanted is does = nothing_is_two answer (is (Ok []) tt) (is (Err []) tt) (told own answer ≡ wanted)

-- a refusal by its text
pub refused_by : (result : Refusal) (path : List ℕ) (fault given : WindowFault) → fault ≡ given → Refuses result (bounded (refusal_text path given)) → Refuses result (bounded (refusal_text path fault))
refused_by result path fault given is h = subst (λ f. Refuses result (bounded (refusal_text path f))) (sym is) h
