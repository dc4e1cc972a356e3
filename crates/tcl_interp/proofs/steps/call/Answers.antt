use Rattle.std.proofs.Common.{◌≡◌, ℕ, ◌-◌, ◌≤◌, List, [], ◌∷◌, length, get_or, take, drop, ap, ◌∙◌, subst, arith}
use Rattle.std.proofs.lemmas.List.{take_all}
use Rattle.std.proofs.lemmas.Result.{IfOk-weaker}
use Rattle.tcl_interp.specs.Finish.{Calls}
use Rattle.tcl_interp.specs.Moves.{moved, standing}
use Rattle.tcl_interp.specs.Rests.{standing_of, waits_of}
use Rattle.tcl_interp.specs.Steps.{TakesStep}
use Rattle.tcl_interp.proofs.steps.call.Goals as goal

-- words are the first of them and the others
name_and_arguments : (words : List (List ℕ)) (name : List ℕ) → 1 ≤ length words → name ≡ get_or words 0 name → name ∷ take (length words - 1) (drop 1 words) ≡ words
name_and_arguments [] name long is = absurd (omega (arith, long))
name_and_arguments (word ∷ words) name long is = ap (λ first. first ∷ take (length (word ∷ words) - 1) words) is ∙ ap (λ others. word ∷ others) (take_all (length (word ∷ words) - 1) words (omega arith))

pub returns-in-len1-up-clause-ok : goal.returns-in-len1-up-clause-ok
returns-in-len1-up-clause-ok g c =
    let waits = waits_of c.args.frames.now.items in
    IfOk-weaker c.call_named.result _ _ (λ now called.
    let after = standing_of now c.call_named.new.frames.items c.call_named.new.scopes c.call_named.new.context in
    subst (λ words. TakesStep g.T.Tasks.outside (standing (moved (Calls c.args.room words) waits) c.args.scopes.now c.args.context.now) (g.T.Tasks.shows c.args.tasks.now) after (g.T.Tasks.shows c.call_named.new.tasks))
    (name_and_arguments c.args.words.now c.name-item.result c.in-len1-up.len_at_least c.name-item.is) called) c.call_named.ensures.ok
