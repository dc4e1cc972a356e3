use Rattle.std.proofs.Common.{◌++◌, ℕ, List, [], Option, Some, None, IfOk, IfSome, subst}
use Rattle.std.proofs.lemmas.Result.{IfOk-weaker}
use Rattle.tcl_words.specs.declared.script.Word.{Word}
use Rattle.tcl_vars.specs.Store.{Store}
use Rattle.tcl_control.specs.declared.context.Context.{Context}
use Rattle.tcl_interp.specs.declared.simple.Worded.{Worded}
use Rattle.tcl_interp.specs.Outside.{Outside}
use Rattle.tcl_interp.specs.Simple.{WordsLead}
use Rattle.tcl_interp.proofs.simple.next_plain.Goals as goal

first_words : {S K : Type 0} (outside : Outside S K) (room : ℕ) (store : Store) (context : Context) (words : List Word) (found : Option Worded)
    → IfSome found (λ all. (before : List (List ℕ)) → WordsLead outside room store context words before all.steps [] (before ++ all.words)) → IfSome found (λ all. WordsLead outside room store context words [] all.steps [] all.words)
first_words outside room store context words (Some all) leads = leads []
first_words outside room store context words None leads = leads

pub returns-in_default-clause-leads : goal.returns-in_default-clause-leads
returns-in_default-clause-leads g c =
    let outside = g.T.Tasks.outside in
    let place = c.args.place.now in
    let store = c.args.scopes.now in
    let context = c.args.context.now in
    subst (λ words. IfOk c.plain_words.result (λ found. IfSome found (λ all. WordsLead outside place.room store context words [] all.steps [] all.words))) c.next_words.ensures
    (IfOk-weaker c.plain_words.result _ _ (first_words outside place.room store context c.next_words.result.now) c.plain_words.ensures.leads)
