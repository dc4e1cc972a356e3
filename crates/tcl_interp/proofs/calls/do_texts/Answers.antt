use Rattle.std.proofs.Common.{◌++◌, ℕ, List, [], ◌∷◌, drop}
use Rattle.tcl_vars.specs.Store.{Store}
use Rattle.tcl_interp.specs.Simple.{EndsCall, WordsLead}
use Rattle.tcl_interp.proofs.SimpleLemmas.{named_end}
use Rattle.tcl_interp.proofs.calls.do_texts.Goals as goal

pub returns-clause-ok : goal.returns-clause-ok
returns-clause-ok g c =
    let outside = g.T.Tasks.outside in
    let found = c.in-Some.found in
    let name = c.args.name.now in
    let words = c.args.words.now in
    let store = c.args.scopes.now in
    let context = c.args.context.now in
    let leads : (before : List (List ℕ)) → WordsLead outside c.args.room store context (drop 1 words) before found.steps [] (before ++ found.words) = rw c.in-Some.is at c.in_ok-found.ensures.leads in
    let ends : (own : Store) → EndsCall outside (name ∷ found.words) own context own c.in_ok-code.field-0.code c.in_ok-code.field-0.text = rw c.as_slice-arguments.ensures at c.in_ok-code.ensures in
    named_end outside c.args.room words store context store name found.words found.steps c.in_ok-code.field-0.code c.in_ok-code.field-0.text
    c.requires.name.0 c.requires.name.1 (leads (name ∷ [])) (ends store)
