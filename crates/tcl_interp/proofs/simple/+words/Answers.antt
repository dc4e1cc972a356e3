use Rattle.std.proofs.Common.{◌≡◌, ◌<◌, ◌≤◌, ◌+◌, ◌-◌, ◌++◌, ℕ, suc, List, [], ◌∷◌, length, drop, Option, Some, None, IfSome, Ok, ap, sym, subst, ◌∙◌, arith, append_assoc}
use Rattle.std.proofs.lemmas.Result.{IfOk-weaker}
use Rattle.tcl_words.specs.declared.script.Command.{Command}
use Rattle.tcl_words.specs.declared.script.Word.{Word}
use Rattle.tcl_vars.specs.Store.{Store}
use Rattle.tcl_control.specs.declared.context.Context.{Context}
use Rattle.tcl_interp.specs.declared.simple.Worth.{Worth}
use Rattle.tcl_interp.specs.Outside.{Outside}
use Rattle.tcl_table.specs.Source.{script_of}
use Rattle.tcl_control.specs.declared.code.Code.TheVariants.{Normal}
use Rattle.tcl_interp.specs.Rests.{IsSingle}
use Rattle.tcl_interp.specs.Simple.{CommandEnds, EndsCall, ExprGives, GivesScript, GivesWord, WordsLead}
use Rattle.tcl_interp.proofs.SimpleLemmas.{drop_past, word_leads, words_lead, words_stay, single_gives, only_command, command_gives, expr_gives, named_end}
use Rattle.tcl_interp.proofs.simple.+words.Goals as goal

pub word_value-returns-in-Some-clause-gives : goal.word_value-returns-in-Some-clause-gives
word_value-returns-in-Some-clause-gives g n c =
    let single : IsSingle c.args.level c.args.scopes.now (drop c.args.index c.args.words.now) c.in-Some.text = rw c.in-Some.is at c.in_ok-text.ensures in
    single_gives g.T.Tasks.outside c.args.room c.args.level (drop c.args.index c.args.words.now) c.args.scopes.now c.args.context.now c.in-Some.text c.requires.level single

pub plain_words-loop-word-init : goal.plain_words-loop-word-init
plain_words-loop-word-init g n c = record {
  leads = λ before. subst (λ whole. WordsLead g.T.Tasks.outside c.args.room c.args.scopes.now c.args.context.now (drop c.args.from c.args.words.now) before 0 (drop c.args.from c.args.words.now) (before ++ whole))
      (sym c.in_ok-whole.ensures) (words_stay g.T.Tasks.outside c.args.room c.args.scopes.now c.args.context.now (drop c.args.from c.args.words.now) before);
  most = omega arith;
}

pub plain_words-loop-word-preserved : goal.plain_words-loop-word-preserved
plain_words-loop-word-preserved g n c =
    let outside = g.T.Tasks.outside in
    let words = c.args.words.now in
    let store = c.args.scopes.now in
    let context = c.args.context.now in
    let i = c.loop-word.word in
    let found = c.in-Some.found in
    let whole = c.loop-word.whole in
    let gives : GivesWord outside c.args.room (drop i words) store context found.steps found.text = rw c.in-Some.is at c.in_ok-found.ensures.gives in
    let few : found.steps ≤ _ = rw c.in-Some.is at c.in_ok-found.ensures.most in
    let longer : (before : List (List ℕ)) → (before ++ whole) ++ (found.text ∷ []) ≡ before ++ c.push.new.self = λ before. append_assoc before whole (found.text ∷ [])
    ∙ ap (λ word. before ++ (whole ++ word ∷ [])) (sym c.in_ok-text.ensures) ∙ ap (λ all. before ++ all) (sym c.in_ok-push.ensures.ok) in
    let step : (before : List (List ℕ)) → WordsLead outside c.args.room store context (drop i words) (before ++ whole) found.steps (drop (i + 1) words) (before ++ c.push.new.self) = λ before.
    subst (λ all. WordsLead outside c.args.room store context (drop i words) (before ++ whole) found.steps (drop (i + 1) words) all) (longer before)
    (word_leads outside c.args.room words i store context found.steps found.text (before ++ whole) c.loop-word-test.true gives) in
    record {
      leads = λ before. words_lead outside c.args.room store context (drop c.args.from words) (drop i words) (drop (i + 1) words) before (before ++ whole) (before ++ c.push.new.self) c.loop-word.steps found.steps
          (c.loop-word.invariant.leads before) (step before);
      most = omega (arith, few, c.loop-word.invariant.most);
    }

pub plain_words-returns-clause-leads : goal.plain_words-returns-clause-leads
plain_words-returns-clause-leads g n c =
    let outside = g.T.Tasks.outside in
    let words = c.args.words.now in
    let past : length words ≤ c.loop-word.word = omega arith in
    λ before. subst (λ rest. WordsLead outside c.args.room c.args.scopes.now c.args.context.now (drop c.args.from words) before c.loop-word.steps rest (before ++ c.loop-word.whole)) (drop_past words c.loop-word.word past)
    (c.loop-word.invariant.leads before)

found_gives : {S K : Type 0} (outside : Outside S K) (room below : ℕ) (store : Store) (context : Context) (script : List ℕ) (only : Command) (words : List Word) (found : Option Worth) → room ≡ suc below → script_of script ≡ Ok (only ∷ []) → words ≡ only.words
    → IfSome found (λ worth. CommandEnds outside below words store context worth.steps store Normal worth.text) → IfSome found (λ worth. GivesScript outside room script store context worth.steps worth.text)
found_gives outside room below store context script only words (Some worth) is parsed at ends =
    command_gives outside room below store context script only worth.steps worth.text is parsed (subst (λ ws. CommandEnds outside below ws store context worth.steps store Normal worth.text) at ends)
found_gives outside room below store context script only words None is parsed at ends = ends

pub script_value-returns-in-Some-value-clause-gives : goal.script_value-returns-in-Some-value-clause-gives
script_value-returns-in-Some-value-clause-gives g n c =
    let store = c.args.scopes.now in
    let context = c.args.context.now in
    let only = c.command-item.result in
    let text = c.in-Some-value.text in
    let parsed : script_of c.args.script.now ≡ Ok (only ∷ []) = only_command (script_of c.args.script.now) c.commands.result.now only c.commands.ensures c.in-len1.len_at_least (omega (arith, c.in-len1.len_below)) c.command-item.is in
    let own : ExprGives store context c.args.level only.words text = rw (c.in-Some-value.is, c.words-words.ensures) at c.in_ok-value-in-Some-Builtin-Expr.ensures in
    expr_gives g.T.Tasks.outside c.args.room c.args.level store context c.args.script.now only own.0 own.1 text c.requires.room parsed own.2 own.3 own.4 own.5 own.6 own.7 c.requires.level own.8

pub script_value-returns-in-Some-Texts-clause-gives : goal.script_value-returns-in-Some-Texts-clause-gives
script_value-returns-in-Some-Texts-clause-gives g n c =
    let outside = g.T.Tasks.outside in
    let store = c.args.scopes.now in
    let context = c.args.context.now in
    let only = c.command-item.result in
    let parsed : script_of c.args.script.now ≡ Ok (only ∷ []) = only_command (script_of c.args.script.now) c.commands.result.now only c.commands.ensures c.in-len1.len_at_least (omega (arith, c.in-len1.len_below)) c.command-item.is in
    IfOk-weaker c.text_worth.result _ _ (λ found ends.
    found_gives outside c.args.room (c.args.room - 1) store context c.args.script.now only c.words-words.result.now found (omega (arith, c.requires.room)) parsed c.words-words.ensures ends) c.text_worth.ensures.ends

pub text_worth-returns-in-Normal-clause-ends : goal.text_worth-returns-in-Normal-clause-ends
text_worth-returns-in-Normal-clause-ends g n c =
    let outside = g.T.Tasks.outside in
    let found = c.in-Some.found in
    let name = c.args.name.now in
    let words = c.args.words.now in
    let store = c.args.scopes.now in
    let context = c.args.context.now in
    let text = c.in_ok-code.field-0.text in
    let leads : (before : List (List ℕ)) → WordsLead outside c.args.room store context (drop 1 words) before found.steps [] (before ++ found.words) = rw c.in-Some.is at c.in_ok-found.ensures.leads in
    let ends : (own : Store) → EndsCall outside (name ∷ found.words) own context own Normal text = rw (c.in-Normal.is, c.as_slice-arguments.ensures) at c.in_ok-code.ensures in
    named_end outside c.args.room words store context store name found.words found.steps Normal text c.requires.name.0 c.requires.name.1 (leads (name ∷ [])) (ends store)

pub script_value-returns-in-Some-Builtin-Info-clause-gives : goal.script_value-returns-in-Some-Builtin-Info-clause-gives
script_value-returns-in-Some-Builtin-Info-clause-gives g n c =
    let outside = g.T.Tasks.outside in
    let store = c.args.scopes.now in
    let context = c.args.context.now in
    let only = c.command-item.result in
    let parsed : script_of c.args.script.now ≡ Ok (only ∷ []) = only_command (script_of c.args.script.now) c.commands.result.now only c.commands.ensures c.in-len1.len_at_least (omega (arith, c.in-len1.len_below)) c.command-item.is in
    IfOk-weaker c.info_worth.result _ _ (λ found ends.
    found_gives outside c.args.room (c.args.room - 1) store context c.args.script.now only c.words-words.result.now found (omega (arith, c.requires.room)) parsed c.words-words.ensures ends) c.info_worth.ensures.ends

pub info_worth-returns-in-Normal-clause-ends : goal.info_worth-returns-in-Normal-clause-ends
info_worth-returns-in-Normal-clause-ends g n c =
    let outside = g.T.Tasks.outside in
    let found = c.in-Some.found in
    let name = c.args.name.now in
    let words = c.args.words.now in
    let store = c.args.scopes.now in
    let context = c.args.context.now in
    let text = c.in-Some-ended.field-0.text in
    let leads : (before : List (List ℕ)) → WordsLead outside c.args.room store context (drop 1 words) before found.steps [] (before ++ found.words) = rw c.in-Some.is at c.in_ok-found.ensures.leads in
    let ends : EndsCall outside (name ∷ found.words) store context store Normal text = rw (c.in-Some-ended.is, c.in-Normal.is, c.as_slice-arguments.ensures) at c.in_ok-ended.ensures in
    named_end outside c.args.room words store context store name found.words found.steps Normal text c.requires.name.0 c.requires.name.1 (leads (name ∷ [])) ends
