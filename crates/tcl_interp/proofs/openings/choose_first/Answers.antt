use Rattle.std.proofs.Common.{◌≡◌, ◌<◌, ◌==◌, ◌∷◌, true, false, length, drop, get_or, ap, sym, ◌∙◌, subst}
use Rattle.std.proofs.lemmas.Result.{IfOk-weaker}
use Rattle.tcl_commands.specs.declared.branches.Branch.{Branch}
use Rattle.tcl_interp.specs.declared.machine.Choosing.{Choosing}
use Rattle.tcl_interp.specs.Finish.{Begins, ForChoice}
use Rattle.tcl_interp.specs.Moves.{moved, standing, expression_begins, choice_move}
use Rattle.tcl_interp.specs.Openings.{Knows}
use Rattle.tcl_interp.specs.Quiet.{Leads}
use Rattle.tcl_interp.specs.Rests.{doing_of, waits_of}
use Rattle.tcl_interp.proofs.ChoiceLemmas.{chosen_on, first_begins, first_holds, some_branch}
use Rattle.tcl_interp.proofs.Straight.{choice_leads}
use Rattle.tcl_interp.proofs.openings.choose_first.Goals as goal

pub returns-in_ok-copy-in-Known-true-clause-now : goal.returns-in_ok-copy-in-Known-true-clause-now
returns-in_ok-copy-in-Known-true-clause-now g c =
    let waits = waits_of c.args.frames.now.items in
    let branches = c.args.choices.branches in
    let otherwise = c.args.choices.otherwise in
    let branch = c.index-branches-0.result in
    let first : branch ≡ get_or branches 0 branch = c.index-branches-0.is ∙ ap (λ s. get_or s 0 branch) c.as_slice-branches.ensures in
    let test : c.in_ok-expression.expression ≡ branch.test = c.in_ok-expression.ensures.expression ∙ ap (λ (b : Branch). b.test) (sym c.index-branches-0.is) in
    let some : 0 < length branches = some_branch branches c.is_empty.result (c.is_empty.ensures ∙ ap (λ s. length s == 0) c.as_slice-branches.ensures) c.if-is_empty.false in
    let known : Knows c.args.scopes.now c.here-level.result c.in_ok-expression.expression c.in-Known-true.field-0 = rw c.in-Known-true.is at c.in_ok-open_condition.ensures in
    let knows : Knows c.args.scopes.now c.here-level.result branch.test true =
    subst (λ text. Knows c.args.scopes.now c.here-level.result text true) test (subst (λ holds. Knows c.args.scopes.now c.here-level.result c.in_ok-expression.expression holds) c.in-Known-true.field-0-test known) in
    let again = c.index-branches-0-in-Known-true.result in
    let first_again : again ≡ get_or branches 0 again = c.index-branches-0-in-Known-true.is ∙ ap (λ s. get_or s 0 again) c.as_slice-branches.ensures in
    let script : c.of_text.result ≡ again.body = c.of_text.ensures ∙ c.in_ok-copy-in-Known-true.ensures.ok ∙ ap (λ (b : Branch). b.body) (sym c.index-branches-0-in-Known-true.is) in
    subst (λ m. Leads (standing (choice_move c.args.room branches otherwise waits) c.args.scopes.now c.args.context.now) (standing m c.args.scopes.now c.args.context.now))
    (first_holds c.args.room otherwise waits branches again some first_again ∙ ap (λ text. moved (Begins c.args.room text) waits) (sym script))
    (choice_leads c.args.scopes.now c.args.context.now c.args.room branches branch otherwise waits c.here-level.result true some first c.here-level.ensures.value knows)

pub returns-in-Known-false-clause-now : goal.returns-in-Known-false-clause-now
returns-in-Known-false-clause-now g c =
    let waits = waits_of c.args.frames.now.items in
    let branches = c.args.choices.branches in
    let otherwise = c.args.choices.otherwise in
    let branch = c.index-branches-0.result in
    let first : branch ≡ get_or branches 0 branch = c.index-branches-0.is ∙ ap (λ s. get_or s 0 branch) c.as_slice-branches.ensures in
    let test : c.in_ok-expression.expression ≡ branch.test = c.in_ok-expression.ensures.expression ∙ ap (λ (b : Branch). b.test) (sym c.index-branches-0.is) in
    let some : 0 < length branches = some_branch branches c.is_empty.result (c.is_empty.ensures ∙ ap (λ s. length s == 0) c.as_slice-branches.ensures) c.if-is_empty.false in
    let known : Knows c.args.scopes.now c.here-level.result c.in_ok-expression.expression c.in-Known-false.field-0 = rw c.in-Known-false.is at c.in_ok-open_condition.ensures in
    let knows : Knows c.args.scopes.now c.here-level.result branch.test false =
    subst (λ text. Knows c.args.scopes.now c.here-level.result text false) test (subst (λ holds. Knows c.args.scopes.now c.here-level.result c.in_ok-expression.expression holds) c.in-Known-false.field-0-test known) in
    IfOk-weaker c.choose-in-Known-false.result _ _ (λ now chooses.
    subst (λ m. Leads (standing (choice_move c.args.room branches otherwise waits) c.args.scopes.now c.args.context.now) (standing m c.args.scopes.now c.args.context.now))
    (sym (chooses ∙ chosen_on c.args.room otherwise waits branches 0 some))
    (choice_leads c.args.scopes.now c.args.context.now c.args.room branches branch otherwise waits c.here-level.result false some first c.here-level.ensures.value knows)) c.choose-in-Known-false.ensures.now

pub returns-in_ok-wait-in-Begins-clause-now : goal.returns-in_ok-wait-in-Begins-clause-now
returns-in_ok-wait-in-Begins-clause-now g c =
    let waits = waits_of c.args.frames.now.items in
    let branches = c.args.choices.branches in
    let otherwise = c.args.choices.otherwise in
    let branch = c.index-branches-0.result in
    let first : branch ≡ get_or branches 0 branch = c.index-branches-0.is ∙ ap (λ s. get_or s 0 branch) c.as_slice-branches.ensures in
    let test : c.in_ok-expression.expression ≡ branch.test = c.in_ok-expression.ensures.expression ∙ ap (λ (b : Branch). b.test) (sym c.index-branches-0.is) in
    let some : 0 < length branches = some_branch branches c.is_empty.result (c.is_empty.ensures ∙ ap (λ s. length s == 0) c.as_slice-branches.ensures) c.if-is_empty.false in
    let begun : doing_of c.in-Begins.now ≡ expression_begins c.args.room c.in_ok-expression.expression = rw c.in-Begins.is at c.in_ok-open_condition.ensures in
    let begins : doing_of c.in-Begins.now ≡ expression_begins c.args.room branch.test = begun ∙ ap (λ text. expression_begins c.args.room text) test in
    let waits_on : waits_of c.wait.new.frames.items ≡ ForChoice c.args.room branches otherwise ∷ waits =
    c.in_ok-wait-in-Begins.ensures ∙ ap (λ (choosing : Choosing). ForChoice c.args.room (drop choosing.place choosing.choices.branches) choosing.choices.otherwise ∷ waits) c.in_ok-choosing-in-Begins.ensures.ok in (
      0,
      ap (λ m. standing m c.args.scopes.now c.args.context.now)
          (ap (λ doing. moved doing (waits_of c.wait.new.frames.items)) begins ∙ ap (λ all. moved (expression_begins c.args.room branch.test) all) waits_on
          ∙ first_begins c.args.room otherwise waits branches branch some first),
    )
