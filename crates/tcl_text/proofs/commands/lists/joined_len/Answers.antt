use Rattle.std.proofs.Common.{◌≡◌, ◌+◌, ◌<◌, ◌∙◌, ◌∷◌, ℕ, List, ap, length, subst, sym}
use Rattle.std.specs.Option.{IfSome, IfNone}
use Rattle.tcl_text.specs.ListCommands.{joined}
use Rattle.tcl_text.specs.ListSteps.{each_behind}
use Rattle.tcl_text.proofs.LengthLemmas.{joined_length}
use Rattle.tcl_text.proofs.commands.lists.joined_len.Goals as goal

-- what was added up is the length of all
whole : (between written first : List ℕ) (others items : List (List ℕ)) → written ≡ first → items ≡ first ∷ others → length written + length (each_behind between others) ≡ length (joined between items)
whole between written first others items same is =
    ap (λ (t : List ℕ). length t + length (each_behind between others)) same ∙ sym (joined_length between first others) ∙ ap (λ (t : List (List ℕ)). length (joined between t)) (sym is)

pub returns-in-Some-clause-exact : goal.returns-in-Some-clause-exact
returns-in-Some-clause-exact c =
    let all = whole c.args.between.now c.as_str.result.now c.in-Some.first.now c.in-Some.others.now c.args.items.now c.as_str.ensures.bytes c.in-Some.ensures.cases.0 in
    subst (λ (n : ℕ). IfSome c.len_behind.result (λ (size : ℕ). size ≡ n)) all c.len_behind.ensures.exact

pub returns-in-Some-clause-none : goal.returns-in-Some-clause-none
returns-in-Some-clause-none c =
    let all = whole c.args.between.now c.as_str.result.now c.in-Some.first.now c.in-Some.others.now c.args.items.now c.as_str.ensures.bytes c.in-Some.ensures.cases.0 in
    subst (λ (n : ℕ). IfNone c.len_behind.result (65536 < n)) all c.len_behind.ensures.none
