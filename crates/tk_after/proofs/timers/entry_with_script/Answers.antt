use Rattle.std.proofs.Common.{◌≡◌, Some, sym, ap, ◌∙◌, subst}
use Rattle.std.specs.Option.{option_copied}
use Rattle.std.proofs.lemmas.Option.{none-some, same_Some}
use Rattle.tk_after.specs.Keys.{entries_in, marks_in}
use Rattle.tk_after.proofs.Told.{Rest, next_is, next_marked, rest_all, rest_none, runs}
use Rattle.tk_after.proofs.timers.entry_with_script.Goals as goal

pub loop-name-init : goal.loop-name-init
loop-name-init c =
    let entries = entries_in c.args.owner c.args.scripts.now in
    subst (Rest entries c.args.script.now) (sym (ap marks_in c.into_iter-name-iterator.ensures.into_iter_gives ∙ c.own-name-items.ensures ∙ c.requires.listed)) (rest_all entries c.args.script.now)

pub get-requires-clause-marked : goal.get-requires-clause-marked
get-requires-clause-marked c =
    let entries = entries_in c.args.owner c.args.scripts.now in
    let next = next_is entries c.args.script.now c.requires.rising c.in-Some.name.now.id c.in-Some.due.now (marks_in c.next.new.self) (subst (Rest entries c.args.script.now) (ap marks_in c.in-Some.ensures.steps) c.loop-name.invariant) in
    next_marked entries c.args.script.now c.in-Some.name.now.id c.in-Some.due.now (marks_in c.next.new.self) next

pub returns-in_err-entry : goal.returns-in_err-entry
returns-in_err-entry c =
    let entries = entries_in c.args.owner c.args.scripts.now in
    let next = next_is entries c.args.script.now c.requires.rising c.in-Some.name.now.id c.in-Some.due.now (marks_in c.next.new.self) (subst (Rest entries c.args.script.now) (ap marks_in c.in-Some.ensures.steps) c.loop-name.invariant) in
    absurd (none-some _ (sym (ap option_copied c.in_err-entry.was) ∙ c.get.ensures ∙ next.listed))

pub returns-then-has_script : goal.returns-then-has_script
returns-then-has_script c =
    let entries = entries_in c.args.owner c.args.scripts.now in
    let next = next_is entries c.args.script.now c.requires.rising c.in-Some.name.now.id c.in-Some.due.now (marks_in c.next.new.self) (subst (Rest entries c.args.script.now) (ap marks_in c.in-Some.ensures.steps) c.loop-name.invariant) in
    let same : next.entry ≡ c.in_ok-entry.entry.now = same_Some _ _ (sym (c.get.ensures ∙ next.listed) ∙ ap option_copied c.in_ok-entry.was) in
    ap Some (sym same) ∙ next.runs_it (ap (runs c.args.script.now) same ∙ sym c.has_script.ensures ∙ c.if-has_script.true)

pub loop-name-preserved : goal.loop-name-preserved
loop-name-preserved c =
    let entries = entries_in c.args.owner c.args.scripts.now in
    let next = next_is entries c.args.script.now c.requires.rising c.in-Some.name.now.id c.in-Some.due.now (marks_in c.next.new.self) (subst (Rest entries c.args.script.now) (ap marks_in c.in-Some.ensures.steps) c.loop-name.invariant) in
    let same : next.entry ≡ c.in_ok-entry.entry.now = same_Some _ _ (sym (c.get.ensures ∙ next.listed) ∙ ap option_copied c.in_ok-entry.was) in
    next.passed (ap (runs c.args.script.now) same ∙ sym c.has_script.ensures ∙ c.if-has_script.false)

pub returns : goal.returns
returns c = rest_none (entries_in c.args.owner c.args.scripts.now) c.args.script.now (subst (Rest (entries_in c.args.owner c.args.scripts.now) c.args.script.now) (ap marks_in c.in-None.ensures.steps.0) c.loop-name.invariant)
