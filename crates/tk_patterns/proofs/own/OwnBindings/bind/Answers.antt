use Rattle.std.proofs.Common.{◌≡◌, map, Err, sym, ap, ◌∙◌, subst, MatchBool, OnOk, IsOkUnless}
use Rattle.std.specs.Prelude.{position}
use Rattle.tk_patterns.specs.declared.fault.BindFault.TheVariants.{Full, NoMemory}
use Rattle.tk_patterns.specs.Own.{is_of}
use Rattle.tk_patterns.specs.OwnSteps.{with_script_at}
use Rattle.tk_patterns.specs.Filing.{filed_under, filing_number, sequence_number}
use Rattle.tk_virtual.specs.Classes.{sequence_class}
use Rattle.tk_patterns.proofs.KeptLemmas.{numbers_again}
use Rattle.tk_patterns.specs.Marks.{all_marked}
use Rattle.tk_patterns.proofs.MarkLemmas.{marked_again}
use Rattle.tk_patterns.proofs.BindLemmas.{found_not_refused, again_there, none_refuses, added_there}
use Rattle.tk_patterns.proofs.own.OwnBindings.bind.Goals as goal

pub returns-in-Some-clause-answer : goal.returns-in-Some-clause-answer
returns-in-Some-clause-answer c =
    let seen = c.as_slice.ensures.value ∙ c.self.view_is in
    let there = ap (λ tag. position (is_of tag c.args.sequence) c.args.self.now) (sym c.as_str.ensures.bytes) ∙ ap (λ own. position (is_of c.as_str.result.now c.args.sequence) own) (sym seen) ∙ sym c.in-Some.ensures in
    rw (found_not_refused c.args.tag c.args.sequence c.args.self.now c.in-Some.place there) tt

pub returns-in-Some-clause-ok : goal.returns-in-Some-clause-ok
returns-in-Some-clause-ok c =
    let seen = c.as_slice.ensures.value ∙ c.self.view_is in
    let there = ap (λ tag. position (is_of tag c.args.sequence) c.args.self.now) (sym c.as_str.ensures.bytes) ∙ ap (λ own. position (is_of c.as_str.result.now c.args.sequence) own) (sym seen) ∙ sym c.in-Some.ensures in
    c.set_script.ensures
    ∙ ap (λ own. with_script_at c.in-Some.place c.script_in-script.result own) c.self.view_is
    ∙ ap (λ script. with_script_at c.in-Some.place script c.args.self.now) c.script_in-script.ensures
    ∙ again_there c.args.tag c.args.sequence c.args.script c.args.self.now c.in-Some.place there

pub returns-in-None-clause-answer : goal.returns-in-None-clause-answer
returns-in-None-clause-answer c =
    let seen = c.as_slice.ensures.value ∙ c.self.view_is in
    let none = ap (λ tag. position (is_of tag c.args.sequence) c.args.self.now) (sym c.as_str.ensures.bytes) ∙ ap (λ own. position (is_of c.as_str.result.now c.args.sequence) own) (sym seen) ∙ sym c.in-None.ensures in
    subst (λ b. MatchBool b (c.add.result ≡ Err Full) (IsOkUnless c.add.result NoMemory))
    (sym (none_refuses c.args.tag c.args.sequence c.args.self.now none))
    c.add.ensures.answer

pub returns-in-None-clause-ok : goal.returns-in-None-clause-ok
returns-in-None-clause-ok c =
    let seen = c.as_slice.ensures.value ∙ c.self.view_is in
    let none = ap (λ tag. position (is_of tag c.args.sequence) c.args.self.now) (sym c.as_str.ensures.bytes) ∙ ap (λ own. position (is_of c.as_str.result.now c.args.sequence) own) (sym seen) ∙ sym c.in-None.ensures in
    subst (λ own. OnOk c.add.result (c.add.new.self ≡ own))
    (added_there c.args.tag c.args.sequence c.args.script c.args.self.now none)
    c.add.ensures.ok

pub invariant_of-self : goal.invariant_of-self
invariant_of-self c =
    let own = c.self.inside.bindings.items in
    let place = c.in-Some.place in
    let script = c.script_in-script.result in (
      c.self.invariant.0
          ∙ sym (ap (map filed_under) c.set_script.ensures
          ∙ numbers_again (λ tag sequence. record { class = filing_number tag (sequence_class sequence); whole = filing_number tag (sequence_number sequence) }) own place script),
      ap (all_marked c.self.inside.marks) c.set_script.ensures ∙ marked_again c.self.inside.marks own place script c.self.invariant.1,
    )
