use Rattle.std.proofs.Common.{arith, subst, drop, Err}
use Rattle.std.proofs.lemmas.List.{length-drop}
use Rattle.std.proofs.lemmas.Grind.{common_steps}
use Rattle.std.proofs.lemmas.Result.{err_from_is_err_and}
use Rattle.tcl_words.specs.Parts.{DoesMove}
use Rattle.tcl_words.specs.Moves.{move_at}
use Rattle.tcl_words.specs.declared.kind.Step.TheVariants.{On, Within, Ends}
use Rattle.tcl_words.proofs.Readers.{read_on, read_fault, read_opening, read_ending, step_as}
use Rattle.tcl_words.proofs.nesting.Reader.read_next.Goals as goal

pub returns-in_err-step-clause-fault : goal.returns-in_err-step-clause-fault
returns-in_err-step-clause-fault c =
    let p = err_from_is_err_and c.from_residual.result c.from_residual.ensures.1 in
    rw (p.1, p.2)
    (read_fault c.args.source.now c.args.self.now.waiting.items c.args.self.now.origin c.args.self.now.parts c.read_byte.new.parts c.args.self.now.place c.args.self.now.next c.in_err-step.field-0.0 c.requires.reading (omega (arith, c.requires.within, length-drop c.args.self.now.origin.base c.args.source.now))
    (subst (λ t. DoesMove c.args.self.now.parts c.read_byte.new.parts t c.args.self.now.next c.args.self.now.place (move_at t c.args.self.now.next c.args.self.now.origin.inside c.args.self.now.place) (Err c.in_err-step.field-0.0)) c.range_from-text.ensures.value c.in_err-step.ensures))

pub returns-in-On-clause-ok : goal.returns-in-On-clause-ok
returns-in-On-clause-ok c = read_on c.args.source.now c.args.self.now.waiting.items c.args.self.now.origin c.args.self.now.parts c.read_byte.new.parts c.args.self.now.place c.in-On.place c.args.self.now.next c.in-On.skip c.requires.reading (omega (arith, c.requires.within, length-drop c.args.self.now.origin.base c.args.source.now)) (step_as c.args.self.now.parts c.read_byte.new.parts c.range_from-text.result.now (drop c.args.self.now.origin.base c.args.source.now) c.args.self.now.next c.args.self.now.origin.inside c.args.self.now.place c.in_ok-step.step (On c.in-On.skip c.in-On.place) c.range_from-text.ensures.value c.in-On.is c.in_ok-step.ensures)

pub open_within-requires-clause-opening : goal.open_within-requires-clause-opening
open_within-requires-clause-opening c = read_opening c.args.source.now c.args.self.now.waiting.items c.args.self.now.origin c.args.self.now.parts c.read_byte.new.parts c.args.self.now.place c.args.self.now.next c.in-Within.opener c.in-Within.mode c.requires.reading (omega (arith, c.requires.within, length-drop c.args.self.now.origin.base c.args.source.now)) (step_as c.args.self.now.parts c.read_byte.new.parts c.range_from-text.result.now (drop c.args.self.now.origin.base c.args.source.now) c.args.self.now.next c.args.self.now.origin.inside c.args.self.now.place c.in_ok-step.step (Within c.in-Within.opener c.in-Within.mode) c.range_from-text.ensures.value c.in-Within.is c.in_ok-step.ensures)

pub end_within-requires-clause-ending : goal.end_within-requires-clause-ending
end_within-requires-clause-ending c = read_ending c.args.source.now c.args.self.now.waiting.items c.args.self.now.origin c.args.self.now.parts c.read_byte.new.parts c.args.self.now.place c.args.self.now.next c.requires.reading (omega (arith, c.requires.within, length-drop c.args.self.now.origin.base c.args.source.now)) (step_as c.args.self.now.parts c.read_byte.new.parts c.range_from-text.result.now (drop c.args.self.now.origin.base c.args.source.now) c.args.self.now.next c.args.self.now.origin.inside c.args.self.now.place c.in_ok-step.step (Ends) c.range_from-text.ensures.value c.in-Ends.is c.in_ok-step.ensures)

pub returns-then-is_empty-clause-ok : goal.returns-then-is_empty-clause-ok
returns-then-is_empty-clause-ok c = (grind (arith, common_steps, c.is_empty.ensures, c.if-is_empty.true), read_ending c.args.source.now c.args.self.now.waiting.items c.args.self.now.origin c.args.self.now.parts c.read_byte.new.parts c.args.self.now.place c.args.self.now.next c.requires.reading (omega (arith, c.requires.within, length-drop c.args.self.now.origin.base c.args.source.now)) (step_as c.args.self.now.parts c.read_byte.new.parts c.range_from-text.result.now (drop c.args.self.now.origin.base c.args.source.now) c.args.self.now.next c.args.self.now.origin.inside c.args.self.now.place c.in_ok-step.step (Ends) c.range_from-text.ensures.value c.in-Ends.is c.in_ok-step.ensures))
