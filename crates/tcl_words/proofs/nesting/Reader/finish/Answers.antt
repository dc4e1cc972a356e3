use Rattle.std.proofs.Common.{◌∙◌, ap, inl, Ok, sym}
use Rattle.std.proofs.lemmas.Result.{err_from_is_err_and}
use Rattle.tcl_words.proofs.Readers.{unfinished_fault, finishing, finished, finish_fault}
use Rattle.tcl_words.proofs.nesting.Reader.finish.Goals as goal

pub returns-then-self-clause-fault : goal.returns-then-self-clause-fault
returns-then-self-clause-fault c =
    inl (unfinished_fault c.args.source.now c.args.self.waiting.items c.args.self.origin c.args.self.parts c.args.self.place c.args.self.next c.unfinished.result c.requires.reading c.requires.end c.if-self.true c.unfinished.ensures)

pub finish-requires-clause-fine : goal.finish-requires-clause-fine
finish-requires-clause-fine c = (finishing c.args.source.now c.args.self.waiting.items c.args.self.origin c.args.self.parts c.args.self.place c.args.self.next c.requires.reading c.requires.end c.if-self.false).fine

pub finish-requires-clause-script : goal.finish-requires-clause-script
finish-requires-clause-script c = (finishing c.args.source.now c.args.self.waiting.items c.args.self.origin c.args.self.parts c.args.self.place c.args.self.next c.requires.reading c.requires.end c.if-self.false).script

pub returns-in_err-finish-clause-fault : goal.returns-in_err-finish-clause-fault
returns-in_err-finish-clause-fault c =
    let p = err_from_is_err_and c.from_residual.result c.from_residual.ensures.1 in
    rw (p.1, p.2) (finish_fault c.args.source.now c.args.self.parts c.args.self.place c.in_err-finish.field-0.0 (finishing c.args.source.now c.args.self.waiting.items c.args.self.origin c.args.self.parts c.args.self.place c.args.self.next c.requires.reading c.requires.end c.if-self.false) c.in_err-finish.ensures)

pub returns-clause-commands : goal.returns-clause-commands
returns-clause-commands c = finished c.args.source.now c.args.self.parts c.finish.new.parts c.args.self.place (finishing c.args.source.now c.args.self.waiting.items c.args.self.origin c.args.self.parts c.args.self.place c.args.self.next c.requires.reading c.requires.end c.if-self.false) c.in_ok-finish.ensures ∙ ap (λ x. Ok x) (sym c.into_commands.ensures)
