use Rattle.std.proofs.Common.{◌∙◌, ap, inl}
use Rattle.std.proofs.lemmas.Result.{err_from_is_err_and}
use Rattle.tcl_words.specs.Reading.{commands_of}
use Rattle.tcl_words.proofs.Texts.{commands_of-not_utf8, commands_of-parsed, commands_of-faulty}
use Rattle.tcl_words.proofs.parser.read_script.Goals as goal

pub returns-in_default-clause-fault : goal.returns-in_default-clause-fault
returns-in_default-clause-fault c = inl (commands_of-not_utf8 c.args.source.now c.if-source-gt-MAX_BYTES.false c.in_default.ensures.cases.0)

pub returns-in_err-commands-clause-fault : goal.returns-in_err-commands-clause-fault
returns-in_err-commands-clause-fault c =
    let p = err_from_is_err_and c.from_residual-in_err-commands.result c.from_residual-in_err-commands.ensures.1 in
    rw (p.1, p.2) (commands_of-faulty c.in-Ok.text.now c.args.source.now c.in_err-commands.field-0.0 c.in-Ok.ensures.cases.0 c.if-source-gt-MAX_BYTES.false c.in-Ok.ensures.cases.1 c.in_err-commands.ensures.fault)

pub new-requires-2 : goal.new-requires-2
new-requires-2 c =
    ap commands_of (c.in_ok-text.ensures ∙ (c.in_ok-whole.ensures ∙ c.in-Ok.ensures.cases.0))
    ∙ commands_of-parsed c.in-Ok.text.now c.args.source.now _ c.in-Ok.ensures.cases.0 c.if-source-gt-MAX_BYTES.false c.in-Ok.ensures.cases.1 c.in_ok-commands.ensures.commands
