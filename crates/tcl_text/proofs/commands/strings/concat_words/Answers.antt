use Rattle.tcl_text.specs.StringCommands.{concatenated}
use Rattle.tcl_text.proofs.LengthLemmas.{refused_long}
use Rattle.tcl_text.proofs.StringLemmas.{single_answer}
use Rattle.tcl_text.proofs.commands.strings.concat_words.Goals as goal

pub returns : goal.returns
returns c =
    rw c.in_ok-copy.ensures.ok (single_answer c.args.words.now c.word-item.result c.as_str.result.now c.as_str-2.result.now c.trimmed.result.now c.eq.result c.in-len1.len_at_least c.in-len1.len_below c.word-item.is
    c.as_str.ensures.bytes c.as_str-2.ensures.bytes c.as_str.ensures.short c.trimmed.ensures c.eq.ensures c.if-eq.true)

pub returns-in_default : goal.returns-in_default
returns-in_default c = refused_long c.limit_reached.result (concatenated c.args.words.now) c.in_default.ensures.none c.limit_reached.ensures
