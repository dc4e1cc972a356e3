use Rattle.std.proofs.Common.{◌+◌, drop, get_or}
use Rattle.tcl_words.proofs.Steps.{escaped_itself, escaped_plain, not_ascii, is_ascii}
use Rattle.tcl_words.proofs.read.push_escape.Goals as goal

pub returns-then-not-is_ascii_behind : goal.returns-then-not-is_ascii_behind
returns-then-not-is_ascii_behind c =
    rw (c.set_mark.ensures, c.in_ok-keep_literal.ensures.ok)
    (escaped_itself c.args.parts.now c.args.source.now c.args.at c.requires.within (not_ascii c.is_ascii_behind.result (get_or (drop (c.args.at + 1) c.args.source.now) 0 0) c.is_ascii_behind.ensures.1 c.if-not-is_ascii_behind.true) c.requires.cut c.requires.behind)

pub returns : goal.returns
returns c =
    rw (c.in_ok-push_char.ensures.ok, c.in_ok-keep_literal.ensures.ok)
    (escaped_plain c.args.parts.now c.args.source.now c.args.at c.escaped_char-character.result.1 c.escaped_char-character.result.0 c.utf8.source c.requires.within
    (is_ascii c.is_ascii_behind.result (get_or (drop (c.args.at + 1) c.args.source.now) 0 0) c.is_ascii_behind.ensures.0 c.if-not-is_ascii_behind.false) c.requires.cut c.requires.behind
    c.escaped_char-character.ensures.meaning c.escaped_char-character.ensures.length c.escaped_char-character.ensures.within)
