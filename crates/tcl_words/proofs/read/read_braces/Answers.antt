use Rattle.std.proofs.Common.{◌+◌, ◌-◌, arith, drop}
use Rattle.tcl_words.specs.Moves.{in_braces}
use Rattle.tcl_words.proofs.KindLemmas.{braces_kinds}
use Rattle.tcl_words.proofs.Steps.{braces_go_on, braces_skip, brace_escape_goes_on, closes, opens, slice_skip, brace_backslash, brace_continuation}
use Rattle.tcl_words.proofs.read.read_braces.Goals as goal

pub returns-then-depth-gt0 : goal.returns-then-depth-gt0
returns-then-depth-gt0 c =
    braces_go_on c.args.parts.now c.args.source.now c.args.depth (c.args.depth - 1) c.args.at c.args.byte c.args.kind (in_braces c.args.depth c.args.kind c.args.byte (drop (c.args.at + 1) c.args.source.now))
    c.requires.stands c.requires.fine.0 (omega (arith, c.requires.fine.1)) (rw c.in-CloseBrace.is (closes c.args.depth c.args.byte c.if-depth-gt0.true))

pub returns-in-OpenBrace : goal.returns-in-OpenBrace
returns-in-OpenBrace c =
    braces_go_on c.args.parts.now c.args.source.now c.args.depth (c.args.depth + 1) c.args.at c.args.byte c.args.kind (in_braces c.args.depth c.args.kind c.args.byte (drop (c.args.at + 1) c.args.source.now))
    c.requires.stands c.requires.fine.0 (omega (arith, c.requires.fine.1)) (opens c.args.depth c.args.byte c.args.kind (drop (c.args.at + 1) c.args.source.now) c.in-OpenBrace.is)

pub returns-in-Backslash : goal.returns-in-Backslash
returns-in-Backslash c =
    braces_skip c.args.parts.now c.args.source.now c.args.depth c.args.at c.args.byte c.one_behind.result c.args.kind (in_braces c.args.depth c.args.kind c.args.byte (drop (c.args.at + 1) c.args.source.now))
    c.requires.stands c.requires.fine.0 c.requires.fine.1 c.one_behind.ensures.length c.one_behind.ensures.within
    (slice_skip c.args.source.now c.args.at c.args.byte c.one_behind.result c.requires.stands.within c.requires.stands.byte_is c.one_behind.ensures.length)
    (brace_backslash c.args.depth c.args.byte c.args.kind (drop (c.args.at + 1) c.args.source.now) c.in-Backslash.is)

pub returns-in_ok-taken-in-Continuation : goal.returns-in_ok-taken-in-Continuation
returns-in_ok-taken-in-Continuation c =
    brace_escape_goes_on c.args.parts.now c.push_escape.new.parts c.args.source.now c.args.depth c.args.at c.in_ok-taken-in-Continuation.taken (in_braces c.args.depth c.args.kind c.args.byte (drop (c.args.at + 1) c.args.source.now))
    c.in_ok-taken-in-Continuation.ensures c.requires.fine.1 (brace_continuation c.args.depth c.args.byte c.args.kind (drop (c.args.at + 1) c.args.source.now) c.in-Continuation.is)

pub returns-in_default : goal.returns-in_default
returns-in_default c =
    braces_go_on c.args.parts.now c.args.source.now c.args.depth c.args.depth c.args.at c.args.byte c.args.kind (in_braces c.args.depth c.args.kind c.args.byte (drop (c.args.at + 1) c.args.source.now))
    c.requires.stands c.requires.fine.0 (omega (arith, c.requires.fine.1))
    (braces_kinds c.args.kind c.in_default.not-CloseBrace c.in_default.not-OpenBrace c.in_default.not-Expansion c.in_default.not-Backslash c.in_default.not-Continuation c.args.depth c.args.byte c.args.at (drop (c.args.at + 1) c.args.source.now))
