use Rattle.std.proofs.Common.{◌+◌, ◌≤◌, length, arith}
use Rattle.tcl_words.proofs.Readers.{popped_as, ending_as}
use Rattle.tcl_words.proofs.nesting.Reader.end_within.Goals as goal

pub overflow_add-at : goal.overflow_add-at
overflow_add-at c =
    let past : c.in-Some.waiting.origin.base + c.in-Some.waiting.at + 1 + c.args.self.now.next + 1 ≤ length c.args.source.now = (popped_as c.args.source.now c.args.self.now.waiting.items c.pop.new.self.items c.in-Some.waiting c.args.self.now.origin c.args.self.now.parts c.args.self.now.place c.args.self.now.next c.in-Some.ensures.items c.utf8.source c.requires.short c.requires.ending).past.0 in
    omega (arith, past, c.requires.short)

pub overflow_add-next : goal.overflow_add-next
overflow_add-next c =
    let past : c.in-Some.waiting.origin.base + c.in-Some.waiting.at + 1 + c.args.self.now.next + 1 ≤ length c.args.source.now = (popped_as c.args.source.now c.args.self.now.waiting.items c.pop.new.self.items c.in-Some.waiting c.args.self.now.origin c.args.self.now.parts c.args.self.now.place c.args.self.now.next c.in-Some.ensures.items c.utf8.source c.requires.short c.requires.ending).past.0 in
    omega (arith, past, c.requires.short)

pub overflow_add-next-2 : goal.overflow_add-next-2
overflow_add-next-2 c =
    let past : c.in-Some.waiting.origin.base + c.in-Some.waiting.at + 1 + c.args.self.now.next + 1 ≤ length c.args.source.now = (popped_as c.args.source.now c.args.self.now.waiting.items c.pop.new.self.items c.in-Some.waiting c.args.self.now.origin c.args.self.now.parts c.args.self.now.place c.args.self.now.next c.in-Some.ensures.items c.utf8.source c.requires.short c.requires.ending).past.0 in
    omega (arith, past, c.requires.short)

pub overflow_add-next-3 : goal.overflow_add-next-3
overflow_add-next-3 c =
    let past : c.in-Some.waiting.origin.base + c.in-Some.waiting.at + 1 + c.args.self.now.next + 1 ≤ length c.args.source.now = (popped_as c.args.source.now c.args.self.now.waiting.items c.pop.new.self.items c.in-Some.waiting c.args.self.now.origin c.args.self.now.parts c.args.self.now.place c.args.self.now.next c.in-Some.ensures.items c.utf8.source c.requires.short c.requires.ending).past.0 in
    omega (arith, past, c.requires.short)

pub piece_of-requires-clause-cut : goal.piece_of-requires-clause-cut
piece_of-requires-clause-cut c = (popped_as c.args.source.now c.args.self.now.waiting.items c.pop.new.self.items c.in-Some.waiting c.args.self.now.origin c.args.self.now.parts c.args.self.now.place c.args.self.now.next c.in-Some.ensures.items c.utf8.source c.requires.short c.requires.ending).waits.cut

pub piece_of-requires-clause-ends : goal.piece_of-requires-clause-ends
piece_of-requires-clause-ends c = (popped_as c.args.source.now c.args.self.now.waiting.items c.pop.new.self.items c.in-Some.waiting c.args.self.now.origin c.args.self.now.parts c.args.self.now.place c.args.self.now.next c.in-Some.ensures.items c.utf8.source c.requires.short c.requires.ending).ends

pub piece_of-requires-clause-parse : goal.piece_of-requires-clause-parse
piece_of-requires-clause-parse c = rw c.replace-inner.ensures.value (popped_as c.args.source.now c.args.self.now.waiting.items c.pop.new.self.items c.in-Some.waiting c.args.self.now.origin c.args.self.now.parts c.args.self.now.place c.args.self.now.next c.in-Some.ensures.items c.utf8.source c.requires.short c.requires.ending).parse

pub returns-clause-ok : goal.returns-clause-ok
returns-clause-ok c =
    ending_as c.args.source.now c.args.self.now.waiting.items c.pop.new.self.items c.in-Some.waiting c.args.self.now.origin c.args.self.now.parts c.args.self.now.place c.args.self.now.next c.push_piece.new.self c.replace-inner.new.dest c.in_ok-piece.piece
    c.in-Some.ensures.items c.utf8.source c.requires.short c.requires.ending c.in_ok-push_piece.ensures.ok c.replace-inner.ensures.after c.in_ok-piece.ensures.ok
