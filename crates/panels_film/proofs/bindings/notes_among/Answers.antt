use Rattle.std.proofs.Common.{ℕ, List, Bor, lit<}
use Rattle.std.proofs.lemmas.Iterator.Splits.{YieldsList-from_str_split}
use Rattle.panels_text.specs.Texts.{lines_of}
use Rattle.panels_text.proofs.Turns.{road_end, road_more}
use Rattle.panels_film.specs.Bindings.{noted}
use Rattle.panels_film.proofs.Tracing.{note_end, note_more, note_none}
use Rattle.panels_film.proofs.bindings.notes_among.Goals as goal

pub loop-line-preserved-in-Continue-1 : goal.loop-line-preserved-in-Continue-1
loop-line-preserved-in-Continue-1 c =
    note_more (λ (note : ℕ × Bor (List ℕ)). noted note.0 note.1.now) c.loop-line.notes.items c.push.new.self.items c.in-Some-note_in.note c.in-Some.line.now _ _ _
    (road_more (lines_of c.args.section.now) (YieldsList-from_str_split 10 c.args.section.now (lit< tt) (cc) (cc) (cc)) c.loop-line.yielded c.loop-line.yielded_by c.in-Some.line c.in-Some.is c.next.ensures.steps)
    c.in-Some-note_in.ensures c.in_ok-push-in-Some-note_in.ensures.items c.loop-line.invariant

pub loop-line-preserved : goal.loop-line-preserved
loop-line-preserved c =
    note_none (λ (note : ℕ × Bor (List ℕ)). noted note.0 note.1.now) c.loop-line.notes.items c.in-Some.line.now _ _ _
    (road_more (lines_of c.args.section.now) (YieldsList-from_str_split 10 c.args.section.now (lit< tt) (cc) (cc) (cc)) c.loop-line.yielded c.loop-line.yielded_by c.in-Some.line c.in-Some.is c.next.ensures.steps)
    c.in-None-note_in.ensures c.loop-line.invariant

pub returns : goal.returns
returns c =
    note_end (λ (note : ℕ × Bor (List ℕ)). noted note.0 note.1.now) c.loop-line.notes.items _ _
    (road_end (lines_of c.args.section.now) (YieldsList-from_str_split 10 c.args.section.now (lit< tt) (cc) (cc) (cc)) c.loop-line.yielded c.loop-line.yielded_by c.in-None.is c.next.ensures.steps)
    c.loop-line.invariant
