use Rattle.std.proofs.Common.{rules, ◌∙◌, sym, inl, inr, arith}
use Rattle.std.specs.Str.{chars}
use Rattle.tcl_text.proofs.CharacterLemmas.{ascii_front, ascii_back, IsEnd-past, IsEnd-boundary, IsEnd-front, IsEnd-back, at_count}
use Rattle.tcl_text.proofs.GlobLemmas.{drop_past}
use Rattle.tcl_text.proofs.characters.split_characters.Goals as goal
use Rattle.tcl_text.proofs.characters.split_characters.Goals.{else-loop-passed-test, then-loop-passed-test+in-None}

pub returns-then-is_ascii-clause-front : goal.returns-then-is_ascii-clause-front
returns-then-is_ascii-clause-front c = ascii_front _ _ _ c.if-is_ascii.ensures.cases (search rules)

pub returns-then-is_ascii-clause-back : goal.returns-then-is_ascii-clause-back
returns-then-is_ascii-clause-back c = ascii_back _ _ _ c.if-is_ascii.ensures.cases (search rules)

pub loop-passed-preserved : goal.loop-passed-preserved
loop-passed-preserved c = (
  search rules,
  IsEnd-past _ _ _ _ c.loop-passed.invariant.1 c.in-Some.ensures.bytes,
  drop_past (chars c.args.text.now) _ c.loop-passed._passed _ (sym c.loop-passed.invariant.2 ∙ c.in-Some.ensures.cut),
)

pub split_at-requires-2 : goal.split_at-requires-2
split_at-requires-2 c = IsEnd-boundary _ _ c.loop-passed.invariant.1 (search rules)

pub returns-clause-front : goal.returns-clause-front
returns-clause-front c =
    IsEnd-front _ _ _ c.args.count c.loop-passed.invariant.1 c.utf8.text (search rules) c.split_at-2.ensures.front (at_count _ _ c.loop-passed._passed c.args.count c.loop-passed.invariant.2 (omega arith) (elim c.loop-passed-test.branch [
      | else-loop-passed-test w ↦ inl (omega (arith, w.loop-passed-test.false))
      | then-loop-passed-test+in-None w ↦ inr w.in-None.ensures.cut
    ]))

pub returns-clause-back : goal.returns-clause-back
returns-clause-back c =
    IsEnd-back _ _ _ c.args.count c.loop-passed.invariant.1 c.split_at-2.ensures.back (at_count _ _ c.loop-passed._passed c.args.count c.loop-passed.invariant.2 (omega arith) (elim c.loop-passed-test.branch [
      | else-loop-passed-test w ↦ inl (omega (arith, w.loop-passed-test.false))
      | then-loop-passed-test+in-None w ↦ inr w.in-None.ensures.cut
    ]))
