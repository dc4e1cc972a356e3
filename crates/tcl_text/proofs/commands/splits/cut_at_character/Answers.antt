use Rattle.std.proofs.Common.{◌+◌, refl, rules, sym, ◌∙◌}
use Rattle.std.specs.Str.{chars}
use Rattle.tcl_text.specs.ListCommands.{is_one_of}
use Rattle.tcl_text.proofs.CharacterLemmas.{IsEnd-whole, IsEnd-past, IsEnd-boundary, IsEnd-front}
use Rattle.tcl_text.proofs.GlobLemmas.{drop_past}
use Rattle.tcl_text.proofs.ListLemmas.{cut-nothing_passed, cut-passed, cut-found}
use Rattle.tcl_text.proofs.commands.splits.cut_at_character.Goals as goal

pub loop-first-init : goal.loop-first-init
loop-first-init c = (search rules, IsEnd-whole _, (0, refl, cut-nothing_passed (is_one_of c.args.separators.now) (chars c.args.text.now)))

pub split_at-requires : goal.split_at-requires
split_at-requires c = IsEnd-boundary _ _ c.loop-first.invariant.1 (search rules)

pub loop-first-preserved : goal.loop-first-preserved
loop-first-preserved c =
    let test = is_one_of c.args.separators.now in
    let passed = c.loop-first.invariant.2 in (
      search rules,
      IsEnd-past _ _ _ _ c.loop-first.invariant.1 c.in-Some.ensures.bytes,
      (
        passed.0 + 1,
        drop_past (chars c.args.text.now) _ passed.0 _ (sym passed.1 ∙ c.in-Some.ensures.cut),
        cut-passed test _ (chars c.args.text.now) _ passed.0 _ _ (sym c.if-is_one_of.ensures) c.in-Some.ensures.cut passed.1 passed.2,
      ),
    )

pub returns-then-is_one_of-clause-cut : goal.returns-then-is_one_of-clause-cut
returns-then-is_one_of-clause-cut c =
    let test = is_one_of c.args.separators.now in
    let passed = c.loop-first.invariant.2 in
    cut-found test _ (chars c.args.text.now) _ passed.0 _ _ _ (sym c.if-is_one_of.ensures) c.in-Some.ensures.cut (IsEnd-front _ _ _ passed.0 c.loop-first.invariant.1 c.utf8.text (search rules) c.split_at.ensures.front passed.1) passed.2
