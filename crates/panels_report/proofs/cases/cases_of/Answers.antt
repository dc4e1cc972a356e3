use Rattle.std.proofs.Common.{◌≡◌, ◌<◌, ◌+◌, List, [], ◌∷◌, length, length-append, get_or, drop, map, ap, string_bytes, ◌∙◌, arith}
use Rattle.std.proofs.lemmas.List.{at_drop_all, map-append}
use Rattle.panels_text.proofs.Turns.{drop_at}
use Rattle.panels_text.specs.Lines.{name_at}
use Rattle.tk_session.specs.declared.session.AppBlock.{AppBlock}
use Rattle.panels_report.specs.Cases.{told}
use Rattle.panels_report.proofs.Casing.{case_is, made_all, made_more}
use Rattle.panels_report.proofs.cases.cases_of.Goals as goal

pub loop-slot-preserved : goal.loop-slot-preserved
loop-slot-preserved c =
    let at = c.loop-slot in
    let read = c.args.read.now in
    let sides = read.sides.items in
    let side = c.side-item.result in
    let case = c.in_ok-case.field-0 in
    let within : at.slot < length sides = omega (arith, c.loop-slot-test.true, ap length c.deref-side-items.ensures.value) in
    let is : side ≡ get_or sides at.slot side = cc (c.side-item.is, c.deref-side-items.ensures.value) in
    record {
      count = omega (arith, ap length c.in_ok-push.ensures.items, length-append at.cases.items (case ∷ []), at.invariant.count);
      made = made_more c.args.file.now read c.args.played.now c.args.wanted.now sides at.slot (drop at.slot sides) (drop (at.slot + 1) sides) side (map told at.cases.items)
          (map told c.push.new.self.items) (told case) (drop_at sides at.slot side (within, is))
          (case_is c.args.file.now read c.args.played.now at.slot side _ _ (told case) (map string_bytes c.in_ok-problems.problems.items) c.in_ok-case.ensures.bench
          (c.in_ok-case.ensures.panel ∙ c.name_at-name.ensures ∙ ap (λ (panels : List AppBlock). name_at panels at.slot) c.as_slice.ensures.value)
          (ap (map string_bytes) c.in_ok-case.ensures.problems) c.wanted_in-wanted.ensures c.in_ok-problems.ensures)
          (ap (map told) c.in_ok-push.ensures.items ∙ map-append told _ _) at.invariant.made;
    }

pub returns-clause-told : goal.returns-clause-told
returns-clause-told c =
    let at = c.loop-slot in
    let sides = c.args.read.now.sides.items in
    made_all c.args.file.now c.args.read.now c.args.played.now c.args.wanted.now sides at.slot (drop at.slot sides) (map told at.cases.items) (map told c.push_last.new.cases.items)
    (at_drop_all (λ left. left) sides at.slot (omega (arith, c.loop-slot-test.false, ap length c.deref-side-items.ensures.value))) c.in_ok-push_last.ensures.told at.invariant.made
