use Rattle.std.proofs.Common.{◌≡◌, ◌+◌, Option, Bor, map, option_map, string_bytes, subst, sym, ◌∙◌}
use Rattle.std.specs.Option.{option_copied}
use Rattle.panels_film.specs.Getters.{told as told_getter}
use Rattle.panels_film.specs.declared.pointed.Getter.{Getter}
use Rattle.panels_report.specs.Cases.{told}
use Rattle.panels_report.specs.Idle.{tell_idle, telling}
use Rattle.panels_report.proofs.Idling.{idle_told, idle_untold}
use Rattle.panels_report.proofs.idle.tell_idle.Goals as goal

pub returns-in_ok-push_problem-in-Some-case_for : goal.returns-in_ok-push_problem-in-Some-case_for
returns-in_ok-push_problem-in-Some-case_for c =
    let cases = c.args.cases.now in
    let P : Option (Bor Getter) → Type 0 = λ getter.
    telling (c.args.count + 1) (map told c.push_problem.new.cases)
    ≡ tell_idle c.args.panels.now c.args.event (option_map told_getter (option_copied getter)) (telling c.args.count (map told cases)) in
    subst P (sym c.in-Some.is)
    (idle_told c.args.panels.now c.args.event (told_getter c.in-Some.getter.now) c.args.count cases c.slot.result c.in-Some-case_for.number (string_bytes c.in_ok-words-in-Some-case_for.words)
    (map told c.push_problem.new.cases) c.if-count-ge-MOST_TOLD.false c.slot.ensures (sym c.in-Some-case_for.is ∙ c.case_for.ensures) c.in_ok-words-in-Some-case_for.ensures
    c.in_ok-push_problem-in-Some-case_for.ensures)

pub returns-in-None : goal.returns-in-None
returns-in-None c =
    let cases = c.args.cases.now in
    let P : Option (Bor Getter) → Type 0 = λ getter.
    telling c.args.count (map told cases) ≡ tell_idle c.args.panels.now c.args.event (option_map told_getter (option_copied getter)) (telling c.args.count (map told cases)) in
    subst P (sym c.in-Some.is)
    (idle_untold c.args.panels.now c.args.event (told_getter c.in-Some.getter.now) c.args.count cases c.slot.result c.if-count-ge-MOST_TOLD.false c.slot.ensures
    (sym c.in-None.is ∙ c.case_for.ensures))
