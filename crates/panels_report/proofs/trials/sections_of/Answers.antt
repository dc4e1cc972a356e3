use Rattle.std.proofs.Common.{ℕ, List, [], ◌∷◌, ap, ◌∙◌}
use Rattle.panels.specs.Verdict.{sections_in}
use Rattle.tk_session.specs.Session.{Plan}
use Rattle.tk_session.specs.declared.session.AppBlock.{AppBlock}
use Rattle.tkhost.specs.Sections.{program_sections}
use Rattle.panels_report.specs.Trials.{asked}
use Rattle.panels_report.proofs.trials.sections_of.Goals as goal

pub returns-in-Ok : goal.returns-in-Ok
returns-in-Ok c =
    let plan : List AppBlock → ℕ → Plan = λ panels end. record { apps = panels; events = []; end = end } in
    c.in-Ok.ensures.sections ∙ ap (λ (panels : List AppBlock). sections_in (program_sections (plan panels c.in_ok-bench.bench.end))) c.in_ok-bench.ensures.panels
    ∙ ap (λ (end : ℕ). sections_in (program_sections (plan (asked c.args.script ∷ []) end))) c.in_ok-bench.ensures.end
