-- What scripts see of a panel that has changed, at the same moment.
use Rattle.std.proofs.Common.{◌≡◌, ℕ, List, ap, ◌∙◌}
use Rattle.std.specs.Borrow.{GName}
use Rattle.tcl_vars.specs.Store.{Store}
use Rattle.tcl_interp.specs.declared.tasks.Act.{Act}
use Rattle.tcl_interp.specs.Outside.{Told}
use Rattle.tcl_interp.specs.declared.job.Task.{Task}
use Rattle.tk_panel.specs.declared.job.Job.{Job}
use Rattle.tk_panel.specs.declared.tables.Tables.{Tables}
use Rattle.tk_panel.specs.Others.{LeftAlone, left_of}
use Rattle.tk_panel.specs.Panel.{Panel}
use Rattle.tk_panel.specs.Shared.{LeavesOthers, panel_of}
use Rattle.tk_panel.proofs.Others.{left_same}
use Rattle.tk_app.specs.Outside.{Does, by_panel, of_panel}
use Rattle.tk_app.specs.Seen.{Meaning, Seen, meanings}

-- what a call leaves alone of a view
pub view_left : {M : Type 0} {slot : ℕ} {name : GName} {old new : Tables} {aliases : List (List ℕ × M)} → LeavesOthers slot old new
    → ◌≡◌ {A = LeftAlone × List (List ℕ × M)} (left_of slot name new, aliases) (left_of slot name old, aliases)
view_left {slot = slot} {name = name} {old = old} {new = new} {aliases = aliases} others = ap (λ left. (left, aliases)) (left_same slot name old new others)

-- what scripts see of the tables of an application with these aliases
abbrev pub seen_at : {M : Type 0} → (M → Meaning) → List (List ℕ × M) → ℕ → Tables → Seen
seen_at answer aliases slot tables = record { serves = meanings answer aliases; panel = panel_of slot tables }

pub panel_shown : {T : Type 0} (seen : Seen) (there : Panel × T) {new : Panel} {x : T} → new.moment ≡ seen.panel.moment → ◌≡◌ {A = Panel × T} (new, x) there → ◌≡◌ {A = Seen × T} (record seen { panel = new }, x) (of_panel seen there)
panel_shown {T} seen there {new} {x} moment is =
    let shown : ℕ → Seen × T = λ m. (record seen { panel = record new { moment = m } }, x) in
    ap shown moment ∙ ap (λ (p : Panel × T). of_panel seen p) is

pub told_shown : (seen : Seen) (new : Panel) (store : Store) (act : Act (Task Job)) (told : Told Panel (Task Job)) → new.moment ≡ seen.panel.moment → ◌≡◌ {A = Told Panel (Task Job)} (record { shows = new; store = store; act = act }) told
    → ◌≡◌ {A = Does} (record { shows = record seen { panel = new }; store = store; act = act }) (by_panel seen told)
told_shown seen new store act told moment is =
    let shown : ℕ → Does = λ m. record { shows = record seen { panel = record new { moment = m } }; store = store; act = act } in
    ap shown moment ∙ ap (λ (t : Told Panel (Task Job)). by_panel seen t) is
