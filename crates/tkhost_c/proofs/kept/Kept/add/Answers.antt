use Rattle.std.proofs.Common.{ℕ, List, ◌∙◌, subst}
use Rattle.tk_alias.specs.declared.service.Service.{Service}
use Rattle.tkhost_c.specs.Calls.{AddsWith, none_waits}
use Rattle.tkhost_c.specs.Keeps.{Keeps}
use Rattle.tkhost_c.proofs.AddLemmas.{app_added}
use Rattle.tkhost_c.proofs.kept.Kept.add.Goals as goal

pub returns-in-Ok : goal.returns-in-Ok
returns-in-Ok c =
    let old : Keeps = record { host = c.self.inside.host; apps = c.self.inside.apps.items; waiting = c.self.inside.waiting } in
    let none = subst (λ (waiting : List (List ℕ × Service)). AddsWith c.in-Ok.block c.in-Ok.script c.replace-aliases.result (record { host = old.host; apps = old.apps; waiting = waiting }) c.add_with.new.self c.add_with.result)
    (c.replace-aliases.ensures.after ∙ c.new.ensures) c.add_with.ensures in
    let added = subst (λ (aliases : List (List ℕ × Service)). AddsWith c.in-Ok.block c.in-Ok.script aliases (none_waits old) c.add_with.new.self c.add_with.result) c.replace-aliases.ensures.value none in
    rw (← c.self.view_is)
    (app_added c.args.name.now c.args.rect c.args.script.now c.args.budget old c.add_with.new.self c.in-Ok.block c.in-Ok.script c.add_with.result c.in-Ok.ensures added)
