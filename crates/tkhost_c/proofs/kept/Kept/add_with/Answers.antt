use Rattle.std.proofs.Common.{List, [], ◌∷◌, ◌++◌, Err, ◌∙◌, ap, subst}
use Rattle.tk_host.specs.Spec.{given}
use Rattle.tk_session.specs.declared.session.AppBlock.{AppBlock}
use Rattle.tkhost_c.specs.Calls.{AddsWith}
use Rattle.tkhost_c.specs.Keeps.{Keeps}
use Rattle.tkhost_c.proofs.AddLemmas.{app_kept, app_refused}
use Rattle.tkhost_c.proofs.Runs.{added_begun}
use Rattle.tkhost_c.proofs.kept.Kept.add_with.Goals as goal

pub invariant_of-self-2 : goal.invariant_of-self-2
invariant_of-self-2 c =
    added_begun (given c.in_ok-name.name c.args.block.rect c.args.script c.args.block.budget c.args.aliases) c.self.inside.host c.add_app.new.self c.add_app.result c.self.inside.has_begun
    c.self.invariant c.add_app.ensures.added c.add_app.ensures.unchanged

pub returns-in-Err : goal.returns-in-Err
returns-in-Err c =
    let left : Keeps = record { host = c.add_app.new.self; apps = c.reserve.new.self.items; waiting = c.self.inside.waiting } in
    subst (λ (old : Keeps). AddsWith c.args.block c.args.script c.args.aliases old left (Err c.from.result)) c.self.view_is
    (app_refused c.args.block c.args.script c.args.aliases (record { host = c.self.inside.host; apps = c.self.inside.apps.items; waiting = c.self.inside.waiting }) c.add_app.new.self c.in_ok-name.name c.reserve.new.self.items c.in-Err.fault c.from.result
    c.in_ok-name.ensures.ok c.reserve.ensures.items c.from.ensures c.in-Err.ensures.refused c.in-Err.ensures.unchanged)

pub returns : goal.returns
returns c =
    rw (← c.self.view_is)
    (app_kept c.args.block c.args.script c.args.aliases (record { host = c.self.inside.host; apps = c.self.inside.apps.items; waiting = c.self.inside.waiting }) c.add_app.new.self c.in_ok-name.name c.push.new.self.items
    c.in_ok-name.ensures.ok (c.in-Ok-push.ensures.items ∙ ap (λ (apps : List AppBlock). apps ++ c.args.block ∷ []) c.reserve.ensures.items)
    c.in-Ok.ensures.unless c.in-Ok.ensures.added)
