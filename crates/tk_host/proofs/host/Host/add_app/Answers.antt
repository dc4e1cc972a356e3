use Rattle.std.proofs.lemmas.Result.{err_from_is_err_and}
use Rattle.std.proofs.Common.{◌≡◌, ◌++◌, ◌∷◌, [], ap, arith, length, sym, ◌∙◌, subst}
use Rattle.std.specs.Prelude.{Any}
use Rattle.tk_base.specs.Rect.{SharePixel}
use Rattle.tk_host.specs.declared.phase.Phase.TheVariants.{Adding}
use Rattle.tk_app.specs.Part.{added}
use Rattle.tk_app.specs.Turns.{Applications}
use Rattle.tk_host.specs.Held.{Hosted, known_by}
use Rattle.tk_host.specs.Ready.{IsReady}
use Rattle.tk_host.specs.Spec.{given, rect_of}
use Rattle.tk_host.proofs.Apart.{routed_more}
use Rattle.tk_host.proofs.History.{history_of_add, adding_if_not_refused}
use Rattle.tk_host.proofs.Kept.{added_is, ready_more}
use Rattle.tk_host.proofs.host.Host.add_app.Goals as goal

pub add-requires : goal.add-requires
add-requires g c =
    let none = c.in_ok-may_add.ensures c.args.script in
    omega (arith, none.1.1.1.1.0, ap (λ (h : Hosted _). length h.held.parts) c.self.view_is)

pub returns-in_err-may_add-clause-refused : goal.returns-in_err-may_add-clause-refused
returns-in_err-may_add-clause-refused g c =
    let p = err_from_is_err_and c.from_residual.result c.from_residual.ensures.1 in rw (p.1, p.2) (c.in_err-may_add.ensures c.args.script)

pub returns-in_err-reserve-clause-refused : goal.returns-in_err-reserve-clause-refused
returns-in_err-reserve-clause-refused g c =
    let p = err_from_is_err_and c.from_residual-in_err-reserve.result c.from_residual-in_err-reserve.ensures.1 in rw (p.1, p.2) (c.in_ok-may_add.ensures c.args.script)

pub returns-in_err-add-clause-refused : goal.returns-in_err-add-clause-refused
returns-in_err-add-clause-refused g c =
    let p = err_from_is_err_and c.from_residual-in_err-add.result c.from_residual-in_err-add.ensures.1 in rw (p.1, p.2) (c.in_ok-may_add.ensures c.args.script)

pub invariant_of-self-2 : goal.invariant_of-self-2
invariant_of-self-2 g c =
    let none = c.in_ok-may_add.ensures c.args.script in
    let app = given c.args.name c.args.rect c.args.script c.args.budget c.args.aliases in
    let inside = c.self.inside in
    let shared : Applications _ = inside.shared in
    let adding : inside.phase ≡ Adding =
    ap (λ (h : Hosted _). h.held.phase) c.self.view_is ∙ adding_if_not_refused c.args.self.now.held.phase none.0 none.1.0 none.1.1.0 in
    let rects : inside.rects.items ≡ c.args.self.now.held.known.rects =
    sym (ap (λ p. (known_by p inside.rects.items inside.router).rects) adding) ∙ ap (λ (h : Hosted _). h.held.known.rects) c.self.view_is in
    let now : c.add.new.self ≡ record shared { parts = shared.parts ++ added app.spec ∷ [] } = c.in_ok-add.ensures.added in (
      c.self.invariant.0,
      subst (λ (h : Applications _). IsReady g.M.AliasMeaning.answer inside.phase h.moment h.parts) (sym now)
          (ready_more g.M.AliasMeaning.answer inside.phase shared.moment shared.parts app.spec adding c.self.invariant.1),
      routed_more inside.phase inside.rects.items c.push.new.self.items (rect_of app) inside.router shared.parts c.add.new.self.parts (added app.spec) adding c.self.invariant.2
          (c.in-Ok.ensures.items ∙ ap (λ rects. rects ++ rect_of app ∷ []) c.in_ok-reserve.ensures.items)
          (ap (λ (h : Applications _). h.parts) now) (omega (arith, none.1.1.1.1.0, ap (λ (h : Hosted _). length h.held.parts) c.self.view_is))
          (λ any. none.1.1.1.1.1.1.0 (subst (λ rs. Any (λ other. SharePixel other (rect_of app)) rs) rects any)),
    )

pub returns-clause-added : goal.returns-clause-added
returns-clause-added g c =
    let none = c.in_ok-may_add.ensures c.args.script in
    let app = given c.args.name c.args.rect c.args.script c.args.budget c.args.aliases in
    let inside = c.self.inside in
    let adding = adding_if_not_refused c.args.self.now.held.phase none.0 none.1.0 none.1.1.0 in
    added_is g.M.AliasMeaning.answer inside.phase inside.rects.items c.push.new.self.items inside.router inside.asker inside.slice inside.shared c.add.new.self c.args.self.now app
    (ap (λ (h : Hosted _). h.held.phase) c.self.view_is ∙ adding) c.self.view_is
    (c.in-Ok.ensures.items ∙ ap (λ rects. rects ++ rect_of app ∷ []) c.in_ok-reserve.ensures.items) c.in_ok-add.ensures.added

pub returns-clause-history : goal.returns-clause-history
returns-clause-history g c = λ calls held.
    let none = c.in_ok-may_add.ensures c.args.script in
    let app = given c.args.name c.args.rect c.args.script c.args.budget c.args.aliases in
    let adding = adding_if_not_refused c.args.self.now.held.phase none.0 none.1.0 none.1.1.0 in
    history_of_add g.M.AliasMeaning.answer calls app c.args.self.now _ held adding (ap (λ (h : Hosted _). h.held) (returns-clause-added g c))
