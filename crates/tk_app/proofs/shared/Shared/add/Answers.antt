use Rattle.std.proofs.Common.{◌≡◌, ◌<◌, ◌≤◌, List, [], ◌∷◌, ◌++◌, arith, sym, ap, ◌∙◌, subst, length}
use Rattle.std.proofs.lemmas.Result.{err_from_is_err_and}
use Rattle.tk_panel.specs.declared.tables.Tables.{Tables}
use Rattle.tk_panel.specs.Fresh.{fresh}
use Rattle.tk_app.specs.Part.{Part, added}
use Rattle.tk_app.specs.Turns.{Applications, IsVacantFrom, Program, parts_from}
use Rattle.tk_app.proofs.Adding.{added_kept, parts_kept, parts_more, refused_kept}
use Rattle.tk_app.proofs.Slots.{length-parts_from}
use Rattle.tk_app.proofs.Views.{on_err}
use Rattle.tk_app.proofs.shared.Shared.add.Goals as goal

pub add-requires : goal.add-requires
add-requires g c =
    let i = c.self.inside in
    let few : length i.runners.items < 16 = omega (arith, c.requires, length-parts_from 0 i.tables i.runners.items, ap (λ (h : Applications _). length h.parts) c.self.view_is) in
    c.self.invariant.1 c.len-slot.result (omega (arith, c.len-slot.ensures)) (omega (arith, c.len-slot.ensures, few))

pub invariant_of-self : goal.invariant_of-self
invariant_of-self g c =
    let i = c.self.inside in
    subst (λ (ps : List (Program _)). (length ps ≤ 16) × IsVacantFrom (length ps) i.tables) (sym c.reserve.ensures.items) c.self.invariant

pub invariant_of-self-in_err-add : goal.invariant_of-self-in_err-add
invariant_of-self-in_err-add g c =
    let i = c.self.inside in
    let few : length i.runners.items < 16 = omega (arith, c.requires, length-parts_from 0 i.tables i.runners.items, ap (λ (h : Applications _). length h.parts) c.self.view_is) in
    let at : c.len-slot.result ≡ length i.runners.items = omega (arith, c.len-slot.ensures) in
    subst (λ (ps : List (Program _)). (length ps ≤ 16) × IsVacantFrom (length ps) c.add.new.tables) (sym c.reserve.ensures.items)
    (c.self.invariant.0, refused_kept i.tables c.add.new.tables i.runners.items c.len-slot.result at few c.add.ensures.others c.in_err-add.ensures.err c.self.invariant.1)

pub returns-in_err-add-clause-unchanged : goal.returns-in_err-add-clause-unchanged
returns-in_err-add-clause-unchanged g c =
    let i = c.self.inside in
    let few : length i.runners.items < 16 = omega (arith, c.requires, length-parts_from 0 i.tables i.runners.items, ap (λ (h : Applications _). length h.parts) c.self.view_is) in
    let at : c.len-slot.result ≡ length i.runners.items = omega (arith, c.len-slot.ensures) in
    let value : Tables → List (Program _) → Applications _ = λ ts ps. record { moment = ts.clock; parts = parts_from 0 ts ps; turns = i.turns.items; refused = i.refused } in
    let same : value c.add.new.tables c.reserve.new.self.items ≡ c.args.self.now =
    ap (value c.add.new.tables) c.reserve.ensures.items
    ∙ ap (λ m. record (value c.add.new.tables i.runners.items) { moment = m }) c.add.ensures.others.clock
    ∙ ap (λ (parts : List (Part _)). record { moment = i.tables.clock; parts = parts; turns = i.turns.items; refused = i.refused }) (parts_kept i.tables c.add.new.tables i.runners.items c.len-slot.result at few c.add.ensures.others)
    ∙ c.self.view_is in
    on_err _ _ same

pub invariant_of-self-2 : goal.invariant_of-self-2
invariant_of-self-2 g c =
    let i = c.self.inside in
    let few : length i.runners.items < 16 = omega (arith, c.requires, length-parts_from 0 i.tables i.runners.items, ap (λ (h : Applications _). length h.parts) c.self.view_is) in
    let at : c.len-slot.result ≡ length i.runners.items = omega (arith, c.len-slot.ensures) in
    let runner : Program _ = c.in_ok-runner.runner in
    added_kept i.tables c.add.new.tables i.runners.items c.len-slot.result at few c.add.ensures.others c.push.new.self.items runner
    (c.in-Ok.ensures.items ∙ ap (λ (ps : List (Program _)). ps ++ runner ∷ []) c.reserve.ensures.items) c.self.invariant.1

pub returns-clause-slot : goal.returns-clause-slot
returns-clause-slot g c = omega (arith, c.len-slot.ensures, length-parts_from 0 c.self.inside.tables c.self.inside.runners.items, ap (λ (h : Applications _). length h.parts) c.self.view_is)

pub returns-clause-added : goal.returns-clause-added
returns-clause-added g c =
    let i = c.self.inside in
    let few : length i.runners.items < 16 = omega (arith, c.requires, length-parts_from 0 i.tables i.runners.items, ap (λ (h : Applications _). length h.parts) c.self.view_is) in
    let at : c.len-slot.result ≡ length i.runners.items = omega (arith, c.len-slot.ensures) in
    let runner : Program _ = c.in_ok-runner.runner in
    let new : Part _ = added (record { name = c.args.name; width = c.args.size.width; height = c.args.size.height; script = c.args.script; budget = c.args.budget; aliases = c.args.aliases }) in
    let all : c.push.new.self.items ≡ i.runners.items ++ runner ∷ [] = c.in-Ok.ensures.items ∙ ap (λ (ps : List (Program _)). ps ++ runner ∷ []) c.reserve.ensures.items in
    let value : Tables → List (Part _) → Applications _ = λ ts ps. record { moment = ts.clock; parts = ps; turns = i.turns.items; refused = i.refused } in
    ap (λ (ps : List (Program _)). value c.add.new.tables (parts_from 0 c.add.new.tables ps)) all
    ∙ ap (λ m. record (value c.add.new.tables (parts_from 0 c.add.new.tables (i.runners.items ++ runner ∷ []))) { moment = m }) c.add.ensures.others.clock
    ∙ ap (value i.tables)
    (parts_more i.tables c.add.new.tables i.runners.items c.len-slot.result at few c.add.ensures.others c.args.name c.args.script c.args.size.width c.args.size.height c.args.budget c.args.aliases runner
    (c.in_ok-add.ensures.own ∙ ap (λ n. fresh n (c.args.size.width, c.args.size.height) i.tables.clock) (c.name.ensures ∙ ap (λ (p : Program _). p.name) c.in_ok-runner.ensures)) c.in_ok-runner.ensures)
    ∙ ap (λ (h : Applications _). record h { parts = h.parts ++ new ∷ [] }) c.self.view_is

pub returns-in_err-reserve-clause-added : goal.returns-in_err-reserve-clause-added
returns-in_err-reserve-clause-added g c = let p = err_from_is_err_and c.from_residual-in_err-reserve.result c.from_residual-in_err-reserve.ensures.1 in rw p.1 tt

pub returns-in_err-reserve-clause-unchanged : goal.returns-in_err-reserve-clause-unchanged
returns-in_err-reserve-clause-unchanged g c =
    let i = c.self.inside in
    let value : List (Program _) → Applications _ = λ ps. record { moment = i.tables.clock; parts = parts_from 0 i.tables ps; turns = i.turns.items; refused = i.refused } in
    let same : value c.reserve.new.self.items ≡ c.args.self.now = ap value c.reserve.ensures.items ∙ c.self.view_is in
    on_err _ _ same

pub returns-in_err-add-clause-added : goal.returns-in_err-add-clause-added
returns-in_err-add-clause-added g c = let p = err_from_is_err_and c.from_residual-in_err-add.result c.from_residual-in_err-add.ensures.1 in rw p.1 tt
