use Rattle.std.proofs.Common.{ℕ, ap, ◌∙◌}
use Rattle.tk_route.proofs.LineLemmas.{holds-more, routes-told}
use Rattle.tk_route.proofs.Ranges.{IsInRange-from_not_refused}
use Rattle.tk_route.specs.Routes.{told}
use Rattle.tk_route.specs.Values.{Values}
use Rattle.tk_route.proofs.router.Router.tested_line.Goals as goal

pub returns-clause-values : goal.returns-clause-values
returns-clause-values c first earlier held =
    ap (λ (v : Values). record v { moment = c.args.moment }) c.self.view_is
    ∙ holds-more first earlier c.args.moment c.args.line c.args.self.now c.follow-routed.new.self held c.follow-routed.ensures.changed

-- the stamp has the state before the line
pub returns-clause-routes : goal.returns-clause-routes
returns-clause-routes c first earlier held =
    routes-told first earlier c.args.moment c.args.line c.args.self.now c.follow-routed.new.self _ held c.follow-routed.ensures.changed
    (c.follow-routed.ensures.told
    ∙ ap (λ (state : ℕ). told c.args.line (record { moment = c.args.moment; state = state }) c.args.self.now c.follow-routed.new.self) c.state.ensures)

pub follow-routed-requires-clause-in_range : goal.follow-routed-requires-clause-in_range
follow-routed-requires-clause-in_range c = IsInRange-from_not_refused c.args.moment c.args.line c.requires.0
