use Rattle.std.proofs.Common.{◌≡◌, ◌∷◌, ◌++◌, [], List, subst}
use Rattle.tk_alias.specs.Services.{answer_of}
use Rattle.tk_alias.specs.declared.service.Service.{Service as ServiceOf}
use Rattle.tk_host.specs.Held.{Start, held_after}
use Rattle.tkhost.specs.Calls.{adding}
use Rattle.panels.proofs.live.live_panels.Goals as goal

pub returns : goal.returns
returns c =
    subst (λ (lists : List _). c.in_ok-started.field-0.held ≡ held_after {M = ServiceOf} (λ service. answer_of service.kind service.config) (adding c.args.session.now.apps lists ++ Start ∷ []))
    c.in_ok-aliases.ensures.services c.in_ok-started.ensures.host
