-- What a host's call answers, as a call on what a handle keeps.
use Rattle.std.proofs.Common.{◌≡◌, ◌≢◌, Bool, true, false, List, [], ◌∷◌, ◌++◌, Result, Ok, Err, ℕ, refl, sym, ap, ◌∙◌, true≢false}
use Rattle.std.specs.Prelude.{OnOk, OnErr, IfErr}
use Rattle.tk_alias.specs.declared.service.Service.{Service}
use Rattle.tk_base.specs.declared.rect.Rect.{Rect}
use Rattle.tk_host.specs.Held.{Call, Hosted, LineAt, Start, after_line, after_start, held_after, turns_after, with_app}
use Rattle.tk_host.specs.Refusals.{IsRefusal, LeftBy, PhaseRefuses, start_faults}
use Rattle.tk_host.specs.Spec.{Given}
use Rattle.tk_host.specs.declared.phase.Phase.{Phase}
use Rattle.tk_host.specs.declared.phase.Phase.TheVariants.{Adding, Reached, Finished, Lost}
use Rattle.tk_route.specs.Lines.{Line, at, values}
use Rattle.tk_route.specs.Refusals.{NoneApplies}
use Rattle.tk_route.specs.declared.fault.HostFault.{HostFault}
use Rattle.tk_route.specs.declared.fault.HostFault.TheVariants.{Refused, NoMemory}
use Rattle.tk_route.specs.declared.fault.LineFault.{LineFault}
use Rattle.tk_route.specs.declared.line.HostLine.{HostLine}
use Rattle.tkhost_c.specs.Calls.{Follows, IsLined, RunsBegun, Starts, answer_by}
use Rattle.tkhost_c.specs.Keeps.{Keeps, is_begun}
use Rattle.tkhost_c.specs.Refused.{answered_as}

-- ---- whether a host has begun

pub begun : (phase : Phase) → true ≡ is_begun phase → phase ≢ Adding
begun phase is same = absurd (true≢false (is ∙ ap is_begun same))

pub not_begun : (phase : Phase) → false ≡ is_begun phase → phase ≡ Adding
not_begun Adding is = refl
not_begun (Reached moment) is = absurd (true≢false (sym is))
not_begun (Finished moment) is = absurd (true≢false (sym is))
not_begun Lost is = absurd (true≢false (sym is))

-- a call that may be refused leaves a host that has begun
pub begun_after : (old new : Hosted Service) (answer : Result (Unit {0}) HostFault) → true ≡ is_begun old.held.phase
    → OnOk answer (true ≡ is_begun new.held.phase) → IfErr answer (λ fault. LeftBy fault old new) → true ≡ is_begun new.held.phase
begun_after old new (Ok done) was is left = is
begun_after old new (Err (Refused fault)) was is left = was ∙ ap (λ (host : Hosted Service). is_begun host.held.phase) (sym left)
begun_after old new (Err NoMemory) was is left = ap is_begun (sym left)

-- ---- what is answered

pub runs_begun : (Applies : LineFault → Type 0) (faults : List LineFault) (call : Call Service) (Done : Hosted Service → Hosted Service → Type 0) (old : Keeps) (host : Hosted Service)
    (answer : Result (Unit {0}) HostFault) → old.host.held.phase ≢ Adding
    → OnOk answer (NoneApplies Applies faults) → IfErr answer (λ fault. IsRefusal Applies faults fault) → IfErr answer (λ fault. LeftBy fault old.host host)
    → OnOk answer (Done old.host host)
    → ((calls : List (Call Service)) → old.host.held ≡ held_after answer_by calls → OnOk answer (host.held ≡ held_after answer_by (calls ++ call ∷ [])))
    → ((calls : List (Call Service)) → old.host.held ≡ held_after answer_by calls → OnOk answer (host.turns ≡ turns_after answer_by old.host.slice calls call))
    → RunsBegun Applies faults (λ before after. Done before after × Follows call before after) old (record old { host = host }) (answered_as answer)
runs_begun Applies faults call Done old host (Ok done) may unless refused left did history turns =
    (may, (unless, (did, λ calls is. (history calls is, turns calls is)), (refl, refl)))
runs_begun Applies faults call Done old host (Err (Refused fault)) may unless refused left did history turns =
    (may, (refused, ap (λ (h : Hosted Service). record old { host = h }) left))
runs_begun Applies faults call Done old host (Err NoMemory) may unless refused left did history turns = (may, (refused, left, (refl, refl)))

pub lines_begun : (Applies : LineFault → Type 0) (faults : List LineFault) (moment : ℕ) (line : HostLine) (old : Keeps) (host : Hosted Service)
    (answer : Result (Unit {0}) HostFault) → old.host.held.phase ≢ Adding
    → OnOk answer (NoneApplies Applies faults) → IfErr answer (λ fault. IsRefusal Applies faults fault) → IfErr answer (λ fault. LeftBy fault old.host host)
    → ((first : List Rect) (earlier : List Line) → old.host.held.known ≡ values first earlier
    → OnOk answer (host ≡ after_line answer_by first earlier (at moment line) old.host))
    → ((calls : List (Call Service)) → old.host.held ≡ held_after answer_by calls → OnOk answer (host.held ≡ held_after answer_by (calls ++ LineAt moment line ∷ [])))
    → ((calls : List (Call Service)) → old.host.held ≡ held_after answer_by calls → OnOk answer (host.turns ≡ turns_after answer_by old.host.slice calls (LineAt moment line)))
    → RunsBegun Applies faults (IsLined moment line) old (record old { host = host }) (answered_as answer)
lines_begun Applies faults moment line old host (Ok done) may unless refused left did history turns =
    (may, (unless, ((λ first earlier is. did first earlier is), λ calls is. (history calls is, turns calls is)), (refl, refl)))
lines_begun Applies faults moment line old host (Err (Refused fault)) may unless refused left did history turns =
    (may, (refused, ap (λ (h : Hosted Service). record old { host = h }) left))
lines_begun Applies faults moment line old host (Err NoMemory) may unless refused left did history turns = (may, (refused, left, (refl, refl)))

pub started : (old : Keeps) (host : Hosted Service) → NoneApplies (PhaseRefuses old.host.held.phase) start_faults → host ≡ after_start answer_by old.host
    → ((calls : List (Call Service)) → old.host.held ≡ held_after answer_by calls → host.held ≡ held_after answer_by (calls ++ Start ∷ []))
    → ((calls : List (Call Service)) → old.host.held ≡ held_after answer_by calls → host.turns ≡ turns_after answer_by old.host.slice calls Start)
    → Starts old (record old { host = host }) (Ok tt)
started old host unless is history turns = (unless, (is, λ calls was. (history calls was, turns calls was)), (refl, refl))

-- adding leaves whether a host has begun
pub added_begun : (app : Given Service) (old new : Hosted Service) (answer : Result (Unit {0}) HostFault) (flag : Bool) → flag ≡ is_begun old.held.phase
    → OnOk answer (new ≡ with_app app old) → OnErr answer (new ≡ old) → flag ≡ is_begun new.held.phase
added_begun app old new (Ok done) flag was is same = was ∙ ap (λ (host : Hosted Service). is_begun host.held.phase) (sym is)
added_begun app old new (Err fault) flag was is same = was ∙ ap (λ (host : Hosted Service). is_begun host.held.phase) (sym same)
