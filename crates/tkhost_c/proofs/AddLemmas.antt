-- How adding is refused, by the refusal.
use Rattle.std.proofs.Common.{◌≡◌, ℕ, List, [], ◌∷◌, ◌++◌, Result, Ok, Err, inr, sym, ap, subst}
use Rattle.tk_alias.specs.declared.service.Service.{Service}
use Rattle.tk_base.specs.declared.budget.Budget.{Budget}
use Rattle.tk_base.specs.declared.rect.Rect.{Rect}
use Rattle.tk_host.specs.Held.{Hosted, with_app}
use Rattle.tk_host.specs.Refusals.{IsRefusal, RefusesApp, add_faults}
use Rattle.tk_host.specs.Spec.{given}
use Rattle.tk_route.specs.Refusals.{NoneApplies}
use Rattle.tk_route.specs.declared.fault.HostFault.{HostFault}
use Rattle.tk_route.specs.declared.fault.HostFault.TheVariants.{Refused, NoMemory as no_memory}
use Rattle.tk_session.specs.declared.session.AppBlock.{AppBlock}
use Rattle.tkhost_c.specs.Calls.{Adds, AddsWith, IsText, ReadsApp, named_only, none_waits}
use Rattle.tkhost_c.specs.Keeps.{Keeps}
use Rattle.tkhost_c.specs.Refused.{refusal_of}
use Rattle.tkhost_c.specs.declared.refusal.Refusal.{Refusal}
use Rattle.tkhost_c.specs.declared.refusal.Refusal.TheVariants.{Fault, NoMemory, NoHost, HasHost, TooSmall, NotStarted}

-- an application of what was read
of_texts : (name : List ℕ) (rect : Rect) (script : List ℕ) (budget : Budget) (old new : Keeps) → IsText name → IsText script → (answer : Result (Unit {0}) Refusal)
    → AddsWith (named_only name rect budget) script old.waiting (none_waits old) new answer → Adds name rect script budget old new answer
of_texts name rect script budget old new named scripted (Ok done) is = (named, scripted, is.0, is.1)
of_texts name rect script budget old new named scripted (Err (Fault fault)) is = (is.1, inr (named, scripted, is.0))
of_texts name rect script budget old new named scripted (Err NoMemory) is = is
of_texts name rect script budget old new named scripted (Err NoHost) is = is
of_texts name rect script budget old new named scripted (Err HasHost) is = is
of_texts name rect script budget old new named scripted (Err TooSmall) is = is
of_texts name rect script budget old new named scripted (Err NotStarted) is = is

pub app_added : (name : List ℕ) (rect : Rect) (script : List ℕ) (budget : Budget) (old new : Keeps) (block : AppBlock) (text : List ℕ) (answer : Result (Unit {0}) Refusal)
    → ReadsApp name rect script budget (Ok (block, text)) → AddsWith block text old.waiting (none_waits old) new answer → Adds name rect script budget old new answer
app_added name rect script budget old new block text answer read added =
    of_texts name rect script budget old new read.0 read.1 answer
    (subst (λ (t : List ℕ). AddsWith (named_only name rect budget) t old.waiting (none_waits old) new answer) read.3
    (subst (λ (b : AppBlock). AddsWith b text old.waiting (none_waits old) new answer) read.2 added))

pub app_kept : (block : AppBlock) (script : List ℕ) (aliases : List (List ℕ × Service)) (old : Keeps) (host : Hosted Service) (name : List ℕ) (apps : List AppBlock)
    → name ≡ block.name → apps ≡ old.apps ++ block ∷ []
    → NoneApplies (RefusesApp old.host.held (given name block.rect script block.budget aliases)) add_faults
    → host ≡ with_app (given name block.rect script block.budget aliases) old.host
    → AddsWith block script aliases old (record { host = host; apps = apps; waiting = old.waiting }) (Ok tt)
app_kept block script aliases old host name apps named longer unless is =
    let P : List ℕ → Type 0 = λ n. NoneApplies (RefusesApp old.host.held (given n block.rect script block.budget aliases)) add_faults in
    let Q : List ℕ → Type 0 = λ n. host ≡ with_app (given n block.rect script block.budget aliases) old.host in
    let R : List AppBlock → Type 0 = λ more. AddsWith block script aliases old (record { host = host; apps = more; waiting = old.waiting }) (Ok tt) in
    subst R (sym longer) (subst P named unless, ap (λ (h : Hosted Service). record { host = h; apps = old.apps ++ block ∷ []; waiting = old.waiting }) (subst Q named is))

plainly_refused : (block : AppBlock) (script : List ℕ) (aliases : List (List ℕ × Service)) (old : Keeps) (host : Hosted Service) (fault : HostFault)
    → IsRefusal (RefusesApp old.host.held (given block.name block.rect script block.budget aliases)) add_faults fault → host ≡ old.host
    → AddsWith block script aliases old (record { host = host; apps = old.apps; waiting = old.waiting }) (Err (refusal_of fault))
plainly_refused block script aliases old host (Refused fault) first same = (first, ap (λ (h : Hosted Service). record { host = h; apps = old.apps; waiting = old.waiting }) same)
plainly_refused block script aliases old host no_memory none same = ap (λ (h : Hosted Service). record { host = h; apps = old.apps; waiting = old.waiting }) same

pub app_refused : (block : AppBlock) (script : List ℕ) (aliases : List (List ℕ × Service)) (old : Keeps) (host : Hosted Service) (name : List ℕ) (apps : List AppBlock) (fault : HostFault)
    (refusal : Refusal) → name ≡ block.name → apps ≡ old.apps → refusal ≡ refusal_of fault
    → IsRefusal (RefusesApp old.host.held (given name block.rect script block.budget aliases)) add_faults fault → host ≡ old.host
    → AddsWith block script aliases old (record { host = host; apps = apps; waiting = old.waiting }) (Err refusal)
app_refused block script aliases old host name apps fault refusal named kept is refused same =
    let P : List ℕ → Type 0 = λ n. IsRefusal (RefusesApp old.host.held (given n block.rect script block.budget aliases)) add_faults fault in
    let Q : List AppBlock → Type 0 = λ more. AddsWith block script aliases old (record { host = host; apps = more; waiting = old.waiting }) (Err refusal) in
    let R : Refusal → Type 0 = λ r. AddsWith block script aliases old (record { host = host; apps = old.apps; waiting = old.waiting }) (Err r) in
    subst Q (sym kept) (subst R (sym is) (plainly_refused block script aliases old host fault (subst P named refused) same))
