-- What is told, by the answer.
use Rattle.std.proofs.Common.{◌≡◌, ◌≤◌, ℕ, List, [], ◌∷◌, ◌++◌, Option, Some, Result, Ok, Err, map, refl}
use Rattle.std.specs.Prelude.{slice_get}
use Rattle.tk_alias.specs.declared.service.Service.{Service}
use Rattle.tk_app.specs.Section.{section}
use Rattle.tk_host.specs.Held.{Call, held_after}
use Rattle.tk_host.specs.Refusals.{IsRefusal, RefusesSection, section_faults}
use Rattle.tk_host.specs.Sections.{sections_after}
use Rattle.tk_route.specs.Refusals.{NoneApplies}
use Rattle.tk_route.specs.declared.fault.HostFault.{HostFault}
use Rattle.tk_route.specs.declared.fault.HostFault.TheVariants.{Refused, NoMemory as no_memory}
use Rattle.tk_session.specs.Session.{IsSession, Plan}
use Rattle.tkhost.specs.Sections.{program_sections}
use Rattle.tkhost_c.specs.Calls.{Plays, TellsSection, Told, answer_by}
use Rattle.tkhost_c.specs.Keeps.{Keeps}
use Rattle.tkhost_c.specs.Refused.{refusal_of}
use Rattle.tkhost_c.specs.declared.refusal.Refusal.{Refusal}
use Rattle.tkhost_c.specs.declared.refusal.Refusal.TheVariants.{Fault, NoMemory, NoHost, HasHost, TooSmall, NotStarted}

pub section_refused : (slot : ℕ) (buffer : List ℕ) (told : ℕ) (kept : Keeps) (fault : HostFault) → IsRefusal (RefusesSection kept.host.held slot) section_faults fault
    → TellsSection slot buffer buffer told told kept kept (Err (refusal_of fault))
section_refused slot buffer told kept (Refused fault) first = (first, refl, refl, refl)
section_refused slot buffer told kept no_memory none = (refl, refl, refl)

pub section_told : (slot : ℕ) (before after : List ℕ) (was told : ℕ) (kept : Keeps) (text : List ℕ) → NoneApplies (RefusesSection kept.host.held slot) section_faults
    → slice_get (map (λ part. section part.application) kept.host.held.parts) slot ≡ Some text
    → ((calls : List (Call Service)) → kept.host.held ≡ held_after answer_by calls → slice_get (sections_after answer_by calls) slot ≡ Some text)
    → (answer : Result (Unit {0}) Refusal) → Told text before after told answer → TellsSection slot before after was told kept kept answer
section_told slot before after was told kept text none is history (Ok done) came = (none, refl, text, is, history, came)
section_told slot before after was told kept text none is history (Err TooSmall) came = (none, refl, text, is, history, came)
section_told slot before after was told kept text none is history (Err (Fault fault)) came = absurd came
section_told slot before after was told kept text none is history (Err NoMemory) came = absurd came
section_told slot before after was told kept text none is history (Err NoHost) came = absurd came
section_told slot before after was told kept text none is history (Err HasHost) came = absurd came
section_told slot before after was told kept text none is history (Err NotStarted) came = absurd came

pub played : (slice : ℕ) (input before after : List ℕ) (was told : ℕ) → 1 ≤ slice → (plan : Plan) → IsSession input plan
    → (answer : Result (Unit {0}) Refusal) → Told (program_sections plan) before after told answer → Plays slice input before after was told answer
played slice input before after was told least plan is (Ok done) came = (least, plan, is, came)
played slice input before after was told least plan is (Err TooSmall) came = (least, plan, is, came)
played slice input before after was told least plan is (Err (Fault fault)) came = absurd came
played slice input before after was told least plan is (Err NoMemory) came = absurd came
played slice input before after was told least plan is (Err NoHost) came = absurd came
played slice input before after was told least plan is (Err HasHost) came = absurd came
played slice input before after was told least plan is (Err NotStarted) came = absurd came
