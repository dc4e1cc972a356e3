-- Meaning. The sections of all applications, by what calls say: *sections_by*, by whatever meets the equations of `update` and *Settle*; and *sections_after*,
-- the same by what a host holds after them, whose parts are steps.
use Rattle.std.specs.Prelude.{◌≡◌, ℕ, List, map, slice_get, Some}
use Rattle.std.specs.List.{enumerate_from}
use Rattle.tk_base.specs.declared.local_event.LocalEvent.{LocalEvent}
use Rattle.tk_host.specs.declared.phase.Phase.{Phase}
use Rattle.tk_host.specs.declared.phase.Phase.TheVariants.{Adding, Reached, Finished, Lost}
use Rattle.tk_host.specs.Alone.{alone_by}
use Rattle.tk_host.specs.Spec.{Given}
use Rattle.tk_host.specs.Held.{Call, given_by, held_after, phase_after, routed_by}
use Rattle.tk_app.specs.Application.{Application, fresh}
use Rattle.tk_app.specs.Commands.{Update}
use Rattle.tk_app.specs.Dispatch.{Action}
use Rattle.tk_app.specs.Section.{section}
use Rattle.tk_app.specs.Seen.{Meaning}
use Rattle.tk_app.specs.Spec.{Spec}

module _ {M : Type 0} (answer : M → Meaning) where
  -- by what `update` and *Settle* are
  module _ (update : Update) (settle : Action) where
    -- An application by itself, in a phase: before the start as it begins, and then up to the moment. A phase that memory was refused in says nothing of it.
    abbrev pub application_by : Phase → List LocalEvent → Spec M → Application M
    application_by Adding routed spec = fresh spec
    application_by (Reached moment) routed spec = alone_by answer update settle spec routed moment
    application_by (Finished moment) routed spec = alone_by answer update settle spec routed moment
    application_by Lost routed spec = fresh spec

    -- After these calls the section of each application, by their slots: that of the application by itself, with the events that are routed to its slot.
    abbrev pub sections_by : List (Call M) → List (List ℕ)
    sections_by calls =
        map (λ (numbered : ℕ × Given M). section (application_by (phase_after Adding calls) (routed_by calls numbered.0) numbered.1.spec)) (enumerate_from 0 (given_by calls))

  -- After these calls the section of each application is that of the application by itself, up to the moment that the calls reach.
  abbrev pub sections_after : List (Call M) → List (List ℕ)
  sections_after calls = map (λ part. section part.application) (held_after answer calls).parts

  -- Two lists of calls that reach the same phase, and have an application with the same spec each in a slot of its own, be it in two places, to which the
  -- same events are routed, give it one section.
  abbrev pub EachByItself : Type 0
  EachByItself =
      (calls others : List (Call M)) (slot other_slot : ℕ) (app other : Given M) → phase_after Adding calls ≡ phase_after Adding others
      → slice_get (given_by calls) slot ≡ Some app → slice_get (given_by others) other_slot ≡ Some other → app.spec ≡ other.spec
      → routed_by calls slot ≡ routed_by others other_slot
      → slice_get (sections_after calls) slot ≡ slice_get (sections_after others) other_slot
