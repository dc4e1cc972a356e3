-- Meaning. What is written of a session: the theorem of the project stands on `sections_by`.
use Rattle.std.specs.Prelude.{◌≡◌, ℕ, List, [], ◌∷◌, map, flat_map, slice_get, Some}
use Rattle.std.specs.List.{enumerate_from}
use Rattle.tk_route.specs.Routes.{routed}
use Rattle.tk_alias.specs.Replies.{IsReply}
use Rattle.tk_alias.specs.declared.reply.AliasReply.{AliasReply}
use Rattle.tk_app.specs.Commands.{Update}
use Rattle.tk_app.specs.Dispatch.{Action}
use Rattle.tk_app.specs.Section.{section}
use Rattle.tk_app.specs.Seen.{Meaning, names_of}
use Rattle.tk_app.specs.Spec.{Spec}
use Rattle.tk_host.specs.Alone.{alone_by}
use Rattle.tk_alias.specs.Services.{answer_of}
use Rattle.tk_alias.specs.declared.service.Service.{Service}
use Rattle.tk_alias.specs.declared.service.ServiceKind.{ServiceKind}
use Rattle.tk_session.specs.declared.session.AliasLine.{AliasLine}
use Rattle.tk_session.specs.declared.session.AppBlock.{AppBlock}
use Rattle.tk_session.specs.Session.{Plan, newest_first, rects_of}

-- an alias that a service of the program answers
abbrev pub service_of : AliasLine → List ℕ × Service
service_of line = (line.name, line.service)

abbrev pub services_in : AppBlock → List (List ℕ × Service)
services_in app = map service_of app.aliases

-- Closures are made of a kind and a configuration: each may be called with any arguments, and replies what a service of these answers, or `NoMemory`.
pub record MakesServices {F : Type 0} (made : ServiceKind → List ℕ → F → Type 0) (may_call : F → Type 0) (may_reply : F → List (List ℕ) → AliasReply → Type 0) : Type 0 where
  pub callable : (kind : ServiceKind) (config : List ℕ) (code : F) → made kind config code → may_call code
  pub replies :
      (kind : ServiceKind) (config : List ℕ) (code : F) → made kind config code
      → (args : List (List ℕ)) (reply : AliasReply) → may_reply code args reply → IsReply (answer_of kind config args) reply

module _ {M : Type 0} where
  -- the lists of aliases are those of the applications: each has the names of its lines, in their order
  abbrev pub Serve : List AppBlock → List (List (List ℕ × M)) → Type 0
  Serve [] [] = Unit {0}
  Serve [] (aliases ∷ lists) = ⊥
  Serve (app ∷ apps) [] = ⊥
  Serve (app ∷ apps) (aliases ∷ lists) = (names_of aliases ≡ map (λ (line : AliasLine). line.name) app.aliases) × Serve apps lists

  -- what an application of a session is begun with: no slot, no place on the screen and no neighbour
  abbrev pub spec_of : AppBlock → List (List ℕ × M) → Spec M
  spec_of app aliases =
      record { name = app.name; width = app.rect.width; height = app.rect.height; script = app.script; budget = app.budget; aliases = aliases }

  -- what the applications are begun with, by their slots
  abbrev pub specs_of : List AppBlock → List (List (List ℕ × M)) → List (Spec M)
  specs_of [] lists = []
  specs_of (app ∷ apps) [] = []
  specs_of (app ∷ apps) (aliases ∷ lists) = spec_of app aliases ∷ specs_of apps lists

module _ {M : Type 0} (answer : M → Meaning) where
  -- by what `update` and *Settle* are
  module _ (update : Update) (settle : Action) where
    -- The section of each application of a session, in their order: that of the application by itself, with its own aliases and the events that are
    -- routed to its slot, up to the session's end.
    abbrev pub sections_in_by : Plan → List (List (List ℕ × M)) → List (List ℕ)
    sections_in_by plan lists =
        map (λ (numbered : ℕ × Spec M). section (alone_by answer update settle numbered.1 (routed (rects_of plan.apps) (newest_first plan.events) numbered.0) plan.end))
        (enumerate_from 0 (specs_of plan.apps lists))

    -- and what is written of them: these one after another, and nothing else
    abbrev pub sections_by : Plan → List (List (List ℕ × M)) → List ℕ
    sections_by plan lists = flat_map (λ bytes. bytes) (sections_in_by plan lists)

    -- Two sessions that end at the same moment, and have an application each with the same spec, be it in two places, to which the same events are
    -- routed, give it the same bytes, whatever else they say.
    abbrev pub SameBytes : Type 0
    SameBytes =
        (plan other : Plan) (lists others : List (List (List ℕ × M))) (slot other_slot : ℕ) (spec : Spec M)
        → slice_get (specs_of plan.apps lists) slot ≡ Some spec → slice_get (specs_of other.apps others) other_slot ≡ Some spec → plan.end ≡ other.end
        → routed (rects_of plan.apps) (newest_first plan.events) slot ≡ routed (rects_of other.apps) (newest_first other.events) other_slot
        → slice_get (sections_in_by plan lists) slot ≡ slice_get (sections_in_by other others) other_slot

-- what the program writes of a session, whose aliases its own services answer
abbrev pub program_sections_by : Update → Action → Plan → List ℕ
program_sections_by update settle plan =
    sections_by (λ (service : Service). answer_of service.kind service.config) update settle plan (map services_in plan.apps)
