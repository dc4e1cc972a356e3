-- What an event makes of a part.
use Rattle.std.proofs.Common.{◌≡◌, ◌≢◌, refl, sym, ap, ◌∙◌}
use Rattle.tk_base.specs.declared.local_event.LocalEvent.{LocalEvent}
use Rattle.tk_panel.specs.Deliver.{delivered_panel}
use Rattle.tk_panel.specs.Panel.{Panel}
use Rattle.tk_app.specs.declared.state.AppState.{AppState}
use Rattle.tk_app.specs.declared.state.AppState.TheVariants.{Running, Exhausted, Closed}
use Rattle.tk_app.specs.Moments.{delivered, delivered_as, granted}
use Rattle.tk_app.specs.Part.{Part}
use Rattle.tk_app.specs.Turns.{Program, application_of, part_of}

module _ {M : Type 0} where
  -- an application that runs gets an event of its moment
  pub deliver_is : (event : LocalEvent) (old new : Panel) (before after : Program M) → before.state ≡ Running → event.moment ≡ old.moment → new ≡ delivered_panel event old
      → after ≡ record before { steps = granted before.budget before.steps } → part_of new after ≡ record (part_of old before) { application = delivered event (part_of old before).application }
  unfolding delivered
  deliver_is event old new before after runs moment took grants =
      let richer : Program M = record before { steps = granted before.budget before.steps } in
      ap (λ s. part_of s after) took ∙ ap (λ (p : Program M). part_of (delivered_panel event old) p) grants
      ∙ ap (λ m. part_of (delivered_panel event (record old { moment = m })) richer) (sym moment)
      ∙ ap (λ s. record { application = delivered_as s event (application_of old before); work = before.work }) (sym runs)

  -- and one that doesn't run gets nothing
  pub deliver_nothing : (event : LocalEvent) (part : Part M) → part.application.state ≢ Running → part ≡ record part { application = delivered event part.application }
  unfolding delivered
  deliver_nothing event part stopped = by part.application.state refl
    where
      by : (s : AppState) → part.application.state ≡ s → part ≡ record part { application = delivered_as s event part.application }
      by Running is = absurd (stopped is)
      by Exhausted is = refl
      by Closed is = refl
