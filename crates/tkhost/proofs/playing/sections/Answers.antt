use Rattle.std.proofs.Common.{◌≡◌, ◌<◌, ◌++◌, length, map, Some, sym, ◌∙◌, ap, arith}
use Rattle.std.specs.Prelude.{slice_get}
use Rattle.std.proofs.lemmas.Result.{IfErr-weaker}
use Rattle.tk_host.specs.Refusals.{RefusesSection, section_faults}
use Rattle.tkhost.proofs.Adds.{only_memory}
use Rattle.tkhost.proofs.Told.{next_section, none_refuses_section, section_of}
use Rattle.tkhost.proofs.playing.sections.Goals as goal

pub unless_memory-requires : goal.unless_memory-requires
unless_memory-requires g c =
    let slot = c.loop-slot.slot in
    let held = c.args.host.now.held in
    let within : slot < length held.parts = omega (arith, c.loop-slot-test.true, c.requires.count) in
    IfErr-weaker c.section.result _ _
    (λ fault is. only_memory (RefusesSection held slot) section_faults fault (none_refuses_section held slot c.requires.whole within) is) c.section.ensures.refused

pub loop-slot-preserved : goal.loop-slot-preserved
loop-slot-preserved g c =
    let slot = c.loop-slot.slot in
    let parts = c.args.host.now.held.parts in
    let told : slice_get (map section_of parts) slot ≡ Some c.in_ok-section.section.items = rw c.in_ok-section.ensures.ok at c.section.ensures.section in
    c.in_ok-extend_from_slice.ensures.items
    ∙ ap (λ bytes. c.loop-slot.text.items ++ bytes) c.as_slice.ensures.value
    ∙ ap (λ text. text ++ c.in_ok-section.section.items) c.loop-slot.invariant
    ∙ sym (next_section parts slot c.in_ok-section.section.items told)
