use Rattle.std.proofs.Common.{◌≡◌, ◌+◌, ◌<◌, ℕ, List, ◌∷◌, drop, length, Some, Ok, ap, sym, ◌∙◌, arith}
use Rattle.std.proofs.lemmas.List.{drop_more}
use Rattle.tk_dispatch.specs.Dispatch.{all_of, before, script_of}
use Rattle.std.specs.List.{filter_map}
use Rattle.tk_patterns.specs.Shared as bindings_of
use Rattle.tk_tree.specs.Shared as windows_of
use Rattle.tk_virtual.specs.Virtual.{meanings_of}
use Rattle.tk_dispatch.proofs.TagLemmas.{tag_runs, tag_passes}
use Rattle.tk_dispatch.proofs.dispatch.scripts_of.Goals.{in-Some-Ok+in_ok-push-in-Some-Ok, in-None}
use Rattle.tk_dispatch.proofs.dispatch.scripts_of.Goals as goal

pub loop-tag-preserved : goal.loop-tag-preserved
loop-tag-preserved c =
    let choice = c.args.choice.now in
    let runs = script_of (windows_of.own_of choice.owner choice.windows.now) (meanings_of choice.virtuals.now) (bindings_of.own_of choice.owner choice.bindings.now) choice.history.now choice.event.now in
    let tags : List (List ℕ) = c.args.tags.now in
    let at = c.loop-tag.tag-index in
    let inside : at < length tags = omega arith in
    let cut : drop at tags ≡ c.tag-item.result ∷ drop (at + 1) tags =
    drop_more tags at c.tag-item.result inside ∙ ap (λ (tag : List ℕ). tag ∷ drop (at + 1) tags) (sym c.tag-item.is) in
    let its : c.in_ok-script.field-0 ≡ runs c.tag-item.result = c.in_ok-script.ensures.script ∙ ap runs c.as_str.ensures.bytes in
    let next : before c.match-branch-2.scripts (all_of (filter_map runs (drop (at + 1) tags))) ≡ before c.loop-tag.scripts (all_of (filter_map runs (drop at tags))) =
    elim c.match-branch-2.branch [
      | in-Some-Ok+in_ok-push-in-Some-Ok w ↦
          let some : c.in_ok-script.field-0 ≡ Some (Ok w.in-Some-Ok.script) = cc in
          ap (λ (scripts : List (List ℕ)). before scripts (all_of (filter_map runs (drop (at + 1) tags)))) (w.scripts-is ∙ w.in_ok-push-in-Some-Ok.ensures.ok)
          ∙ tag_runs runs tags at c.tag-item.result cut c.loop-tag.scripts w.in-Some-Ok.script (sym some ∙ its)
      | in-None w ↦
          ap (λ (scripts : List (List ℕ)). before scripts (all_of (filter_map runs (drop (at + 1) tags)))) w.scripts-is
          ∙ tag_passes runs tags at c.tag-item.result cut c.loop-tag.scripts (sym w.in-None.is ∙ its)
    ] in
    record { scripts = next ∙ c.loop-tag.invariant.scripts; made = c.in_ok-script.ensures.made; chosen = c.in_ok-script.ensures.chosen }
