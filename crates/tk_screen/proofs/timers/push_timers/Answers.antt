use Rattle.std.proofs.Common.{◌≡◌, ℕ, ◌<◌, List, [], ◌++◌, length, get_or, take, ap, ◌∙◌, subst, append_assoc}
use Rattle.std.specs.Prelude.{flat_map}
use Rattle.std.specs.Option.{option_map_or}
use Rattle.tk_after.specs.Timers.{entry_with, ids}
use Rattle.tk_after.specs.Shared.{own_of}
use Rattle.tk_screen.specs.Timers.{entry_line}
use Rattle.tk_screen.proofs.Listed.{lines_more}
use Rattle.tk_screen.proofs.timers.push_timers.Goals as goal

pub loop-id-preserved : goal.loop-id-preserved
loop-id-preserved c =
    let own = own_of c.args.owner c.args.timers.now in
    let i = c.loop-id.id-index in
    let numbers = c.as_slice-id-items.result.now in
    let all : numbers ≡ ids own.entries = c.as_slice-id-items.ensures.value ∙ c.in_ok-ids.ensures.list in
    let P : List ℕ → Type 0 = λ xs. i < length xs in
    let so_far = flat_map entry_line (take i own.entries) in
    let next = lines_more entry_line own.entries own.next_number i (get_or numbers i 0) c.in_ok-ids.ensures.kept.numbered (subst P all c.loop-id-test.true) (ap (λ xs. get_or xs i 0) all) in
    c.in_ok-push_listed.ensures ∙ ap (λ o. c.loop-id.out.items ++ option_map_or entry_line o []) c.entry.ensures
    ∙ ap (λ xs. xs ++ option_map_or entry_line (entry_with (get_or numbers i 0) own.entries) []) c.loop-id.invariant
    ∙ append_assoc c.args.out.now.items so_far (option_map_or entry_line (entry_with (get_or numbers i 0) own.entries) [])
    ∙ ap (λ xs. c.args.out.now.items ++ xs) next
