use Rattle.std.proofs.Common.{arith, ◌∙◌, sym, ap, List, ℕ, subst}
use Rattle.std.specs.Str.{chars}
use Rattle.std.proofs.lemmas.Bool.Decides.{nat_tests}
use Rattle.tcl_text.specs.Answers.{Gives, answers}
use Rattle.std.specs.List.Sorted.{IsSorted}
use Rattle.std.specs.Ordering.{nat_cmp}
use Rattle.tcl_text.specs.ListCommands.{pieces_of}
use Rattle.tcl_text.specs.Readings.{list_form}
use Rattle.tcl_text.proofs.ListLemmas.{parts-none, parts-characters, parts-pieces}
use Rattle.tcl_text.proofs.SeparatorLemmas.{pieces-permuted}
use Rattle.tcl_text.proofs.GlobLemmas.{chars-no_bytes, bytes_left}
use Rattle.tcl_text.proofs.commands.splits.split_text.Goals as goal

pub returns-then-is_empty : goal.returns-then-is_empty
returns-then-is_empty c =
    let parts = parts-none c.args.text.now (chars c.args.separators.now) (grind (arith, nat_tests)) in
    subst (λ (items : List (List ℕ)). Gives c.list_answer.result (answers (list_form items))) (sym parts) c.list_answer.ensures

pub returns-then-is_empty-2 : goal.returns-then-is_empty-2
returns-then-is_empty-2 c =
    let parts = parts-characters c.args.text.now (chars c.args.separators.now) (λ e. grind (arith, nat_tests)) (chars-no_bytes c.args.separators.now (grind (arith, nat_tests))) in
    subst (λ (items : List (List ℕ)). Gives c.list_answer-then-is_empty-2.result (answers (list_form items))) (c.as_slice.ensures.value ∙ c.in_ok-characters.ensures ∙ sym parts) c.list_answer-then-is_empty-2.ensures

pub pieces_of-requires-clause-sorted : goal.pieces_of-requires-clause-sorted
pieces_of-requires-clause-sorted c = subst (λ (set : List ℕ). IsSorted nat_cmp set) (sym c.as_slice-2.ensures.value) c.in_ok-set.ensures.sorted

pub returns : goal.returns
returns c =
    let parts = parts-pieces c.args.text.now (chars c.args.separators.now) (λ e. grind (arith, nat_tests)) (λ e. bytes_left c.args.separators.now c.utf8.separators e (λ z. grind (arith, nat_tests))) in
    let set = ap (pieces_of c.args.text.now) c.as_slice-2.ensures.value ∙ pieces-permuted c.args.text.now (chars c.args.separators.now) c.in_ok-set.set.items c.in_ok-set.ensures.same in
    subst (λ (items : List (List ℕ)). Gives c.list_answer-2.result (answers (list_form items))) (c.as_slice-3.ensures.value ∙ c.in_ok-pieces.ensures ∙ set ∙ sym parts) c.list_answer-2.ensures
