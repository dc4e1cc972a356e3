-- Facts about answers of commands.
use Rattle.std.proofs.Common.{◌≡◌, ℕ, zero, suc, ◌+◌, ◌-◌, ◌<◌, ◌≤◌, Bool, true, false, leb, cond, List, [], ◌∷◌, ◌++◌, length, map, get_or, Err, refl, ap, ◌∙◌, arith, length-append}
use Rattle.std.proofs.lemmas.Bool.Decides.{nat_tests}
use Rattle.std.specs.List.{Any}
use Rattle.tcl_text.specs.Answers.{answers, limit_text}
use Rattle.tcl_text.specs.ListForm.{others_form}
use Rattle.tcl_text.specs.Readings.{begins_comment, can_be_bare, can_be_braced, element_form, list_form, with_backslashes}
use Rattle.tcl_text.proofs.AnswerLemmas.{answers_beyond}
use Rattle.tcl_text.proofs.ListFormLemmas.{list_form-cons}
use Rattle.tk_widgets.specs.declared.entry.Entry.{Entry}
use Rattle.tk_options.specs.declared.option.OptionEntry.{OptionEntry}
use Rattle.tk_options.specs.Options.{description, IsTooLong}
use Rattle.tk_widgets.specs.declared.outcome.WidgetChange.TheVariants.{Edit}
use Rattle.tk_widgets.specs.Items.{texts}
use Rattle.tk_widgets.specs.Listboxes.{ListboxState}
use Rattle.tk_widgets.specs.Commands.{is_within}
use Rattle.tk_widgets.specs.Outcomes.{change, edit}

-- ---- limits

pub edit_within : (edited : Entry) → length edited.text ≤ 65536 → edit edited ≡ change (Edit edited)
unfolding edit
edit_within edited h = let e : leb (length edited.text) 65536 ≡ true = grind (arith, nat_tests) in rw e refl

pub edit_beyond : (edited : Entry) → 65536 < length edited.text → edit edited ≡ Err limit_text
unfolding edit
edit_beyond edited h = let e : leb (length edited.text) 65536 ≡ false = grind (arith, nat_tests) in rw e refl

pub ruleset edits = (edit_within, edit_beyond)

pub listed_within : (listbox : ListboxState) → length (list_form (texts listbox.items)) ≤ 65536 → is_within listbox ≡ true
unfolding is_within
listed_within listbox h = grind (arith, nat_tests)

pub listed_beyond : (listbox : ListboxState) → 65536 < length (list_form (texts listbox.items)) → is_within listbox ≡ false
unfolding is_within
listed_beyond listbox h = grind (arith, nat_tests)

pub ruleset lists_within = (listed_within, listed_beyond)

-- ---- a list is at least as long as each of its items

backslashes_long : (item : List ℕ) → length item ≤ length (with_backslashes item)
backslashes_long [] = omega arith
backslashes_long (c ∷ cs) = grind (arith, backslashes_long cs)

element_long : (item : List ℕ) → length item ≤ length (element_form item)
element_long [] = omega arith
element_long (c ∷ cs) = by (can_be_bare (c ∷ cs)) (can_be_braced (c ∷ cs)) (begins_comment (c ∷ cs))
  where
    by : (bare braced comment : Bool)
        → length (c ∷ cs) ≤ length (cond bare (c ∷ cs) (cond braced (123 ∷ ((c ∷ cs) ++ 125 ∷ [])) (cond comment (92 ∷ with_backslashes (c ∷ cs)) (with_backslashes (c ∷ cs)))))
    by true braced comment = omega arith
    by false true comment = let e = length-append (c ∷ cs) (125 ∷ []) in grind (arith)
    by false false true = let e = backslashes_long (c ∷ cs) in grind (arith)
    by false false false = backslashes_long (c ∷ cs)

length-others : (x : List ℕ) (xs : List (List ℕ)) → length (others_form (x ∷ xs)) ≡ length (element_form x) + length (others_form xs) + 1
length-others x xs = let e = length-append (element_form x) (others_form xs) in grind arith

described_long : (table : List OptionEntry) (k : ℕ) (entry : OptionEntry) → k < length table → get_or table k entry ≡ entry
    → length (description entry) < length (others_form (map description table))
described_long [] k entry lt is = absurd (omega arith)
described_long (first ∷ table) zero entry lt is =
    let same = ap (λ (e : OptionEntry). length (description e)) is in
    omega (arith, same, element_long (description first), length-others (description first) (map description table))
described_long (first ∷ table) (suc k) entry lt is =
    omega (arith, described_long table k entry (omega arith) is, length-others (description first) (map description table))

length-list_form : (xs : List (List ℕ)) → length (list_form xs) ≡ length (others_form xs) - 1
unfolding list_form
length-list_form [] = refl
length-list_form (x ∷ xs) =
    ap length (list_form-cons x xs) ∙ length-append (element_form x) (others_form xs) ∙ omega (arith, length-others x xs)

-- where one description is past the limit, so is the list of all
pub all_described : (table : List OptionEntry) → Any IsTooLong table → answers (list_form (map description table)) ≡ Err limit_text
all_described table long =
    answers_beyond (list_form (map description table))
    (omega (arith, described_long table long.0 long.1 long.2 long.3, long.4, length-list_form (map description table)))

pub ruleset long_lists = (all_described)
