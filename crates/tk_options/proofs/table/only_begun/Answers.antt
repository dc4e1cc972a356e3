use Rattle.std.proofs.Common.{ℕ, List, Some, None, Err, refl, sym, ap, ◌∙◌}
use Rattle.std.specs.Option.{is_some}
use Rattle.tk_options.specs.declared.fault.OptionFault.TheVariants.{UnknownOption, Ambiguous}
use Rattle.tk_options.specs.Options.{is_begun}
use Rattle.tk_options.proofs.Only.{found_at, only_none, only_one, only_many}
use Rattle.tk_options.proofs.table.only_begun.Goals as goal

pub returns-in_default-clause-refused : goal.returns-in_default-clause-refused
returns-in_default-clause-refused c =
    let none = found_at c.args.word.now c.as_str.result.now c.args.entries.now c.place_begun.result None c.as_str.ensures.bytes c.place_begun.ensures c.in_default.is in
    λ _. only_none c.args.word.now (is_begun c.args.word.now) c.args.entries.now none
    ∙ ap (λ (w : List ℕ). Err (UnknownOption w)) (sym c.in_ok-copy.ensures.ok)

pub returns-then-is_some-clause-refused : goal.returns-then-is_some-clause-refused
returns-then-is_some-clause-refused c =
    let at = found_at c.args.word.now c.as_str.result.now c.args.entries.now c.place_begun.result (Some c.in-Some.place) c.as_str.ensures.bytes c.place_begun.ensures c.in-Some.is in
    let more = found_at c.args.word.now c.as_str-2.result.now c.split_at.result.1.now c.place_begun-2.result c.place_begun-2.result c.as_str-2.ensures.bytes c.place_begun-2.ensures refl in
    λ _. only_many c.args.word.now (is_begun c.args.word.now) c.args.entries.now c.split_at.result.1.now c.in-Some.place at c.split_at.ensures.back
    (ap is_some more ∙ sym c.is_some.ensures ∙ c.if-is_some.true)
    ∙ ap (λ (w : List ℕ). Err (Ambiguous w)) (sym c.in_ok-copy-2.ensures.ok)

pub returns-clause-ok : goal.returns-clause-ok
returns-clause-ok c =
    let at = found_at c.args.word.now c.as_str.result.now c.args.entries.now c.place_begun.result (Some c.in-Some.place) c.as_str.ensures.bytes c.place_begun.ensures c.in-Some.is in
    let more = found_at c.args.word.now c.as_str-2.result.now c.split_at.result.1.now c.place_begun-2.result c.place_begun-2.result c.as_str-2.ensures.bytes c.place_begun-2.ensures refl in
    only_one c.args.word.now (is_begun c.args.word.now) c.args.entries.now c.split_at.result.1.now c.in-Some.place c.index-entries-place.result
    at c.split_at.ensures.back c.index-entries-place.is (ap is_some more ∙ sym c.is_some.ensures ∙ c.if-is_some.false)
