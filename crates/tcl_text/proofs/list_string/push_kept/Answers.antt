use Rattle.std.proofs.Common.{ap, arith, length, string_bytes}
use Rattle.std.proofs.lemmas.Result.{err_from_is_err_and}
use Rattle.tcl_text.specs.ListString.{KeepsList}
use Rattle.tcl_text.proofs.KeptGrown.{ends_movable, forms_behind, places_behind}
use Rattle.tcl_text.proofs.KeptSteps.{front_stays}
use Rattle.tcl_text.proofs.KeptViews.{kept}
use Rattle.tcl_text.proofs.list_string.push_kept.Goals as goal

pub push_ends-requires : goal.push_ends-requires
push_ends-requires c =
    let keeps : KeepsList (string_bytes c.more.inside.string) c.more.inside.ends.items c.args.more.now = kept _ _ _ _ c.more.invariant.0 c.more.view_is in
    let behind = ap length c.as_str-behind.ensures.value in
    ends_movable _ _ c.as_slice.result.now c.args.more.now (length c.as_str-behind.result.now) keeps c.as_slice.ensures.value (omega (arith, behind, c.requires))

pub returns-clause-forms : goal.returns-clause-forms
returns-clause-forms c =
    let keeps : KeepsList (string_bytes c.more.inside.string) c.more.inside.ends.items c.args.more.now = kept _ _ _ _ c.more.invariant.0 c.more.view_is in
    forms_behind _ _ c.as_str.result.now _ _ _ keeps c.as_str.ensures.value c.in_ok-push_str.ensures.bytes

pub returns-clause-places : goal.returns-clause-places
returns-clause-places c =
    let keeps : KeepsList (string_bytes c.more.inside.string) c.more.inside.ends.items c.args.more.now = kept _ _ _ _ c.more.invariant.0 c.more.view_is in
    let behind = ap length c.as_str-behind.ensures.value in
    places_behind _ _ c.as_slice.result.now _ _ _ _ (length c.as_str-behind.result.now) keeps c.as_slice.ensures.value behind c.in_ok-push_ends.ensures.ok

pub returns-in_err-push_str-clause-front : goal.returns-in_err-push_str-clause-front
returns-in_err-push_str-clause-front c =
    let keeps : KeepsList (string_bytes c.more.inside.string) c.more.inside.ends.items c.args.more.now = kept _ _ _ _ c.more.invariant.0 c.more.view_is in
    let behind = ap length c.as_str-behind.ensures.value in
    let p = err_from_is_err_and c.from_residual-in_err-push_str.result c.from_residual-in_err-push_str.ensures.1 in
    rw p.1 (front_stays _ _ _ (places_behind _ _ c.as_slice.result.now _ _ _ _ (length c.as_str-behind.result.now) keeps c.as_slice.ensures.value behind c.in_ok-push_ends.ensures.ok))
