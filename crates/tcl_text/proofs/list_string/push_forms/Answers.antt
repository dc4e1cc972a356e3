use Rattle.std.proofs.Common.{◌<◌, ap, arith, length}
use Rattle.tcl_text.proofs.KeptSteps.{forms_done, forms_long, forms_more, places_done, places_more, pushed_as, pushed_length}
use Rattle.tcl_text.proofs.list_string.push_forms.Goals as goal

pub loop-item-preserved : goal.loop-item-preserved
loop-item-preserved c =
    let items = c.args.items.now in
    let i = c.loop-item.item-index in
    let x = c.item-item.result in
    let inside : i < length items = omega arith in
    let pushed = pushed_as _ _ _ _ c.in_ok-push_form.ensures c.as_str.ensures.bytes in
    let end_is = ap length c.as_str-end.ensures.value in
    record {
      forms = forms_more _ _ _ items i x inside c.item-item.is c.loop-item.invariant.forms pushed;
      places = places_more _ _ _ _ _ _ items i x inside c.item-item.is c.loop-item.invariant.places (pushed_length _ _ _ pushed) end_is c.in_ok-push.ensures.items;
      short = omega (arith, end_is);
    }

pub returns-then-end-gt-MAX_STRING-clause-too_long : goal.returns-then-end-gt-MAX_STRING-clause-too_long
returns-then-end-gt-MAX_STRING-clause-too_long c = λ _.
    let items = c.args.items.now in
    let i = c.loop-item.item-index in
    let inside : i < length items = omega arith in
    let pushed = pushed_as _ _ _ _ c.in_ok-push_form.ensures c.as_str.ensures.bytes in
    let end_is = ap length c.as_str-end.ensures.value in
    forms_long _ _ _ items i c.item-item.result inside c.item-item.is c.loop-item.invariant.forms pushed (omega (arith, end_is))

pub returns-clause-forms : goal.returns-clause-forms
returns-clause-forms c = forms_done _ _ c.args.items.now c.loop-item.item-index (omega arith) c.loop-item.invariant.forms

pub returns-clause-places : goal.returns-clause-places
returns-clause-places c = places_done _ _ _ c.args.items.now c.loop-item.item-index (omega arith) c.loop-item.invariant.places
