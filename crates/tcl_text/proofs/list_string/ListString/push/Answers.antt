use Rattle.std.proofs.Common.{◌≡◌, ap, arith, length, rules, string_bytes, sym}
use Rattle.std.proofs.lemmas.Grind.{common_steps}
use Rattle.tcl_text.specs.ListString.{KeepsList}
use Rattle.tcl_text.proofs.AsciiMarks.{marked_grown, marked_same}
use Rattle.tcl_text.proofs.KeptGrown.{grown_items, grown_keeps, stayed_items, stayed_keeps}
use Rattle.tcl_text.proofs.KeptViews.{kept}
use Rattle.tcl_text.proofs.list_string.ListString.push.Goals as goal

pub push_kept-requires : goal.push_kept-requires
push_kept-requires c =
    let keeps : KeepsList (string_bytes c.self.inside.string) c.self.inside.ends.items c.args.self.now = kept _ _ _ _ c.self.invariant.0 c.self.view_is in
    omega (arith, ap length keeps.forms, c.requires)

pub invariant_of-self : goal.invariant_of-self
invariant_of-self c =
    let keeps : KeepsList (string_bytes c.self.inside.string) c.self.inside.ends.items c.args.self.now = kept _ _ _ _ c.self.invariant.0 c.self.view_is in
    (grown_keeps _ _ _ _ c.args.self.now c.args.more.now keeps c.requires c.in-Ok.ensures.forms c.in-Ok.ensures.places, marked_grown _ _ _ _ _ c.self.invariant.1 c.more.invariant.1 (search rules))

pub returns-in-Ok-clause-ok : goal.returns-in-Ok-clause-ok
returns-in-Ok-clause-ok c =
    let keeps : KeepsList (string_bytes c.self.inside.string) c.self.inside.ends.items c.args.self.now = kept _ _ _ _ c.self.invariant.0 c.self.view_is in
    grown_items _ _ _ c.args.self.now c.args.more.now keeps c.in-Ok.ensures.forms

pub invariant_of-self-in-Err : goal.invariant_of-self-in-Err
invariant_of-self-in-Err c =
    let keeps : KeepsList (string_bytes c.self.inside.string) c.self.inside.ends.items c.args.self.now = kept _ _ _ _ c.self.invariant.0 c.self.view_is in
    let counted : c.len-count.result ≡ length c.self.inside.ends.items = grind (arith, common_steps) in
    (stayed_keeps _ _ _ _ _ c.args.self.now c.len-count.result keeps c.in-Err.ensures.same c.in-Err.ensures.front counted c.truncate.ensures.items, marked_same _ _ _ c.self.invariant.1 (sym c.in-Err.ensures.same))

pub returns-in-Err-clause-err : goal.returns-in-Err-clause-err
returns-in-Err-clause-err c =
    let keeps : KeepsList (string_bytes c.self.inside.string) c.self.inside.ends.items c.args.self.now = kept _ _ _ _ c.self.invariant.0 c.self.view_is in
    stayed_items _ _ _ c.args.self.now keeps c.in-Err.ensures.same
