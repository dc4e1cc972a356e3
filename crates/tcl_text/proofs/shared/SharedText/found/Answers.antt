use Rattle.std.proofs.Common.{◌≡◌, Ok, subst}
use Rattle.tcl_text.specs.ReadList.{IsKeptOf}
use Rattle.tcl_text.specs.Readings.{list_of}
use Rattle.tcl_text.specs.declared.shared.KeptAs.{KeptAs}
use Rattle.tcl_text.proofs.FormLemmas.{as_shown, told_kept}
use Rattle.tcl_text.proofs.shared.SharedText.found.Goals as goal

pub returns-in-Forms : goal.returns-in-Forms
returns-in-Forms c =
    let kept : list_of c.args.self.now ≡ Ok c.in-Forms.list.value = subst (λ (k : KeptAs). IsKeptOf k c.args.self.now) c.in-Forms.is c.in-Some.ensures in
    told_kept c.args.item.now c.as_ref.result.now (list_of c.args.self.now) c.has.result c.ok.result (as_shown _ _ _ kept c.as_ref.ensures) c.has.ensures c.ok.ensures.value
