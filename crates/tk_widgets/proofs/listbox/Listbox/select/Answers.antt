use Rattle.tk_widgets.proofs.Chosen.{IsKept-selected_by}
use Rattle.tk_widgets.proofs.listbox.Listbox.select.Goals as goal

pub invariant_of-self : goal.invariant_of-self
invariant_of-self c = IsKept-selected_by c.args.how _ _ _ _ c.choose_among.ensures c.self.invariant
