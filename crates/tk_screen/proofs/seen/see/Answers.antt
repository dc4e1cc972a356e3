use Rattle.std.proofs.Common.{ℕ, List, ◌∙◌, subst}
use Rattle.std.specs.Prelude.{IfOk}
use Rattle.tk_screen.specs.declared.seen.Seen.{Seen}
use Rattle.tk_screen.specs.Reads.{IsKept, IsOneOf}
use Rattle.tk_screen.specs.Shared.{own_of}
use Rattle.tk_screen.proofs.seen.see.Goals as goal

pub returns-clause-reads : goal.returns-clause-reads
returns-clause-reads c =
    let own = own_of c.args.slot c.args.screen.now in
    subst (λ (ns : List ℕ). IfOk c.see_all.result (λ (seen : Seen). (n : ℕ) → IsOneOf n ns → IsKept own c.args.scopes.now seen.reads.entries n))
    (c.as_slice.ensures.value ∙ c.in_ok-order.ensures) c.see_all.ensures.reads
