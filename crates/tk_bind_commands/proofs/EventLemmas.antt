-- A refusal of virtual events, and what is told of it.
use Rattle.std.proofs.Common.{◌≡◌, ℕ, Some, sym, ap, ◌∙◌}
use Rattle.tcl_text.specs.Answers.{Answer, fails}
use Rattle.tk_bind_commands.specs.Event.{become}
use Rattle.tk_bind_commands.specs.Steps.{IsRefusal}
use Rattle.tk_bind_commands.specs.Words.{or_virtual_fault}
use Rattle.tk_virtual.specs.declared.fault.VirtualFault.{VirtualFault}
use Rattle.tk_virtual.specs.FaultTexts.{fault_number, fault_text}

pub refusal_told : (fault : VirtualFault) (answer : Answer) (number : ℕ) → fault_number fault ≡ Some number → answer ≡ fails (fault_text fault) → IsRefusal fault answer
refusal_told fault answer number is told = λ own outcome refused.
    let given = refused (λ none. let differ = sym is ∙ ap fault_number none in absurd (cc)) in
    ap (λ (a : Answer). (own, a)) told ∙ sym (ap (λ o. become own (or_virtual_fault o)) given)
