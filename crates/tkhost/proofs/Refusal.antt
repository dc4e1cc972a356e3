-- What the program tells of bytes that are no session.
use Rattle.std.proofs.Common.{◌≡◌, ℕ, List, ◌++◌, Option, Some, None, sym, ◌∙◌, ap, subst}
use Rattle.std.specs.Prelude.{IfSome}
use Rattle.std.specs.Io.KnownBytes.{Consumes, IsAtEnd}
use Rattle.std.proofs.lemmas.List.{append-nil}
use Rattle.tk_route.specs.Fault.{number_of}
use Rattle.tk_session.specs.Session.{HasFault}
use Rattle.tk_route.specs.declared.fault.LineFault.{LineFault}
use Rattle.tkhost.specs.declared.outcome.Outcome.{Outcome}
use Rattle.tkhost.specs.declared.outcome.Outcome.TheVariants.{Refused}

-- what was read to the end is all that was known
pub all_read : (known new : Option (List ℕ)) (bytes : List ℕ) (P : List ℕ → Type 0) → Consumes known new bytes → IsAtEnd new → P bytes → IfSome known P
all_read None new bytes P consumes end holds = tt
all_read (Some xs) None bytes P consumes end holds = absurd consumes
all_read (Some xs) (Some ys) bytes P consumes end holds =
    let all : xs ≡ bytes = consumes ∙ ap (λ rest. bytes ++ rest) end ∙ append-nil bytes in
    subst P (sym all) holds

number_in : Outcome → ℕ
number_in (Refused number line) = number
number_in outcome = 0

line_in : Outcome → ℕ
line_in (Refused number line) = line
line_in outcome = 0

pub told_fault : (known new : Option (List ℕ)) (bytes seen : List ℕ) (x own : LineFault) (own_number own_line told number line : ℕ) → Consumes known new bytes → IsAtEnd new → seen ≡ bytes
    → HasFault seen own told → x ≡ own → own_number ≡ number_of x → own_line ≡ told → Refused own_number own_line ≡ Refused number line
    → (fault : LineFault) × IfSome known (λ input. HasFault input fault line) × (number ≡ number_of fault)
unfolding number_in line_in
told_fault known new bytes seen x own own_number own_line told number line consumes end same fault same_fault numbered same_line is =
    let there : told ≡ line = sym same_line ∙ ap line_in is in
    let found : HasFault bytes own line = subst (λ input. HasFault input own line) same (subst (λ n. HasFault seen own n) there fault) in
    (own, all_read known new bytes (λ input. HasFault input own line) consumes end found, sym (ap number_in is) ∙ numbered ∙ ap number_of same_fault)
