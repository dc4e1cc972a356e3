-- A text is one session, or has one fault.
use Rattle.std.proofs.Common.{◌≡◌, ℕ, List, Ok, Err, ◌⊎◌, inl, inr, refl, sym, ◌∙◌, ap, subst}
use Rattle.tk_route.specs.declared.fault.LineFault.{LineFault}
use Rattle.tk_session.specs.declared.stage.Stage.TheVariants as stages
use Rattle.tk_session.specs.Session.{HasFault, IsSession, Plan, lines_of}
use Rattle.tk_session.specs.Reading.{run}
use Rattle.tk_session.proofs.Complete.{run-at_fault, run-session}
use Rattle.tk_session.proofs.Sound.{Tells, Told, ok_is_err, run-tells_all, same_fault, same_plan}

-- what a text is, by what reading it comes to
sorted : (bytes : List ℕ) (told : Told) → run stages.Heading 0 (lines_of bytes) ≡ told
    → ((plan : Plan) × IsSession bytes plan) ⊎ ((fault : LineFault) × (line : ℕ) × HasFault bytes fault line)
sorted bytes (Ok plan) is = inl (plan, subst (Tells (lines_of bytes)) is (run-tells_all (lines_of bytes)))
sorted bytes (Err fault) is = inr (fault.0, fault.1, subst (Tells (lines_of bytes)) is (run-tells_all (lines_of bytes)))

pub session_or_fault_holds : (bytes : List ℕ) → ((plan : Plan) × IsSession bytes plan) ⊎ ((fault : LineFault) × (line : ℕ) × HasFault bytes fault line)
session_or_fault_holds bytes = sorted bytes (run stages.Heading 0 (lines_of bytes)) refl

pub one_session_holds : (bytes : List ℕ) (plan other : Plan) → IsSession bytes plan → IsSession bytes other → plan ≡ other
one_session_holds bytes plan other is also = same_plan plan other (sym (run-session (lines_of bytes) plan is) ∙ run-session (lines_of bytes) other also)

pub one_fault_holds : (bytes : List ℕ) (fault other : LineFault) (line other_line : ℕ) → HasFault bytes fault line → HasFault bytes other other_line
    → (fault ≡ other) × (line ≡ other_line)
one_fault_holds bytes fault other line other_line is also =
    let same : (fault, line) ≡ (other, other_line) =
    same_fault (fault, line) (other, other_line) (sym (run-at_fault (lines_of bytes) fault line is) ∙ run-at_fault (lines_of bytes) other other_line also) in
    (ap (λ (told : LineFault × ℕ). told.0) same, ap (λ (told : LineFault × ℕ). told.1) same)

pub never_both_holds : (bytes : List ℕ) (plan : Plan) (fault : LineFault) (line : ℕ) → IsSession bytes plan → ¬ HasFault bytes fault line
never_both_holds bytes plan fault line is at_fault =
    ok_is_err plan (fault, line) (sym (run-session (lines_of bytes) plan is) ∙ run-at_fault (lines_of bytes) fault line at_fault)
