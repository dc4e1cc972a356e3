-- Marks that stay, that are touched, and that are put.
use Rattle.std.proofs.Common.{◌≡◌, ◌≢◌, ◌⊎◌, inl, inr, ℕ, Bool, true, false, List, [], Option, None, Some, nat_eq, refl, sym, ap, ◌∙◌, subst}
use Rattle.std.proofs.lemmas.Bool.Decides.{eqb_tells}
use Rattle.std.specs.Prelude.{Result, Ok, Err, OnOk, OnErr, IfSome}
use Rattle.tk_screen.specs.declared.screen.Screen.{Screen}
use Rattle.tk_screen.specs.Own.{Windowing}
use Rattle.tk_screen.specs.Shared.{own_of, LeavesOthers}
use Rattle.tk_screen.specs.declared.marks.Mark.{Mark}
use Rattle.tk_screen.specs.declared.marks.Marks.{Marks}
use Rattle.tk_screen.specs.Marks.{mark_of, IsPutOrNone, IsTouched, IsTouchedMark, LeavesOtherMarks}
use Rattle.tk_screen.specs.Seen.{AllMarked, IsMarked}
use Rattle.tk_tree.proofs.Lists.{some_same}

-- one application's mark is another, and the others' parts stay
pub all_marked : (slot : ℕ) (old new : Marks) (before now : Screen) → AllMarked old before → LeavesOtherMarks slot old new → LeavesOthers slot before now
    → ((mark : Mark) → mark_of slot new ≡ Some mark → IsMarked mark (own_of slot now)) → AllMarked new now
all_marked slot old new before now marked marks parts here other mark is = by (eqb_tells other slot)
  where
    by : ((nat_eq other slot ≡ true) × (other ≡ slot)) ⊎ ((nat_eq other slot ≡ false) × (other ≢ slot)) → IsMarked mark (own_of other now)
    by (inl same) = subst (λ n. IsMarked mark (own_of n now)) (sym same.1) (here mark (ap (λ n. mark_of n new) (sym same.1) ∙ is))
    by (inr apart) = subst (λ own. IsMarked mark own) (sym (parts other apart.1)) (marked other mark (sym (marks other apart.1) ∙ is))

unmarked : (slot : ℕ) (marks : Marks) (screen : Screen) → mark_of slot marks ≡ None → (mark : Mark) → mark_of slot marks ≡ Some mark → IsMarked mark (own_of slot screen)
unmarked slot marks screen gone mark is = absurd (cc)

-- a part that has no mark any longer may change
pub kept : (slot : ℕ) (old new : Marks) (before now : Screen) → AllMarked old before → mark_of slot new ≡ None → LeavesOtherMarks slot old new → LeavesOthers slot before now
    → AllMarked new now
kept slot old new before now marked gone marks parts = all_marked slot old new before now marked marks parts (unmarked slot new now gone)

-- an application's mark
pub mark_here : (slot : ℕ) (marks : Marks) (screen : Screen) → AllMarked marks screen → (found : Option Mark) → found ≡ mark_of slot marks → IfSome found (λ mark. IsMarked mark (own_of slot screen))
mark_here slot marks screen marked None is = tt
mark_here slot marks screen marked (Some mark) is = marked slot mark (sym is)

-- an application whose mark was taken is laid out, and then marked, or not
pub laid_marked : (slot : ℕ) (old gone new : Marks) (before now : Screen) (put : Option Mark) → AllMarked old before → LeavesOtherMarks slot old gone → LeavesOtherMarks slot gone new → LeavesOthers slot before now
    → IsPutOrNone put (mark_of slot new) → IfSome put (λ mark. IsMarked mark (own_of slot now)) → AllMarked new now
laid_marked slot old gone new before now put marked taken others parts is here =
    all_marked slot old new before now marked (λ other differ. others other differ ∙ taken other differ) parts (λ mark told. by mark put (subst (IsPutOrNone put) told is) here)
  where
    by : (mark : Mark) (put : Option Mark) → put ≡ Some mark → IfSome put (λ m. IsMarked m (own_of slot now)) → IsMarked mark (own_of slot now)
    by mark None same holds = absurd (cc)
    by mark (Some given) same holds = subst (λ (m : Mark). IsMarked m (own_of slot now)) (some_same given mark same) holds

pub none_put : (put new : Option Mark) → new ≡ None → IsPutOrNone put new
none_put put new none = subst (IsPutOrNone put) (sym none) tt

pub put_or_none : {T E : Type 0} (result : Result T E) (mark : Mark) (old new : Option Mark) → old ≡ None → OnOk result (new ≡ Some mark) → OnErr result (new ≡ old) → IsPutOrNone (Some mark) new
put_or_none (Ok value) mark old new none put same = subst (IsPutOrNone (Some mark)) (sym put) refl
put_or_none (Err error) mark old new none put same = none_put (Some mark) new (same ∙ none)
