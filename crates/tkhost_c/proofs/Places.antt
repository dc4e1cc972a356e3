-- The machine values of a `Place`, and what is kept in one. Assumes `Logic`.
use Rattle.std.proofs.Common.{◌≡◌, ℕ, List, [], ◌∷◌, ◌++◌, Option, Some, None, refl, ◌∙◌, lit<, take, drop, take-append-drop, subst}
use seplogic.Ra.Ura.{Ura}
use mir.Syntax.{ty_ptr, ty_struct, tcons, tnil}
use mir.Raw.{raw as bare}
use mir.Val.{Val, vstruct, vcons, vnil, of_list}
use base.Logic.{ent, emp, via, never, fst∗, snd∗}
use base.Fml.{Fml}
use types.Logic.{Logic, sem}
use types.Kit.{Item, Goal, Seq, ⋆, ⊢++, ‵, ◌$◌, feq_l}
use contract.Monad.{fact, fact_use}
use denote.RattleType.{RattleType}
use denote.Memory.{lone}
use denote.RawPtr.{Ptr, RawPtr, Testable, block_ptr, null_ptr, ptr_val, in_a_block}
use denote.Shadow.{shadow, makes_shadow}
use denote.Struct.Struct.{Struct}
use Rattle.std.specs.Box.Ownership.{box_owns}
use Rattle.std.specs.Ptr.{points_to}
use Rattle.std.specs.declared.alloc.Global.{Global}
use Rattle.std.proofs.GlobalToken.{dealloc_token-Testable}
use Rattle.std.proofs.cell.Inside.{Good}
use Rattle.tkhost_c.specs.Keeping.{frees, owns_kept}
use Rattle.tkhost_c.specs.Keeps.{Keeps}
use Rattle.tkhost_c.specs.contracts.kept.Kept.{the_row as R}

-- a struct of one pointer
abbrev plainly : List RattleType → RattleType
plainly Rs = Struct (record { name = []; args = []; types = []; fields = Rs })

abbrev pub place_val : Ptr → Val
place_val p = vstruct (vcons (ptr_val p) vnil)

abbrev pub place_own : Ptr → List Val → Fml
place_own p = (plainly (RawPtr ∷ [])).own_val (p, tt)

pub place_told : (p : Ptr) (vs : List Val) → shadow (place_own p vs) → (vs ≡ place_val p ∷ []) × Unit {0}
place_told p vs s = (s.1.0 ∙ (λ i. vstruct (of_list (s.1.1.0 i ++ [])) ∷ []), tt)

pub place_made : {M : Type 1} {𝓤 : Ura M} (𝓛 : Logic 𝓤) (p : Ptr) → ent 𝓤 (emp 𝓤) (sem 𝓛 (place_own p (place_val p ∷ [])))
place_made 𝓛 p = makes_shadow 𝓛 (place_own p (place_val p ∷ [])) (λ _. (tt, (tt, tt))) ((ptr_val p ∷ [], tt), (refl, (refl, tt)))

pub place_typed : (p : Ptr) → Good (ty_struct [] (tcons ty_ptr tnil)) (place_val p)
place_typed (block_ptr b o) = (tt, (tt, tt))
place_typed null_ptr = (tt, (record { fits = lit< tt }, tt))

module _ {M : Type 1} {𝓤 : Ura M} {𝓛 : Logic 𝓤} {K : Type 0} {Γ : List (Item 𝓤)} {G : Goal 𝓤 𝓛.H} where
  -- a fact is learned from the first n entries, which stay
  learns : K → (n : ℕ) (φ : Type 0) → ent 𝓤 (⋆ 𝓛 (take n Γ)) (fact 𝓤 φ) → (φ → Seq K 𝓛 Γ G) → Seq K 𝓛 Γ G
  learns t n φ shown k = record {
    prf = fact_use 𝓤 φ (via 𝓤 (⋆ 𝓛 (take n Γ)) (subst (λ (Δ : List (Item 𝓤)). ent 𝓤 (⋆ 𝓛 Δ) (⋆ 𝓛 (take n Γ))) (take-append-drop n Γ)
        (via 𝓤 _ (⊢++ 𝓛 (take n Γ) (drop n Γ)) (fst∗ 𝓤 (⋆ 𝓛 (take n Γ)) (⋆ 𝓛 (drop n Γ))))) shown) (λ x. (k x).prf);
  }

module _ {M : Type 1} {𝓤 : Ura M} {𝓛 : Logic 𝓤} {K : Type 0} {Γ : List (Item 𝓤)} {G : Goal 𝓤 𝓛.H} where
  -- nothing is kept at null, and what is kept is a box, whose pointer may be compared with null
  pub either : K → Global → (kept : Option Keeps) (p : Ptr) → (kept ≡ None → p ≡ null_ptr → Seq K 𝓛 Γ G)
      → ((b o : ℕ) (x : Keeps) → kept ≡ Some x → p ≡ block_ptr b o → Testable (block_ptr b o) → Seq K 𝓛 (‵ (box_owns frees R (block_ptr b o) x) ∷ Γ) G)
      → Seq K 𝓛 (‵ (owns_kept kept p) ∷ Γ) G
  either t alloc None p none one = feq_l t (λ e. none refl e)
  either t alloc (Some x) p none one =
      in_a_block t p (λ q. box_owns frees R q x) (fst∗ 𝓤 (never 𝓤) (sem 𝓛 (frees (bare (lone R.mir)) null_ptr))) (λ b o e.
      learns t 1 (Testable (block_ptr b o)) (via 𝓤 (sem 𝓛 (frees (bare (lone R.mir)) (block_ptr b o))) (snd∗ 𝓤 (sem 𝓛 (points_to R (block_ptr b o) x)) (sem 𝓛 (frees (bare (lone R.mir)) (block_ptr b o)))) (dealloc_token-Testable 𝓛 alloc (bare (lone R.mir)) (block_ptr b o)))
      (λ small. one b o x refl e small))
