-- An application more in the tables.
use Rattle.std.proofs.Common.{◌≡◌, ◌≢◌, ℕ, ◌+◌, ◌≤◌, ◌<◌, Bool, true, false, List, [], ◌∷◌, ◌++◌, length, refl, sym, ap, ◌∙◌, arith}
use Rattle.std.specs.Prelude.{nat_eq}
use Rattle.std.proofs.lemmas.Bool.{eqb-true, eqb-false}
use Rattle.tk_panel.specs.declared.tables.Tables.{Tables}
use Rattle.tk_panel.specs.Fresh.{fresh, nothing}
use Rattle.tk_panel.specs.Shared.{LeavesOthers, panel_of}
use Rattle.tk_panel.proofs.Others.{other_same, others_same}
use Rattle.tk_base.specs.declared.budget.Budget.{Budget}
use Rattle.tk_app.specs.Part.{added}
use Rattle.tk_app.specs.Turns.{IsVacantFrom, Program, beginning, part_of, parts_from}
use Rattle.tk_app.proofs.Slots.{push_parts, same_from}

-- the moment isn't seen in a part
fresh_part : {M : Type 0} (name : List ℕ) (size : ℕ × ℕ) (moment : ℕ) (program : Program M) → part_of (fresh name size moment) program ≡ part_of (fresh name size 0) program
unfolding fresh
fresh_part name size moment program = refl

-- the slot behind the applications that are held
module _ {M : Type 0} (old new : Tables) (programs : List (Program M)) (slot : ℕ) (at : slot ≡ length programs) (few : length programs < 16) (leaves : LeavesOthers slot old new) where
  kept : (k : ℕ) → k < 16 → k ≢ slot → panel_of k new ≡ panel_of k old
  kept k below differ = other_same slot old new (others_same slot old new leaves) k below differ

  pub parts_kept : parts_from 0 new programs ≡ parts_from 0 old programs
  parts_kept = same_from 0 old new programs (λ k q le lt. ap (λ s. part_of s q) (kept k (omega (arith, lt, few)) (λ same. omega (arith, lt, same, at))))

  -- the parts, with one more
  pub parts_more : (name script : List ℕ) (width height : ℕ) (budget : Budget) (aliases : List (List ℕ × M)) (program : Program M) → panel_of slot new ≡ fresh name (width, height) old.clock → program ≡ beginning name script budget aliases
      → parts_from 0 new (programs ++ program ∷ [])
      ≡ parts_from 0 old programs ++ added (record { name = name; width = width; height = height; script = script; budget = budget; aliases = aliases }) ∷ []
  parts_more name script width height budget aliases program has is =
      push_parts new programs program
      ∙ ap (λ parts. parts ++ part_of (panel_of (length programs) new) program ∷ []) parts_kept
      ∙ ap (λ part. parts_from 0 old programs ++ part ∷ [])
      (ap (λ k. part_of (panel_of k new) program) (sym at) ∙ ap (λ s. part_of s program) has ∙ fresh_part name (width, height) old.clock program
      ∙ ap (λ (p : Program M). part_of (fresh name (width, height) 0) p) is)

  one_more : (xs : List (Program M)) (x : Program M) → length (xs ++ x ∷ []) ≡ length xs + 1
  one_more [] x = refl
  one_more (y ∷ ys) x = let rest = one_more ys x in omega (arith, rest)

  -- what all applications keep
  pub added_kept : (all : List (Program M)) (program : Program M) → all ≡ programs ++ program ∷ [] → IsVacantFrom (length programs) old → (length all ≤ 16) × IsVacantFrom (length all) new
  added_kept all program is vacant =
      let many : length all ≡ length programs + 1 = ap (λ ps. length ps) is ∙ one_more programs program in (
        omega (arith, many, few),
        λ k from below. kept k below (λ same. omega (arith, from, many, same, at)) ∙ vacant k (omega (arith, from, many)) below ∙ ap nothing (sym leaves.clock),
      )

  -- where it was refused nothing has changed
  pub refused_kept : panel_of slot new ≡ panel_of slot old → IsVacantFrom (length programs) old → IsVacantFrom (length programs) new
  refused_kept same vacant k from below = by (nat_eq k slot) refl ∙ vacant k from below ∙ ap nothing (sym leaves.clock)
    where
      by : (b : Bool) → nat_eq k slot ≡ b → panel_of k new ≡ panel_of k old
      by true is = let here : k ≡ slot = eqb-true k slot is in ap (λ j. panel_of j new) here ∙ same ∙ ap (λ j. panel_of j old) (sym here)
      by false is = kept k below (eqb-false k slot is)
