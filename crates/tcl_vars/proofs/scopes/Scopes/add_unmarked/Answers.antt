-- The store takes the sum that its frame takes.
use Rattle.std.proofs.Common.{◌≡◌, length, [], List, ℕ, MatchOption, set, ap, ◌∙◌, subst, arith}
use Rattle.std.proofs.lemmas.Int.{to_z-of_z}
use Rattle.std.proofs.lemmas.List.{get_or_default}
use Rattle.std.specs.Int.{w64}
use Rattle.std.specs.Prelude.{ℤ}
use Rattle.tcl_vars.specs.Add.{Adds, AddsText}
use Rattle.tcl_vars.specs.Store.{Frame, frame_at}
use Rattle.tcl_vars.proofs.AddLemmas.{sound_added, store_added}
use Rattle.tcl_vars.proofs.scopes.Scopes.add_unmarked.Goals as goal
use Rattle.tcl_vars.proofs.scopes.Scopes.add_unmarked.Goals.{In_ok-sum}

-- the frame takes the sum at the name
frame_takes : (c : In_ok-sum) → MatchOption c.in_ok-sum.sum (c.add.new.frame ≡ frame_at c.self.inside.frames.items c.args.frame)
    (λ text. AddsText (frame_at c.self.inside.frames.items c.args.frame) c.args.name.now c.args.amount text c.add.new.frame)
frame_takes c =
    let held = c.index_mut-variables.result.now in
    let new = c.add.new.frame in
    let amounts : MatchOption c.in_ok-sum.sum (new ≡ held) (λ text. AddsText held c.as_str.result.now c.args.amount text new) =
    subst (λ (amount : ℤ). MatchOption c.in_ok-sum.sum (new ≡ held) (λ text. AddsText held c.as_str.result.now amount text new)) (to_z-of_z w64 c.args.amount c.ranges.amount) c.in_ok-sum.ensures.ok in
    let named : MatchOption c.in_ok-sum.sum (new ≡ held) (λ text. AddsText held c.args.name.now c.args.amount text new) =
    subst (λ (name : List ℕ). MatchOption c.in_ok-sum.sum (new ≡ held) (λ text. AddsText held name c.args.amount text new)) c.as_str.ensures.bytes amounts in
    subst (λ (f : Frame). MatchOption c.in_ok-sum.sum (new ≡ f) (λ text. AddsText f c.args.name.now c.args.amount text new))
    (c.index_mut-variables.ensures.value ∙ get_or_default c.self.inside.frames.items c.args.frame held [] (omega (arith, ap length c.self.view_is))) named

pub invariant_of-self-2 : goal.invariant_of-self-2
invariant_of-self-2 c =
    let items = c.self.inside.frames.items in
    sound_added items c.self.inside.count c.self.invariant c.args.frame (omega (arith, ap length c.self.view_is)) c.args.name.now c.args.amount c.add.new.frame c.in_ok-sum.sum
    (frame_takes (goal.at.invariant_of-self-2 c).In_ok-sum)

pub returns-clause-ok : goal.returns-clause-ok
returns-clause-ok c =
    let items = c.self.inside.frames.items in
    let new = c.add.new.frame in
    subst (λ s. MatchOption c.in_ok-sum.sum (set items c.args.frame new ≡ s) (λ text. Adds s c.args.frame c.args.name.now c.args.amount text (set items c.args.frame new))) c.self.view_is
    (store_added items c.self.inside.count c.self.invariant c.args.frame (omega (arith, ap length c.self.view_is)) c.args.name.now c.args.amount new c.requires.unmarked c.in_ok-sum.sum
    (frame_takes (goal.at.returns-clause-ok c).In_ok-sum))
