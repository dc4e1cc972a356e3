-- Calls on a handle that keeps something.
use Rattle.std.proofs.Common.{◌≡◌, ◌≢◌, ℕ, Option, Some, None, Result, Err, sym, ◌∙◌, subst}
use Rattle.tkhost_c.specs.Calls.{IsMade, On}
use Rattle.tkhost_c.specs.Keeps.{Keeps}
use Rattle.tkhost_c.specs.Numbers.{number_for}
use Rattle.tkhost_c.specs.declared.refusal.Refusal.{Refusal}
use Rattle.tkhost_c.specs.declared.refusal.Refusal.TheVariants.{HasHost}

pub on_kept : (Comes : Keeps → Keeps → Result (Unit {0}) Refusal → Type 0) {old new : Option Keeps} {number : ℕ} {before seen after : Keeps} {answer : Result (Unit {0}) Refusal}
    → Some before ≡ old → new ≡ Some after → number ≡ number_for answer → seen ≡ before → Comes seen after answer → On old new number Comes
on_kept Comes {old} {new} {number} {before} {seen} {after} {answer} was is told same came =
    subst (λ (o : Option Keeps). On o new number Comes) was (after, is, answer, told, subst (λ (k : Keeps). Comes k after answer) same came)

pub is_there : {old : Option Keeps} {kept : Keeps} → Some kept ≡ old → old ≢ None
is_there {old} {kept} was e = let wrong : Some kept ≡ None = was ∙ e in cc

-- a handle that had a host has it still
pub had_one : (slice : ℕ) {old new : Option Keeps} {number : ℕ} {kept : Keeps} → Some kept ≡ old → new ≡ Some kept → number ≡ number_for (Err HasHost)
    → (answer : Result (Unit {0}) Refusal) × (number ≡ number_for answer) × IsMade slice old new answer
had_one slice was is told = (Err HasHost, told, (is_there was, is ∙ was))

-- one that had none has what was made
pub had_none : (slice : ℕ) {old was new : Option Keeps} {number : ℕ} (made : Result (Unit {0}) Refusal) → None ≡ old → was ≡ None → number ≡ number_for made → IsMade slice was new made
    → (answer : Result (Unit {0}) Refusal) × (number ≡ number_for answer) × IsMade slice old new answer
had_none slice {old} {was} {new} {number} made none gone told came = (made, told, subst (λ (o : Option Keeps). IsMade slice o new made) (gone ∙ none) came)
