use Rattle.std.proofs.Common.{arith, ◌∙◌, ap, length, Some, List, ℕ}
use Rattle.std.specs.Str.{chars}
use Rattle.std.proofs.lemmas.Bool.Decides.{nat_tests}
use Rattle.tcl_text.proofs.FindLemmas.{OccursAt-boundary}
use Rattle.tcl_text.proofs.StringLemmas.{characters_before-none, characters_before-some}
use Rattle.tcl_text.proofs.commands.strings.characters_before.Goals as goal

pub returns-in_err-place : goal.returns-in_err-place
returns-in_err-place c = c.from_residual.ensures ∙ characters_before-none c.args.needle.now c.args.text.now c.in_err-place.ensures

pub split_at-requires : goal.split_at-requires
split_at-requires c = OccursAt-boundary c.args.text.now c.args.needle.now c.in_ok-place.place c.utf8.needle (grind (arith, nat_tests)) c.in_ok-place.ensures.1

pub returns : goal.returns
returns c =
    ap Some (c.count.ensures.count ∙ ap (λ (t : List ℕ). length (chars t)) c.split_at.ensures.front) ∙ characters_before-some c.args.needle.now c.args.text.now c.in_ok-place.place (λ e. grind (arith, nat_tests)) c.in_ok-place.ensures
