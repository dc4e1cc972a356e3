use Rattle.std.proofs.Common.{◌≡◌, ℕ, ◌≤◌, List, [], ◌∷◌, length, refl, subst, arith}
use Rattle.tcl_text.specs.Answers.{Gives}
use Rattle.tk_options.specs.declared.option.OptionEntry.{OptionEntry}
use Rattle.tk_widgets.specs.Commands.{configure, configure_pairs}
use Rattle.tk_widgets.specs.Outcomes.{Wanted}
use Rattle.tk_widgets.proofs.commands.configure.Goals as goal

-- two words and more are pairs
pairs : (words : List (List ℕ)) (options : List OptionEntry) → 2 ≤ length words → configure_pairs words options ≡ configure words options
pairs [] options more = absurd (omega arith)
pairs (word ∷ []) options more = absurd (omega arith)
pairs (word ∷ value ∷ words) options more = refl

pub returns-in-len2-up : goal.returns-in-len2-up
returns-in-len2-up c =
    let P : Wanted → Type 0 = λ wanted. Gives c.set_options.result wanted in
    subst P (pairs c.args.words.now c.args.options.now c.in-len2-up.len_at_least) c.set_options.ensures
