use Rattle.std.proofs.Common.{◌≡◌, ℕ, List, ◌∷◌, Ok, sym, ap, ◌∙◌}
use Rattle.tk_options.specs.declared.settings.Setting.{Setting}
use Rattle.tk_options.specs.Options.{settings, tested}
use Rattle.tk_options.proofs.SettingLemmas.{settings_behind, settings_behind-more}
use Rattle.tk_options.proofs.table.settings_in.Goals as goal

pub loop-word-preserved : goal.loop-word-preserved
loop-word-preserved c =
    let table = c.args.table.now in
    let cut : c.loop-word.rest.now ≡ c.in-Some.word.now ∷ c.in-Some.others.now = c.in-Some.ensures.cases.0 in
    let cut_again : c.in-Some.others.now ≡ c.in-Some-split_first.value.now ∷ c.in-Some-split_first.others.now = c.in-Some-split_first.ensures.cases.0 in
    let first : tested c.in-Some.word.now c.in-Some-split_first.value.now table ≡ Ok c.in_ok-tested.field-0 = c.in_ok-tested.ensures.ok in
    ap (λ (all : List Setting). settings_behind all (settings c.in-Some-split_first.others.now table)) c.in_ok-push.ensures.items
    ∙ settings_behind-more c.loop-word.all.items c.in_ok-tested.field-0 c.in-Some.word.now c.in-Some-split_first.value.now c.in-Some-split_first.others.now table first
    ∙ ap (λ (words : List (List ℕ)). settings_behind c.loop-word.all.items (settings words table))
    (ap (λ (words : List (List ℕ)). c.in-Some.word.now ∷ words) (sym cut_again) ∙ sym cut)
    ∙ c.loop-word.invariant
