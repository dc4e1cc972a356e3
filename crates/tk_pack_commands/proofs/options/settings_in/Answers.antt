use Rattle.std.proofs.Common.{◌≡◌, ℕ, List, [], ◌∷◌, sym, ap, ◌∙◌}
use Rattle.tk_packer.specs.Shared.{own_of as packs_of}
use Rattle.tk_tree.specs.Shared.{own_of}
use Rattle.tk_pack_commands.specs.declared.settings.PackSetting.{PackSetting}
use Rattle.tk_pack_commands.specs.Options.{settings_in}
use Rattle.tk_pack_commands.proofs.StepLemmas.{items_behind, no_more, settings_behind-lacking, settings_behind-more}
use Rattle.tk_pack_commands.proofs.options.settings_in.Goals as goal

pub returns-in_default-split_first : goal.returns-in_default-split_first
returns-in_default-split_first c =
    let tree = own_of c.args.scene.owner c.args.scene.windows.now in
    let packs = packs_of c.args.scene.owner c.args.scene.packs.now in
    let cut : c.loop-name.rest.now ≡ c.in-Some.name.now ∷ c.in-Some.others.now = c.in-Some.ensures.cases.0 in
    let last : c.in-Some.others.now ≡ [] = no_more c.in-Some.others.now c.in_default-split_first.ensures.cases in
    let rest : c.loop-name.rest.now ≡ c.in-Some.name.now ∷ [] = cut ∙ ap (λ (words : List (List ℕ)). c.in-Some.name.now ∷ words) last in
    settings_behind-lacking c.loop-name.settings.items c.in-Some.name.now (settings_in c.args.words.now c.args.targets.now tree packs) c.without_value.result
    (ap (λ (words : List (List ℕ)). items_behind c.loop-name.settings.items (settings_in words c.args.targets.now tree packs)) (sym rest) ∙ c.loop-name.invariant)
    c.without_value.ensures

pub loop-name-preserved : goal.loop-name-preserved
loop-name-preserved c =
    let tree = own_of c.args.scene.owner c.args.scene.windows.now in
    let packs = packs_of c.args.scene.owner c.args.scene.packs.now in
    let targets = c.args.targets.now in
    let front : List PackSetting = c.loop-name.settings.items in
    let cut : c.loop-name.rest.now ≡ c.in-Some.name.now ∷ c.in-Some.others.now = c.in-Some.ensures.cases.0 in
    let cut_again : c.in-Some.others.now ≡ c.in-Some-split_first.value.now ∷ c.in-Some-split_first.others.now = c.in-Some-split_first.ensures.cases.0 in
    ap (λ (items : List PackSetting). items_behind items (settings_in c.in-Some-split_first.others.now targets tree packs)) c.in_ok-push.ensures.items
    ∙ settings_behind-more front c.in_ok-setting_in.field-0 c.in-Some.name.now c.in-Some-split_first.value.now c.in-Some-split_first.others.now targets tree packs c.in_ok-setting_in.ensures
    ∙ ap (λ (words : List (List ℕ)). items_behind front (settings_in words targets tree packs))
    (ap (λ (words : List (List ℕ)). c.in-Some.name.now ∷ words) (sym cut_again) ∙ sym cut)
    ∙ c.loop-name.invariant
