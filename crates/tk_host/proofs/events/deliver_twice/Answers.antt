use Rattle.std.proofs.Common.{◌<◌, ◌++◌, ◌∷◌, [], length, map, List, sym, ap, ◌∙◌, subst, append_assoc}
use Rattle.std.proofs.lemmas.List.{length-map}
use Rattle.std.proofs.lemmas.Result.{IfErr-weaker, on_ok_weaker}
use Rattle.tk_app.specs.Rounds.{turns_of}
use Rattle.tk_app.specs.Application.{Application}
use Rattle.tk_app.specs.Turns.{Applications}
use Rattle.tk_host.specs.Held.{at_rest}
use Rattle.tk_host.specs.Ready.{AllRest}
use Rattle.tk_host.specs.Turns.{after_given, applications, stages_of, steps_given, turns_given}
use Rattle.tk_host.proofs.Counts.{keeps_both}
use Rattle.tk_host.proofs.Cut.{cut_as, cut_more, handed_on}
use Rattle.tk_host.proofs.Deliveries.{after_length, after_two, apps_after, turns_joined, turns_one, turns_same}
use Rattle.tk_host.proofs.Parts.{rest_at}
use Rattle.tk_host.proofs.events.deliver_twice.Goals as goal

pub deliver_one-requires-2 : goal.deliver_one-requires-2
deliver_one-requires-2 g c =
    let first = c.in_ok-deliver_one.ensures in
    record {
      slice = c.requires.slice;
      rest = subst AllRest (sym first.parts) (rest_at g.M.AliasMeaning.answer (after_given g.M.AliasMeaning.answer 0 (c.args.first ∷ []) (applications c.args.shared.now.parts)));
      now = c.requires.also_now ∙ sym first.moment;
    }

pub returns-clause-moment : goal.returns-clause-moment
returns-clause-moment g c = on_ok_weaker c.deliver_one-2.result (λ same. same ∙ c.in_ok-deliver_one.ensures.moment) c.deliver_one-2.ensures.moment

pub returns-clause-parts : goal.returns-clause-parts
returns-clause-parts g c =
    let answer = g.M.AliasMeaning.answer in
    let apps : List (Application _) = applications c.args.shared.now.parts in
    on_ok_weaker c.deliver_one-2.result
    (λ done. done ∙ ap (λ there. map at_rest (after_given answer 0 (c.args.second ∷ []) there)) (apps_after answer c.args.first apps c.deliver_one.new.shared.parts c.in_ok-deliver_one.ensures.parts)
    ∙ ap (λ there. map at_rest there) (after_two answer 0 c.args.first c.args.second apps)) c.deliver_one-2.ensures.parts

pub returns-clause-turns : goal.returns-clause-turns
returns-clause-turns g c =
    let answer = g.M.AliasMeaning.answer in
    let old = c.args.shared.now in
    let there = c.deliver_one.new.shared in
    let one = c.in_ok-deliver_one.ensures in
    on_ok_weaker c.deliver_one-2.result
    (λ told. told ∙ turns_joined answer c.args.slice c.args.first c.args.second old there c.requires.same one.turns (apps_after answer c.args.first (applications old.parts) there.parts one.parts)) c.deliver_one-2.ensures.turns

pub returns-in_err-deliver_one-clause-cut : goal.returns-in_err-deliver_one-clause-cut
returns-in_err-deliver_one-clause-cut g c =
    let answer = g.M.AliasMeaning.answer in
    let slice = c.args.slice in
    let old = c.args.shared.now in
    let apps : List (Application _) = applications old.parts in
    let one = turns_of slice (steps_given answer 0 (c.args.first ∷ []) apps) in
    let other = turns_of slice (steps_given answer 0 (c.args.second ∷ []) (after_given answer 0 (c.args.first ∷ []) apps)) in
    let told = c.deliver_one.new.shared.turns in
    handed_on c.from_residual.result _ _ c.from_residual.ensures.1
    (cut_as slice _ ((old.turns ++ one) ++ other) (old.turns ++ turns_given answer slice (stages_of (c.args.first ∷ c.args.second ∷ [])) apps) told
    (append_assoc old.turns one other ∙ ap (λ ts. old.turns ++ ts) (sym (turns_same answer slice c.args.first c.args.second apps c.requires.same)))
    (cut_more slice _ (old.turns ++ one) other told
    (cut_as slice _ (old.turns ++ turns_given answer slice (stages_of (c.args.first ∷ [])) apps) (old.turns ++ one) told (ap (λ ts. old.turns ++ ts) (turns_one answer slice c.args.first apps))
    c.in_err-deliver_one.ensures.cut)))

pub returns-clause-cut : goal.returns-clause-cut
returns-clause-cut g c =
    let answer = g.M.AliasMeaning.answer in
    let slice = c.args.slice in
    let old = c.args.shared.now in
    let there : Applications _ = c.deliver_one.new.shared in
    let one = c.in_ok-deliver_one.ensures in
    IfErr-weaker c.deliver_one-2.result _ _
    (λ unserved cut. cut_as slice unserved.slot (there.turns ++ turns_given answer slice (stages_of (c.args.second ∷ [])) (applications there.parts))
    (old.turns ++ turns_given answer slice (stages_of (c.args.first ∷ c.args.second ∷ [])) (applications old.parts)) c.deliver_one-2.new.shared.turns
    (turns_joined answer slice c.args.first c.args.second old there c.requires.same one.turns (apps_after answer c.args.first (applications old.parts) there.parts one.parts)) cut)
    c.deliver_one-2.ensures.cut

pub returns-clause-there : goal.returns-clause-there
returns-clause-there g c =
    let answer = g.M.AliasMeaning.answer in
    let apps : List (Application _) = applications c.args.shared.now.parts in
    let first : List (Application _) = after_given answer 0 (c.args.first ∷ []) apps in
    IfErr-weaker c.deliver_one-2.result _ _
    (λ unserved there.
    subst (λ n. unserved.slot < n)
    (ap length c.in_ok-deliver_one.ensures.parts ∙ length-map first at_rest ∙ after_length answer 0 (c.args.first ∷ []) apps ∙ length-map c.args.shared.now.parts (λ part. part.application)) there)
    c.deliver_one-2.ensures.there

pub returns-in_err-deliver_one-clause-keeps : goal.returns-in_err-deliver_one-clause-keeps
returns-in_err-deliver_one-clause-keeps g c = c.in_err-deliver_one.ensures.keeps

pub returns-clause-keeps : goal.returns-clause-keeps
returns-clause-keeps g c = keeps_both c.args.shared.now c.deliver_one.new.shared c.deliver_one-2.new.shared c.in_ok-deliver_one.ensures.keeps c.deliver_one-2.ensures.keeps
