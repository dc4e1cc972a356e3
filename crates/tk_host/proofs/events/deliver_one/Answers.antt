use Rattle.std.proofs.Common.{◌<◌, ◌++◌, ◌∷◌, [], length, map, sym, ap, ◌∙◌, subst}
use Rattle.std.proofs.lemmas.Result.{IfErr-weaker, on_ok_weaker}
use Rattle.tk_app.specs.Rounds.{turns_of}
use Rattle.tk_app.specs.Part.{needs, stage_done}
use Rattle.tk_app.specs.Turns.{Applications}
use Rattle.tk_host.specs.Turns.{applications, stages_of, turns_given}
use Rattle.tk_host.proofs.Counts.{given_keeps}
use Rattle.tk_host.proofs.Cut.{cut_as, cut_at_once, handed_on}
use Rattle.tk_host.proofs.Deliveries.{done_one, given_length, needs_one, rests_in, turns_one}
use Rattle.tk_host.proofs.events.deliver_one.Goals as goal

pub give-requires : goal.give-requires
give-requires g c = record { now = c.requires.now; rests = λ part is. rests_in c.args.shared.now.parts c.args.only.slot part c.requires.rest is }

pub returns-clause-moment : goal.returns-clause-moment
returns-clause-moment g c = on_ok_weaker c.stage.result (λ same. same ∙ ap (λ (h : Applications _). h.moment) c.in_ok-give.ensures.given) c.stage.ensures.moment

pub returns-clause-parts : goal.returns-clause-parts
returns-clause-parts g c =
    let answer = g.M.AliasMeaning.answer in
    let old = c.args.shared.now in
    on_ok_weaker c.stage.result
    (λ done. done ∙ ap (λ (h : Applications _). map (stage_done answer h.moment) h.parts) c.in_ok-give.ensures.given ∙ done_one answer 0 c.args.only old.moment old.parts c.requires.now c.requires.rest)
    c.stage.ensures.done

pub returns-clause-turns : goal.returns-clause-turns
returns-clause-turns g c =
    let answer = g.M.AliasMeaning.answer in
    let old = c.args.shared.now in
    on_ok_weaker c.stage.result
    (λ told. told ∙ ap (λ (h : Applications _). h.turns ++ turns_of c.args.slice (map (needs answer h.moment) h.parts)) c.in_ok-give.ensures.given
    ∙ ap (λ ns. old.turns ++ turns_of c.args.slice ns) (needs_one answer 0 c.args.only old.moment old.parts c.requires.now c.requires.rest)
    ∙ ap (λ ts. old.turns ++ ts) (sym (turns_one answer c.args.slice c.args.only (applications old.parts))))
    c.stage.ensures.turns

pub returns-in_err-give-clause-cut : goal.returns-in_err-give-clause-cut
returns-in_err-give-clause-cut g c =
    let old = c.args.shared.now in
    handed_on c.from_residual.result _ _ c.from_residual.ensures.1
    (cut_at_once c.args.slice _ old.turns (turns_given g.M.AliasMeaning.answer c.args.slice (stages_of (c.args.only ∷ [])) (applications old.parts)) c.give.new.shared.turns c.in_err-give.ensures.turns)

pub returns-clause-cut : goal.returns-clause-cut
returns-clause-cut g c =
    let answer = g.M.AliasMeaning.answer in
    let old = c.args.shared.now in
    let mid : Applications _ = c.give.new.shared in
    IfErr-weaker c.stage.result _ _
    (λ unserved cut. cut_as c.args.slice unserved.slot (mid.turns ++ turns_of c.args.slice (map (needs answer mid.moment) mid.parts))
    (old.turns ++ turns_given answer c.args.slice (stages_of (c.args.only ∷ [])) (applications old.parts)) c.stage.new.shared.turns
    (ap (λ (h : Applications _). h.turns ++ turns_of c.args.slice (map (needs answer h.moment) h.parts)) c.in_ok-give.ensures.given
    ∙ ap (λ ns. old.turns ++ turns_of c.args.slice ns) (needs_one answer 0 c.args.only old.moment old.parts c.requires.now c.requires.rest)
    ∙ ap (λ ts. old.turns ++ ts) (sym (turns_one answer c.args.slice c.args.only (applications old.parts)))) cut)
    c.stage.ensures.cut

pub returns-clause-there : goal.returns-clause-there
returns-clause-there g c =
    let old = c.args.shared.now in
    IfErr-weaker c.stage.result _ _
    (λ unserved there. subst (λ n. unserved.slot < n) (ap (λ (h : Applications _). length h.parts) c.in_ok-give.ensures.given ∙ given_length c.args.only 0 old.parts) there) c.stage.ensures.there

pub returns-in_err-give-clause-keeps : goal.returns-in_err-give-clause-keeps
returns-in_err-give-clause-keeps g c = c.in_err-give.ensures.keeps

pub returns-clause-keeps : goal.returns-clause-keeps
returns-clause-keeps g c = given_keeps c.args.shared.now c.give.new.shared c.stage.new.shared c.in_ok-give.ensures.keeps c.stage.ensures.counts
