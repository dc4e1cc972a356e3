use Rattle.std.proofs.Common.{◌<◌, ◌++◌, ◌∷◌, [], length, map, sym, ap, ◌∙◌, subst}
use Rattle.std.proofs.lemmas.Result.{IfErr-weaker, on_ok_weaker}
use Rattle.tk_app.specs.Rounds.{turns_of}
use Rattle.tk_app.specs.Part.{needs, stage_done}
use Rattle.tk_app.specs.Turns.{Applications}
use Rattle.tk_host.specs.Slots.{given_from}
use Rattle.tk_host.specs.Turns.{applications, stages_of, turns_given}
use Rattle.tk_host.proofs.Counts.{given_keeps, keeps_both}
use Rattle.tk_host.proofs.Cut.{cut_as, cut_at_once, handed_on, there_as}
use Rattle.tk_host.proofs.Deliveries.{done_two, given_length, given_twice, needs_two, rests_in, rests_other, turns_apart}
use Rattle.tk_host.proofs.events.deliver_both.Goals as goal

pub give-requires : goal.give-requires
give-requires g c = record { now = c.requires.now; rests = λ part is. rests_in c.args.shared.now.parts c.args.first.slot part c.requires.rest is }

pub give-requires-2 : goal.give-requires-2
give-requires-2 g c =
    let mid = c.in_ok-give.ensures.given in
    record {
      now = c.requires.also_now ∙ sym (ap (λ (h : Applications _). h.moment) mid);
      rests = λ part is. rests_other c.args.first c.args.second.slot c.args.shared.now c.give.new.shared part c.requires.differ mid c.requires.rest is;
    }

pub returns-clause-moment : goal.returns-clause-moment
returns-clause-moment g c =
    on_ok_weaker c.stage.result
    (λ same. same ∙ ap (λ (h : Applications _). h.moment) (given_twice c.args.first c.args.second c.args.shared.now c.give.new.shared c.give-2.new.shared c.in_ok-give.ensures.given c.in_ok-give-2.ensures.given)) c.stage.ensures.moment

pub returns-clause-parts : goal.returns-clause-parts
returns-clause-parts g c =
    let answer = g.M.AliasMeaning.answer in
    let old = c.args.shared.now in
    let both = given_twice c.args.first c.args.second old c.give.new.shared c.give-2.new.shared c.in_ok-give.ensures.given c.in_ok-give-2.ensures.given in
    on_ok_weaker c.stage.result
    (λ done. done ∙ ap (λ (h : Applications _). map (stage_done answer h.moment) h.parts) both
    ∙ done_two answer c.args.first c.args.second old.moment c.requires.differ c.requires.now c.requires.also_now 0 old.parts c.requires.rest)
    c.stage.ensures.done

pub returns-clause-turns : goal.returns-clause-turns
returns-clause-turns g c =
    let answer = g.M.AliasMeaning.answer in
    let old = c.args.shared.now in
    let both = given_twice c.args.first c.args.second old c.give.new.shared c.give-2.new.shared c.in_ok-give.ensures.given c.in_ok-give-2.ensures.given in
    on_ok_weaker c.stage.result
    (λ told. told ∙ ap (λ (h : Applications _). h.turns ++ turns_of c.args.slice (map (needs answer h.moment) h.parts)) both
    ∙ ap (λ ns. old.turns ++ turns_of c.args.slice ns) (needs_two answer c.args.first c.args.second old.moment c.requires.differ c.requires.now c.requires.also_now 0 old.parts c.requires.rest)
    ∙ ap (λ ts. old.turns ++ ts) (sym (turns_apart answer c.args.slice c.args.first c.args.second (applications old.parts) c.requires.differ)))
    c.stage.ensures.turns

pub returns-in_err-give-clause-cut : goal.returns-in_err-give-clause-cut
returns-in_err-give-clause-cut g c =
    let old = c.args.shared.now in
    let whole = turns_given g.M.AliasMeaning.answer c.args.slice (stages_of (c.args.first ∷ c.args.second ∷ [])) (applications old.parts) in
    handed_on c.from_residual.result _ _ c.from_residual.ensures.1
    (cut_at_once c.args.slice _ old.turns whole c.give.new.shared.turns c.in_err-give.ensures.turns)

pub returns-in_err-give-2-clause-cut : goal.returns-in_err-give-2-clause-cut
returns-in_err-give-2-clause-cut g c =
    let old = c.args.shared.now in
    let whole = turns_given g.M.AliasMeaning.answer c.args.slice (stages_of (c.args.first ∷ c.args.second ∷ [])) (applications old.parts) in
    handed_on c.from_residual-in_err-give-2.result _ _ c.from_residual-in_err-give-2.ensures.1
    (cut_at_once c.args.slice _ old.turns whole c.give-2.new.shared.turns (c.in_err-give-2.ensures.turns ∙ c.in_ok-give.ensures.turns))

pub returns-clause-cut : goal.returns-clause-cut
returns-clause-cut g c =
    let answer = g.M.AliasMeaning.answer in
    let old = c.args.shared.now in
    let mid : Applications _ = c.give-2.new.shared in
    let both = given_twice c.args.first c.args.second old c.give.new.shared c.give-2.new.shared c.in_ok-give.ensures.given c.in_ok-give-2.ensures.given in
    IfErr-weaker c.stage.result _ _
    (λ unserved cut. cut_as c.args.slice unserved.slot (mid.turns ++ turns_of c.args.slice (map (needs answer mid.moment) mid.parts))
    (old.turns ++ turns_given answer c.args.slice (stages_of (c.args.first ∷ c.args.second ∷ [])) (applications old.parts)) c.stage.new.shared.turns
    (ap (λ (h : Applications _). h.turns ++ turns_of c.args.slice (map (needs answer h.moment) h.parts)) both
    ∙ ap (λ ns. old.turns ++ turns_of c.args.slice ns) (needs_two answer c.args.first c.args.second old.moment c.requires.differ c.requires.now c.requires.also_now 0 old.parts c.requires.rest)
    ∙ ap (λ ts. old.turns ++ ts) (sym (turns_apart answer c.args.slice c.args.first c.args.second (applications old.parts) c.requires.differ))) cut)
    c.stage.ensures.cut

pub returns-in_err-give-2-clause-there : goal.returns-in_err-give-2-clause-there
returns-in_err-give-2-clause-there g c =
    let old = c.args.shared.now in
    handed_on c.from_residual-in_err-give-2.result _ _ c.from_residual-in_err-give-2.ensures.1
    (there_as _ _ _ (ap (λ (h : Applications _). length h.parts) c.in_ok-give.ensures.given ∙ given_length c.args.first 0 old.parts) c.in_err-give-2.ensures.there)

pub returns-clause-there : goal.returns-clause-there
returns-clause-there g c =
    let old = c.args.shared.now in
    let both = given_twice c.args.first c.args.second old c.give.new.shared c.give-2.new.shared c.in_ok-give.ensures.given c.in_ok-give-2.ensures.given in
    IfErr-weaker c.stage.result _ _
    (λ unserved there.
    subst (λ n. unserved.slot < n)
    (ap (λ (h : Applications _). length h.parts) both ∙ given_length c.args.second 0 (given_from 0 c.args.first old.parts) ∙ given_length c.args.first 0 old.parts) there)
    c.stage.ensures.there

pub returns-in_err-give-clause-keeps : goal.returns-in_err-give-clause-keeps
returns-in_err-give-clause-keeps g c = c.in_err-give.ensures.keeps

pub returns-in_err-give-2-clause-keeps : goal.returns-in_err-give-2-clause-keeps
returns-in_err-give-2-clause-keeps g c = keeps_both c.args.shared.now c.give.new.shared c.give-2.new.shared c.in_ok-give.ensures.keeps c.in_err-give-2.ensures.keeps

pub returns-clause-keeps : goal.returns-clause-keeps
returns-clause-keeps g c =
    given_keeps c.args.shared.now c.give-2.new.shared c.stage.new.shared
    (keeps_both c.args.shared.now c.give.new.shared c.give-2.new.shared c.in_ok-give.ensures.keeps c.in_ok-give-2.ensures.keeps) c.stage.ensures.counts
