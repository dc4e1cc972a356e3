use Rattle.std.proofs.Common.{◌≡◌, ◌++◌, ◌-◌, ℕ, List, [], map, sum, sym, ap, ◌∙◌, subst, append-nil, arith, Ok}
use Rattle.tk_app.specs.Rounds.{round, turns_of}
use Rattle.tk_app.proofs.Rounds.{turns_more, turns_none}
use Rattle.tk_app.specs.Part.{Part, needs, stage_done}
use Rattle.tk_host.specs.Cut.{IsCutShort}
use Rattle.tk_host.proofs.Counts.{counts_both}
use Rattle.tk_host.proofs.Cut.{cut_stage, handed_on, there_done}
use Rattle.tk_host.proofs.Slots.{none_needed}
use Rattle.tk_host.proofs.stages.stage.Goals as goal

pub rounds-preserved : goal.rounds-preserved
rounds-preserved g c =
    let loop = c.rounds in
    let m : ℕ = c.args.shared.now.moment in
    let is : loop.shared.moment ≡ m = loop.invariant.moment in
    let done_by : ℕ → List (Part _) → List (Part _) = λ n ps. map (stage_done g.M.AliasMeaning.answer n) ps in
    let needed_by : ℕ → List (Part _) → List ℕ = λ n ps. map (needs g.M.AliasMeaning.answer n) ps in
    let here = loop.shared.parts in
    let there = c.run_round.new.shared.parts in
    let told = c.in_ok-more.ensures in
    record {
      moment = told.moment ∙ is;
      done = ap (λ n. done_by n there) (sym is) ∙ told.done ∙ ap (λ n. done_by n here) is ∙ loop.invariant.done;
      turns =
          turns_more c.args.slice (needed_by m here) (needed_by m there) loop.shared.turns c.run_round.new.shared.turns
          (c.args.shared.now.turns ++ turns_of c.args.slice (needed_by m c.args.shared.now.parts)) (omega arith)
          (ap (λ n. needed_by n there) (sym is) ∙ told.left ∙ ap (λ n. map (λ need. need - c.args.slice) (needed_by n here)) is)
          (told.turns ∙ ap (λ n. loop.shared.turns ++ round c.args.slice (needed_by n here) 0) is)
          loop.invariant.turns;
      counts = counts_both c.args.shared.now loop.shared c.run_round.new.shared loop.invariant.counts told.counts;
      last = λ e. told.last (ap Ok e) ∙ ap (λ n. done_by n here) is ∙ loop.invariant.done;
    }

pub returns-clause-turns : goal.returns-clause-turns
returns-clause-turns g c =
    let loop = c.rounds in
    let m : ℕ = c.args.shared.now.moment in
    let rest : turns_of c.args.slice (map (needs g.M.AliasMeaning.answer m) loop.shared.parts) ≡ [] =
    turns_none c.args.slice (map (needs g.M.AliasMeaning.answer m) loop.shared.parts) (ap (λ ps. sum (map (needs g.M.AliasMeaning.answer m) ps)) (loop.invariant.last c.rounds-test.false) ∙ none_needed g.M.AliasMeaning.answer m c.args.shared.now.parts) in
    sym (append-nil loop.shared.turns) ∙ ap (λ ts. loop.shared.turns ++ ts) (sym rest) ∙ loop.invariant.turns

pub returns-in_err-more-clause-cut : goal.returns-in_err-more-clause-cut
returns-in_err-more-clause-cut g c =
    let loop = c.rounds in
    let m : ℕ = c.args.shared.now.moment in
    let needed_by : ℕ → List (Part _) → List ℕ = λ n ps. map (needs g.M.AliasMeaning.answer n) ps in
    let told = c.run_round.new.shared.turns in
    let slot : ℕ = c.in_err-more.field-0.0.slot in
    handed_on c.from_residual.result _ _ c.from_residual.ensures.1
    (cut_stage c.args.slice slot (needed_by m loop.shared.parts) loop.shared.turns (c.args.shared.now.turns ++ turns_of c.args.slice (needed_by m c.args.shared.now.parts)) told (omega arith) loop.invariant.turns
    (subst (λ n. IsCutShort c.args.slice slot (loop.shared.turns ++ round c.args.slice (needed_by n loop.shared.parts) 0) told) loop.invariant.moment c.in_err-more.ensures.cut))

pub returns-in_err-more-clause-there : goal.returns-in_err-more-clause-there
returns-in_err-more-clause-there g c =
    let loop = c.rounds in
    let m : ℕ = c.args.shared.now.moment in
    handed_on c.from_residual.result _ _ c.from_residual.ensures.1
    (there_done (stage_done g.M.AliasMeaning.answer m) _ loop.shared.parts c.args.shared.now.parts loop.invariant.done c.in_err-more.ensures.there)

pub returns-in_err-more-clause-counts : goal.returns-in_err-more-clause-counts
returns-in_err-more-clause-counts g c =
    let loop = c.rounds in
    counts_both c.args.shared.now loop.shared c.run_round.new.shared loop.invariant.counts c.in_err-more.ensures.counts
