use Rattle.std.proofs.Common.{◌∷◌, [], ◌++◌, take, sym, ap, ◌∙◌, subst}
use Rattle.std.specs.List.{IsDistinct, list_any}
use Rattle.tk_virtual.specs.Virtual.{is_same}
use Rattle.tk_virtual.proofs.ClassLemmas.{none_of_some}
use Rattle.tk_virtual.proofs.OnceLemmas.{not_before}
use Rattle.tk_patterns.specs.Matches.{matches}
use Rattle.tk_patterns.specs.Matching.{matching}
use Rattle.tk_patterns.proofs.MatchingLemmas.{one_more}
use Rattle.tk_patterns.proofs.matching.matching_pairs.Goals as goal

pub push_matching-requires : goal.push_matching-requires
push_matching-requires c =
    let pair = c.pair-item.result in
    let all = c.all-all.result.now in
    let i = c.loop-pair.pair-index in
    let once = subst (IsDistinct is_same) (sym c.all-all.ensures.pairs) c.all-all.ensures.once in
    ap (list_any (is_same pair)) c.loop-pair.invariant
    ∙ none_of_some (is_same pair) (λ other. matches other.sequence c.args.event.now c.args.history.now) (take i all) (not_before all i pair once c.loop-pair-test.true c.pair-item.is)

pub loop-pair-preserved : goal.loop-pair-preserved
loop-pair-preserved c =
    let pair = c.pair-item.result in
    c.in_ok-push_matching.ensures
    ∙ ap (λ pairs. pairs ++ matching c.args.event.now c.args.history.now (pair ∷ [])) c.loop-pair.invariant
    ∙ sym (one_more c.args.event.now c.args.history.now c.all-all.result.now c.loop-pair.pair-index pair c.loop-pair-test.true c.pair-item.is)
