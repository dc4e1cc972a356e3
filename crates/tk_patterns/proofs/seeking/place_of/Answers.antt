use Rattle.std.proofs.Common.{◌≡◌, Some, None, slice_get, sym, ap, ◌∙◌, subst}
use Rattle.tk_patterns.specs.Filing.{filing_number, sequence_number}
use Rattle.tk_patterns.specs.Own.{is_of}
use Rattle.tk_patterns.specs.Wanted.{sequence_of}
use Rattle.tk_patterns.proofs.SeekLemmas.{Seeking, under_its_number, begun, here, nowhere}
use Rattle.tk_patterns.proofs.seeking.place_of.Goals as goal

pub loop-stamp-init : goal.loop-stamp-init
loop-stamp-init c = begun (is_of c.args.tag.now (sequence_of c.args.wanted)) (filing_number c.args.tag.now (sequence_number (sequence_of c.args.wanted))) (under_its_number c.args.tag.now (sequence_of c.args.wanted)) c.args.filed.now c.args.bindings.now c.stamps_of_wanted-rest.result.now c.stamps_of_wanted-rest.ensures.stamps

pub returns-in_default-place : goal.returns-in_default-place
returns-in_default-place c =
    let tag = c.args.tag.now in
    let sequence = sequence_of c.args.wanted in
    let it = here (is_of tag sequence) (filing_number tag (sequence_number sequence)) (under_its_number tag sequence) c.args.filed.now c.args.bindings.now c.stamps_of_wanted-rest.ensures.rising c.requires c.in-Some.stamp.now c.in-Some.behind.now
    (subst (Seeking (is_of tag sequence) (filing_number tag (sequence_number sequence)) (under_its_number tag sequence) c.args.filed.now c.args.bindings.now) c.in-Some.ensures.cases.0 c.loop-stamp.invariant) in
    absurd (let is : None ≡ Some it.place = c.in_default-place.ensures.found it.place it.there in cc)

pub returns-then-is_at : goal.returns-then-is_at
returns-then-is_at c =
    let tag = c.args.tag.now in
    let sequence = sequence_of c.args.wanted in
    let it = here (is_of tag sequence) (filing_number tag (sequence_number sequence)) (under_its_number tag sequence) c.args.filed.now c.args.bindings.now c.stamps_of_wanted-rest.ensures.rising c.requires c.in-Some.stamp.now c.in-Some.behind.now
    (subst (Seeking (is_of tag sequence) (filing_number tag (sequence_number sequence)) (under_its_number tag sequence) c.args.filed.now c.args.bindings.now) c.in-Some.ensures.cases.0 c.loop-stamp.invariant) in
    let is : Some c.in-Some-place.place ≡ Some it.place = c.in-Some-place.ensures.found it.place it.there in
    let same : c.in-Some-place.place ≡ it.place = cc in
    is ∙ sym (it.found (sym (c.if-is_at.ensures it.binding (ap (slice_get c.args.bindings.now) same ∙ it.is))))

pub loop-stamp-preserved : goal.loop-stamp-preserved
loop-stamp-preserved c =
    let tag = c.args.tag.now in
    let sequence = sequence_of c.args.wanted in
    let it = here (is_of tag sequence) (filing_number tag (sequence_number sequence)) (under_its_number tag sequence) c.args.filed.now c.args.bindings.now c.stamps_of_wanted-rest.ensures.rising c.requires c.in-Some.stamp.now c.in-Some.behind.now
    (subst (Seeking (is_of tag sequence) (filing_number tag (sequence_number sequence)) (under_its_number tag sequence) c.args.filed.now c.args.bindings.now) c.in-Some.ensures.cases.0 c.loop-stamp.invariant) in
    let is : Some c.in-Some-place.place ≡ Some it.place = c.in-Some-place.ensures.found it.place it.there in
    let same : c.in-Some-place.place ≡ it.place = cc in
    it.later (sym (c.if-is_at.ensures it.binding (ap (slice_get c.args.bindings.now) same ∙ it.is)))

pub returns : goal.returns
returns c =
    let tag = c.args.tag.now in
    let sequence = sequence_of c.args.wanted in
    sym (nowhere (is_of tag sequence) (filing_number tag (sequence_number sequence)) (under_its_number tag sequence) c.args.filed.now c.args.bindings.now c.stamps_of_wanted-rest.ensures.rising c.requires _ c.loop-stamp.invariant c.in_default.ensures.cases)
