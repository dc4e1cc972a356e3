-- Where the tag has more than few, those of the names are what is sought.
use Rattle.std.proofs.Common.{◌≡◌, ℕ, false, List, length, sym, ap, ◌∙◌}
use Rattle.tk_patterns.specs.Filed.{stamps_of}
use Rattle.tk_patterns.specs.Filing.{are_few, has_few, is_for_virtuals}
use Rattle.tk_patterns.proofs.winning.holder_of.Goals as goal

pub holder_among-requires-2-clause-named : goal.holder_among-requires-2-clause-named
holder_among-requires-2-clause-named c =
    let tag = c.args.tag.now in
    let kind = c.args.kind in
    let event = c.args.event.now in
    let virtuals = c.args.virtuals.now in
    let filed = c.args.filed.now in
    let many : has_few tag kind event virtuals filed ≡ false =
    ap (λ (own : List ℕ). are_few (length own) kind event virtuals) (sym c.stamps_of_virtuals-own.ensures) ∙ sym c.if-are_few.ensures in
    c.as_slice-named.ensures.value ∙ c.in_ok-names.ensures ∙ ap (λ few. stamps_of (is_for_virtuals few tag kind event virtuals) filed) (sym many)
