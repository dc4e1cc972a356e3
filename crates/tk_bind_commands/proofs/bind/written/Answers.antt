-- One sequence more, or one with which they are too long.
use Rattle.std.proofs.Common.{◌≡◌, [], ◌∷◌, ◌++◌, length, map, take, sym, ap, ◌∙◌, arith}
use Rattle.std.proofs.lemmas.List.{map_more}
use Rattle.tk_sequences.specs.Writing.{canonical}
use Rattle.tk_bind_commands.proofs.WrittenLemmas.{one_longer, first_too_long}
use Rattle.tk_bind_commands.proofs.bind.written.Goals as goal

pub loop-sequence-preserved : goal.loop-sequence-preserved
loop-sequence-preserved c =
    let sequences = c.args.sequences.now in
    let index = c.loop-sequence.sequence-index in
    let sequence = c.sequence-item.result in
    let step = one_longer sequences index sequence (omega arith) c.sequence-item.is in
    let bytes : length c.as_str.result.now ≡ length (canonical sequence) = ap length (c.as_str.ensures.bytes ∙ c.in_ok-text.ensures) in
    record {
      listed = c.in_ok-push.ensures.ok
          ∙ ap (λ text. c.loop-sequence.list ++ text ∷ []) c.in_ok-text.ensures
          ∙ ap (λ list. list ++ canonical sequence ∷ []) c.loop-sequence.invariant.listed
          ∙ ap (λ s. map canonical (take index sequences) ++ canonical s ∷ []) c.sequence-item.is
          ∙ sym (map_more canonical sequences index sequence (omega arith));
      summed = omega (arith, step, bytes, c.in-Some.ensures.exact, c.loop-sequence.invariant.summed);
      within = c.in-Some.ensures.within;
    }

pub returns-in_default-clause-too_long : goal.returns-in_default-clause-too_long
returns-in_default-clause-too_long c = λ _.
    let sequence = c.sequence-item.result in
    let bytes : length c.as_str.result.now ≡ length (canonical sequence) = ap length (c.as_str.ensures.bytes ∙ c.in_ok-text.ensures) in
    first_too_long c.args.sequences.now c.loop-sequence.sequence-index sequence (omega arith) c.sequence-item.is
    (omega (arith, bytes, c.in_default.ensures.none, c.loop-sequence.invariant.summed))
