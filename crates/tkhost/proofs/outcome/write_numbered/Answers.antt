use Rattle.std.proofs.Common.{◌≡◌, ◌∙◌, decimal}
use Rattle.std.proofs.lemmas.Result.{on_err_weaker}
use Rattle.tkhost.proofs.Streams.{AppendsFront-within, AppendsFront-behind, on_err_always}
use Rattle.tkhost.proofs.outcome.write_numbered.Goals as goal

pub returns-in_err-write_whole-clause-err : goal.returns-in_err-write_whole-clause-err
returns-in_err-write_whole-clause-err g c =
    on_err_always _ (AppendsFront-within _ _ c.args.text.now (decimal c.args.number) c.in_err-write_whole.ensures.err)

pub returns-clause-err : goal.returns-clause-err
returns-clause-err g c =
    let written : c.as_bytes.result.now ≡ decimal c.args.number = c.as_bytes.ensures.value ∙ c.format.ensures.text in
    on_err_weaker c.write_whole-2.result
    (λ front. AppendsFront-behind _ _ _ c.args.text.now (decimal c.args.number) c.in_ok-write_whole.ensures.ok front)
    (rw written at c.write_whole-2.ensures.err)
