use Rattle.std.proofs.lemmas.Result.{on_err_weaker, on_ok_weaker}
use Rattle.tkhost.specs.Output.{asker_line, message_of}
use Rattle.tkhost.proofs.Streams.{appends_more, AppendsFront-within, AppendsFront-behind, on_err_always}
use Rattle.tkhost.proofs.outcome.Ending.write_to.Goals as goal

pub returns-in_err-write_to-clause-err : goal.returns-in_err-write_to-clause-err
returns-in_err-write_to-clause-err g c =
    let ending = c.args.self.now in
    on_err_always _ (AppendsFront-within _ _ (message_of ending.outcome) (asker_line ending.asker) c.in_err-write_to.ensures.err)

pub returns-clause-ok : goal.returns-clause-ok
returns-clause-ok g c =
    let ending = c.args.self.now in
    on_ok_weaker c.write_asker.result
    (λ last. appends_more _ _ _ (message_of ending.outcome) (asker_line ending.asker) c.in_ok-write_to.ensures.ok last) c.write_asker.ensures.ok

pub returns-clause-err : goal.returns-clause-err
returns-clause-err g c =
    let ending = c.args.self.now in
    on_err_weaker c.write_asker.result
    (λ last. AppendsFront-behind _ _ _ (message_of ending.outcome) (asker_line ending.asker) c.in_ok-write_to.ensures.ok last) c.write_asker.ensures.err
