use Rattle.std.proofs.Common.{◌++◌, decimal, List, ℕ}
use Rattle.std.specs.Prelude.{codes}
use Rattle.std.proofs.lemmas.Result.{on_err_weaker, on_ok_weaker}
use Rattle.tkhost.proofs.Streams.{appends_more, AppendsFront-within, AppendsFront-behind, on_err_always}
use Rattle.tkhost.proofs.outcome.write_refused.Goals as goal

-- the parts of the line
abbrev first : ℕ → List ℕ
first number = codes "tkhost: fault " ++ decimal number

abbrev second : ℕ → List ℕ
second line = codes " at line " ++ decimal line

pub returns-in_err-write_numbered-clause-err : goal.returns-in_err-write_numbered-clause-err
returns-in_err-write_numbered-clause-err g c =
    on_err_always _ (AppendsFront-within _ _ (first c.args.number) (second c.args.line ++ codes "\n") c.in_err-write_numbered.ensures.err)

pub returns-in_err-write_numbered-2-clause-err : goal.returns-in_err-write_numbered-2-clause-err
returns-in_err-write_numbered-2-clause-err g c =
    on_err_always _ (AppendsFront-behind _ _ _ (first c.args.number) (second c.args.line ++ codes "\n") c.in_ok-write_numbered.ensures.ok
    (AppendsFront-within _ _ (second c.args.line) (codes "\n") c.in_err-write_numbered-2.ensures.err))

pub returns-clause-ok : goal.returns-clause-ok
returns-clause-ok g c =
    on_ok_weaker c.write_whole.result
    (λ last. appends_more _ _ _ (first c.args.number) (second c.args.line ++ codes "\n") c.in_ok-write_numbered.ensures.ok
    (appends_more _ _ _ (second c.args.line) (codes "\n") c.in_ok-write_numbered-2.ensures.ok last))
    c.write_whole.ensures.ok

pub returns-clause-err : goal.returns-clause-err
returns-clause-err g c =
    on_err_weaker c.write_whole.result
    (λ last. AppendsFront-behind _ _ _ (first c.args.number) (second c.args.line ++ codes "\n") c.in_ok-write_numbered.ensures.ok
    (AppendsFront-behind _ _ _ (second c.args.line) (codes "\n") c.in_ok-write_numbered-2.ensures.ok last))
    c.write_whole.ensures.err
