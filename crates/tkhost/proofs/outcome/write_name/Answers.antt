use Rattle.std.proofs.Common.{◌≡◌, ◌++◌, ◌∙◌, List, ℕ}
use Rattle.std.specs.Prelude.{codes}
use Rattle.std.proofs.lemmas.Result.{on_err_weaker, on_ok_weaker}
use Rattle.tkhost.proofs.Streams.{appends_more, AppendsFront-within, AppendsFront-behind, on_err_always}
use Rattle.tkhost.proofs.outcome.write_name.Goals as goal

-- the line up to the name
abbrev first : List ℕ
first = codes "tkhost: memory was refused to "

pub returns-in_err-write_whole-clause-err : goal.returns-in_err-write_whole-clause-err
returns-in_err-write_whole-clause-err g c =
    on_err_always _ (AppendsFront-within _ _ first (c.args.name.now ++ codes "\n") c.in_err-write_whole.ensures.err)

pub returns-in_err-write_whole-2-clause-err : goal.returns-in_err-write_whole-2-clause-err
returns-in_err-write_whole-2-clause-err g c =
    let written : c.as_bytes.result.now ≡ c.args.name.now = c.as_bytes.ensures.value ∙ c.as_str.ensures.bytes in
    on_err_always _ (AppendsFront-behind _ _ _ first (c.args.name.now ++ codes "\n") c.in_ok-write_whole.ensures.ok
    (AppendsFront-within _ _ c.args.name.now (codes "\n") (rw written at c.in_err-write_whole-2.ensures.err)))

pub returns-clause-ok : goal.returns-clause-ok
returns-clause-ok g c =
    let written : c.as_bytes.result.now ≡ c.args.name.now = c.as_bytes.ensures.value ∙ c.as_str.ensures.bytes in
    on_ok_weaker c.write_whole-3.result
    (λ last. appends_more _ _ _ first (c.args.name.now ++ codes "\n") c.in_ok-write_whole.ensures.ok
    (appends_more _ _ _ c.args.name.now (codes "\n") (rw written at c.in_ok-write_whole-2.ensures.ok) last))
    c.write_whole-3.ensures.ok

pub returns-clause-err : goal.returns-clause-err
returns-clause-err g c =
    let written : c.as_bytes.result.now ≡ c.args.name.now = c.as_bytes.ensures.value ∙ c.as_str.ensures.bytes in
    on_err_weaker c.write_whole-3.result
    (λ last. AppendsFront-behind _ _ _ first (c.args.name.now ++ codes "\n") c.in_ok-write_whole.ensures.ok
    (AppendsFront-behind _ _ _ c.args.name.now (codes "\n") (rw written at c.in_ok-write_whole-2.ensures.ok) last))
    c.write_whole-3.ensures.err
