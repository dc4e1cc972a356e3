use Rattle.std.proofs.Common.{ℕ, List, ap, string_bytes}
use Rattle.std.proofs.lemmas.Result.{IfOk-weaker}
use Rattle.panels_report.specs.Blocks.{Parts, parts, with_script}
use Rattle.panels_report.proofs.Blocking.{script_ends}
use Rattle.panels_report.proofs.blocks.Blocks.take_line.Goals as goal

pub returns-then-left-eq0-clause-takes : goal.returns-then-left-eq0-clause-takes
returns-then-left-eq0-clause-takes c =
    let own = c.args.self.now in
    let behind : List ℕ → Parts = λ script. record { front = string_bytes own.front; block = string_bytes own.block; script = script; wanted = c.args.left } in
    IfOk-weaker c.end_block.result _ _
    (λ taken is.
    script_ends c.args.left (with_script c.args.line.now c.args.left (parts own)) (behind (string_bytes c.push_line.new.text)) (parts c.end_block.new.self) taken c.if-left-eq0.true
    (ap behind c.in_ok-push_line.ensures) is)
    c.end_block.ensures
