use Rattle.std.proofs.Common.{◌≡◌, true, sym, ap, ◌∙◌}
use Rattle.std.specs.Prelude.{bytes_eq, codes}
use Rattle.tk_panel.proofs.commands.put_to.Goals as goal

pub returns-then-eq-clause-own : goal.returns-then-eq-clause-own
returns-then-eq-clause-own c =
    let stdout : bytes_eq c.args.channel.now (codes "stdout") ≡ true =
    ap (λ b. bytes_eq b (codes "stdout")) (sym c.as_str.ensures.bytes) ∙ sym c.eq.ensures ∙ c.if-eq.true in
    rw stdout c.write_out.ensures.own
