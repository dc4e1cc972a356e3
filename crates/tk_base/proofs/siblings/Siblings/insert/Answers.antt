use Rattle.std.proofs.Common.{◌≡◌, ◌≤◌, ◌-◌, ◌+◌, length, drop, ap, ◌∙◌, arith}
use Rattle.std.specs.Prelude.{insert, min}
use Rattle.std.proofs.lemmas.List.{length-drop}
use Rattle.tk_base.specs.Line.{Line}
use Rattle.tk_base.proofs.Parts.{insert_from, insert_end}
use Rattle.tk_base.proofs.siblings.Siblings.insert.Goals as goal

pub returns : goal.returns
returns g c =
    let xs = c.self.inside.values.items in
    let start = c.self.inside.start in
    let left : c.len.result - start ≡ length (drop start xs) = omega (arith, c.len.ensures, length-drop start xs) in
    let behind : c.min-behind.result ≡ min c.args.place (length (drop start xs)) = c.min-behind.ensures ∙ ap (min c.args.place) left in
    let within : start + c.min-behind.result ≤ length xs = omega (arith, c.min-behind.ensures, c.len.ensures, c.self.invariant) in
    ap (drop start) c.put_at.ensures.items
    ∙ insert_from xs start c.min-behind.result c.args.value within
    ∙ ap (λ n. insert (drop start xs) n c.args.value) behind
    ∙ insert_end (drop start xs) c.args.place c.args.value
    ∙ ap (λ (line : Line _). insert line.items c.args.place c.args.value) c.self.view_is
