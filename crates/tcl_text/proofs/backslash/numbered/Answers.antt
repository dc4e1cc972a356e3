use Rattle.std.proofs.Common.{ap, ◌∙◌, ℕ, ◌+◌, ◌≡◌, encode_utf8, nat_eq, false}
use Rattle.std.proofs.lemmas.Bool.{ne_eqb}
use Rattle.tcl_text.specs.Backslash as backslash
use Rattle.tcl_text.proofs.BackslashLemmas.{character_found}
use Rattle.tcl_text.proofs.backslash.numbered.Goals as goal

pub returns : goal.returns
returns c =
    let some : nat_eq c.args.digits.count 0 ≡ false = ne_eqb c.args.digits.count 0 c.if-digits-eq0.false in
    let character : c.unwrap_or.result ≡ backslash.character_of c.args.digits.value =
    c.unwrap_or.ensures ∙ character_found c.from_u32.result c.args.digits.value c.requires.value c.from_u32.ensures.cases c.from_u32.ensures.value
    in
    let escape_of : ℕ → backslash.Escape = λ n. record { meaning = encode_utf8 n; length = c.args.before + c.args.digits.count } in
    rw some (ap escape_of character)
