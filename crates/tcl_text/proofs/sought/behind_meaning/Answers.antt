use Rattle.std.proofs.Common.{◌≡◌, ℕ, List, encode_utf8, subst, sym, rules}
use Rattle.tcl_text.specs.Escaped.{bytes_meant}
use Rattle.tcl_text.specs.SearchSteps.{GoesOn}
use Rattle.tcl_text.specs.declared.backslash.Meaning.{Meaning}
use Rattle.tcl_text.proofs.sought.behind_meaning.Goals as goal

pub returns-in-Byte : goal.returns-in-Byte
returns-in-Byte c = subst (λ (meaning : Meaning). GoesOn c.args.left (bytes_meant meaning) c.behind_bytes.result) (sym c.in-Byte.is) c.behind_bytes.ensures

pub returns-in-Character : goal.returns-in-Character
returns-in-Character c =
    let written : c.as_bytes.result.now ≡ encode_utf8 c.in-Character.character = search rules in
    subst (λ (meaning : Meaning). GoesOn c.args.left (bytes_meant meaning) c.behind_bytes-in-Character.result) (sym c.in-Character.is)
    (subst (λ (bytes : List ℕ). GoesOn c.args.left bytes c.behind_bytes-in-Character.result) written c.behind_bytes-in-Character.ensures)
