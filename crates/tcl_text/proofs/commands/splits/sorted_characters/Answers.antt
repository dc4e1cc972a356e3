use Rattle.std.proofs.Common.{◌≡◌, ℕ, List, rules, subst}
use Rattle.std.specs.List.Sorted.{IsPermutation}
use Rattle.std.specs.Str.{chars}
use Rattle.std.proofs.lemmas.Str.{chars_from_encodes}
use Rattle.tcl_text.proofs.commands.splits.sorted_characters.Goals as goal

pub returns-clause-same : goal.returns-clause-same
returns-clause-same c =
    let made : c.in_ok-characters.characters.items ≡ chars c.args.text.now = search (rules, chars_from_encodes) in
    subst (λ (cs : List ℕ). IsPermutation cs c.sort_unstable.new.self.items) made c.sort_unstable.ensures.permutation
