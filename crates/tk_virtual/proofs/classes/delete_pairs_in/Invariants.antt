use Rattle.std.proofs.Common.{◌≡◌, ◌&&◌, ℕ, drop}
use Rattle.std.specs.Prelude.{if◌then◌else◌}
use Rattle.std.specs.List.{list_any}
use Rattle.tk_virtual.specs.Classes.{is_of_class, listed_in}
use Rattle.tk_virtual.specs.Several.{is_left_in, without_these}
use Rattle.tk_virtual.proofs.classes.delete_pairs_in.Given as goal

abbrev pub invariant-loop-pair : goal.invariant-loop-pair
invariant-loop-pair l = (class : ℕ)
    → (if list_any (λ pair. is_of_class class pair && is_left_in l.name l.wanted.keys (listed_in class l.classes.entries) pair) (drop l.pair-index l.pairs)
    then without_these l.name l.wanted.keys (listed_in class l.classes.entries) else listed_in class l.classes.entries)
    ≡ (if list_any (λ pair. is_of_class class pair && is_left_in l.name l.wanted.keys (listed_in class l.initial.classes.entries) pair) l.pairs
    then without_these l.name l.wanted.keys (listed_in class l.initial.classes.entries) else listed_in class l.initial.classes.entries)
