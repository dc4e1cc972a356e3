use Rattle.std.proofs.Common.{◌≡◌, ℕ, drop}
use Rattle.std.specs.Prelude.{if◌then◌else◌}
use Rattle.std.specs.List.{list_any}
use Rattle.tk_virtual.specs.Classes.{is_of_class, listed_in}
use Rattle.tk_virtual.specs.Virtual.{without_name}
use Rattle.tk_virtual.proofs.classes.delete_name_in.Given as goal

abbrev pub invariant-loop-pair : goal.invariant-loop-pair
invariant-loop-pair l = (class : ℕ)
    → (if list_any (is_of_class class) (drop l.pair-index l.pairs) then without_name l.name (listed_in class l.classes.entries) else listed_in class l.classes.entries)
    ≡ (if list_any (is_of_class class) l.pairs then without_name l.name (listed_in class l.initial.classes.entries) else listed_in class l.initial.classes.entries)
