-- What is as it was, written back, changes nothing.
use Rattle.std.proofs.Common.{◌≡◌, ℕ, List, Some, nat_eq, ap, ◌∙◌}
use Rattle.std.specs.Map.{lookup, set_value}
use Rattle.std.proofs.lemmas.Map.Steps.{set_value_same}

pub written_back : {V : Type 0} (owner : ℕ) (held after : List (ℕ × V)) (own new : V) → after ≡ set_value (nat_eq owner) held new → lookup (nat_eq owner) held ≡ Some own → new ≡ own
    → after ≡ held
written_back owner held after own new is there same = is ∙ ap (set_value (nat_eq owner) held) same ∙ set_value_same (nat_eq owner) held own there
