-- Steps. How the list of one application's bindings changes in its places.
use Rattle.std.specs.Prelude.{ℕ, zero, suc, List, [], ◌∷◌}
use Rattle.tk_patterns.specs.declared.binding.Binding.{Binding}

-- the binding at a place with another script
abbrev pub with_script_at : ℕ → List ℕ → List Binding → List Binding
with_script_at place script [] = []
with_script_at zero script (binding ∷ own) = record binding { script = script } ∷ own
with_script_at (suc place) script (binding ∷ own) = binding ∷ with_script_at place script own
