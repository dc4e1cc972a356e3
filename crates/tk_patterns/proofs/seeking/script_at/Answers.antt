use Rattle.std.proofs.Common.{option_map, sym, ap, ◌∙◌}
use Rattle.tk_patterns.specs.declared.binding.Binding.{Binding}
use Rattle.tk_patterns.proofs.SeekLemmas.{found_at, not_found}
use Rattle.tk_patterns.proofs.seeking.script_at.Goals as goal

pub returns-in_default : goal.returns-in_default
returns-in_default c = λ test is. sym (ap (option_map (λ (b : Binding). b.script)) (not_found test c.args.bindings.now (sym is ∙ c.in_default.is)))

pub returns-in_default-binding_in : goal.returns-in_default-binding_in
returns-in_default-binding_in c = λ test is. ap (option_map (λ (b : Binding). b.script)) (c.in_default-binding_in.ensures ∙ found_at test c.args.bindings.now c.in-Some.place (sym is ∙ c.in-Some.is))

pub returns : goal.returns
returns c = λ test is. ap (option_map (λ (b : Binding). b.script)) (c.in-Some-binding_in.ensures ∙ found_at test c.args.bindings.now c.in-Some.place (sym is ∙ c.in-Some.is))
