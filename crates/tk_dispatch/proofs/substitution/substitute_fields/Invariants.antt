use Rattle.std.proofs.Common.{◌≡◌, ◌++◌, false, length, IsUtf8}
use Rattle.tk_dispatch.specs.Substitution.{substituted_from}
use Rattle.tk_dispatch.proofs.substitution.substitute_fields.Given as goal

-- what is written, with what the rest stands for
abbrev pub invariant-loop-run : goal.invariant-loop-run
invariant-loop-run l = record {
  same : l.text ++ substituted_from l.event false l.rest ≡ substituted_from l.event false l.script;
  utf8 : IsUtf8 l.rest;
}

abbrev pub decreases-loop-run : goal.decreases-loop-run
decreases-loop-run l = length l.rest
