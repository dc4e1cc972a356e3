use Rattle.std.proofs.Common.{◌≡◌, map, take}
use Rattle.tk_session.specs.declared.session.AliasLine.{AliasLine}
use Rattle.panels_report.proofs.linting.served.Given as goal

abbrev pub invariant-loop-alias : goal.invariant-loop-alias
invariant-loop-alias l = map (λ name. name.now) l.names.items ≡ map (λ (alias : AliasLine). alias.name) (take l.alias-index l.panel.aliases)
