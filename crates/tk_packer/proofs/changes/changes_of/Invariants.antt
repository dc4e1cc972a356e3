use Rattle.std.proofs.Common.{◌≡◌, ◌++◌, drop}
use Rattle.tk_packer.specs.Changes.{changes_of}
use Rattle.tk_packer.proofs.changes.changes_of.Given as goal

-- those told, and what the rest give
abbrev pub invariant-loop-index : goal.invariant-loop-index
invariant-loop-index l = l.changes.items ++ changes_of (drop l.index l.shapes) (drop l.index l.places) ≡ changes_of l.shapes l.places
