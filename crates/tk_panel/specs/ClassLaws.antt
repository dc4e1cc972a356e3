-- Meaning. What is proved of the bindings of classes.
use Rattle.std.specs.Prelude.{◌≡◌, true, is_ok}
use Rattle.std.specs.List.{list_all}
use Rattle.tk_base.specs.declared.kind.Kind.{Kind}
use Rattle.tk_options.specs.Rows.{row_of}
use Rattle.tk_virtual.specs.Parse.{parsed}

-- each text that a class binds is a sequence
abbrev pub ClassesBindSequences : Type 0
ClassesBindSequences = (kind : Kind) → list_all (λ row. is_ok (parsed row.sequence)) (row_of kind).bindings ≡ true
