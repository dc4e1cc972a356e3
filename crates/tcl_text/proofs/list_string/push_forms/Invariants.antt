use Rattle.std.proofs.Common.{◌≡◌, ◌≤◌, ◌++◌, drop, length, string_bytes}
use Rattle.tcl_text.specs.ListForm.{others_form}
use Rattle.tcl_text.specs.ListString.{ends_behind}
use Rattle.tcl_text.proofs.list_string.push_forms.Given as goal

-- what was written and the forms of what is left are the whole, and so are the places
abbrev pub invariant-loop-item : goal.invariant-loop-item
invariant-loop-item l = record {
  forms : string_bytes l.string ++ others_form (drop l.item-index l.items) ≡ string_bytes l.fn.string ++ others_form l.items;
  places : l.ends.items ++ ends_behind (length (string_bytes l.string)) (drop l.item-index l.items) ≡ l.fn.ends.items ++ ends_behind (length (string_bytes l.fn.string)) l.items;
  short : length (string_bytes l.string) ≤ 65537;
}
