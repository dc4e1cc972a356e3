-- Steps. What a place owns: nothing at null, else a box and the right to free it.
use Rattle.std.specs.Prelude.{Option, Some, None}
use base.Fml.{Fml, feq}
use denote.RawPtr.{Ptr, null_ptr}
use mir.Syntax.{Ty}
use Rattle.std_heap.specs.contracts.GlobalAllocator.TheImpl.{ghosts}
use Rattle.std.specs.Box.Ownership.{box_owns}
use Rattle.tkhost_c.specs.Keeps.{Keeps}
use Rattle.tkhost_c.specs.contracts.kept.Kept.{the_row}

-- the right to free a block of a type at a pointer, which every `Global` has
abbrev pub frees : Ty → Ptr → Fml
frees type at = ghosts.dealloc_token (record { memory = record { seal = tt } }) type at

abbrev pub owns_kept : Option Keeps → Ptr → Fml
owns_kept None at = feq Ptr at null_ptr
owns_kept (Some kept) at = box_owns frees the_row at kept
