use Rattle.std.proofs.Common.{rules}
use Rattle.tcl_text.proofs.CharacterLemmas.{IsEnd-whole, IsEnd-past, IsEnd-boundary}
use Rattle.tcl_text.proofs.commands.splits.characters_of.Goals as goal

pub split_at-requires : goal.split_at-requires
split_at-requires c = IsEnd-boundary _ _ (IsEnd-past _ _ _ _ (IsEnd-whole _) c.in-Some.ensures.bytes) (search rules)
