use Rattle.std.proofs.Common.{◌≡◌, ◌++◌, ◌-◌, map, reverse}
use Rattle.std.specs.Prelude.{flat_map}
use Rattle.panels_text.specs.Scripts.{calls_of, most_bodies, passage_of, passages_in, said, said_as}
use Rattle.panels_text.specs.Unread.{misread, unread_as, unread_of}
use Rattle.panels_text.proofs.calls.calls_of.Given as goal

-- what was found, and what the bodies that are left say, is all
abbrev pub invariant-passages : goal.invariant-passages
invariant-passages l = record {
  calls : map said l.found.calls.items ++ flat_map (λ outer. said_as outer.form outer) (passages_in (most_bodies - l._number) (reverse (map passage_of l.bodies.items))) ≡ calls_of l.script;
  unread : map misread l.found.unread.items ++ flat_map (λ outer. unread_as outer.form outer) (passages_in (most_bodies - l._number) (reverse (map passage_of l.bodies.items))) ≡ unread_of l.script;
}
