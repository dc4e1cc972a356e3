use Rattle.std.proofs.Common.{[], drop, length, map}
use Rattle.toml.specs.View.{members_view, table_view}
use Rattle.panels_bench.proofs.ValueLemmas.{Left}
use Rattle.panels_bench.specs.Sights.{of_members, option_said, sight}
use Rattle.panels_bench.proofs.asking.options.Given as goal

-- what was found, and what is left, is all
abbrev pub invariant-loop-name : goal.invariant-loop-name
invariant-loop-name l =
    Left (map sight l.looks.items) (of_members (option_said (table_view l.part.table.now)) (members_view (drop (length l.yielded) l.table.entries))) [] (of_members (option_said (table_view l.part.table.now)) (table_view l.table))
