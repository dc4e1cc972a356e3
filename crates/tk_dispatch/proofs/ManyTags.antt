-- What the tags of a window run, where only the sequences of virtual events that match are looked at.
use Rattle.std.proofs.Common.{◌≡◌, ℕ, List, None, option_map}
use Rattle.std.specs.Prelude.{if◌then◌else◌}
use Rattle.std.specs.List.{filter_map}
use Rattle.tk_sequences.specs.declared.event.Event.{Event}
use Rattle.tk_dispatch.specs.Dispatch.{all_of, is_live, scripts_of, with_fields}
use Rattle.tk_patterns.specs.declared.binding.Binding.{Binding}
use Rattle.tk_patterns.specs.Matching.{matching}
use Rattle.tk_patterns.proofs.MatchingLemmas.{winner_matching}
use Rattle.tk_tree.specs.Own.{Tree}
use Rattle.tk_virtual.specs.declared.pair.Pair.{Pair}
use Rattle.tk_virtual.specs.Virtual.{meanings_of}

pub scripts_matching : (windows : Tree) (pairs : List Pair) (bindings : List Binding) (history : List Event) (event : Event) (tags : List (List ℕ))
    → scripts_of windows (meanings_of (matching event history pairs)) bindings history event tags ≡ scripts_of windows (meanings_of pairs) bindings history event tags
scripts_matching windows pairs bindings history event tags = λ i.
    all_of (filter_map (λ tag. if is_live windows tag then option_map (with_fields event) (winner_matching event history pairs tag bindings i) else None) tags)
