use Rattle.std.proofs.Common.{◌≡◌, None, drop}
use Rattle.std.specs.Option.{option_copied}
use Rattle.tk_patterns.specs.Filing.{all_named, without_repeats}
use Rattle.tk_patterns.proofs.filing.add_named.Given as goal

abbrev pub invariant-loop-pair : goal.invariant-loop-pair
invariant-loop-pair l =
    all_named l.tag l.filed l.stamps.keys (without_repeats (option_copied l.last) (drop l.pair-index l.pairs)) ≡ all_named l.tag l.filed l.initial.stamps.keys (without_repeats None l.pairs)
