use Rattle.std.proofs.Common.{◌≡◌, drop, option_map, IfSome}
use Rattle.std.specs.Option.{MatchOption}
use Rattle.panels_text.specs.Words.{IsKnown, distance, nearest, words_of}
use Rattle.panels_text.proofs.MeantLemmas.{onto}
use Rattle.panels_text.proofs.nearest.nearest.Given as goal

-- what was found stands in the list, and is the nearest of those before
abbrev pub invariant-loop-candidate : goal.invariant-loop-candidate
invariant-loop-candidate l = record {
  known : IfSome l.found (λ near. IsKnown near.now l.known);
  nearest : onto l.word (option_map (λ near. near.now) l.found) (nearest l.word (words_of (drop l.candidate-index l.known))) ≡ nearest l.word (words_of l.known);
  least : MatchOption l.found (l.least ≡ 18446744073709551615) (λ near. l.least ≡ distance l.word near.now);
}
