use Rattle.std.proofs.Common.{length}
use Rattle.tk_patterns.specs.Filing.{filing_number, sequence_number}
use Rattle.tk_patterns.specs.Own.{is_of}
use Rattle.tk_patterns.specs.Wanted.{sequence_of}
use Rattle.tk_patterns.proofs.SeekLemmas.{Seeking, under_its_number}
use Rattle.tk_patterns.proofs.seeking.place_of.Given as goal

abbrev pub invariant-loop-stamp : goal.invariant-loop-stamp
invariant-loop-stamp l = Seeking (is_of l.tag (sequence_of l.wanted)) (filing_number l.tag (sequence_number (sequence_of l.wanted))) (under_its_number l.tag (sequence_of l.wanted)) l.filed l.bindings l.rest

abbrev pub decreases-loop-stamp : goal.decreases-loop-stamp
decreases-loop-stamp l = length l.rest
