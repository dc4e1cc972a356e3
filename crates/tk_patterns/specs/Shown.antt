-- Steps. What a candidate in the code is.
use Rattle.std.specs.Option.{option_copied}
use Rattle.tk_patterns.specs.declared.candidate.Contender.{Contender}
use Rattle.tk_patterns.specs.Specific.{Candidate}

abbrev pub shown : Contender → Candidate
shown contender = record { patterns = contender.patterns.now; name = option_copied contender.name; script = contender.script.now }
