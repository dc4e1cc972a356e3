-- Meaning. How the streams of a transcript are called.
use Rattle.std.specs.Prelude.{ℕ, List, codes}
use Rattle.tk_panel.specs.declared.transcript.Stream.{Stream}
use Rattle.tk_panel.specs.declared.transcript.Stream.TheVariants.{Out, Err}

abbrev pub stream_name : Stream → List ℕ
stream_name Out = codes "out"
stream_name Err = codes "err"
