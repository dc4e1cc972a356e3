use Rattle.std.proofs.Common.{◌∙◌, inl, arith}
use Rattle.tcl_text.specs.declared.fault.ParseFault.TheVariants.{TooLong}
use Rattle.tcl_words.proofs.Nests.{chain_fault}
use Rattle.tcl_words.proofs.Readers.{opening_as}
use Rattle.tcl_words.proofs.nesting.Reader.open_within.Goals as goal

pub returns-then-self-eq0-clause-fault : goal.returns-then-self-eq0-clause-fault
returns-then-self-eq0-clause-fault c = inl (chain_fault c.args.source.now c.args.self.now.first c.args.self.now.origin c.args.self.now.waiting.items TooLong c.requires.opening.chain (c.requires.opening.full c.if-self-eq0.true))

pub returns-clause-ok : goal.returns-clause-ok
returns-clause-ok c =
    opening_as c.args.source.now c.args.self.now.waiting.items c.args.self.now.origin c.args.self.now.parts c.args.self.now.next c.args.opener c.args.mode c.push.new.self.items c.opened-origin.result c.replace-parts.new.dest c.replace-parts.result
    c.requires.opening (omega (arith, c.if-self-eq0.false)) c.in_ok-push.ensures.items c.replace-parts.ensures.value c.opened-origin.ensures (c.replace-parts.ensures.after ∙ c.new.ensures)
