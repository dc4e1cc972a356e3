use Rattle.std.proofs.Common.{◌+◌, drop}
use Rattle.tcl_words.specs.Moves.{in_text}
use Rattle.tcl_words.specs.declared.kind.Kind.TheVariants.{Dollar}
use Rattle.tcl_words.specs.declared.kind.Dollar.TheVariants.{Alone}
use Rattle.tcl_words.proofs.Steps.{text_goes_on, named_goes_on, braced_goes_on, indexed_opens, dollar_is, cut_named, cut_braced, cut_indexed}
use Rattle.tcl_words.proofs.read.read_dollar.Goals as goal

pub push_name-requires-clause-name_ends : goal.push_name-requires-clause-name_ends
push_name-requires-clause-name_ends c = cut_named c.args.source.now c.args.at c.in-Named.count c.utf8.source c.requires.stands.within c.in-Named.ensures.fits

pub push_name-requires-in-Braced-clause-name_begins : goal.push_name-requires-in-Braced-clause-name_begins
push_name-requires-in-Braced-clause-name_begins c = (cut_braced c.args.source.now c.args.at c.in-Braced.count c.utf8.source c.requires.stands.within c.in-Braced.ensures.fits).0

pub push_name-requires-in-Braced-clause-name_ends : goal.push_name-requires-in-Braced-clause-name_ends
push_name-requires-in-Braced-clause-name_ends c = (cut_braced c.args.source.now c.args.at c.in-Braced.count c.utf8.source c.requires.stands.within c.in-Braced.ensures.fits).1

pub returns-in-Alone : goal.returns-in-Alone
returns-in-Alone c =
    text_goes_on c.args.parts.now c.args.source.now c.args.mode c.args.at c.args.byte Dollar (in_text c.args.mode Dollar c.args.byte (drop (c.args.at + 1) c.args.source.now)) c.requires.stands c.requires.fine
    (dollar_is c.args.mode c.args.byte (drop (c.args.at + 1) c.args.source.now) Alone c.in-Alone.ensures.form)

pub returns-in_ok-push_name-in-Named : goal.returns-in_ok-push_name-in-Named
returns-in_ok-push_name-in-Named c =
    rw c.in_ok-push_name-in-Named.ensures.ok
    (named_goes_on c.args.parts.now c.args.source.now c.args.mode c.args.at c.in-Named.count c.args.byte c.in-Named.ensures.form (cut_named c.args.source.now c.args.at c.in-Named.count c.utf8.source c.requires.stands.within c.in-Named.ensures.fits))

pub returns-in_ok-end_literal-in-Indexed : goal.returns-in_ok-end_literal-in-Indexed
returns-in_ok-end_literal-in-Indexed c =
    rw c.in_ok-end_literal-in-Indexed.ensures.ok
    (indexed_opens c.args.parts.now c.args.source.now c.args.mode c.args.at c.in-Indexed.count c.args.byte c.in-Indexed.ensures.form (cut_indexed c.args.source.now c.args.at c.in-Indexed.count c.utf8.source c.requires.stands.within (c.requires.stands.cut_after (λ e. cc)) c.in-Indexed.ensures.fits))

pub returns-in_ok-push_name-in-Braced : goal.returns-in_ok-push_name-in-Braced
returns-in_ok-push_name-in-Braced c =
    rw c.in_ok-push_name-in-Braced.ensures.ok
    (braced_goes_on c.args.parts.now c.args.source.now c.args.mode c.args.at c.in-Braced.count c.args.byte c.in-Braced.ensures.form (cut_braced c.args.source.now c.args.at c.in-Braced.count c.utf8.source c.requires.stands.within c.in-Braced.ensures.fits).2)
