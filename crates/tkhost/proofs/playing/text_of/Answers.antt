use Rattle.std.proofs.Common.{◌∙◌, List, length, ap, arith}
use Rattle.tk_session.specs.declared.session.AppBlock.{AppBlock}
use Rattle.tkhost.specs.Calls.{adding}
use Rattle.tkhost.proofs.Told.{played_count, played_sections, played_whole}
use Rattle.tkhost.proofs.playing.text_of.Goals as goal

pub sections-requires-clause-whole : goal.sections-requires-clause-whole
sections-requires-clause-whole g c =
    let plan = c.args.session.now in
    let lists = c.args.aliases.items in
    played_whole g.M.AliasMeaning.answer plan lists c.run_or_tell.new.host.held (c.in_ok-run_or_tell.ensures.history (adding plan.apps lists) c.in_ok-host.ensures.host)

pub sections-requires-clause-count : goal.sections-requires-clause-count
sections-requires-clause-count g c =
    let plan = c.args.session.now in
    let lists = c.args.aliases.items in
    let count = played_count g.M.AliasMeaning.answer plan lists c.run_or_tell.new.host.held c.requires.serve (c.in_ok-run_or_tell.ensures.history (adding plan.apps lists) c.in_ok-host.ensures.host) in
    omega (arith, count, ap (λ (apps : List AppBlock). length apps) c.apps.ensures.apps)

pub returns-clause-text : goal.returns-clause-text
returns-clause-text g c =
    let plan = c.args.session.now in
    let lists = c.args.aliases.items in
    c.in_ok-text.ensures.text ∙ played_sections g.M.AliasMeaning.answer plan lists c.run_or_tell.new.host.held c.requires.serve (c.in_ok-run_or_tell.ensures.history (adding plan.apps lists) c.in_ok-host.ensures.host)

-- the host was filled with the aliases that the session's applications have
pub run_or_tell-requires : goal.run_or_tell-requires
run_or_tell-requires g c = (c.args.aliases.items, c.requires.serve, c.in_ok-host.ensures.host)
