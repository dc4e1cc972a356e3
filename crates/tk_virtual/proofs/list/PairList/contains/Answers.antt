use Rattle.std.proofs.Common.{ap, ◌∙◌}
use Rattle.std.specs.List.{list_any}
use Rattle.std.proofs.lemmas.Map.Made.{is_some-lookup}
use Rattle.tk_virtual.specs.Virtual.{is_same}
use Rattle.tk_virtual.proofs.list.PairList.contains.Goals as goal

pub returns : goal.returns
returns c =
    let test = is_same c.args.pair.now in
    c.contains_key.ensures ∙ is_some-lookup test c.self.inside.pairs.entries ∙ ap (list_any test) c.self.view_is
