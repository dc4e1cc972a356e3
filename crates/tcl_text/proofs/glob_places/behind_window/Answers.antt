use Rattle.std.proofs.Common.{take, ap, ◌∙◌, arith}
use Rattle.tcl_text.proofs.GlobPlaces.{behind_none, behind_window, dead_boundary}
use Rattle.tcl_text.proofs.glob_places.behind_window.Goals as goal

pub returns-then-places-lt-FEW_PLACES : goal.returns-then-places-lt-FEW_PLACES
returns-then-places-lt-FEW_PLACES c = behind_none _ _

pub range_from-requires : goal.range_from-requires
range_from-requires c = λ _.
    dead_boundary c.args.text.now _ _ c.dead_places-dead.result c.utf8.text (c.split_at.ensures.front ∙ ap (take _) c.as_bytes.ensures.value) c.if-not-is_ascii.ensures.cases (omega arith) (omega arith)

pub returns : goal.returns
returns c =
    behind_window _ c.args.text.now _ _ _ c.dead_places-dead.result c.utf8.text (c.split_at.ensures.front ∙ ap (take _) c.as_bytes.ensures.value) c.if-not-is_ascii.ensures.cases (omega arith) (omega arith) c.range_from.ensures.value c.dead_places-dead.ensures.none
