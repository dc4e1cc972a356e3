use Rattle.std.proofs.Common.{rules}
use Rattle.std.specs.Str.{chars}
use Rattle.tcl_text.proofs.GlobLemmas.{class_split}
use Rattle.tcl_text.proofs.GlobMasks.{allowed_class, behind_class_first}
use Rattle.tcl_text.proofs.glob_masks.mark_class.Goals as goal

pub returns-clause-behind : goal.returns-clause-behind
returns-clause-behind g c =
    let split = class_split c.args.text.now c.in_ok-class.class c.in_ok-class.rest (search rules) c.in_ok-class.ensures.cases in
    λ character other allows. behind_class_first (chars c.args.text.now) (chars c.in_ok-class.class.now) (chars c.in_ok-class.rest.now) character other split.0 split.1 allows

pub returns-clause-below : goal.returns-clause-below
returns-clause-below g c =
    let split = class_split c.args.text.now c.in_ok-class.class c.in_ok-class.rest (search rules) c.in_ok-class.ensures.cases in
    allowed_class _ _ (chars c.args.text.now) (chars c.in_ok-class.class.now) (chars c.in_ok-class.rest.now) _ _ _ split.0 split.1 c.mark_members.ensures.below

pub returns-clause-above : goal.returns-clause-above
returns-clause-above g c =
    let split = class_split c.args.text.now c.in_ok-class.class c.in_ok-class.rest (search rules) c.in_ok-class.ensures.cases in
    allowed_class _ _ (chars c.args.text.now) (chars c.in_ok-class.class.now) (chars c.in_ok-class.rest.now) _ _ _ split.0 split.1 c.mark_members.ensures.above
