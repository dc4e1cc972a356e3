use Rattle.std.proofs.Common.{map, sym, ap, ◌∙◌}
use Rattle.std.specs.List.{remove}
use Rattle.tk_patterns.specs.declared.filed.Filed.{Filed}
use Rattle.tk_patterns.specs.Filed.{numbers_of}
use Rattle.tk_patterns.specs.Filing.{filed_under}
use Rattle.tk_patterns.proofs.KeptLemmas.{map_remove}
use Rattle.tk_patterns.proofs.own.take_out.Goals as goal

pub returns-clause-filed : goal.returns-clause-filed
returns-clause-filed c =
    ap numbers_of c.remove.ensures
    ∙ map_remove (λ (filed : Filed). filed.numbers) c.args.filed.now c.args.place
    ∙ ap (λ numbers. remove numbers c.args.place) c.requires.filed
    ∙ sym (map_remove filed_under c.args.bindings.now.items c.args.place)
    ∙ ap (map filed_under) (sym c.remove-2.ensures.items)
