-- Meaning. A panel beside other neighbours than its own.
use Rattle.std.specs.Prelude.{ℕ, ◌-◌, ◌==◌, if◌then◌else◌, List, [], ◌∷◌, codes, Option, Some, None}
use Rattle.tk_base.specs.declared.budget.Budget.{Budget}
use Rattle.tk_session.specs.declared.session.AppBlock.{AppBlock}
use Rattle.panels.specs.declared.isolation.Neighbours.{Neighbours}
use Rattle.panels.specs.declared.isolation.Neighbours.TheVariants.{Blank, Endless}

abbrev pub script_of : Neighbours → List ℕ
script_of Blank = []
script_of Endless = codes "while 1 {}"

abbrev pub budget_of : Neighbours → Budget
budget_of Blank = record { total = 0; refill = 0 }
budget_of Endless = record { total = 10000; refill = 100 }

-- what stands in the place of a panel
abbrev pub neighbour : Neighbours → AppBlock → AppBlock
neighbour neighbours panel =
    record { name = panel.name; rect = panel.rect; budget = budget_of neighbours; aliases = []; script = script_of neighbours }

-- how many panels come before the one that stays, behind one of them; none where it has come
abbrev pub after : Option ℕ → Option ℕ
after None = None
after (Some count) = if count == 0 then None else Some (count - 1)

-- a panel where so many come before the one that stays: it itself, where that is it
abbrev pub stood : Neighbours → Option ℕ → AppBlock → AppBlock
stood neighbours None panel = neighbour neighbours panel
stood neighbours (Some count) panel = if count == 0 then panel else neighbour neighbours panel

-- Panels of which all but one are others: so many come before that one, which stays as it is.
abbrev pub beside : Neighbours → Option ℕ → List AppBlock → List AppBlock
beside neighbours before [] = []
beside neighbours before (panel ∷ panels) = stood neighbours before panel ∷ beside neighbours (after before) panels
