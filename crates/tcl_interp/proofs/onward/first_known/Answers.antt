use Rattle.std.proofs.Common.{sym, subst, ap}
use Rattle.std.proofs.lemmas.Result.{IfOk-weaker}
use Rattle.tcl_control.specs.declared.context.Context.{Context}
use Rattle.tcl_interp.specs.Moves.{moved, standing}
use Rattle.tcl_interp.specs.Quiet.{Leads}
use Rattle.tcl_interp.specs.Rests.{doing_of}
use Rattle.tcl_interp.proofs.OnwardLemmas.{begin_leads}
use Rattle.tcl_interp.proofs.onward.first_known.Goals as goal

pub returns-else-room-gt0 : goal.returns-else-room-gt0
returns-else-room-gt0 g c =
    let b = c.in-Begins in
    let context : Context = record { levels = c.args.context.now.levels; commands = c.begun.new.table } in
    IfOk-weaker c.begun.result _ _ (λ next begins. λ store waits.
    subst (λ now. Leads (standing (moved (doing_of now) waits) store c.args.context.now) (standing (moved (doing_of next) waits) store context)) (sym b.is)
    (begin_leads b.room b.script c.in_ok-script-in-Begins.script waits store c.args.context.now context (doing_of next) c.in_ok-script-in-Begins.ensures
    (ap (λ table. record c.args.context.now { commands = table }) c.begun.ensures.table) (begins waits))) c.begun.ensures.now
