use Rattle.std.proofs.lemmas.Result.{IfOk-weaker, IfErr-weaker}
use Rattle.tcl_words.proofs.Grammars.{read_is_script, told_is_fault}
use Rattle.tcl_words.proofs.Parses.{script_answered, fault_answered}
use Rattle.tcl_table.proofs.cache.ScriptCache.parsed.Goals as goal

pub returns-clause-script : goal.returns-clause-script
returns-clause-script c = IfOk-weaker c.kept_or_read.result _ _ (λ _ ok. read_is_script c.args.text.now ok) c.kept_or_read.ensures.ok

pub returns-clause-fault : goal.returns-clause-fault
returns-clause-fault c = IfErr-weaker c.kept_or_read.result _ _ (told_is_fault c.args.text.now) c.kept_or_read.ensures.fault

pub returns-clause-read : goal.returns-clause-read
returns-clause-read c = script_answered c.args.text.now c.kept_or_read.result (c.kept_or_read.ensures.ok, c.kept_or_read.ensures.fault)

pub returns-clause-told : goal.returns-clause-told
returns-clause-told c = fault_answered c.args.text.now c.kept_or_read.result (c.kept_or_read.ensures.ok, c.kept_or_read.ensures.fault)
