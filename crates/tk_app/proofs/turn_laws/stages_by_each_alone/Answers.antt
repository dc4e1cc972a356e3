use Rattle.tk_app.proofs.Alone.{moments_own, moments_rise, told_alone}
use Rattle.tk_app.proofs.turn_laws.stages_by_each_alone.Goals as goal

pub returns-clause-turns : goal.returns-clause-turns
returns-clause-turns g c = λ next_due settled weight steps_left lighter quiet slice last parts. told_alone next_due settled weight lighter quiet steps_left slice last parts

pub returns-clause-moments : goal.returns-clause-moments
returns-clause-moments g c = λ next_due settled weight lighter last moment parts. moments_own next_due settled weight lighter last moment parts

pub returns-clause-rising : goal.returns-clause-rising
returns-clause-rising g c = λ next_due settled weight lighter quiet last parts. moments_rise next_due settled weight lighter quiet last parts
