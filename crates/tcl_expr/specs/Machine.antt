-- Steps. What one step and many steps of the machine come to.
use Rattle.std.specs.Prelude.{◌≡◌, ◌≤◌, ◌<◌, ◌⊎◌, ◌+◌, ℕ, List, [], ◌∷◌, ◌++◌, length, drop, Result, Ok, Err}
use Rattle.tcl_expr.specs.declared.fault.EvalFault.{EvalFault}
use Rattle.tcl_expr.specs.declared.fault.EvalFault.TheVariants.{NoMemory}
use Rattle.tcl_expr.specs.declared.value.Value.{Value}
use Rattle.tcl_expr.specs.declared.value.Value.TheVariants.{Words}
use Rattle.tcl_expr.specs.declared.step.Step.{Step}
use Rattle.tcl_expr.specs.declared.step.Step.TheVariants as step
use Rattle.tcl_expr.specs.declared.ask.Ask.{Ask}
use Rattle.tcl_expr.specs.declared.ask.Ask.TheVariants.{Variable, Element, Command, Value as ValueOf}
use Rattle.tcl_expr.specs.declared.machine.Turn.{Turn}
use Rattle.tcl_expr.specs.declared.machine.Turn.TheVariants.{Skip, Stop}
use Rattle.tcl_expr.specs.declared.machine.Halt.{Halt}
use Rattle.tcl_expr.specs.declared.machine.Advance.{Advance}
use Rattle.tcl_expr.specs.declared.machine.Advance.TheVariants.{On, Halted}
use Rattle.tcl_expr.specs.Run.{Run, Ends}
use Rattle.tcl_expr.specs.Steps.{asks, perform, execute}

-- the step that asks something; a value is asked by none
abbrev pub asking : Ask → List Step
asking (Variable name) = step.Variable name ∷ []
asking (Element array index) = step.Element array ∷ []
asking (Command script) = step.Command script ∷ []
asking (ValueOf text) = []

-- What is asked is asked by one of the steps, of which only those behind it are left: none is asked twice, and each question leaves fewer steps.
abbrev pub AsksBy : List Step → Ask → List Step → Type 0
AsksBy steps ask left = (taken : List Step) × (steps ≡ taken ++ (asking ask ++ left))

-- what steps weigh together
abbrev pub weight : (Step → ℕ) → List Step → ℕ
weight weigh [] = 0
weight weigh (own ∷ steps) = weigh own + weight weigh steps

-- Whatever the steps weigh: what is asked and what is left weigh no more than the steps did.
abbrev pub WeighsLess : Type 0
WeighsLess =
    (weigh : Step → ℕ) (steps left : List Step) (ask : Ask) → AsksBy steps ask left → weight weigh (asking ask) + weight weigh left ≤ weight weigh steps

-- a step, from a stack to a stack, whatever comes behind it
abbrev pub Performs : Step → List Value → Result Turn EvalFault → List Value → Type 0
Performs step old (Ok (Skip count)) new = (go : ℕ → List Value → Run) → perform step old go ≡ go count new
Performs step old (Ok (Stop ask)) new =
    ((go : ℕ → List Value → Run) → perform step old go ≡ asks ask (λ text. go 0 (Words text ∷ new))) × (asking ask ≡ step ∷ [])
Performs step old (Err fault) new = ((go : ℕ → List Value → Run) → perform step old go ≡ Ends (Err fault)) ⊎ (fault ≡ NoMemory)

-- what is asked, and where it goes on then
abbrev pub HaltsAt : List Step → ℕ → List Value → Halt → List Value → Type 0
HaltsAt steps place old halt new = execute 0 (drop place steps) old ≡ asks halt.ask (λ text. execute 0 (drop halt.place steps) (Words text ∷ new))

abbrev pub FailsAt : List Step → ℕ → List Value → EvalFault → Type 0
FailsAt steps place old fault = (execute 0 (drop place steps) old ≡ Ends (Err fault)) ⊎ (fault ≡ NoMemory)

-- one step at a place of the steps
abbrev pub Advances : List Step → ℕ → List Value → Result Advance EvalFault → List Value → Type 0
Advances steps place old (Ok (On next)) new = (execute 0 (drop place steps) old ≡ execute 0 (drop next steps) new) × (place < next) × (next ≤ length steps)
Advances steps place old (Ok (Halted halt)) new = HaltsAt steps place old halt new × (drop place steps ≡ asking halt.ask ++ drop halt.place steps)
Advances steps place old (Err fault) new = FailsAt steps place old fault

-- the steps from a place on
abbrev pub Halts : List Step → ℕ → List Value → Result Halt EvalFault → List Value → Type 0
Halts steps place old (Ok halt) new = HaltsAt steps place old halt new × AsksBy (drop place steps) halt.ask (drop halt.place steps)
Halts steps place old (Err fault) new = FailsAt steps place old fault
