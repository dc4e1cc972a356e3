use Rattle.std.proofs.Common.{Bool, Result, Ok, ap, sym, ◌∙◌, rules}
use Rattle.tcl_text.specs.Readings.{IsBoolean, is_nonzero, boolean_by, boolean_of}
use Rattle.tcl_text.proofs.BooleanReading.{IsBoolean-from_boolean_of, boolean_of-from_IsBoolean}
use Rattle.tcl_text.proofs.ReadingLemmas.{ok_iff, err_iff}
use Rattle.tcl_text.proofs.text.Text.boolean.Goals as goal

pub returns-in-Some-clause-read : goal.returns-in-Some-clause-read
unfolding boolean_of
returns-in-Some-clause-read c =
    let text = c.args.self.now in
    ok_iff (IsBoolean text) (boolean_of text) (IsBoolean-from_boolean_of text) (boolean_of-from_IsBoolean text) _ (search rules)

pub returns-in-Some-clause-refused : goal.returns-in-Some-clause-refused
unfolding boolean_of
returns-in-Some-clause-refused c =
    let text = c.args.self.now in
    let told : Result Bool Bool = Ok (is_nonzero c.in-Some.number) in
    err_iff (IsBoolean text) (boolean_of text) (IsBoolean-from_boolean_of text) (boolean_of-from_IsBoolean text) told
    (ap (λ read. boolean_by read text) (sym c.in-Some.is ∙ c.integer_of_text.ensures))

pub returns-clause-read : goal.returns-clause-read
unfolding boolean_of
returns-clause-read c =
    let text = c.args.self.now in
    ok_iff (IsBoolean text) (boolean_of text) (IsBoolean-from_boolean_of text) (boolean_of-from_IsBoolean text) c.ok_or.result (search rules)

pub returns-clause-refused : goal.returns-clause-refused
unfolding boolean_of
returns-clause-refused c =
    let text = c.args.self.now in
    err_iff (IsBoolean text) (boolean_of text) (IsBoolean-from_boolean_of text) (boolean_of-from_IsBoolean text) c.ok_or.result (search rules)
