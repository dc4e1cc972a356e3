use Rattle.std.proofs.Common.{◌≡◌, rules}
use Rattle.std.specs.Result.{result_ok}
use Rattle.tcl_text.specs.Readings.{IsInteger, integer_of}
use Rattle.tcl_text.proofs.IntegerReading.{IsInteger-from_integer_of, integer_of-from_IsInteger}
use Rattle.tcl_text.proofs.ReadingLemmas.{ok_iff, err_iff}
use Rattle.tcl_text.proofs.text.Text.integer.Goals as goal

pub returns-clause-read : goal.returns-clause-read
returns-clause-read c =
    let text = c.args.self.now in
    let exact : result_ok c.ok_or.result ≡ integer_of text = search rules in
    ok_iff (IsInteger text) (integer_of text) (IsInteger-from_integer_of text) (integer_of-from_IsInteger text) c.ok_or.result exact

pub returns-clause-refused : goal.returns-clause-refused
returns-clause-refused c =
    let text = c.args.self.now in
    let exact : result_ok c.ok_or.result ≡ integer_of text = search rules in
    err_iff (IsInteger text) (integer_of text) (IsInteger-from_integer_of text) (integer_of-from_IsInteger text) c.ok_or.result exact
