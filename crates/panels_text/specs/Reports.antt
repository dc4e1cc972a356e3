-- Meaning. What is told of cases, for persons and for programs.
use Rattle.std.specs.Prelude.{ℕ, ◌+◌, Bool, ◌==◌, ◌||◌, if◌then◌else◌, List, [], ◌∷◌, ◌++◌, length, map, flat_map, codes, nat_lt, encode_utf8}
use Rattle.std.specs.Fmt.{decimal}
use Rattle.std.specs.Str.{chars}
use Rattle.std.specs.String.{string_bytes}
use Rattle.panels_text.specs.Texts.{first_line, lines_of}
use Rattle.panels_text.specs.Verdicts.{count_failed, is_fine, title}
use Rattle.panels_text.specs.declared.cases.Case.{Case}
use Rattle.serde_json.specs.Data as json
use Rattle.serde_json.specs.Data.{Data}
use Rattle.serde_json.specs.View.{items_of}

-- the problems of a case
abbrev pub problems_of : Case → List (List ℕ)
problems_of case = map string_bytes case.problems.items

-- for a person: a line for each case, and those of what isn't as it has to be
abbrev pub problem_line : List ℕ → List ℕ
problem_line problem = codes "    " ++ (problem ++ codes "\n")

unfoldable pub case_lines : Case → List ℕ
case_lines case = (if is_fine case then codes "ok    " else codes "FAIL  ") ++ (title case ++ (codes "\n" ++ flat_map problem_line (problems_of case)))

abbrev pub totals : List Case → List ℕ
totals cases = decimal (length cases) ++ (codes " panels, " ++ (decimal (count_failed cases) ++ codes " of them failed\n"))

abbrev pub report : List Case → List ℕ
report cases = flat_map case_lines cases ++ totals cases

-- the Test Anything Protocol: a `#` would begin a directive, so that a backslash stands before it and before another
abbrev pub described : ℕ → List ℕ
described one = if one == 35 then codes "\\#" else if one == 92 then codes "\\\\" else encode_utf8 one

-- XML: the characters that it gives a meaning to, as it writes them; one that it hasn't is the replacement character
abbrev pub is_outside_xml : ℕ → Bool
is_outside_xml one = nat_lt one 32 || (one == 65534 || one == 65535)

abbrev pub xml_of : ℕ → List ℕ
xml_of one =
    if one == 38 then codes "&amp;" else if one == 60 then codes "&lt;" else if one == 62 then codes "&gt;" else if one == 34 then codes "&quot;"
    else if one == 10 then codes "&#10;" else if one == 9 then codes "&#9;" else if is_outside_xml one then 239 ∷ 191 ∷ 189 ∷ [] else encode_utf8 one

unfoldable pub xml_text : List ℕ → List ℕ
xml_text words = flat_map xml_of (chars words)

unfoldable pub tap_text : List ℕ → List ℕ
tap_text words = flat_map described (chars words)

-- a problem as comments
abbrev pub comment : List ℕ → List ℕ
comment line = codes "# " ++ (line ++ codes "\n")

unfoldable pub comments : List ℕ → List ℕ
comments problem = flat_map comment (lines_of problem)

unfoldable pub test_point : ℕ → Case → List ℕ
test_point number case =
    (if is_fine case then codes "ok" else codes "not ok") ++ (codes " " ++ (decimal number ++ (codes " - " ++ (tap_text (title case) ++ (codes "\n" ++ flat_map comments (problems_of case))))))

abbrev pub tests_from : ℕ → List Case → List ℕ
tests_from number [] = []
tests_from number (case ∷ cases) = test_point number case ++ tests_from (number + 1) cases

abbrev pub tap : List Case → List ℕ
tap cases = (codes "TAP version 13\n1.." ++ (decimal (length cases) ++ codes "\n")) ++ tests_from 1 cases

unfoldable pub attribute : List ℕ → List ℕ → List ℕ
attribute name value = codes " " ++ (name ++ (codes "=\"" ++ (xml_text value ++ codes "\"")))

-- the panel, or of what is of none the bench's file
abbrev pub case_name : Case → List ℕ
case_name case = if length (string_bytes case.panel) == 0 then string_bytes case.bench else string_bytes case.panel

-- JUnit's XML: what isn't as it has to be, with its first line as the message; a case with all of them; and how many there are
unfoldable pub failure_element : List ℕ → List ℕ
failure_element problem = codes "      <failure" ++ (attribute (codes "message") (first_line problem) ++ (codes ">" ++ (xml_text problem ++ codes "</failure>\n")))

unfoldable pub case_element : Case → List ℕ
case_element case =
    codes "    <testcase" ++ (attribute (codes "classname") (string_bytes case.bench) ++ (attribute (codes "name") (case_name case) ++ (codes ">\n" ++ (flat_map failure_element (problems_of case) ++ codes "    </testcase>\n"))))

abbrev pub counts : List Case → List ℕ
counts cases = codes "tests=\"" ++ (decimal (length cases) ++ (codes "\" failures=\"" ++ (decimal (count_failed cases) ++ codes "\" errors=\"0\"")))

abbrev pub junit_head : List Case → List ℕ
junit_head cases = codes "<?xml version=\"1.0\" encoding=\"UTF-8\"?>\n<testsuites " ++ (counts cases ++ (codes ">\n  <testsuite name=\"panels\" " ++ (counts cases ++ codes ">\n")))

abbrev pub junit : List Case → List ℕ
junit cases = junit_head cases ++ (flat_map case_element cases ++ codes "  </testsuite>\n</testsuites>\n")

-- JSON: a case, with its problems as texts
abbrev pub texts_data : List (List ℕ) → Data
texts_data texts = json.array (items_of (map json.string texts))

abbrev pub case_data : Case → Data
case_data case =
    json.object (json.member (codes "bench") (json.string (string_bytes case.bench)) (json.member (codes "ok") (json.boolean (is_fine case)) (json.member (codes "panel") (json.string (string_bytes case.panel))
    (json.member (codes "problems") (texts_data (problems_of case)) json.no_members))))

-- what JSON tells of all cases: the cases, how many failed and how many there are
abbrev pub verdicts : List Case → Data
verdicts cases =
    json.object (json.member (codes "cases") (json.array (items_of (map case_data cases))) (json.member (codes "failed") (json.number (json.unsigned (count_failed cases)))
    (json.member (codes "panels") (json.number (json.unsigned (length cases))) json.no_members)))
