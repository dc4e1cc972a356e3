use Rattle.std.proofs.Common.{List, ◌++◌, map, ap, ◌∙◌}
use Rattle.std.proofs.lemmas.Result.{IfOk-weaker}
use Rattle.panels_text.specs.declared.calls.Unread.{Unread}
use Rattle.panels_report.specs.declared.linting.Wrong.{Wrong}
use Rattle.panels_report.specs.Lint.{Told, told, unread_told}
use Rattle.panels_report.proofs.linting.wrong_in.Goals as goal

pub returns : goal.returns
returns c =
    let more = c.in_ok-push_wrong.ensures in
    let unread = c.as_slice.result.now in
    IfOk-weaker c.by_line.result _ _
    (λ sorted is. record {
      by_questions = more.0;
      are_wrong = more.1;
      all = c.push_wrong.new.wrong.items;
      all_are =
          more.2 ∙ ap (λ (front : List Told). front ++ more.0)
          (c.in_ok-push_unread.ensures ∙ ap (λ (none : List Wrong). map told none ++ map unread_told unread) c.new-wrong.ensures.items
          ∙ ap (λ (own : List Unread). map unread_told own) c.as_slice.ensures.value);
      by_line = is;
    })
    c.by_line.ensures
