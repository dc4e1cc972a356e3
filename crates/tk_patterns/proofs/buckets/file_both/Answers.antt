-- The stamp that came is the last of its class, and is taken out again.
use Rattle.tk_patterns.specs.Filed.{bucket_in}
use Rattle.tk_patterns.proofs.FiledLemmas.{all_back}
use Rattle.tk_patterns.proofs.buckets.file_both.Goals as goal

pub returns-in-Err-clause-err : goal.returns-in-Err-clause-err
returns-in-Err-clause-err c = (
  all_back c.args.numbers.class c.args.stamp (bucket_in c.args.classes.now) (bucket_in c.file.new.buckets) (bucket_in c.take_last.new.buckets) c.in_ok-file.ensures.ok c.take_last.ensures.own c.take_last.ensures.others,
  c.in-Err.ensures.err,
)
