mod JoinLemmas
mod SumLemmas
