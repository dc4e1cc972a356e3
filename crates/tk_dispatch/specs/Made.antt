-- Steps. Scripts that are kept while those of an event are made, and what was chosen for tags.
use Rattle.std.specs.Prelude.{◌≡◌, ℕ, List, Option, Some, Ok, IfSome, option_map}
use Rattle.std.specs.Borrow.{Bor}
use Rattle.std.specs.HashMap.{HashMap, get}
use Rattle.std.specs.Str.{bytes_eq}
use Rattle.tcl_text.specs.Answers.{Answer}

-- each is the script of the tag that it is kept under
abbrev pub AreMade : {S : Type 0} → (List ℕ → Option Answer) → HashMap (Bor (List ℕ)) (List ℕ) S → Type 0
AreMade script_of made = (tag : Bor (List ℕ)) → IfSome (get (λ x y. bytes_eq x.now y.now) made tag) (λ script. script_of tag.now ≡ Some (Ok script))

-- each is what the tag that it is kept under runs, if that is to run something
abbrev pub AreChosen : {S : Type 0} → (List ℕ → Option Answer) → HashMap (Bor (List ℕ)) (Option (List ℕ)) S → Type 0
AreChosen script_of chosen = (tag : Bor (List ℕ)) → IfSome (get (λ x y. bytes_eq x.now y.now) chosen tag) (λ script. script_of tag.now ≡ option_map Ok script)
