-- Meaning. What was likely meant by a word that isn't there, and what to write in place of one that has no meaning here.
use Rattle.std.specs.Prelude.{◌≡◌, ℕ, ◌/◌, Bool, not, ◌&&◌, if◌then◌else◌, List, [], ◌∷◌, ◌++◌, length, map, filter, find, flat_map, take, nat_le, nat_lt, codes, Option, Some, None, option_map}
use Rattle.std.specs.Borrow.{Bor}
use Rattle.std.specs.List.Sorted.{IsPermutation, IsSortedByKey, IsStableByKey}
use Rattle.std.specs.Ordering.{nat_cmp}
use Rattle.std.specs.Str.{bytes_eq}
use Rattle.panels_text.specs.Keys.{here_for}
use Rattle.panels_text.specs.Words.{distance, is_known, is_near, words_of}
use Rattle.panels_text.specs.declared.meant.TheConstants.{EVENTS, WORDS}
use Rattle.tk_base.specs.declared.kind.Kind.{Kind}
use Rattle.tk_options.specs.Names.{name_of}
use Rattle.tk_options.specs.Rows.{row_of}
use Rattle.tk_options.specs.declared.rows.TheConstants.{KINDS}

-- words of Tcl and Tk that have no meaning here, each beside what to do in its place
unfoldable pub replacements : List (List ℕ × List ℕ)
replacements =
    (codes "package", codes "leave it out: Tk is there") ∷
    (codes "exit", codes "write destroy ., which closes the panel") ∷
    (codes "grid", codes "write a frame for each row, and pack") ∷
    (codes "place", codes "write pack, in frames") ∷
    (codes "labelframe", codes "write a frame with a label packed first") ∷
    (codes "canvas", codes "write a frame with -background, or labels") ∷
    (codes "scrollbar", codes "leave it out: a list can't be scrolled") ∷
    (codes "-yscrollcommand", codes "leave it out: a list can't be scrolled") ∷
    (codes "see", codes "leave it out: a list can't be scrolled") ∷
    (codes "-font", codes "leave it out: there is one font") ∷
    (codes "-justify", codes "leave it out") ∷
    (codes "-default", codes "leave it out") ∷
    (codes "-underline", codes "leave it out") ∷
    (codes "-takefocus", codes "leave it out") ∷
    (codes "-show", codes "write a label with the stars, and a binding that collects the code") ∷
    (codes "-listvariable", codes "write delete 0 end and insert end {*}$items where the variable changes") ∷
    (codes "trace", codes "write a call where the variable is set, or a binding behind the class's") ∷
    (codes "bell", codes "write a label that tells it") ∷
    (codes "tk_messageBox", codes "write a label that tells it") ∷
    (codes "stderr", codes "leave it out: there is one channel") ∷
    (codes "format", codes "write a procedure of your own, as proc two {n} {if {$n < 10} {return 0$n}; return $n}") ∷
    (codes "is", codes "write string match, as string match {[0-9]} $c") ∷
    (codes "lassign", codes "write foreach {x y} $list break") ∷
    (codes "namespace", codes "write one array, and global in its procedures") ∷
    (codes "variable", codes "write global") ∷
    (codes "vwait", codes "write after: a script that waits takes all its steps") ∷
    (codes "geometry", codes "leave it out: the bench says the rectangle") ∷
    (codes "resizable", codes "leave it out: the bench says the rectangle") ∷
    (codes "config", codes "write configure") ∷ []

-- what stands beside a word in a table, in the first of its rows
abbrev pub beside : List ℕ → List (List ℕ × List ℕ) → Option (List ℕ)
beside word rows = option_map (λ (row : List ℕ × List ℕ). row.1) (find (λ (row : List ℕ × List ℕ). bytes_eq row.0 word) rows)

abbrev pub rows_of : List (Bor (List ℕ) × Bor (List ℕ)) → List (List ℕ × List ℕ)
rows_of rows = map (λ (row : Bor (List ℕ) × Bor (List ℕ)). (row.0.now, row.1.now)) rows

-- a word is near enough to be meant: at most half of the letters are changed for it
abbrev pub is_likely : List ℕ → List ℕ → Bool
is_likely word other = is_near word other && nat_le (distance word other) (length word / 2)

-- those of a list that may be meant, each with how many letters are changed for it
abbrev pub likely_in : List ℕ → List (List ℕ) → List (ℕ × List ℕ)
likely_in word others = map (λ other. (distance word other, other)) (filter (is_likely word) others)

-- the name that a key has here is what is meant by the one that another system gives it
abbrev pub key_meant : Option (List ℕ) → List (ℕ × List ℕ)
key_meant None = []
key_meant (Some here) = (0, here) ∷ []

-- the options of the widgets, kind by kind
abbrev pub words_of_kind : Kind → List (List ℕ)
words_of_kind kind = map (λ row. name_of row.option) (row_of kind).options

abbrev pub option_words : List (List ℕ)
option_words = flat_map words_of_kind KINDS.now

-- all that may be meant: a script's own procedures, a key, the words that have a meaning somewhere, events and keys, the options of widgets
abbrev pub candidates : List ℕ → List (List ℕ) → List (ℕ × List ℕ)
candidates word own =
    likely_in word own ++ (key_meant (here_for word) ++ (likely_in word (map (λ other. other.now) WORDS) ++ (likely_in word (map (λ other. other.now) EVENTS) ++ likely_in word option_words)))

-- each word once, where it stands first
abbrev pub distinct : List (List ℕ) → List (List ℕ)
distinct [] = []
distinct (word ∷ words) = word ∷ filter (λ other. not (bytes_eq word other)) (distinct words)

-- how many words are tried in place of one
abbrev pub most_tried : ℕ
most_tried = 4

-- words, and one more behind them, unless it is there or as many are as are tried
abbrev pub with_word : List ℕ → List (Bor (List ℕ)) → List (List ℕ)
with_word word words = if nat_lt (length words) most_tried && not (is_known word words) then words_of words ++ word ∷ [] else words_of words

-- a word that was found, with how many letters are changed for it
abbrev pub Found : Type 0
Found = ℕ × Bor (List ℕ)

abbrev pub plain : List Found → List (ℕ × List ℕ)
plain found = map (λ (one : Found). (one.0, one.1.now)) found

abbrev pub found_words : List Found → List (List ℕ)
found_words found = map (λ (one : Found). one.1.now) found

-- all that may be meant, with the nearest first, and of those that are as near in their order
pub record IsNearestFirst (found sorted : List Found) : Type 0 where
  pub all : IsPermutation found sorted
  pub ascending : IsSortedByKey (λ (one : Found). one.0) nat_cmp sorted
  pub stable : IsStableByKey (λ (one : Found). one.0) nat_cmp found sorted

-- the first few of all that may be meant, the nearest first, each once
abbrev pub AreLikely : List ℕ → List (List ℕ) → List (List ℕ) → Type 0
AreLikely word own words =
    (found : List Found) × (sorted : List Found) × (plain found ≡ candidates word own) × IsNearestFirst found sorted
    × (words ≡ take most_tried (distinct (found_words sorted)))
