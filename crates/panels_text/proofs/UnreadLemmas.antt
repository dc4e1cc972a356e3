-- Lemmas on scripts that can't be read.
use Rattle.std.proofs.Common.{◌≡◌, ℕ, zero, suc, ◌+◌, ◌-◌, ◌<◌, ◌≤◌, Bool, Bor, true, false, cond, length, get_or, List, [], ◌∷◌, ◌++◌, map, take, drop, reverse, Option, Some, None, option_map, refl, sym, ap, subst, ◌∙◌, arith}
use Rattle.std.proofs.Math.Seq.{drop-nil, take-nil}
use Rattle.std.proofs.lemmas.List.{drop_all, drop_more, reverse-append}
use Rattle.std.specs.Prelude.{IfSome, find, nat_lt, replicate}
use Rattle.tcl_text.specs.declared.fault.ParseFault.{ParseFault}
use Rattle.panels_text.specs.Indents.{bare, closed_in, closing, displaced, indent_of, is_displaced, open_behind}
use Rattle.panels_text.specs.Places.{later_line, numbered}
use Rattle.panels_text.specs.Unread.{Misread, beginnings, begins_behind, begun, first_or, last_or, lasting, lasting_in, misread_at, standing_at, standing_behind, told_at, told_of, up_to}
use Rattle.panels_text.specs.declared.fault_place.Standing.{Standing}
use Rattle.panels_text.specs.declared.fault_place.Standing.TheVariants.{Faulty, GoesOn, Whole}
use Rattle.panels_text.specs.declared.indents.Opened.{Opened}

-- what is left of lines that are gone through
pub lines_left : (rows : List (Bor (List ℕ))) (i : ℕ) (row : Bor (List ℕ)) → i < length rows → map (λ (line : Bor (List ℕ)). line.now) (drop i rows) ≡ (get_or rows i row).now ∷ map (λ (line : Bor (List ℕ)). line.now) (drop (i + 1) rows)
lines_left rows i row lt = ap (map (λ (line : Bor (List ℕ)). line.now)) (drop_more rows i row lt)

pub lines_gone : (rows : List (Bor (List ℕ))) (i : ℕ) → length rows ≤ i → map (λ (line : Bor (List ℕ)). line.now) (drop i rows) ≡ []
lines_gone rows i past = ap (map (λ (line : Bor (List ℕ)). line.now)) (drop_all i rows past)

-- ---- a list whose last item is taken off, or that gets one more

pub replicate_step : {A : Type 0} (items next : List A) (item : A) (n : ℕ) (first : List A) → next ≡ items ++ item ∷ [] → reverse items ≡ replicate n item ++ first → reverse next ≡ replicate (n + 1) item ++ first
replicate_step items next item n first is same =
    let e : n + 1 ≡ suc n = omega arith in
    ap reverse is ∙ reverse-append items (item ∷ []) ∙ ap (λ rest. item ∷ rest) same ∙ ap (λ k. replicate k item ++ first) (sym e)

top_first : {A : Type 0} (stack popped : List A) (top : A) → stack ≡ popped ++ top ∷ [] → reverse stack ≡ top ∷ reverse popped
top_first stack popped top is = ap reverse is ∙ reverse-append popped (top ∷ [])

find_at : {A : Type 0} (p : A → Bool) (count i : ℕ) (stack popped : List A) (top : A) (found : Option A) → i < count → stack ≡ popped ++ top ∷ [] → find p (take (count - i) (reverse stack)) ≡ found
    → cond (p top) (Some top) (find p (take (count - (i + 1)) (reverse popped))) ≡ found
find_at p count i stack popped top found lt is same =
    let left : count - i ≡ suc (count - (i + 1)) = omega arith in
    let P : ℕ → Type 0 = λ n. find p (take n (reverse stack)) ≡ found in
    let Q : List _ → Type 0 = λ xs. find p (take (suc (count - (i + 1))) xs) ≡ found in
    subst Q (top_first stack popped top is) (subst P left same)

-- the first of so many that were put on last
pub find_here : {A : Type 0} (p : A → Bool) (count i : ℕ) (stack popped : List A) (top : A) (found : Option A) → i < count → stack ≡ popped ++ top ∷ [] → p top ≡ true
    → find p (take (count - i) (reverse stack)) ≡ found → Some top ≡ found
find_here p count i stack popped top found lt is here same =
    let R : Bool → Type 0 = λ b. cond b (Some top) (find p (take (count - (i + 1)) (reverse popped))) ≡ found in
    subst R here (find_at p count i stack popped top found lt is same)

pub find_later : {A : Type 0} (p : A → Bool) (count i : ℕ) (stack popped : List A) (top : A) (found : Option A) → i < count → stack ≡ popped ++ top ∷ [] → p top ≡ false
    → find p (take (count - i) (reverse stack)) ≡ found → find p (take (count - (i + 1)) (reverse popped)) ≡ found
find_later p count i stack popped top found lt is away same =
    let R : Bool → Type 0 = λ b. cond b (Some top) (find p (take (count - (i + 1)) (reverse popped))) ≡ found in
    subst R away (find_at p count i stack popped top found lt is same)

pub drop_later : {A : Type 0} (count i : ℕ) (stack popped : List A) (top : A) (left : List A) → i < count → stack ≡ popped ++ top ∷ [] → drop (count - i) (reverse stack) ≡ left
    → drop (count - (i + 1)) (reverse popped) ≡ left
drop_later count i stack popped top left lt is same =
    let less : count - i ≡ suc (count - (i + 1)) = omega arith in
    let P : ℕ → Type 0 = λ n. drop n (reverse stack) ≡ left in
    let Q : List _ → Type 0 = λ xs. drop (suc (count - (i + 1))) xs ≡ left in
    subst Q (top_first stack popped top is) (subst P less same)

-- none is left
pub find_none : {A : Type 0} (p : A → Bool) (n : ℕ) (stack : List A) (found : Option A) → stack ≡ [] → find p (take n (reverse stack)) ≡ found → None ≡ found
find_none p n stack found none same =
    let P : List _ → Type 0 = λ xs. find p (take n (reverse xs)) ≡ found in
    ap (find p) (sym (take-nil n)) ∙ subst P none same

pub drop_none : {A : Type 0} (n : ℕ) (stack left : List A) → stack ≡ [] → drop n (reverse stack) ≡ left → reverse stack ≡ left
drop_none n stack left none same =
    let P : List _ → Type 0 = λ xs. drop n (reverse xs) ≡ left in
    ap reverse none ∙ sym (drop-nil n) ∙ subst P none same

-- all were looked at
pub find_end : {A : Type 0} (p : A → Bool) (count i : ℕ) (xs : List A) (found : Option A) → i ≡ count → find p (take (count - i) xs) ≡ found → None ≡ found
find_end p count i xs found is same =
    let none : count - i ≡ 0 = omega arith in
    let P : ℕ → Type 0 = λ n. find p (take n xs) ≡ found in
    subst P none same

pub drop_end : {A : Type 0} (count i : ℕ) (xs left : List A) → i ≡ count → drop (count - i) xs ≡ left → xs ≡ left
drop_end count i xs left is same =
    let none : count - i ≡ 0 = omega arith in
    let P : ℕ → Type 0 = λ n. drop n xs ≡ left in
    subst P none same

-- ---- braces that lines close

-- the line of the first brace that is displaced by what is left of a script
abbrev pub displaced_by : ℕ → List Opened → List (List ℕ) → Option ℕ
displaced_by number braces lines = option_map (λ (closed : Opened × ℕ). closed.0.line) (find is_displaced (closed_in braces (numbered number lines)))

not_found : {A : Type 0} (x : A) → None ≡ Some x → ⊥
not_found {A} x is =
    let P : Option A → Type 0 = λ found. IfSome found (λ _. ⊥) in
    subst P is tt

closed_hit : (indent : ℕ) (braces : List Opened) (rest : List (Opened × ℕ)) (brace : Opened) → find (λ own. nat_lt indent own.indent) braces ≡ Some brace
    → find is_displaced (map (λ own. (own, indent)) braces ++ rest) ≡ Some (brace, indent)
closed_hit indent [] rest brace is = absurd (not_found brace is)
closed_hit indent (own ∷ braces) rest brace is =
    elim (nat_lt indent own.indent) as (λ b. cond b (Some own) (find (λ (other : Opened). nat_lt indent other.indent) braces) ≡ Some brace
    → cond b (Some (own, indent)) (find is_displaced (map (λ (other : Opened). (other, indent)) braces ++ rest)) ≡ Some (brace, indent)) [
      | true ↦ λ here. ap (option_map (λ (other : Opened). (other, indent))) here
      | false ↦ λ later. closed_hit indent braces rest brace later
    ] is

closed_miss : (indent : ℕ) (braces : List Opened) (rest : List (Opened × ℕ)) → find (λ own. nat_lt indent own.indent) braces ≡ None
    → find is_displaced (map (λ own. (own, indent)) braces ++ rest) ≡ find is_displaced rest
closed_miss indent [] rest is = refl
closed_miss indent (own ∷ braces) rest is =
    elim (nat_lt indent own.indent) as (λ b. cond b (Some own) (find (λ (other : Opened). nat_lt indent other.indent) braces) ≡ None
    → cond b (Some (own, indent)) (find is_displaced (map (λ (other : Opened). (other, indent)) braces ++ rest)) ≡ find is_displaced rest) [
      | true ↦ λ here. absurd (not_found own (sym here))
      | false ↦ λ later. closed_miss indent braces rest later
    ] is

-- one line more: it closes a brace that is displaced, or none
pub displaced_hit : (number : ℕ) (braces : List Opened) (line : List ℕ) (left lines : List (List ℕ)) (brace : Opened) (all : Option ℕ) → left ≡ line ∷ lines
    → Some brace ≡ find (λ own. nat_lt (indent_of line) own.indent) (take (closing (bare line)) braces) → displaced_by number braces left ≡ all → Some brace.line ≡ all
displaced_hit number braces line left lines brace all here is same =
    let P : List (List ℕ) → Type 0 = λ left. displaced_by number braces left ≡ all in
    let rest = closed_in (open_behind number line braces) (numbered (later_line number) lines) in
    let found = closed_hit (indent_of line) (take (closing (bare line)) braces) rest brace (sym is) in
    ap (option_map (λ (closed : Opened × ℕ). closed.0.line)) (sym found) ∙ subst P here same

pub displaced_miss : (number next : ℕ) (braces behind : List Opened) (line : List ℕ) (left lines : List (List ℕ)) (all : Option ℕ) → left ≡ line ∷ lines
    → None ≡ find (λ own. nat_lt (indent_of line) own.indent) (take (closing (bare line)) braces) → next ≡ later_line number → behind ≡ open_behind number line braces
    → displaced_by number braces left ≡ all → displaced_by next behind lines ≡ all
displaced_miss number next braces behind line left lines all here is later own same =
    let P : List (List ℕ) → Type 0 = λ left. displaced_by number braces left ≡ all in
    let rest = closed_in (open_behind number line braces) (numbered (later_line number) lines) in
    let none = closed_miss (indent_of line) (take (closing (bare line)) braces) rest (sym is) in
    ap (λ n. displaced_by n behind lines) later
    ∙ ap (λ others. displaced_by (later_line number) others lines) own
    ∙ ap (option_map (λ (closed : Opened × ℕ). closed.0.line)) (sym none)
    ∙ subst P here same

pub displaced_end : (number : ℕ) (braces : List Opened) (left : List (List ℕ)) (all : Option ℕ) → left ≡ [] → displaced_by number braces left ≡ all → None ≡ all
displaced_end number braces left all none same =
    let P : List (List ℕ) → Type 0 = λ left. displaced_by number braces left ≡ all in
    subst P none same

-- ---- a script that is read line by line

-- what is told of what is left of a script: behind this text, where the last command begins in this line and stands so, and its end says this
abbrev pub misread_from : (ℕ → Standing → Misread) → ℕ → ℕ → List ℕ → Standing → List (List ℕ) → Misread
misread_from ending number begun_at text last lines = told_of ending begun_at last (numbered number (standing_behind text lines))

-- a fault that lasts is told
pub misread_hit : (ending : ℕ → Standing → Misread) (number begun_at : ℕ) (text : List ℕ) (last : Standing) (line : List ℕ) (left lines : List (List ℕ)) (fault : ParseFault) (all : Misread) → left ≡ line ∷ lines
    → Some fault ≡ lasting (standing_at text line) → misread_from ending number begun_at text last left ≡ all → misread_at number fault ≡ all
misread_hit ending number begun_at text last line left lines fault all here is same =
    let P : List (List ℕ) → Type 0 = λ left. misread_from ending number begun_at text last left ≡ all in
    let behind = standing_at text line in
    let rest = numbered (later_line number) (standing_behind (begun behind (up_to text line)) lines) in
    let at = last_or begun_at (beginnings ((number, behind) ∷ rest)) in
    let Q : Option ParseFault → Type 0 = λ found. first_or (ending at (last_or behind (map (λ (own : ℕ × Standing). own.1) rest))) (told_at number found ++ lasting_in rest) ≡ all in
    subst Q (sym is) (subst P here same)

-- the text up to the next line stands so, and has no fault that lasts
misread_by : (ending : ℕ → Standing → Misread) (number begun_at : ℕ) (text : List ℕ) (last : Standing) (lines : List (List ℕ)) (own : Standing) → None ≡ lasting own
    → told_of ending begun_at last ((number, own) ∷ numbered (later_line number) (standing_behind (begun own text) lines))
    ≡ misread_from ending (later_line number) (last_or begun_at (begins_behind number own)) (begun own text) own lines
misread_by ending number begun_at text last lines Whole is = refl
misread_by ending number begun_at text last lines GoesOn is = refl
misread_by ending number begun_at text last lines (Faulty fault) is =
    let rest = numbered (later_line number) (standing_behind text lines) in
    let at = last_or begun_at (beginnings rest) in
    let P : Option ParseFault → Type 0 = λ found.
    first_or (ending at (last_or (Faulty fault) (map (λ (own : ℕ × Standing). own.1) rest))) (told_at number found ++ lasting_in rest) ≡ misread_from ending (later_line number) begun_at text (Faulty fault) lines in
    subst P is refl

-- and behind another, or none, what is left decides
pub misread_miss : (ending : ℕ → Standing → Misread) (number next begun_at begun_next : ℕ) (text text_next : List ℕ) (last last_next : Standing) (line : List ℕ) (left lines : List (List ℕ)) (all : Misread) → left ≡ line ∷ lines
    → None ≡ lasting (standing_at text line) → next ≡ later_line number → begun_next ≡ last_or begun_at (begins_behind number (standing_at text line))
    → text_next ≡ begun (standing_at text line) (up_to text line) → last_next ≡ standing_at text line
    → misread_from ending number begun_at text last left ≡ all → misread_from ending next begun_next text_next last_next lines ≡ all
misread_miss ending number next begun_at begun_next text text_next last last_next line left lines all here is one two three four same =
    let P : List (List ℕ) → Type 0 = λ left. misread_from ending number begun_at text last left ≡ all in
    let own = standing_at text line in
    ap (λ n. misread_from ending n begun_next text_next last_next lines) one
    ∙ ap (λ n. misread_from ending (later_line number) n text_next last_next lines) two
    ∙ ap (λ t. misread_from ending (later_line number) (last_or begun_at (begins_behind number own)) t last_next lines) three
    ∙ ap (λ s. misread_from ending (later_line number) (last_or begun_at (begins_behind number own)) (begun own (up_to text line)) s lines) four
    ∙ sym (misread_by ending number begun_at (up_to text line) last lines own is)
    ∙ subst P here same

-- no line is left
pub misread_end : (ending : ℕ → Standing → Misread) (number begun_at : ℕ) (text : List ℕ) (last : Standing) (left : List (List ℕ)) (all : Misread) → left ≡ [] → misread_from ending number begun_at text last left ≡ all
    → ending begun_at last ≡ all
misread_end ending number begun_at text last left all none same =
    let P : List (List ℕ) → Type 0 = λ left. misread_from ending number begun_at text last left ≡ all in
    subst P none same
