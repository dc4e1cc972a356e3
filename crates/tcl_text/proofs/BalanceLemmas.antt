-- Braces in balance, mark by mark.
use Rattle.std.proofs.Common.{◌≡◌, ◌≢◌, ℕ, zero, suc, ◌+◌, ◌-◌, ◌<◌, ◌≤◌, Bool, false, List, [], ◌∷◌, drop, length, get_or, nat_eq, add-one, Option, Some, None, refl, arith, ap, sym, ◌∙◌}
use Rattle.std.specs.Option.{option_map_or}
use Rattle.std.proofs.lemmas.List.{drop_all}
use Rattle.tcl_text.specs.Backslash.{kind_of, escape, byte_mark, escape_mark, marks, Mark}
use Rattle.tcl_text.specs.Readings.{are_balanced, depth_after}
use Rattle.tcl_text.specs.Splitting.{KeepsBalance}
use Rattle.tcl_text.proofs.SplittingLemmas.{marks_byte, marks_escape}
use Rattle.tcl_text.specs.declared.splitting.ByteKind.{ByteKind}
use Rattle.tcl_text.specs.declared.splitting.ByteKind.TheVariants.{White, OpenBrace, CloseBrace, Quote, Backslash, Other}

-- balance behind a mark
abbrev balanced_by : Option ℕ → List Mark → Bool
balanced_by next ms = option_map_or (λ depth. are_balanced depth ms) next false

balanced_kind : (depth : ℕ) (k : ByteKind) (m : Mark) (ms : List Mark) → m.kind ≡ k → are_balanced depth (m ∷ ms) ≡ balanced_by (depth_after depth k) ms
balanced_kind depth k m ms is = ap (λ k. balanced_by (depth_after depth k) ms) is

-- a mark that is no brace
depth_other : (depth : ℕ) (k : ByteKind) → k ≢ OpenBrace → k ≢ CloseBrace → depth_after depth k ≡ Some depth
depth_other depth White o c = refl
depth_other depth OpenBrace o c = absurd (o refl)
depth_other depth CloseBrace o c = absurd (c refl)
depth_other depth Quote o c = refl
depth_other depth Backslash o c = refl
depth_other depth Other o c = refl

pub balance_other : (depth : ℕ) (text : List ℕ) → 0 < length text → kind_of (get_or text 0 0) ≢ Backslash → kind_of (get_or text 0 0) ≢ OpenBrace → kind_of (get_or text 0 0) ≢ CloseBrace → KeepsBalance depth text (Some (1, depth))
balance_other depth [] some s o c = absurd (omega arith)
balance_other depth (b ∷ bs) some s o c =
    ap (are_balanced depth) (marks_byte b bs s) ∙ balanced_kind depth (kind_of b) (byte_mark b) (marks bs) refl ∙ ap (λ next. balanced_by next (marks bs)) (depth_other depth (kind_of b) o c)

pub balance_escape : (depth : ℕ) (text : List ℕ) → 0 < length text → kind_of (get_or text 0 0) ≡ Backslash → KeepsBalance depth text (Some ((escape (drop 1 text)).length + 1, depth))
balance_escape depth [] some is = absurd (omega arith)
balance_escape depth (b ∷ bs) some is =
    rw (add-one (escape bs).length) (ap (are_balanced depth) (marks_escape b bs is) ∙ balanced_kind depth Backslash (escape_mark bs) (marks (drop (escape bs).length bs)) refl)

pub balance_open : (depth : ℕ) (text : List ℕ) → 0 < length text → kind_of (get_or text 0 0) ≡ OpenBrace → KeepsBalance depth text (Some (1, depth + 1))
balance_open depth [] some is = absurd (omega arith)
balance_open depth (b ∷ bs) some is =
    rw (add-one depth) (ap (are_balanced depth) (marks_byte b bs (λ e. let f : OpenBrace ≡ Backslash = sym is ∙ e in cc)) ∙ balanced_kind depth OpenBrace (byte_mark b) (marks bs) is)

pub balance_inner : (depth : ℕ) (text : List ℕ) → 0 < length text → kind_of (get_or text 0 0) ≡ CloseBrace → (depth ≡ 0 → ⊥) → KeepsBalance depth text (Some (1, depth - 1))
balance_inner depth [] some is inner = absurd (omega arith)
balance_inner zero (b ∷ bs) some is inner = absurd (inner refl)
balance_inner (suc depth) (b ∷ bs) some is inner =
    let e : suc depth - 1 ≡ depth = omega arith in
    rw e (ap (are_balanced (suc depth)) (marks_byte b bs (λ e. let f : CloseBrace ≡ Backslash = sym is ∙ e in cc)) ∙ balanced_kind (suc depth) CloseBrace (byte_mark b) (marks bs) is)

pub balance_close : (depth : ℕ) (text : List ℕ) → 0 < length text → kind_of (get_or text 0 0) ≡ CloseBrace → depth ≡ 0 → KeepsBalance depth text None
balance_close depth [] some is none = absurd (omega arith)
balance_close (suc depth) (b ∷ bs) some is none = absurd (omega arith)
balance_close zero (b ∷ bs) some is none =
    ap (are_balanced 0) (marks_byte b bs (λ e. let f : CloseBrace ≡ Backslash = sym is ∙ e in cc)) ∙ balanced_kind 0 CloseBrace (byte_mark b) (marks bs) is

-- one step of braces in balance
pub ruleset brace_balances = (balance_other, balance_escape, balance_open, balance_inner, balance_close)

pub balance_end : (text : List ℕ) (at depth : ℕ) → length text ≤ at → are_balanced depth (marks (drop at text)) ≡ are_balanced 0 (marks text) → nat_eq depth 0 ≡ are_balanced 0 (marks text)
unfolding marks
balance_end text at depth past before = ap (λ rest. are_balanced depth (marks rest)) (sym (drop_all at text past)) ∙ before
