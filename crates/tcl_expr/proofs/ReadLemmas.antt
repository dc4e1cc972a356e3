-- Lemmas on reading a whole text.
use Rattle.std.proofs.Common.{◌≡◌, ◌≤◌, ◌<◌, ℕ, zero, suc, ◌+◌, ◌-◌, min, true, false, List, [], ◌∷◌, length, drop, slice_index, nat_lt, refl, sym, ap, subst, ◌∙◌, inl, inr, arith, Ok, Err, Result, IsOk}
use Rattle.std.proofs.lemmas.Bool.Decides.{nat_tests}
use Rattle.std.proofs.lemmas.List.{drop-drop, length-drop}
use Rattle.std.proofs.Math.Seq.{drop-cons}
use Rattle.std.specs.Str.{IsUtf8, is_utf8}
use Rattle.std.proofs.lemmas.Str.{is_utf8-from_IsUtf8, IsUtf8-from_is_utf8}
use Rattle.tcl_expr.specs.declared.fault.ExprFault.{ExprFault}
use Rattle.tcl_expr.specs.Faults.{too_long}
use Rattle.tcl_expr.specs.declared.step.Step.{Step}
use Rattle.tcl_expr.specs.declared.parser.Parser.{Parser}
use Rattle.tcl_expr.specs.Trees.{Tree}
use Rattle.tcl_expr.specs.Reading.{Opened, OperandPlace, AtOperand, AtOperator, on_move, tree_reading, tree_at_end, tree_of, compiled_by, compiled}
use Rattle.tcl_expr.specs.Standing.{Stands, move_at, TakesToken, IsWhole, Finishes, FailsAtEnd, IsFaultOrMemory}
use Rattle.tcl_expr.proofs.StandLemmas.{follow_on}

pub not_utf8 : (text : List ℕ) → (IsUtf8 text → ⊥) → is_utf8 text ≡ false
not_utf8 text h = elim (is_utf8 text) as (λ b. is_utf8 text ≡ b → b ≡ false) [ true ↦ λ e. absurd (h (IsUtf8-from_is_utf8 text e)) | false ↦ λ e. refl ] refl

short : (text : List ℕ) → length text ≤ 65536 → nat_lt 65536 (length text) ≡ false
short text h = grind (arith, nat_tests)

long : (text : List ℕ) → 65536 < length text → nat_lt 65536 (length text) ≡ true
long text h = grind (arith, nat_tests)

pub tree_of-long : (text : List ℕ) → 65536 < length text → tree_of text ≡ Err too_long
unfolding tree_of
tree_of-long text h = rw (long text h) refl

pub tree_of-not_utf8 : (text : List ℕ) → length text ≤ 65536 → (IsUtf8 text → ⊥) → tree_of text ≡ Err too_long
unfolding tree_of
tree_of-not_utf8 text h k = rw (short text h, not_utf8 text k) refl

pub tree_of-read : (text : List ℕ) → length text ≤ 65536 → IsUtf8 text → tree_of text ≡ tree_reading 0 AtOperand [] text
unfolding tree_of
tree_of-read text h k = rw (short text h, is_utf8-from_IsUtf8 text k) refl

-- from where the code stands, what is left gives the whole
abbrev pub StillReads : Parser → List ℕ → Result Tree ExprFault → Type 0
StillReads parser rest whole = (place : OperandPlace) × (before : List Opened) × Stands parser place before × (tree_reading 0 place before rest ≡ whole)

-- what the first bytes make of it
token_move : (b : ℕ) (behind : List ℕ) (place : OperandPlace) (before : List Opened) →
    tree_reading 0 place before (b ∷ behind) ≡ on_move (move_at (b ∷ behind) place before) (λ further next left. tree_reading further next left behind)
token_move b behind AtOperand before = refl
token_move b behind (AtOperator tree) before = refl

pub token_on : (old new : Parser) (b : ℕ) (behind : List ℕ) (skip count : ℕ) (whole : Result Tree ExprFault) → count ≡ min skip (length behind) →
    TakesToken old (Ok skip) new (b ∷ behind) → StillReads old (b ∷ behind) whole → StillReads new (drop count behind) whole
token_on old new b behind skip count whole e takes (place, before, stands, reads) =
    let f = follow_on (move_at (b ∷ behind) place before) new skip count behind e (takes place before stands) in
    (f.0, f.1, f.2, sym f.3 ∙ sym (token_move b behind place before) ∙ reads)

pub token_fails : (old new : Parser) (b : ℕ) (behind : List ℕ) (fault : ExprFault) (whole : Result Tree ExprFault) →
    TakesToken old (Err fault) new (b ∷ behind) → StillReads old (b ∷ behind) whole → IsFaultOrMemory whole fault
token_fails old new b behind fault whole (inl refused) still = inr refused
token_fails old new b behind fault whole (inr fails) (place, before, stands, reads) =
    inl (sym reads ∙ token_move b behind place before ∙ ap (λ m. on_move m (λ further next left. tree_reading further next left behind)) (fails place before stands))

-- the same at a position of the text
pub at_position : (text : List ℕ) (at : ℕ) → at < length text → drop at text ≡ slice_index text at ∷ drop (at + 1) text
at_position text at within = let e : suc at ≡ at + 1 = omega arith in drop-cons text at 0 within ∙ ap (λ n. slice_index text at ∷ drop n text) e

pub token_at : (old new : Parser) (text : List ℕ) (at skip count : ℕ) (whole : Result Tree ExprFault) → at < length text → count ≡ min skip (length text - at - 1) →
    TakesToken old (Ok skip) new (drop at text) → StillReads old (drop at text) whole → StillReads new (drop (at + 1 + count) text) whole
token_at old new text at skip count whole within e takes still =
    let cut : drop at text ≡ slice_index text at ∷ drop (at + 1) text = at_position text at within in
    let f : count ≡ min skip (length (drop (at + 1) text)) = omega (arith, e, within, length-drop (at + 1) text) in
    subst (λ t. StillReads new t whole) (drop-drop count (at + 1) text)
    (token_on old new (slice_index text at) (drop (at + 1) text) skip count whole f (subst (λ t. TakesToken old (Ok skip) new t) cut takes) (subst (λ t. StillReads old t whole) cut still))

pub token_fails_at : (old new : Parser) (text : List ℕ) (at : ℕ) (fault : ExprFault) (whole : Result Tree ExprFault) → at < length text →
    TakesToken old (Err fault) new (drop at text) → StillReads old (drop at text) whole → IsFaultOrMemory whole fault
token_fails_at old new text at fault whole within takes still =
    let cut : drop at text ≡ slice_index text at ∷ drop (at + 1) text = at_position text at within in
    token_fails old new (slice_index text at) (drop (at + 1) text) fault whole (subst (λ t. TakesToken old (Err fault) new t) cut takes) (subst (λ t. StillReads old t whole) cut still)

-- where nothing is left
pub nothing_left : (text : List ℕ) (at : ℕ) → length text ≤ at → drop at text ≡ []
nothing_left [] zero h = refl
nothing_left [] (suc n) h = refl
nothing_left (x ∷ text) zero h = absurd (omega (arith, h))
nothing_left (x ∷ text) (suc n) h = nothing_left text n (omega (arith, h))

whole_steps : (read : Result Tree ExprFault) (steps : List Step) → IsWhole read steps → compiled_by read ≡ Ok steps
whole_steps (Ok tree) steps e = ap Ok (sym e)
whole_steps (Err fault) steps e = absurd e

pub end_reads : (parser : Parser) (rest : List ℕ) (steps : List Step) (whole : Result Tree ExprFault) → rest ≡ [] → Finishes parser steps → StillReads parser rest whole → compiled_by whole ≡ Ok steps
end_reads parser rest steps whole e finishes (place, before, stands, reads) =
    ap compiled_by (sym reads ∙ ap (tree_reading 0 place before) e) ∙ whole_steps (tree_at_end place before) steps (finishes place before stands)

pub end_fails : (parser : Parser) (rest : List ℕ) (fault : ExprFault) (whole : Result Tree ExprFault) → rest ≡ [] → FailsAtEnd parser fault → StillReads parser rest whole → IsFaultOrMemory whole fault
end_fails parser rest fault whole e (inl refused) still = inr refused
end_fails parser rest fault whole e (inr fails) (place, before, stands, reads) =
    inl (sym reads ∙ ap (tree_reading 0 place before) e ∙ fails place before stands)

-- ── a text that is an expression ──

pub compiled_is : (text : List ℕ) (steps : List Step) → length text ≤ 65536 → IsUtf8 text → compiled_by (tree_reading 0 AtOperand [] text) ≡ Ok steps → compiled text ≡ Ok steps
compiled_is text steps h k e = ap compiled_by (tree_of-read text h k) ∙ e

ok_by : (read : Result Tree ExprFault) (steps : List Step) → compiled_by read ≡ Ok steps → IsOk read
ok_by (Ok tree) steps e = refl
ok_by (Err fault) steps e = absurd (cc)

pub tree_is : (text : List ℕ) (steps : List Step) → length text ≤ 65536 → IsUtf8 text → compiled_by (tree_reading 0 AtOperand [] text) ≡ Ok steps → IsOk (tree_of text)
tree_is text steps h k e = rw (tree_of-read text h k) (ok_by (tree_reading 0 AtOperand [] text) steps e)

pub fault_is : (text : List ℕ) (fault : ExprFault) → length text ≤ 65536 → IsUtf8 text → IsFaultOrMemory (tree_reading 0 AtOperand [] text) fault → IsFaultOrMemory (tree_of text) fault
fault_is text fault h k f = rw (tree_of-read text h k) f
