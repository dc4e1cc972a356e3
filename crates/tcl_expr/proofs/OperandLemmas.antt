-- Lemmas on operands that are read as in a script: brackets, variables and quotes.
use Rattle.std.proofs.Common.{◌≡◌, ℕ, zero, suc, false, ◌+◌, ◌-◌, ◌<◌, List, ◌∷◌, length, take, drop, slice_index, get_or, arith, Some, None, Result, Ok, Err, refl, sym, ap, subst, ◌∙◌, ◌⊎◌, inl, inr}
use Rattle.tcl_words.specs.Operands.{IsReadAs, bracket_of, substitution_of, quoted_of}
use Rattle.tcl_words.specs.declared.script.Piece.{Piece}
use Rattle.tcl_text.specs.declared.fault.ParseFault.{ParseFault}
use Rattle.tcl_expr.specs.declared.fault.ExprFault.{ExprFault}
use Rattle.tcl_expr.specs.declared.fault.ExprFault.TheVariants.{Syntax, Script}
use Rattle.tcl_expr.specs.Faults.{no_memory}
use Rattle.tcl_expr.specs.declared.parser.Parser.{Parser}
use Rattle.tcl_expr.specs.Trees.{Tree}
use Rattle.tcl_expr.specs.Steps.{steps_of}
use Rattle.tcl_expr.specs.Substitution.{piece_tree, text_tree, Writes}
use Rattle.tcl_expr.specs.Reading.{Opened, AtOperand, ReadingMove, room_in, with_operand, with_piece, with_pieces, with_substitution, at_bracket, at_dollar, at_quote, operand_move}
use Rattle.tcl_expr.specs.Standing.{Stands, FollowsMove, Takes, operand_at}
use Rattle.tcl_expr.specs.Tokens.{mark_of}
use Rattle.tcl_expr.specs.declared.tokens.Mark.{Mark}
use Rattle.tcl_expr.specs.declared.tokens.Mark.TheVariants as mark
use Rattle.tcl_expr.proofs.ReadLemmas.{at_position}
use Rattle.tcl_expr.proofs.StandLemmas.{operand_stands}

-- the code has written an operand, and no more
pub record Took (old new : Parser) (expected : Result Tree ExprFault) : Type 0 where
  pub steps : Writes old.steps.items (Ok tt) new.steps.items expected
  pub opened : new.opened.items ≡ old.opened.items
  pub parens_are : new.parens ≡ old.parens
  pub due : new.is_due ≡ false

written_stands : (old new : Parser) (before : List Opened) (taken : ℕ) (expected : Result Tree ExprFault) → Took old new expected → Stands old AtOperand before → FollowsMove new taken (with_operand taken before expected)
written_stands old new before taken expected t s =
    let w = t.steps in
    subst (λ x. FollowsMove new taken (with_operand taken before x)) (sym w.1) (refl, operand_stands old new (steps_of w.0) w.0 before refl w.2 t.opened t.parens_are t.due s)

-- as many as the code says may still be opened
room_is : (old : Parser) (room : ℕ) (before : List Opened) → room ≡ 200 - old.parens → Stands old AtOperand before → room ≡ room_in before
room_is old room before e s = e ∙ ap (λ n. 200 - n) s.counted

module _ (old new : Parser) (room : ℕ) (behind : List ℕ) (most : room ≡ 200 - old.parens) where
  pub bracket_taken : (piece : Piece) (taken : ℕ) → bracket_of room behind ≡ Ok (piece, taken) → Took old new (piece_tree room piece) → Takes old (Ok taken) new (λ before. at_bracket before behind)
  bracket_taken piece taken e t = λ before s.
      let r : room ≡ room_in before = room_is old room before most s in
      subst (λ n. FollowsMove new taken (with_piece before (bracket_of n behind))) r
      (subst (λ x. FollowsMove new taken (with_piece before x)) (sym e) (subst (λ n. FollowsMove new taken (with_operand taken before (piece_tree n piece))) r (written_stands old new before taken (piece_tree room piece) t s)))

  pub dollar_taken : (piece : Piece) (taken : ℕ) → substitution_of room behind ≡ Ok (Some (piece, taken)) → Took old new (piece_tree room piece) → Takes old (Ok taken) new (λ before. at_dollar before behind)
  dollar_taken piece taken e t = λ before s.
      let r : room ≡ room_in before = room_is old room before most s in
      subst (λ n. FollowsMove new taken (with_substitution before (substitution_of n behind))) r
      (subst (λ x. FollowsMove new taken (with_substitution before x)) (sym e) (subst (λ n. FollowsMove new taken (with_operand taken before (piece_tree n piece))) r (written_stands old new before taken (piece_tree room piece) t s)))

  pub quotes_taken : (pieces : List Piece) (taken : ℕ) → quoted_of room behind ≡ Ok (pieces, taken) → Took old new (text_tree room pieces) → Takes old (Ok taken) new (λ before. at_quote before behind)
  quotes_taken pieces taken e t = λ before s.
      let r : room ≡ room_in before = room_is old room before most s in
      subst (λ n. FollowsMove new taken (with_pieces before (quoted_of n behind))) r
      (subst (λ x. FollowsMove new taken (with_pieces before x)) (sym e) (subst (λ n. FollowsMove new taken (with_operand taken before (text_tree n pieces))) r (written_stands old new before taken (text_tree room pieces) t s)))

  pub bracket_refused : (fault : ParseFault) → IsReadAs (Err fault) (bracket_of room behind) → Takes old (Err (Script fault)) new (λ before. at_bracket before behind)
  bracket_refused fault (inl e) = inr (λ before s. ap (λ n. with_piece before (bracket_of n behind)) (sym (room_is old room before most s)) ∙ ap (with_piece before) e)
  bracket_refused fault (inr e) = inl (ap (λ f. Script f) e)

  pub dollar_refused : (fault : ParseFault) → IsReadAs (Err fault) (substitution_of room behind) → Takes old (Err (Script fault)) new (λ before. at_dollar before behind)
  dollar_refused fault (inl e) = inr (λ before s. ap (λ n. with_substitution before (substitution_of n behind)) (sym (room_is old room before most s)) ∙ ap (with_substitution before) e)
  dollar_refused fault (inr e) = inl (ap (λ f. Script f) e)

  pub quotes_refused : (fault : ParseFault) → IsReadAs (Err fault) (quoted_of room behind) → Takes old (Err (Script fault)) new (λ before. at_quote before behind)
  quotes_refused fault (inl e) = inr (λ before s. ap (λ n. with_pieces before (quoted_of n behind)) (sym (room_is old room before most s)) ∙ ap (with_pieces before) e)
  quotes_refused fault (inr e) = inl (ap (λ f. Script f) e)

  pub dollar_alone : substitution_of room behind ≡ Ok None → Takes old (Err Syntax) new (λ before. at_dollar before behind)
  dollar_alone e = inr (λ before s. ap (λ n. with_substitution before (substitution_of n behind)) (sym (room_is old room before most s)) ∙ ap (with_substitution before) e)

  operand_fails : (before : List Opened) (taken : ℕ) (expected : Result Tree ExprFault) (fault : ExprFault) → expected ≡ Err fault → with_operand taken before expected ≡ Err fault
  operand_fails before taken expected fault e = ap (with_operand taken before) e

  pub bracket_unwritten : (piece : Piece) (taken : ℕ) (fault : ExprFault) → bracket_of room behind ≡ Ok (piece, taken) → (piece_tree room piece ≡ Err fault) ⊎ (fault ≡ no_memory) → Takes old (Err fault) new (λ before. at_bracket before behind)
  bracket_unwritten piece taken fault e (inl h) = inr (λ before s.
      let r : room ≡ room_in before = room_is old room before most s in
      ap (λ n. with_piece before (bracket_of n behind)) (sym r) ∙ ap (with_piece before) e ∙ operand_fails before taken (piece_tree (room_in before) piece) fault (ap (λ n. piece_tree n piece) (sym r) ∙ h))
  bracket_unwritten piece taken fault e (inr h) = inl h

  pub dollar_unwritten : (piece : Piece) (taken : ℕ) (fault : ExprFault) → substitution_of room behind ≡ Ok (Some (piece, taken)) → (piece_tree room piece ≡ Err fault) ⊎ (fault ≡ no_memory) → Takes old (Err fault) new (λ before. at_dollar before behind)
  dollar_unwritten piece taken fault e (inl h) = inr (λ before s.
      let r : room ≡ room_in before = room_is old room before most s in
      ap (λ n. with_substitution before (substitution_of n behind)) (sym r) ∙ ap (with_substitution before) e ∙ operand_fails before taken (piece_tree (room_in before) piece) fault (ap (λ n. piece_tree n piece) (sym r) ∙ h))
  dollar_unwritten piece taken fault e (inr h) = inl h

  pub quotes_unwritten : (pieces : List Piece) (taken : ℕ) (fault : ExprFault) → quoted_of room behind ≡ Ok (pieces, taken) → (text_tree room pieces ≡ Err fault) ⊎ (fault ≡ no_memory) → Takes old (Err fault) new (λ before. at_quote before behind)
  quotes_unwritten pieces taken fault e (inl h) = inr (λ before s.
      let r : room ≡ room_in before = room_is old room before most s in
      ap (λ n. with_pieces before (quoted_of n behind)) (sym r) ∙ ap (with_pieces before) e ∙ operand_fails before taken (text_tree (room_in before) pieces) fault (ap (λ n. text_tree n pieces) (sym r) ∙ h))
  quotes_unwritten pieces taken fault e (inr h) = inl h

-- ── where an operand is due ──

pub takes_as : (old : Parser) (result : Result ℕ ExprFault) (new : Parser) (expected other : List Opened → Result ReadingMove ExprFault) → ((before : List Opened) → other before ≡ expected before) → Takes old result new expected → Takes old result new other
takes_as old (Ok skip) new expected other e t = λ before s. subst (FollowsMove new skip) (sym (e before)) (t before s)
takes_as old (Err fault) new expected other e (inl refused) = inl refused
takes_as old (Err fault) new expected other e (inr t) = inr (λ before s. e before ∙ t before s)

-- the byte at a position has this kind
operand_by : (text : List ℕ) (at : ℕ) (m : Mark) → at < length text → mark_of (slice_index text at) ≡ m → (before : List Opened) →
    operand_at (drop at text) before ≡ operand_move m before (slice_index text at ∷ drop (at + 1) text) (drop (at + 1) text)
operand_by text at m within e before =
    ap (λ t. operand_at t before) (at_position text at within) ∙ ap (λ k. operand_move k before (slice_index text at ∷ drop (at + 1) text) (drop (at + 1) text)) e

-- the byte that the code looks at
first_taken : (n b : ℕ) (behind : List ℕ) → 0 < n → get_or (take n (b ∷ behind)) 0 0 ≡ b
first_taken zero b behind some = absurd (omega (arith, some))
first_taken (suc n) b behind some = refl

byte_here : (text : List ℕ) (at : ℕ) → at < length text → get_or (take (length text - at) (drop at text)) 0 0 ≡ slice_index text at
byte_here text at within =
    ap (λ rest. get_or (take (length text - at) rest) 0 0) (at_position text at within)
    ∙ first_taken (length text - at) (slice_index text at) (drop (at + 1) text) (omega (arith, within))

pub mark_here : (bytes text : List ℕ) (at : ℕ) (m : Mark) → at < length text → bytes ≡ text → m ≡ mark_of (get_or (take (length bytes - at) (drop at bytes)) 0 0) →
    mark_of (slice_index text at) ≡ m
mark_here bytes text at m within same e =
    sym (e ∙ ap mark_of (ap (λ t. get_or (take (length t - at) (drop at t)) 0 0) same ∙ byte_here text at within))

module _ (old : Parser) (result : Result ℕ ExprFault) (new : Parser) (text : List ℕ) (at : ℕ) (within : at < length text) where
  pub bracket_is_due : mark_of (slice_index text at) ≡ mark.OpenBracket → Takes old result new (λ before. at_bracket before (drop (at + 1) text)) → Takes old result new (operand_at (drop at text))
  bracket_is_due e t = takes_as old result new (λ before. at_bracket before (drop (at + 1) text)) (operand_at (drop at text)) (operand_by text at mark.OpenBracket within e) t

  pub dollar_is_due : mark_of (slice_index text at) ≡ mark.Dollar → Takes old result new (λ before. at_dollar before (drop (at + 1) text)) → Takes old result new (operand_at (drop at text))
  dollar_is_due e t = takes_as old result new (λ before. at_dollar before (drop (at + 1) text)) (operand_at (drop at text)) (operand_by text at mark.Dollar within e) t

  pub quotes_are_due : mark_of (slice_index text at) ≡ mark.Quote → Takes old result new (λ before. at_quote before (drop (at + 1) text)) → Takes old result new (operand_at (drop at text))
  quotes_are_due e t = takes_as old result new (λ before. at_quote before (drop (at + 1) text)) (operand_at (drop at text)) (operand_by text at mark.Quote within e) t
