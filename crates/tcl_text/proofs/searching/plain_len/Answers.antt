use Rattle.std.proofs.Common.{◌≡◌, ◌+◌, ◌<◌, ◌||◌, ℕ, true, List, get_or, length, inl, inr, ap, arith}
use Rattle.std.proofs.lemmas.List.{take_rest}
use Rattle.tcl_text.proofs.SearchLemmas.{PassesTo-start, PassesTo-white, PassesTo-plain, PassesTo-same, PassesFront-here, PassesFront-behind, is_plain, no_white, is_white_of, plain_of}
use Rattle.tcl_text.proofs.searching.plain_len.Goals as goal
use Rattle.tcl_text.proofs.searching.plain_len.Goals.{in-White, in-CloseBrace}

pub loop-at-init : goal.loop-at-init
loop-at-init c = PassesTo-start c.args.item.now c.args.text.now

pub loop-at-preserved : goal.loop-at-preserved
loop-at-preserved c =
    let item : List ℕ = c.args.item.now in
    let text : List ℕ = c.args.text.now in
    let start = c.loop-at.start in
    let at = c.loop-at.at in
    let found = c.loop-at.found in
    let byte : ℕ = get_or text at 0 in
    let inside : at < length text = omega arith in
    elim c.match-kind.branch [
      | in-White w ↦
          PassesTo-same item text (at + 1) c.match-kind.start (at + 1) (found || w.is_item-found.result) c.match-kind.found
          (PassesTo-white item text start at found w.is_item-found.result c.loop-at.invariant inside (is_white_of byte c.kind.result c.kind.ensures w.in-White.is) w.is_item-found.ensures)
          w.start-is w.found-is
      | in-CloseBrace w ↦
          let plain : is_plain c.kind.result ≡ true = elim w.in-CloseBrace.is [ inl closing ↦ ap is_plain closing | inr other ↦ ap is_plain other ] in
          PassesTo-same item text start c.match-kind.start (at + 1) found c.match-kind.found (PassesTo-plain item text start at found c.loop-at.invariant (plain_of byte c.kind.result c.kind.ensures plain)) w.start-is w.found-is
    ]

pub returns-then-at-eq-FEW_BYTES : goal.returns-then-at-eq-FEW_BYTES
returns-then-at-eq-FEW_BYTES c =
    let text : List ℕ = c.args.text.now in
    PassesFront-behind c.args.item.now text _ c.loop-at.start c.loop-at.at c.searched_len-behind.result.0 c.loop-at.found c.searched_len-behind.result.1
    c.loop-at.invariant (omega arith) (take_rest text c.loop-at.start) c.searched_len-behind.ensures

pub returns-in_default : goal.returns-in_default
returns-in_default c =
    PassesFront-here c.args.item.now c.args.text.now c.loop-at.start c.loop-at.at c.loop-at.found c.loop-at.invariant (omega arith)
    (λ _. no_white (get_or c.args.text.now c.loop-at.at 0) c.kind.result c.kind.ensures c.in_default.not-White)

pub returns : goal.returns
returns c = PassesFront-here c.args.item.now c.args.text.now c.loop-at.start c.loop-at.at c.loop-at.found c.loop-at.invariant (omega arith) (λ inside. absurd (omega arith))
