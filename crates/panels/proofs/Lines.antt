-- Lemmas on the cutting of texts.
use Rattle.std.proofs.Common.{◌≡◌, ◌≢◌, ℕ, zero, suc, ◌<◌, true, false, eqb, List, [], ◌∷◌, length, get_or, take, drop, Some, None, refl, arith}
use Rattle.std.proofs.Math.Bool.{or-true}
use Rattle.std.proofs.lemmas.Bool.{eq-eqb, ne_eqb, eqb-true}
use Rattle.memchr.specs.Find.{IsFirstByte, IsLastByte, is_byte}
use Rattle.panels.specs.Words.{before_last, front, behind, has_byte, lines_of}

-- a byte that a text hasn't
abbrev Away : ℕ → List ℕ → Type 0
Away byte text = (k : ℕ) → k < length text → get_or text k 0 ≢ byte

-- the first place of a byte
abbrev Before : ℕ → List ℕ → ℕ → Type 0
Before byte text i = (k : ℕ) → k < i → get_or text k 0 ≢ byte

pub front-none : (byte : ℕ) (text : List ℕ) → Away byte text → front byte text ≡ text
front-none byte [] away = refl
front-none byte (b ∷ bs) away = rw (ne_eqb b byte (away 0 (omega arith)), front-none byte bs (λ k h. away (suc k) (omega arith))) refl

pub behind-none : (byte : ℕ) (text : List ℕ) → Away byte text → behind byte text ≡ []
behind-none byte [] away = refl
behind-none byte (b ∷ bs) away = rw (ne_eqb b byte (away 0 (omega arith)), behind-none byte bs (λ k h. away (suc k) (omega arith))) refl

pub front-some : (byte : ℕ) (text : List ℕ) (i : ℕ) → i < length text → get_or text i 0 ≡ byte → Before byte text i → front byte text ≡ take i text
front-some byte [] i h here before = absurd (omega arith)
front-some byte (b ∷ bs) zero h here before = rw (eq-eqb b byte here) refl
front-some byte (b ∷ bs) (suc i) h here before =
    rw (ne_eqb b byte (before 0 (omega arith)), front-some byte bs i (omega arith) here (λ k l. before (suc k) (omega arith))) refl

pub behind-some : (byte : ℕ) (text : List ℕ) (i : ℕ) → i < length text → get_or text i 0 ≡ byte → Before byte text i → behind byte text ≡ drop (suc i) text
behind-some byte [] i h here before = absurd (omega arith)
behind-some byte (b ∷ bs) zero h here before = rw (eq-eqb b byte here) refl
behind-some byte (b ∷ bs) (suc i) h here before =
    rw (ne_eqb b byte (before 0 (omega arith)), behind-some byte bs i (omega arith) here (λ k l. before (suc k) (omega arith))) refl

pub lines-some : (text : List ℕ) (i : ℕ) → i < length text → get_or text i 0 ≡ 10 → Before 10 text i → lines_of text ≡ take i text ∷ lines_of (drop (suc i) text)
lines-some [] i h here before = absurd (omega arith)
lines-some (b ∷ bs) zero h here before = rw (eq-eqb b 10 here) refl
lines-some (b ∷ bs) (suc i) h here before =
    rw (ne_eqb b 10 (before 0 (omega arith)), lines-some bs i (omega arith) here (λ k l. before (suc k) (omega arith))) refl

lines-one : (b : ℕ) (text : List ℕ) → Away 10 (b ∷ text) → lines_of (b ∷ text) ≡ (b ∷ text) ∷ []
lines-one b [] away = rw (ne_eqb b 10 (away 0 (omega arith))) refl
lines-one b (c ∷ cs) away = rw (ne_eqb b 10 (away 0 (omega arith)), lines-one c cs (λ k h. away (suc k) (omega arith))) refl

pub lines-none : (text : List ℕ) → Away 10 text → 0 < length text → lines_of text ≡ text ∷ []
lines-none [] away some = absurd (omega arith)
lines-none (b ∷ bs) away some = lines-one b bs away

-- what a search finds
pub record Found (byte : ℕ) (text : List ℕ) (i : ℕ) : Type 0 where
  pub high : i < length text
  pub here : get_or text i 0 ≡ byte
  pub before : Before byte text i

pub found_first : (byte : ℕ) (text : List ℕ) (i : ℕ) → IsFirstByte (is_byte byte) text (Some i) → Found byte text i
found_first byte text i found = record {
  high = found.0.high;
  here = eqb-true _ byte found.1;
  before = λ k h e. found.0.before k (omega arith) h (eq-eqb _ byte e);
}

pub away_none : (byte : ℕ) (text : List ℕ) → IsFirstByte (is_byte byte) text None → Away byte text
away_none byte text away k h e = away k (omega arith) h (eq-eqb _ byte e)

-- what a search from the end finds
pub record FoundLast (byte : ℕ) (text : List ℕ) (i : ℕ) : Type 0 where
  pub high : i < length text
  pub here : get_or text i 0 ≡ byte
  pub behind : (k : ℕ) → i < k → k < length text → get_or text k 0 ≢ byte

pub found_last : (byte : ℕ) (text : List ℕ) (i : ℕ) → IsLastByte (is_byte byte) text (Some i) → FoundLast byte text i
found_last byte text i found = record {
  high = found.0.high;
  here = eqb-true _ byte found.1;
  behind = λ k h l e. found.0.after k (omega arith) l (eq-eqb _ byte e);
}

pub away_none_last : (byte : ℕ) (text : List ℕ) → IsLastByte (is_byte byte) text None → Away byte text
away_none_last byte text away k h e = away k (omega arith) h (eq-eqb _ byte e)

has_byte-none : (byte : ℕ) (text : List ℕ) → Away byte text → has_byte byte text ≡ false
has_byte-none byte [] away = refl
has_byte-none byte (b ∷ bs) away = rw (ne_eqb b byte (away 0 (omega arith)), has_byte-none byte bs (λ k h. away (suc k) (omega arith))) refl

has_byte-at : (byte : ℕ) (text : List ℕ) (i : ℕ) → i < length text → get_or text i 0 ≡ byte → has_byte byte text ≡ true
has_byte-at byte [] i h here = absurd (omega arith)
has_byte-at byte (b ∷ bs) zero h here = rw (eq-eqb b byte here) refl
has_byte-at byte (b ∷ bs) (suc i) h here = rw (has_byte-at byte bs i (omega arith) here) (or-true (eqb b byte))

pub before_last-none : (byte : ℕ) (text : List ℕ) → Away byte text → before_last byte text ≡ text
before_last-none byte [] away = refl
before_last-none byte (b ∷ bs) away =
    rw (has_byte-none byte bs (λ k h. away (suc k) (omega arith)), ne_eqb b byte (away 0 (omega arith))) refl

pub before_last-some : (byte : ℕ) (text : List ℕ) (i : ℕ) → FoundLast byte text i → before_last byte text ≡ take i text
before_last-some byte [] i found = absurd (omega (arith, found.high))
before_last-some byte (b ∷ bs) zero found =
    rw (has_byte-none byte bs (λ k h. found.behind (suc k) (omega arith) (omega arith)), eq-eqb b byte found.here) refl
before_last-some byte (b ∷ bs) (suc i) found =
    let high : i < length bs = omega (arith, found.high) in
    rw (
      has_byte-at byte bs i high found.here,
      before_last-some byte bs i (record { high = high; here = found.here; behind = λ k h l. found.behind (suc k) (omega arith) (omega arith) }),
    ) refl
