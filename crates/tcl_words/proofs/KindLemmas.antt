-- What a byte does that no arm of a definition names.
use Rattle.std.proofs.Common.{◌≡◌, ◌≢◌, ℕ, ◌-◌, true, List, [], ◌∷◌, refl}
use Rattle.tcl_words.specs.Changes.{bytes, command_begins}
use Rattle.tcl_words.specs.Moves.{ByteMove, on, change_before, in_text, word_over, in_braces, at_word, in_expanded, in_between, in_start}
use Rattle.tcl_words.specs.declared.kind.Kind.{Kind}
use Rattle.tcl_words.specs.declared.kind.Kind.TheVariants.{Blank, Newline, Semicolon, Hash, Dollar, OpenBracket, CloseBracket, OpenBrace, Expansion, CloseBrace, Backslash, Continuation}
use Rattle.tcl_words.specs.declared.kind.BytePlace.TheVariants.{Text, InBraces}
use Rattle.tcl_words.specs.declared.kind.Mode.{Mode}

-- a byte of a text stands for itself
pub text_kinds : (kind : Kind) → kind ≢ Dollar → kind ≢ OpenBracket → kind ≢ Backslash → kind ≢ Continuation → (mode : Mode) (b at : ℕ) (behind : List ℕ) → in_text mode kind b behind ≡ on (bytes (b ∷ []) ∷ []) 0 (Text mode)
text_kinds Dollar h0 h1 h2 h3 mode b at behind = absurd (h0 refl)
text_kinds OpenBracket h0 h1 h2 h3 mode b at behind = absurd (h1 refl)
text_kinds Backslash h0 h1 h2 h3 mode b at behind = absurd (h2 refl)
text_kinds Continuation h0 h1 h2 h3 mode b at behind = absurd (h3 refl)
text_kinds kind h0 h1 h2 h3 mode b at behind = refl

-- no word ends
pub word_kinds : (kind : Kind) → kind ≢ Blank → kind ≢ Newline → kind ≢ Semicolon → kind ≢ Continuation → kind ≢ CloseBracket → (other : ByteMove) (b at : ℕ) (behind : List ℕ) → word_over kind at behind other ≡ other
word_kinds Blank h0 h1 h2 h3 h4 other b at behind = absurd (h0 refl)
word_kinds Newline h0 h1 h2 h3 h4 other b at behind = absurd (h1 refl)
word_kinds Semicolon h0 h1 h2 h3 h4 other b at behind = absurd (h2 refl)
word_kinds CloseBracket h0 h1 h2 h3 h4 other b at behind = absurd (h4 refl)
word_kinds Continuation h0 h1 h2 h3 h4 other b at behind = absurd (h3 refl)
word_kinds kind h0 h1 h2 h3 h4 other b at behind = refl

-- a byte in braces
pub braces_kinds : (kind : Kind) → kind ≢ CloseBrace → kind ≢ OpenBrace → kind ≢ Expansion → kind ≢ Backslash → kind ≢ Continuation → (depth : ℕ) (b at : ℕ) (behind : List ℕ) → in_braces depth kind b behind ≡ on (bytes (b ∷ []) ∷ []) 0 (InBraces depth)
braces_kinds OpenBrace h0 h1 h2 h3 h4 depth b at behind = absurd (h1 refl)
braces_kinds Expansion h0 h1 h2 h3 h4 depth b at behind = absurd (h2 refl)
braces_kinds CloseBrace h0 h1 h2 h3 h4 depth b at behind = absurd (h0 refl)
braces_kinds Backslash h0 h1 h2 h3 h4 depth b at behind = absurd (h3 refl)
braces_kinds Continuation h0 h1 h2 h3 h4 depth b at behind = absurd (h4 refl)
braces_kinds kind h0 h1 h2 h3 h4 depth b at behind = refl

-- a word begins past `{*}`
pub expanded_kinds : (kind : Kind) → kind ≢ Blank → kind ≢ Newline → kind ≢ Semicolon → kind ≢ Continuation → kind ≢ CloseBracket → (b at : ℕ) (behind : List ℕ) → in_expanded kind b at behind ≡ at_word true (at - 3) kind b at behind
expanded_kinds Blank h0 h1 h2 h3 h4 b at behind = absurd (h0 refl)
expanded_kinds Newline h0 h1 h2 h3 h4 b at behind = absurd (h1 refl)
expanded_kinds Semicolon h0 h1 h2 h3 h4 b at behind = absurd (h2 refl)
expanded_kinds CloseBracket h0 h1 h2 h3 h4 b at behind = absurd (h4 refl)
expanded_kinds Continuation h0 h1 h2 h3 h4 b at behind = absurd (h3 refl)
expanded_kinds kind h0 h1 h2 h3 h4 b at behind = refl

-- a command begins
pub start_kinds : (kind : Kind) → kind ≢ Blank → kind ≢ Newline → kind ≢ Semicolon → kind ≢ Continuation → kind ≢ CloseBracket → kind ≢ Hash → (b at : ℕ) (behind : List ℕ) → in_start kind b at behind ≡ change_before (command_begins at) (in_between kind b at behind)
start_kinds Blank h0 h1 h2 h3 h4 h5 b at behind = absurd (h0 refl)
start_kinds Newline h0 h1 h2 h3 h4 h5 b at behind = absurd (h1 refl)
start_kinds Semicolon h0 h1 h2 h3 h4 h5 b at behind = absurd (h2 refl)
start_kinds Hash h0 h1 h2 h3 h4 h5 b at behind = absurd (h5 refl)
start_kinds CloseBracket h0 h1 h2 h3 h4 h5 b at behind = absurd (h4 refl)
start_kinds Continuation h0 h1 h2 h3 h4 h5 b at behind = absurd (h3 refl)
start_kinds kind h0 h1 h2 h3 h4 h5 b at behind = refl
