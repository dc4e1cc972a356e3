-- A set of modifiers is read from its modifiers, written one behind another.
use Rattle.std.proofs.Common.{◌≡◌, ℕ, zero, suc, ◌*◌, ◌^◌, ◌<◌, ◌==◌, Bool, true, false, cond, not, min, max, List, [], ◌∷◌, ◌++◌, append_assoc, refl, sym, ap, ◌∙◌, arith}
use Rattle.std.specs.Prelude.{bit_and, bit_or, codes}
use Rattle.std.specs.Int.{bit_at}
use Rattle.std.specs.Int.Bits.{and_zero_r, or_zero_r}
use Rattle.std.specs.List.{flat_map}
use Rattle.std.proofs.lemmas.Bool.Decides.{nat_tests}
use Rattle.std.proofs.lemmas.Nat.Bits.{bit_at_and, bit_at_or, bit_at-lt, and_pow, same_from_bits}
use Rattle.tk_sequences.specs.Modifiers.{all_modifiers, modifier_bit, modifier_name}
use Rattle.tk_sequences.specs.Reading.{fields, pattern_behind}
use Rattle.tk_sequences.specs.Writing.{modifier_written, held_written}
use Rattle.tk_sequences.specs.declared.modifier.Modifier.{Modifier}
use Rattle.tk_sequences.specs.declared.modifier.Modifier.TheVariants.{Control, Shift, Lock, Mod1, Mod2, Mod3, Mod4, Mod5, B1, B2, B3, B4, B5}
use Rattle.tk_sequences.specs.declared.pattern.Repetition.{Repetition}

-- ── bits ──
spread_by : (x y z left a b right both : ℕ) → left ≡ max a b → a ≡ min x y → b ≡ min x z → right ≡ min x both → both ≡ max y z → left ≡ right
spread_by x y z left a b right both h i j k l = omega arith

spread : (m a b : ℕ) → bit_or (bit_and m a) (bit_and m b) ≡ bit_and m (bit_or a b)
spread m a b = same_from_bits _ _ (λ i.
    spread_by (bit_at m i) (bit_at a i) (bit_at b i) _ _ _ _ _ (bit_at_or (bit_and m a) (bit_and m b) i) (bit_at_and m a i) (bit_at_and m b i) (bit_at_and m (bit_or a b) i) (bit_at_or a b i))

joined_by : (x y z left a b right both : ℕ) → left ≡ min both z → both ≡ max x y → right ≡ max a b → a ≡ min x z → b ≡ min y z → left ≡ right
joined_by x y z left a b right both h i j k l = omega arith

joined : (a b m : ℕ) → bit_and (bit_or a b) m ≡ bit_or (bit_and a m) (bit_and b m)
joined a b m = same_from_bits _ _ (λ i.
    joined_by (bit_at a i) (bit_at b i) (bit_at m i) _ _ _ _ _ (bit_at_and (bit_or a b) m i) (bit_at_or a b i) (bit_at_or (bit_and a m) (bit_and b m) i) (bit_at_and a m i) (bit_at_and b m i))

one_bit_by : (bit power all : ℕ) → all ≡ bit * power → bit < 2 → (all == 0) ≡ false → all ≡ power
one_bit_by zero power all is less some = absurd (let none : all ≡ 0 = omega arith in grind (arith, nat_tests))
one_bit_by (suc zero) power all is less some = omega arith
one_bit_by (suc (suc bit)) power all is less some = absurd (omega arith)

one_bit : (m place : ℕ) → (bit_and m (2 ^ place) == 0) ≡ false → bit_and m (2 ^ place) ≡ 2 ^ place
one_bit m place some = one_bit_by (bit_at m place) (2 ^ place) (bit_and m (2 ^ place)) (and_pow m place) (bit_at-lt m place) some

its_bit : (m : ℕ) (modifier : Modifier) → (bit_and m (modifier_bit modifier) == 0) ≡ false → bit_and m (modifier_bit modifier) ≡ modifier_bit modifier
its_bit m Shift some = one_bit m 0 some
its_bit m Lock some = one_bit m 1 some
its_bit m Control some = one_bit m 2 some
its_bit m Mod1 some = one_bit m 3 some
its_bit m Mod2 some = one_bit m 4 some
its_bit m Mod3 some = one_bit m 5 some
its_bit m Mod4 some = one_bit m 6 some
its_bit m Mod5 some = one_bit m 7 some
its_bit m B1 some = one_bit m 8 some
its_bit m B2 some = one_bit m 9 some
its_bit m B3 some = one_bit m 10 some
its_bit m B4 some = one_bit m 11 some
its_bit m B5 some = one_bit m 12 some

-- a set of modifiers has no other bits
abbrev pub IsHeld : ℕ → Type 0
IsHeld held = bit_and held 8191 ≡ held

bit_held : (modifier : Modifier) → IsHeld (modifier_bit modifier)
bit_held Shift = refl
bit_held Lock = refl
bit_held Control = refl
bit_held Mod1 = refl
bit_held Mod2 = refl
bit_held Mod3 = refl
bit_held Mod4 = refl
bit_held Mod5 = refl
bit_held B1 = refl
bit_held B2 = refl
bit_held B3 = refl
bit_held B4 = refl
bit_held B5 = refl

pub held_more : (held : ℕ) (modifier : Modifier) → IsHeld held → IsHeld (bit_or held (modifier_bit modifier))
held_more held modifier is =
    joined held (modifier_bit modifier) 8191 ∙ ap (λ h. bit_or h (bit_and (modifier_bit modifier) 8191)) is ∙ ap (bit_or held) (bit_held modifier)

-- ── reading ──
read_named : (whole : List ℕ) (held : ℕ) (times : Repetition) (modifier : Modifier) (rest : List ℕ)
    → pattern_behind whole held times (fields ((modifier_name modifier ++ codes "-") ++ rest)) ≡ pattern_behind whole (bit_or held (modifier_bit modifier)) times (fields rest)
unfolding fields
read_named whole held times Control rest = refl
read_named whole held times Shift rest = refl
read_named whole held times Lock rest = refl
read_named whole held times Mod1 rest = refl
read_named whole held times Mod2 rest = refl
read_named whole held times Mod3 rest = refl
read_named whole held times Mod4 rest = refl
read_named whole held times Mod5 rest = refl
read_named whole held times B1 rest = refl
read_named whole held times B2 rest = refl
read_named whole held times B3 rest = refl
read_named whole held times B4 rest = refl
read_named whole held times B5 rest = refl

module _ (whole : List ℕ) (m : ℕ) (times : Repetition) where
  read_modifier_by : (t : Bool) (held : ℕ) (modifier : Modifier) (rest : List ℕ) → (bit_and m (modifier_bit modifier) == 0) ≡ t
      → pattern_behind whole held times (fields (cond (not t) (modifier_name modifier ++ codes "-") [] ++ rest)) ≡ pattern_behind whole (bit_or held (bit_and m (modifier_bit modifier))) times (fields rest)
  read_modifier_by true held modifier rest is =
      let none : bit_and m (modifier_bit modifier) ≡ 0 = grind (arith, nat_tests, is) in
      ap (λ h. pattern_behind whole h times (fields rest)) (sym (ap (bit_or held) none ∙ or_zero_r held))
  read_modifier_by false held modifier rest is =
      read_named whole held times modifier rest ∙ ap (λ bit. pattern_behind whole (bit_or held bit) times (fields rest)) (sym (its_bit m modifier is))

  -- what is held behind some modifiers of the set
  abbrev with_all : ℕ → List Modifier → ℕ
  with_all held [] = held
  with_all held (modifier ∷ modifiers) = with_all (bit_or held (bit_and m (modifier_bit modifier))) modifiers

  read_all : (held : ℕ) (modifiers : List Modifier) (rest : List ℕ)
      → pattern_behind whole held times (fields (flat_map (modifier_written m) modifiers ++ rest)) ≡ pattern_behind whole (with_all held modifiers) times (fields rest)
  read_all held [] rest = refl
  read_all held (modifier ∷ modifiers) rest =
      ap (λ (text : List ℕ). pattern_behind whole held times (fields text)) (append_assoc (modifier_written m modifier) (flat_map (modifier_written m) modifiers) rest)
      ∙ read_modifier_by (bit_and m (modifier_bit modifier) == 0) held modifier (flat_map (modifier_written m) modifiers ++ rest) refl
      ∙ read_all (bit_or held (bit_and m (modifier_bit modifier))) modifiers rest

  abbrev all_bits : ℕ → List Modifier → ℕ
  all_bits bits [] = bits
  all_bits bits (modifier ∷ modifiers) = all_bits (bit_or bits (modifier_bit modifier)) modifiers

  gathered : (bits : ℕ) (modifiers : List Modifier) → with_all (bit_and m bits) modifiers ≡ bit_and m (all_bits bits modifiers)
  gathered bits [] = refl
  gathered bits (modifier ∷ modifiers) = ap (λ held. with_all held modifiers) (spread m bits (modifier_bit modifier)) ∙ gathered (bit_or bits (modifier_bit modifier)) modifiers

  pub read_held : (rest : List ℕ) → IsHeld m → pattern_behind whole 0 times (fields (held_written m ++ rest)) ≡ pattern_behind whole m times (fields rest)
  read_held rest is =
      read_all 0 all_modifiers rest
      ∙ ap (λ held. pattern_behind whole held times (fields rest)) (ap (λ none. with_all none all_modifiers) (sym (and_zero_r m)) ∙ gathered 0 all_modifiers ∙ is)
