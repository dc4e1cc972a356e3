-- The walk finds the greatest number of characters that have room: once one has none, none behind it has.
use Rattle.std.proofs.Common.{◌≡◌, ◌+◌, ◌-◌, ℕ, zero, suc, Bool, true, false, nat_le, List, [], ◌∷◌, length, take, refl, sym, ap, ◌∙◌, arith}
use Rattle.std.proofs.lemmas.Bool.Decides.{nat_tests}
use Rattle.tk_widgets.specs.Columns.{columns, columns_of, greatest, have_room, characters_within}
use Rattle.tk_widgets.specs.Walk.{walk}

-- nothing is left of the room behind a character that has none
none_behind : (c s room : ℕ) → nat_le c room ≡ false → nat_le (c + s) room ≡ false
none_behind c s room wide = grind (arith, nat_tests)

-- what has room behind a character has what it leaves
room_behind : (c s room : ℕ) → nat_le c room ≡ true → nat_le (c + s) room ≡ nat_le s (room - c)
room_behind c s room fits = by (nat_le (c + s) room) (nat_le s (room - c)) refl refl where
  by : (a b : Bool) → nat_le (c + s) room ≡ a → nat_le s (room - c) ≡ b → a ≡ b
  by true true ha hb = refl
  by true false ha hb = absurd (grind (arith, nat_tests))
  by false true ha hb = absurd (grind (arith, nat_tests))
  by false false ha hb = refl

zero_fits : (room : ℕ) → nat_le 0 room ≡ true
zero_fits room = grind (arith, nat_tests)

-- where the first has no room
greatest_none : (room c : ℕ) (cs : List ℕ) → nat_le (columns c) room ≡ false → (n : ℕ) → greatest (have_room room (c ∷ cs)) n ≡ 0
greatest_none room c cs wide zero = refl
greatest_none room c cs wide (suc n) = rw (none_behind (columns c) (columns_of (take n cs)) room wide) (greatest_none room c cs wide n)

-- where it has
next_by : (P Q : ℕ → Bool) (n : ℕ) (b : Bool) → Q (suc n) ≡ b → P (suc (suc n)) ≡ Q (suc n) → greatest P (suc n) ≡ suc (greatest Q n) → greatest P (suc (suc n)) ≡ suc (greatest Q (suc n))
next_by P Q n true is same rest = rw (same, is) refl
next_by P Q n false is same rest = rw (same, is) rest

greatest_next : (P Q : ℕ → Bool) → ((n : ℕ) → P (suc n) ≡ Q n) → Q 0 ≡ true → (n : ℕ) → greatest P (suc n) ≡ suc (greatest Q n)
greatest_next P Q same first zero = rw (same 0 ∙ first) refl
greatest_next P Q same first (suc n) = next_by P Q n (Q (suc n)) refl (same (suc n)) (greatest_next P Q same first n)

walk_by : (room c : ℕ) (cs : List ℕ) (b : Bool) → nat_le (columns c) room ≡ b → walk (room - columns c) cs ≡ greatest (have_room (room - columns c) cs) (length cs)
    → walk room (c ∷ cs) ≡ greatest (have_room room (c ∷ cs)) (suc (length cs))
walk_by room c cs true fits rest =
    rw fits (ap suc rest ∙ sym (greatest_next (have_room room (c ∷ cs)) (have_room (room - columns c) cs) (λ n. room_behind (columns c) (columns_of (take n cs)) room fits) (zero_fits (room - columns c)) (length cs)))
walk_by room c cs false wide rest = rw wide (sym (greatest_none room c cs wide (suc (length cs))))

walk_greatest : (room : ℕ) (cs : List ℕ) → walk room cs ≡ greatest (have_room room cs) (length cs)
walk_greatest room [] = refl
walk_greatest room (c ∷ cs) = walk_by room c cs (nat_le (columns c) room) refl (walk_greatest (room - columns c) cs)

pub within : (room : ℕ) (cs : List ℕ) → walk room cs ≡ characters_within room cs
unfolding characters_within
within room cs = walk_greatest room cs
