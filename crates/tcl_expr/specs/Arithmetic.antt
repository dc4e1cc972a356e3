-- Meaning. Integers of 64 bits as expr(n) computes with them: exact, or refused.
use Rattle.std.specs.Prelude.{◌≡◌, ℕ, suc, ◌-◌, ◌/◌, ◌%◌, ◌^◌, ◌⊎◌, nat_lt, if◌then◌else◌, ℤ, pos, negsuc, ◌+ℤ◌, ◌*ℤ◌, ◌≤ℤ◌, ◌<ℤ◌, neg_ℤ, Option, Some, None}

-- a number where 64 bits hold it
abbrev pub in_64_bits : ℤ → Option ℤ
in_64_bits (pos n) = if nat_lt n (2 ^ 63) then Some (pos n) else None
in_64_bits (negsuc n) = if nat_lt n (2 ^ 63) then Some (negsuc n) else None

-- each bit the other way round
abbrev pub complement : ℤ → ℤ
complement (pos n) = negsuc n
complement (negsuc n) = pos n

-- the quotient by a positive number, rounded down
abbrev pub down_quotient : ℤ → ℕ → ℤ
down_quotient (pos a) n = pos (a / n)
down_quotient (negsuc a) n = negsuc (a / n)

-- the quotient, rounded down; by a negative number it is that of both with the other sign
abbrev pub floor_quotient : ℤ → ℤ → ℤ
floor_quotient a (pos n) = down_quotient a n
floor_quotient a (negsuc n) = down_quotient (neg_ℤ a) (suc n)

-- what the quotient leaves, by a positive number
abbrev pub down_remainder : ℤ → ℕ → ℕ
down_remainder (pos a) n = a % n
down_remainder (negsuc a) n = n - 1 - a % n

-- the remainder, which has the divisor's sign
abbrev pub floor_remainder : ℤ → ℤ → ℤ
floor_remainder a (pos n) = pos (down_remainder a n)
floor_remainder a (negsuc n) = neg_ℤ (pos (down_remainder (neg_ℤ a) (suc n)))

-- the dividend is the divisor times the quotient and the remainder, and the remainder is nearer to 0 than the divisor, on the divisor's side
pub record IsFloorDivision (a b quotient remainder : ℤ) : Type 0 where
  pub whole : a ≡ (b *ℤ quotient) +ℤ remainder
  pub side : ((pos 0 ≤ℤ remainder) × (remainder <ℤ b)) ⊎ ((b <ℤ remainder) × (remainder ≤ℤ pos 0))

-- a shift to the left by a count that isn't negative: exact, or refused
abbrev pub shifted_left : ℤ → ℤ → Option ℤ
shifted_left a (pos count) = in_64_bits (a *ℤ pos (2 ^ count))
shifted_left a (negsuc count) = None

-- a shift to the right, rounded down
abbrev pub shifted_right : ℤ → ℤ → Option ℤ
shifted_right a (pos count) = Some (down_quotient a (2 ^ count))
shifted_right a (negsuc count) = None
