-- Meaning. Modifiers: their names, their bits in an event's state, and sets of them.
use Rattle.std.specs.Prelude.{ℕ, Bool, ◌==◌, ◌&&◌, not, bit_and, List, [], ◌∷◌, Option, codes}
use Rattle.tk_sequences.specs.Lookup.{looked_up}
use Rattle.tk_sequences.specs.declared.modifier.Modifier.{Modifier}
use Rattle.tk_sequences.specs.declared.modifier.Modifier.TheVariants.{Control, Shift, Lock, Mod1, Mod2, Mod3, Mod4, Mod5, B1, B2, B3, B4, B5}

-- all of them, in the order of canonical sequences
abbrev pub all_modifiers : List Modifier
all_modifiers = Control ∷ Shift ∷ Lock ∷ Mod1 ∷ Mod2 ∷ Mod3 ∷ Mod4 ∷ Mod5 ∷ B1 ∷ B2 ∷ B3 ∷ B4 ∷ B5 ∷ []

-- the name in a canonical sequence
abbrev pub modifier_name : Modifier → List ℕ
modifier_name Control = codes "Control"
modifier_name Shift = codes "Shift"
modifier_name Lock = codes "Lock"
modifier_name Mod1 = codes "Mod1"
modifier_name Mod2 = codes "Mod2"
modifier_name Mod3 = codes "Mod3"
modifier_name Mod4 = codes "Mod4"
modifier_name Mod5 = codes "Mod5"
modifier_name B1 = codes "B1"
modifier_name B2 = codes "B2"
modifier_name B3 = codes "B3"
modifier_name B4 = codes "B4"
modifier_name B5 = codes "B5"

-- the bit in a state
abbrev pub modifier_bit : Modifier → ℕ
modifier_bit Shift = 1
modifier_bit Lock = 2
modifier_bit Control = 4
modifier_bit Mod1 = 8
modifier_bit Mod2 = 16
modifier_bit Mod3 = 32
modifier_bit Mod4 = 64
modifier_bit Mod5 = 128
modifier_bit B1 = 256
modifier_bit B2 = 512
modifier_bit B3 = 1024
modifier_bit B4 = 2048
modifier_bit B5 = 4096

-- the words for modifiers
abbrev pub modifier_words : List (List ℕ × Modifier)
modifier_words =
    (codes "Control", Control)
    ∷ (codes "Shift", Shift)
    ∷ (codes "Lock", Lock)
    ∷ (codes "Mod1", Mod1)
    ∷ (codes "M1", Mod1)
    ∷ (codes "Alt", Mod1)
    ∷ (codes "Mod2", Mod2)
    ∷ (codes "M2", Mod2)
    ∷ (codes "Mod3", Mod3)
    ∷ (codes "M3", Mod3)
    ∷ (codes "Mod4", Mod4)
    ∷ (codes "M4", Mod4)
    ∷ (codes "Mod5", Mod5)
    ∷ (codes "M5", Mod5)
    ∷ (codes "B1", B1)
    ∷ (codes "Button1", B1)
    ∷ (codes "B2", B2)
    ∷ (codes "Button2", B2)
    ∷ (codes "B3", B3)
    ∷ (codes "Button3", B3)
    ∷ (codes "B4", B4)
    ∷ (codes "Button4", B4)
    ∷ (codes "B5", B5)
    ∷ (codes "Button5", B5)
    ∷ []

abbrev pub modifier_named : List ℕ → Option Modifier
modifier_named word = looked_up word modifier_words

-- ---- sets, as the sums of their bits

abbrev pub has_modifier : ℕ → Modifier → Bool
has_modifier set modifier = not (bit_and set (modifier_bit modifier) == 0)

-- whether a state has all of a set
abbrev pub all_held : ℕ → ℕ → Bool
all_held set state = bit_and state set == set

-- whether a set has all of another and more
abbrev pub contains_more : ℕ → ℕ → Bool
contains_more set other = all_held other set && not (set == other)
