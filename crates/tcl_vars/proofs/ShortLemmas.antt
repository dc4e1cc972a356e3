-- Short names stay short.
use Rattle.std.proofs.Common.{◌≡◌, ℕ, zero, suc, Bool, true, false, cond, List, [], ◌∷◌, filter, String, bytes_eq, slice_get, Some, subst}
use Rattle.indexmap.specs.IndexMap.{set_value_at}
use Rattle.tcl_vars.specs.Named.{named_entries}
use Rattle.tcl_vars.specs.Short.{IsShort, ShortNames}
use Rattle.tcl_vars.specs.Table.{Table, with_value, without}

module _ {V : Type 0} where
  pub ShortNames-with_value : (table : Table V) (name : List ℕ) (value : V) → ShortNames table → IsShort name → ShortNames (with_value table name value)
  ShortNames-with_value [] name value h short = (short, tt)
  ShortNames-with_value (e ∷ es) name value h short = by (bytes_eq name e.0) (ShortNames-with_value es name value h.1 short)
    where
      by : (b : Bool) → ShortNames (with_value es name value) → ShortNames (cond b ((e.0, value) ∷ es) (e ∷ with_value es name value))
      by true rest = (h.0, h.1)
      by false rest = (h.0, rest)

  pub ShortNames-without : (table : Table V) (name : List ℕ) → ShortNames table → ShortNames (without table name)
  ShortNames-without [] name h = tt
  ShortNames-without (e ∷ es) name h = by (bytes_eq name e.0) (ShortNames-without es name h.1)
    where
      by : (b : Bool) → ShortNames (without es name) → ShortNames (cond b es (e ∷ without es name))
      by true rest = h.1
      by false rest = (h.0, rest)

  pub ShortNames-filter : (keeps : List ℕ → Bool) (table : Table V) → ShortNames table → ShortNames (filter (λ e. keeps e.0) table)
  ShortNames-filter keeps [] h = tt
  ShortNames-filter keeps (e ∷ es) h = by (keeps e.0) (ShortNames-filter keeps es h.1)
    where
      by : (b : Bool) → ShortNames (filter (λ e. keeps e.0) es) → ShortNames (cond b (e ∷ filter (λ e. keeps e.0) es) (filter (λ e. keeps e.0) es))
      by true rest = (h.0, rest)
      by false rest = rest

  pub ShortNames-set_value_at : {Z : Type 0} (es : List (String Z × V)) (i : ℕ) (value : V) → ShortNames (named_entries es) → ShortNames (named_entries (set_value_at es i value))
  ShortNames-set_value_at [] i value h = tt
  ShortNames-set_value_at (e ∷ es) zero value h = (h.0, h.1)
  ShortNames-set_value_at (e ∷ es) (suc i) value h = (h.0, ShortNames-set_value_at es i value h.1)

  pub IsShort-at : (table : Table V) (index : ℕ) (entry : List ℕ × V) → slice_get table index ≡ Some entry → ShortNames table → IsShort entry.0
  IsShort-at [] index entry at h = absurd (cc)
  IsShort-at (e ∷ es) zero entry at h = let same : e ≡ entry = cc in subst (λ x. IsShort x.0) same h.0
  IsShort-at (e ∷ es) (suc index) entry at h = IsShort-at es index entry at h.1
