-- Facts on tables under names.
use Rattle.std.proofs.Common.{◌≡◌, ℕ, ◌+◌, Bool, true, false, cond, List, [], ◌∷◌, length, sum_by, Option, None, Some, IsSome, bytes_eq, true≢false, refl, sym, ap, ◌∙◌, arith}
use Rattle.std.specs.Cmp.Lexicographic.{bytes_decides}
use Rattle.std.proofs.lemmas.List.Sums.{sum_by-cons}
use Rattle.tcl_vars.specs.Table.{Table, value_at, with_value, without, weight_of}

-- a text equals itself
pub bytes_eq-refl : (text : List ℕ) → bytes_eq text text ≡ true
bytes_eq-refl text = (bytes_decides text text).1 refl

module _ {V : Type 0} where
  module _ (name : List ℕ) (value : V) where
    length-with_value : (table : Table V) → (o : Option V) → value_at table name ≡ o → length (with_value table name value) + weight_of (λ _. 1) o ≡ length table + 1
    length-with_value [] o e = by o e
      where
        by : (o : Option V) → None ≡ o → 1 + weight_of (λ _. 1) o ≡ 0 + 1
        by None h = refl
        by (Some v) h = absurd (cc)
    length-with_value (e ∷ es) o h = by (bytes_eq name e.0) h (length-with_value es o)
      where
        by : (b : Bool) → cond b (Some e.1) (value_at es name) ≡ o → (value_at es name ≡ o → length (with_value es name value) + weight_of (λ _. 1) o ≡ length es + 1)
            → length (cond b ((e.0, value) ∷ es) (e ∷ with_value es name value)) + weight_of (λ _. 1) o ≡ length (e ∷ es) + 1
        by true found rest = ap (λ x. length (e ∷ es) + weight_of (λ _. 1) x) (sym found)
        by false found rest = omega (arith, rest found)

    -- a new name makes the table one longer
    pub length-with_value-new : (table : Table V) → value_at table name ≡ None → length (with_value table name value) ≡ length table + 1
    length-with_value-new table absent = omega (arith, length-with_value table None absent)

    -- a known name doesn't
    pub length-with_value-known : (table : Table V) (held : V) → value_at table name ≡ Some held → length (with_value table name value) ≡ length table
    length-with_value-known table held known = omega (arith, length-with_value table (Some held) known)

    -- the weights of all values, after one is given
    pub weights-with_value : (weigh : V → ℕ) (table : Table V)
        → sum_by (λ e. weigh e.1) (with_value table name value) + weight_of weigh (value_at table name) ≡ sum_by (λ e. weigh e.1) table + weigh value
    weights-with_value weigh [] = omega arith
    weights-with_value weigh (e ∷ es) = by (bytes_eq name e.0) (weights-with_value weigh es)
      where
        by : (b : Bool) → sum_by (λ e. weigh e.1) (with_value es name value) + weight_of weigh (value_at es name) ≡ sum_by (λ e. weigh e.1) es + weigh value
            → sum_by (λ e. weigh e.1) (cond b ((e.0, value) ∷ es) (e ∷ with_value es name value)) + weight_of weigh (cond b (Some e.1) (value_at es name))
            ≡ sum_by (λ e. weigh e.1) (e ∷ es) + weigh value
        by true rest = omega (arith, sum_by-cons (λ e. weigh e.1) (e.0, value) es, sum_by-cons (λ e. weigh e.1) e es)
        by false rest = omega (arith, sum_by-cons (λ e. weigh e.1) e (with_value es name value), sum_by-cons (λ e. weigh e.1) e es)

    -- a value that is given again changes nothing
    pub with_value-same : (table : Table V) → value_at table name ≡ Some value → with_value table name value ≡ table
    with_value-same [] known = absurd (cc)
    with_value-same (e ∷ es) known = by (bytes_eq name e.0) known (λ h. with_value-same es h)
      where
        by : (b : Bool) → cond b (Some e.1) (value_at es name) ≡ Some value → (value_at es name ≡ Some value → with_value es name value ≡ es)
            → cond b ((e.0, value) ∷ es) (e ∷ with_value es name value) ≡ e ∷ es
        by true h rest = let same : e.1 ≡ value = cc in ap (λ v. (e.0, v) ∷ es) (sym same)
        by false h rest = ap (λ l. e ∷ l) (rest h)

    -- the value at a name after one is given
    pub value_at-with_value : (table : Table V) (other : List ℕ) → value_at (with_value table name value) other ≡ cond (bytes_eq other name) (Some value) (value_at table other)
    value_at-with_value [] other = refl
    value_at-with_value (e ∷ es) other = by (bytes_eq name e.0) (λ h. (bytes_decides name e.0).0 h) refl (value_at-with_value es other)
      where
        by : (b : Bool) → (b ≡ true → name ≡ e.0) → bytes_eq name e.0 ≡ b → value_at (with_value es name value) other ≡ cond (bytes_eq other name) (Some value) (value_at es other)
            → value_at (cond b ((e.0, value) ∷ es) (e ∷ with_value es name value)) other ≡ cond (bytes_eq other name) (Some value) (cond (bytes_eq other e.0) (Some e.1) (value_at es other))
        by true same is rest =
            let n : name ≡ e.0 = same refl in
            pick (bytes_eq other e.0) (bytes_eq other name) (ap (bytes_eq other) (sym n))
          where
            pick : (b c : Bool) → b ≡ c → cond b (Some value) (value_at es other) ≡ cond c (Some value) (cond b (Some e.1) (value_at es other))
            pick true true p = refl
            pick false false p = refl
            pick true false p = absurd (cc)
            pick false true p = absurd (cc)
        by false same is rest = pick (bytes_eq other e.0) (bytes_eq other name) (λ here there. differ here there) rest
          where
            differ : bytes_eq other e.0 ≡ true → bytes_eq other name ≡ true → ⊥
            differ here there =
                let p : other ≡ e.0 = (bytes_decides other e.0).0 here in
                let q : other ≡ name = (bytes_decides other name).0 there in
                true≢false (sym (bytes_eq-refl name) ∙ ap (bytes_eq name) (sym q ∙ p) ∙ is)

            pick : (b c : Bool) → (b ≡ true → c ≡ true → ⊥) → value_at (with_value es name value) other ≡ cond c (Some value) (value_at es other)
                → cond b (Some e.1) (value_at (with_value es name value) other) ≡ cond c (Some value) (cond b (Some e.1) (value_at es other))
            pick true true d h = absurd (d refl refl)
            pick true false d h = refl
            pick false true d h = h
            pick false false d h = h

  -- without a name that isn't there
  pub without-absent : (table : Table V) (name : List ℕ) → value_at table name ≡ None → without table name ≡ table
  without-absent [] name absent = refl
  without-absent (e ∷ es) name absent = by (bytes_eq name e.0) absent (λ h. without-absent es name h)
    where
      by : (b : Bool) → cond b (Some e.1) (value_at es name) ≡ None → (value_at es name ≡ None → without es name ≡ es) → cond b es (e ∷ without es name) ≡ e ∷ es
      by true h rest = absurd (cc)
      by false h rest = ap (λ l. e ∷ l) (rest h)

  -- the weights of all values, without a name
  pub weights-without : (weigh : V → ℕ) (table : Table V) (name : List ℕ)
      → sum_by (λ e. weigh e.1) (without table name) + weight_of weigh (value_at table name) ≡ sum_by (λ e. weigh e.1) table
  weights-without weigh [] name = omega arith
  weights-without weigh (e ∷ es) name = by (bytes_eq name e.0) (weights-without weigh es name)
    where
      by : (b : Bool) → sum_by (λ e. weigh e.1) (without es name) + weight_of weigh (value_at es name) ≡ sum_by (λ e. weigh e.1) es
          → sum_by (λ e. weigh e.1) (cond b es (e ∷ without es name)) + weight_of weigh (cond b (Some e.1) (value_at es name)) ≡ sum_by (λ e. weigh e.1) (e ∷ es)
      by true rest = omega (arith, sum_by-cons (λ e. weigh e.1) e es)
      by false rest = omega (arith, sum_by-cons (λ e. weigh e.1) e (without es name), sum_by-cons (λ e. weigh e.1) e es)

  pub length-without : (table : Table V) (name : List ℕ) → IsSome (value_at table name) → length (without table name) + 1 ≡ length table
  length-without [] name there = absurd (cc)
  length-without (e ∷ es) name there = by (bytes_eq name e.0) there (λ h. length-without es name h)
    where
      by : (b : Bool) → IsSome (cond b (Some e.1) (value_at es name)) → (IsSome (value_at es name) → length (without es name) + 1 ≡ length es) → length (cond b es (e ∷ without es name)) + 1 ≡ length (e ∷ es)
      by true h rest = omega arith
      by false h rest = omega (arith, rest h)

  -- the other names keep their values
  pub value_at-without-other : (table : Table V) (name other : List ℕ) → bytes_eq other name ≡ false → value_at (without table name) other ≡ value_at table other
  value_at-without-other [] name other differs = refl
  value_at-without-other (e ∷ es) name other differs = by (bytes_eq name e.0) (λ h. (bytes_decides name e.0).0 h) (value_at-without-other es name other differs)
    where
      by : (b : Bool) → (b ≡ true → name ≡ e.0) → value_at (without es name) other ≡ value_at es other
          → value_at (cond b es (e ∷ without es name)) other ≡ cond (bytes_eq other e.0) (Some e.1) (value_at es other)
      by true same rest = sym (ap (λ b. cond b (Some e.1) (value_at es other)) (ap (bytes_eq other) (sym (same refl)) ∙ differs))
      by false same rest = ap (cond (bytes_eq other e.0) (Some e.1)) rest
