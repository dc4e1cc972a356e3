-- Lemmas on parts that are put behind a text.
use Rattle.std.proofs.Common.{◌≡◌, ℕ, ◌≤◌, List, ◌++◌, length, drop, append_assoc, ap, subst, sym, ◌∙◌}
use Rattle.std.proofs.lemmas.List.{append-nil, drop_all}
use Rattle.std.specs.Prelude.{flat_map}

-- five parts, one after another
pub pushed-five : {A : Type 0} (start one two three four end a b c d e : List A) → one ≡ start ++ a → two ≡ one ++ b → three ≡ two ++ c → four ≡ three ++ d → end ≡ four ++ e → end ≡ start ++ (a ++ (b ++ (c ++ (d ++ e))))
pushed-five start one two three four end a b c d e p q r s t = rw (t, s, r, q, p) (simp append_assoc)

pub pushed-six : {A : Type 0} (start one two three four five end a b c d e f : List A) → one ≡ start ++ a → two ≡ one ++ b → three ≡ two ++ c → four ≡ three ++ d → five ≡ four ++ e → end ≡ five ++ f
    → end ≡ start ++ (a ++ (b ++ (c ++ (d ++ (e ++ f)))))
pushed-six start one two three four five end a b c d e f p q r s t u = rw (u, t, s, r, q, p) (simp append_assoc)

-- what stands behind the last of many parts
pub parts_end : {A : Type 0} (parts : A → List ℕ) (all : List A) (i : ℕ) (text head tail end : List ℕ) → length all ≤ i → text ++ flat_map parts (drop i all) ≡ head ++ flat_map parts all → end ≡ text ++ tail
    → end ≡ head ++ (flat_map parts all ++ tail)
parts_end {A} parts all i text head tail end past same is =
    let P : List A → Type 0 = λ left. text ++ flat_map parts left ≡ head ++ flat_map parts all in
    let whole : text ≡ head ++ flat_map parts all = sym (append-nil text) ∙ subst P (drop_all i all past) same in
    is ∙ (ap (λ front. front ++ tail) whole ∙ append_assoc head (flat_map parts all) tail)
