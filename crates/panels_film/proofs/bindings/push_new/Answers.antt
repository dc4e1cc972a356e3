use Rattle.std.proofs.Common.{◌++◌, ℕ, List, Bor, ap, drop, map, sym, ◌∙◌}
use Rattle.std.proofs.lemmas.List.{drop-map}
use Rattle.panels_film.specs.Bindings.{Noted, noted, ran_by, told}
use Rattle.panels_film.proofs.bindings.push_new.Goals as goal

pub returns-clause-ran : goal.returns-clause-ran
returns-clause-ran c =
    let f : ℕ × Bor (List ℕ) → Noted = λ note. noted note.0 note.1.now in
    let new = ap (map f) (c.behind_first-new.ensures ∙ ap (λ (ns : List (ℕ × Bor (List ℕ))). drop c.args.known ns) c.as_slice.ensures.value) in
    c.in_ok-push_notes.ensures
    ∙ ap (λ (ns : List Noted). map told c.args.ran.now.items ++ map (ran_by c.args.slot c.args.count) ns)
    (new ∙ sym (drop-map f c.args.known c.in_ok-notes.notes.items) ∙ ap (drop c.args.known) c.in_ok-notes.ensures)
