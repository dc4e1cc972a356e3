-- The program's own services serve the applications of a session.
use Rattle.std.proofs.Common.{◌≡◌, ℕ, zero, suc, ◌≤◌, List, [], ◌∷◌, length, map, take, refl, sym, ap, ◌∙◌, subst, arith}
use Rattle.tk_app.specs.Seen.{names_of}
use Rattle.tk_alias.specs.declared.service.Service.{Service}
use Rattle.tk_session.specs.declared.session.AliasLine.{AliasLine}
use Rattle.tk_session.specs.declared.session.AppBlock.{AppBlock}
use Rattle.tkhost.specs.Play.{Serve, service_of, services_in}

names_served : (lines : List AliasLine) → names_of (map service_of lines) ≡ map (λ (line : AliasLine). line.name) lines
names_served [] = refl
names_served (line ∷ lines) = ap (λ names. line.name ∷ names) (names_served lines)

take_whole : {X : Type 0} (xs : List X) (i : ℕ) → length xs ≤ i → take i xs ≡ xs
take_whole [] zero le = refl
take_whole [] (suc i) le = refl
take_whole (x ∷ xs) zero le = absurd (omega (arith, le))
take_whole (x ∷ xs) (suc i) le = ap (λ rest. x ∷ rest) (take_whole xs i (omega (arith, le)))

services_serve : (apps : List AppBlock) → Serve apps (map services_in apps)
services_serve [] = tt
services_serve (app ∷ apps) = (names_served app.aliases, services_serve apps)

pub all_serve : (apps : List AppBlock) (i : ℕ) (lists : List (List (List ℕ × Service))) → lists ≡ map services_in (take i apps) → length apps ≤ i → Serve apps lists
all_serve apps i lists is le = subst (Serve apps) (sym (is ∙ ap (λ front. map services_in front) (take_whole apps i le))) (services_serve apps)
