-- Lemmas on what tables say that happens.
use Rattle.std.proofs.Common.{◌≡◌, ℕ, ◌+◌, ◌<◌, List, ◌∷◌, length, get_or, drop, Option, ap, sym, ◌∙◌}
use Rattle.std.proofs.lemmas.List.{drop_more}
use Rattle.tk_session.specs.Reading.{◌>>=◌}
use Rattle.tk_session.specs.declared.session.AppBlock.{AppBlock}
use Rattle.toml.specs.View.{table_view}
use Rattle.panels_bench.specs.Entries.{deeds_from, deeds_of, moment_in, moment_of_deed, sights_from, sights_of}
use Rattle.panels_bench.specs.Values.{onto}
use Rattle.panels_text.specs.declared.table.Part.{Part}

-- one table more
next : (parts : List Part) (i : ℕ) (part : Part) → i < length parts → part ≡ get_or parts i part → drop i parts ≡ part ∷ drop (i + 1) parts
next parts i part lt is = drop_more parts i part lt ∙ ap (λ own. own ∷ drop (i + 1) parts) (sym is)

pub deeds_next : (panels : List AppBlock) (end before : ℕ) (parts : List Part) (i : ℕ) (part : Part) (found : Option ℕ) → i < length parts → part ≡ get_or parts i part → moment_of_deed before end (table_view part.table.now) ≡ found
    → deeds_from panels end before (drop i parts) ≡ (found >>= λ own. onto (deeds_of panels own part) (deeds_from panels end own (drop (i + 1) parts)))
deeds_next panels end before parts i part found lt is said =
    ap (λ own. deeds_from panels end before own) (next parts i part lt is)
    ∙ ap (λ (found : Option ℕ). found >>= λ own. onto (deeds_of panels own part) (deeds_from panels end own (drop (i + 1) parts))) said

pub sights_next : (panels : List AppBlock) (end before : ℕ) (parts : List Part) (i : ℕ) (part : Part) (found : Option ℕ) → i < length parts → part ≡ get_or parts i part → moment_in before end (table_view part.table.now) ≡ found
    → sights_from panels end before (drop i parts) ≡ (found >>= λ own. onto (sights_of panels own part) (sights_from panels end own (drop (i + 1) parts)))
sights_next panels end before parts i part found lt is said =
    ap (λ own. sights_from panels end before own) (next parts i part lt is)
    ∙ ap (λ (found : Option ℕ). found >>= λ own. onto (sights_of panels own part) (sights_from panels end own (drop (i + 1) parts))) said
