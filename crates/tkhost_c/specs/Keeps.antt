-- Meaning. What a handle keeps.
use Rattle.std.specs.Prelude.{ℕ, Bool, true, false, List}
use Rattle.tk_alias.specs.declared.service.Service.{Service}
use Rattle.tk_host.specs.Held.{Hosted}
use Rattle.tk_host.specs.declared.phase.Phase.{Phase}
use Rattle.tk_host.specs.declared.phase.Phase.TheVariants.{Adding, Reached, Finished, Lost}
use Rattle.tk_session.specs.declared.session.AppBlock.{AppBlock}

-- A host; its applications by their slots, as far as lines name them; and the aliases that the next one gets.
pub record Keeps : Type 0 where
  pub host : Hosted Service
  pub apps : List AppBlock
  pub waiting : List (List ℕ × Service)

-- a host that has begun takes lines
abbrev pub is_begun : Phase → Bool
is_begun Adding = false
is_begun (Reached moment) = true
is_begun (Finished moment) = true
is_begun Lost = true
