use Rattle.tcl_vars.proofs.BelowLemmas.{LinksDescend-frames}
use Rattle.tcl_vars.proofs.OnlyLinks.{links_lead, only_links_lead}
use Rattle.tcl_vars.proofs.laws.links_lead.Goals as goal

pub returns : goal.returns
returns c = record { equation = links_lead; only = only_links_lead; earlier = LinksDescend-frames }
