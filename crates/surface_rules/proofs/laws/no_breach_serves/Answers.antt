use Rattle.surface_rules.proofs.ServeLemmas.{no_breach_serves}
use Rattle.surface_rules.proofs.laws.no_breach_serves.Goals as goal

pub returns : goal.returns
returns c = no_breach_serves
