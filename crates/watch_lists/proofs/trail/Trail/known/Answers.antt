use Rattle.std.proofs.Common.{◌<◌, sym, ap, ◌∙◌, subst}
use Rattle.cnf_base.specs.Literals.{variable}
use Rattle.watch_lists.specs.contracts.trail.Trail.{the_view}
use Rattle.watch_lists.specs.Trails.{Seen}
use Rattle.watch_lists.specs.Entries.{value_in}
use Rattle.watch_lists.proofs.KeepLemmas.{known_read}
use Rattle.watch_lists.proofs.trail.Trail.known.Goals as goal

pub returns : goal.returns
returns c =
    known_read (the_view c.self.inside) c.self.inside.values.items c.self.inside.places.items _ c.args.lit c.index.result.now c.self.invariant (subst (λ (t : Seen). variable c.args.lit < t.vars) (sym c.self.view_is) c.requires) c.index.ensures
    ∙ ap (λ (t : Seen). value_in t.entries c.args.lit) c.self.view_is
