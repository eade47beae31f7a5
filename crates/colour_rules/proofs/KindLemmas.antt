-- Lists of kinds that are one kind.
use Rattle.std.proofs.Common.{◌≡◌, Bool, true, false, cond, not, ◌&&◌, ◌||◌, List, [], ◌∷◌, map, refl, sym, ap, ◌∙◌}
use Rattle.std.specs.List.{list_all, filter}
use Rattle.std.proofs.Math.Bool.{or-false}
use Rattle.las_base.specs.declared.Axis.{Axis}
use Rattle.las_base.specs.declared.Kind.{Kind}
use Rattle.las_base.specs.Axes.{same_kind}
use Rattle.grid_box.specs.declared.Leg.{Leg}
use Rattle.grid_box.specs.Legs.{along, kind_on, kinds_on}
use Rattle.grid_box.specs.PipeRules.{all_kind, all_one_kind}

x_or_z : (ks : List Kind) → all_one_kind ks ≡ (all_kind Kind.X ks || all_kind Kind.Z ks)
x_or_z [] = refl
x_or_z (Kind.X ∷ ks) = sym (or-false (all_kind Kind.X ks))
x_or_z (Kind.Z ∷ ks) = refl

of_legs : (a : Axis) (k : Kind) (ls : List Leg) → all_kind k (kinds_on a ls) ≡ list_all (λ l. along a l || same_kind k (kind_on l a)) ls
of_legs a k [] = refl
of_legs a k (l ∷ ls) = by_test (along a l) (of_legs a k ls)
  where
    by_test : (b : Bool) → all_kind k (kinds_on a ls) ≡ list_all (λ l. along a l || same_kind k (kind_on l a)) ls
        → all_kind k (map (λ l. kind_on l a) (cond (not b) (l ∷ filter (λ l. not (along a l)) ls) (filter (λ l. not (along a l)) ls))) ≡ ((b || same_kind k (kind_on l a)) && list_all (λ l. along a l || same_kind k (kind_on l a)) ls)
    by_test true ih = ih
    by_test false ih = ap (λ r. same_kind k (kind_on l a) && r) ih

-- legs show one kind where they all show X, or all show Z
pub one_kind : (a : Axis) (ls : List Leg) → all_one_kind (kinds_on a ls) ≡ (list_all (λ l. along a l || same_kind Kind.X (kind_on l a)) ls || list_all (λ l. along a l || same_kind Kind.Z (kind_on l a)) ls)
one_kind a ls = x_or_z (kinds_on a ls) ∙ ap (λ b. b || all_kind Kind.Z (kinds_on a ls)) (of_legs a Kind.X ls) ∙ ap (λ b. list_all (λ l. along a l || same_kind Kind.X (kind_on l a)) ls || b) (of_legs a Kind.Z ls)
