-- The rule that pipes stay in the box, axis by axis.
use Rattle.std.proofs.Common.{◌≡◌, Bool, true, false, cond, ◌&&◌, ◌||◌, List, [], ◌∷◌, Option, Some, is_some, refl, ap, ◌∙◌}
use Rattle.std.specs.List.{find, list_all}
use Rattle.las_base.specs.declared.Axis.{Axis}
use Rattle.las_base.specs.declared.Axis.TheVariants.{I, J, K}
use Rattle.las_base.specs.declared.Cell.{Cell}
use Rattle.las_base.specs.Axes.{same_axis}
use Rattle.las_base.specs.Cells.{same_cell, holds, above}
use Rattle.las_base.specs.Jobs.{is_port_place}
use Rattle.grid_box.specs.Drawings.{Pipe, is_pipe_at}
use Rattle.grid_box.specs.PipeRules.{◌==>◌, StaysByAxes}

module _ (c : Cell) (f : Axis → Bool) where
  -- f holds of an axis, if there is a pipe along it
  abbrev along : Axis → List Pipe → Bool
  along a ps = is_some (find (is_pipe_at a c) ps) ==> f a

  -- one pipe more along the axis
  if_found : (t : Bool) (p : Pipe) (o : Option Pipe) (b : Bool) → (is_some (cond t (Some p) o) ==> b) ≡ cond t b (is_some o ==> b)
  if_found true p o b = refl
  if_found false p o b = refl

  first : (i o x : Bool) → (i && ((o ==> i) && x)) ≡ (i && x)
  first true true x = refl
  first true false x = refl
  first false o x = refl

  second : (i j o x : Bool) → (j && (i && ((o ==> j) && x))) ≡ (i && (j && x))
  second true true true x = refl
  second true true false x = refl
  second true false o x = refl
  second false true o x = refl
  second false false o x = refl

  third : (i j k o : Bool) → (k && (i && (j && (o ==> k)))) ≡ (i && (j && k))
  third true true true true = refl
  third true true true false = refl
  third true true false o = refl
  third true false true o = refl
  third true false false o = refl
  third false j true o = refl
  third false true false o = refl
  third false false false o = refl

  by_axes : (ps : List Pipe) → list_all (λ p. same_cell p.cell c ==> f p.axis) ps ≡ (along I ps && (along J ps && along K ps))
  by_axes [] = refl
  by_axes (p ∷ ps) = step p.axis (same_cell p.cell c) (by_axes ps) ∙ whole
    where
      step : (a : Axis) (t : Bool) → list_all (λ p. same_cell p.cell c ==> f p.axis) ps ≡ (along I ps && (along J ps && along K ps))
          → ((t ==> f a) && list_all (λ p. same_cell p.cell c ==> f p.axis) ps) ≡ (cond (same_axis a I && t) (f I) (along I ps) && (cond (same_axis a J && t) (f J) (along J ps) && cond (same_axis a K && t) (f K) (along K ps)))
      step I false ih = ih
      step J false ih = ih
      step K false ih = ih
      step I true ih = ap (λ b. f I && b) ih ∙ first (f I) (is_some (find (is_pipe_at I c) ps)) (along J ps && along K ps)
      step J true ih = ap (λ b. f J && b) ih ∙ second (along I ps) (f J) (is_some (find (is_pipe_at J c) ps)) (along K ps)
      step K true ih = ap (λ b. f K && b) ih ∙ third (along I ps) (along J ps) (f K) (is_some (find (is_pipe_at K c) ps))

      whole : (cond (is_pipe_at I c p) (f I) (along I ps) && (cond (is_pipe_at J c p) (f J) (along J ps) && cond (is_pipe_at K c p) (f K) (along K ps))) ≡ (along I (p ∷ ps) && (along J (p ∷ ps) && along K (p ∷ ps)))
      whole =
          rw (if_found (is_pipe_at I c p) p (find (is_pipe_at I c) ps) (f I), if_found (is_pipe_at J c p) p (find (is_pipe_at J c) ps) (f J), if_found (is_pipe_at K c p) p (find (is_pipe_at K c) ps) (f K)) refl

-- what the first rule asks where a pipe's high cell is
pub stays_by_axes : StaysByAxes
stays_by_axes t d c = by_axes c (λ a. holds t.size (above a c) || is_port_place t (above a c)) d.pipes
