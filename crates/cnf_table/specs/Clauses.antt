-- The clause table of a job. Each group stands as its clauses at one cell, one port or one pair of these with an axis, and then over all.
use Rattle.std.specs.Prelude.{ℕ, Bool, true, false, ◌||◌, not, List, [], ◌∷◌, ◌++◌, map, if◌then◌else◌, cond}
use Rattle.std.specs.List.{filter, flat_map, zip, enumerate_from}
use Rattle.las_base.specs.declared.Axis.{Axis}
use Rattle.las_base.specs.declared.Axis.TheVariants.{I, J, K}
use Rattle.las_base.specs.declared.Way.TheVariants.{Plus, Minus}
use Rattle.las_base.specs.declared.Kind.{Kind}
use Rattle.las_base.specs.declared.Pauli.{Pauli}
use Rattle.las_base.specs.declared.Cell.{Cell}
use Rattle.las_base.specs.declared.Size.{Size}
use Rattle.las_base.specs.declared.Port.{Port}
use Rattle.las_base.specs.Axes.{axes, other_axes, same_axis, next_axis, third_axis, has_part}
use Rattle.las_base.specs.Cells.{holds, cells, above}
use Rattle.las_base.specs.Jobs.{Task, is_port_place}
use Rattle.grid_box.specs.Legs.{Position}
use Rattle.grid_box.specs.Sheets.{is_odd}
use Rattle.cnf_base.specs.declared.literal.Lit.{Lit}
use Rattle.cnf_base.specs.Literals.{Clause, Cnf}
use Rattle.cnf_table.specs.Positions.{positions_at, is_on, same_position, position_before, low_position, port_position, inner_cells}
use Rattle.cnf_table.specs.Variables.{y_literal, pipe_literal, kind_literal, sheet_literal, sheet_var_at, literal, diagram_var, colour_member, var_count}

-- the list, if the test passes
abbrev pub only_if : {X : Type 0} → Bool → List X → List X
only_if b xs = cond b xs []

-- 1. no pipe leaves the box but to a port's place
abbrev pub box_clauses_at : Task → Axis → Cell → List Clause
box_clauses_at t a c =
    only_if (not (holds t.size (above a c) || is_port_place t (above a c))) ((pipe_literal t.size c (low_position a) false ∷ []) ∷ [])

abbrev pub box_clauses : Task → List Clause
box_clauses t = flat_map (λ a. flat_map (box_clauses_at t a) (cells t.size)) axes

-- 2. the port's pipe alone stands at its place, which is no Y cell
abbrev pub port_clauses_at : Size → Port → List Clause
port_clauses_at s p =
    (pipe_literal s p.place (port_position p) true ∷ [])
    ∷ (map (λ q. pipe_literal s p.place q false ∷ []) (filter (λ q. not (same_position q (port_position p))) (positions_at s p.place))
    ++ only_if (holds s p.place) ((y_literal s p.place false ∷ []) ∷ []))

abbrev pub port_clauses : Task → List Clause
port_clauses t = flat_map (port_clauses_at t.size) t.ports

-- 3. nothing stands at a forbidden cell
abbrev pub forbidden_clauses_at : Size → Cell → List Clause
forbidden_clauses_at s c = map (λ p. pipe_literal s c p false ∷ []) (positions_at s c) ++ ((y_literal s c false ∷ []) ∷ [])

abbrev pub forbidden_clauses : Task → List Clause
forbidden_clauses t = flat_map (forbidden_clauses_at t.size) t.forbidden

-- at a Y cell not both of two positions have a pipe
abbrev pub not_both : Size → Cell → List Position → List Clause
not_both s c (p ∷ q ∷ []) = (y_literal s c false ∷ pipe_literal s c p false ∷ pipe_literal s c q false ∷ []) ∷ []
not_both s c _ = []

-- 4. an inner Y cell has one leg, and it is along K
abbrev pub y_cube_clauses_at : Size → Cell → List Clause
y_cube_clauses_at s c =
    map (λ p. y_literal s c false ∷ pipe_literal s c p false ∷ []) (filter (λ p. not (is_on K p)) (positions_at s c))
    ++ ((y_literal s c false ∷ map (λ p. pipe_literal s c p true) (filter (is_on K) (positions_at s c))) ∷ not_both s c (filter (is_on K) (positions_at s c)))

abbrev pub y_cube_clauses : Task → List Clause
y_cube_clauses t = flat_map (y_cube_clauses_at t.size) (inner_cells t)

-- 5. an inner cell that is no Y cell does not have one leg
abbrev pub dead_end_clause : Size → Cell → Position → Clause
dead_end_clause s c p =
    pipe_literal s c p false
    ∷ (map (λ q. pipe_literal s c q true) (filter (λ q. not (same_position q p)) (positions_at s c)) ++ y_literal s c true ∷ [])

abbrev pub dead_end_clauses_at : Size → Cell → List Clause
dead_end_clauses_at s c = map (dead_end_clause s c) (positions_at s c)

abbrev pub dead_end_clauses : Task → List Clause
dead_end_clauses t = flat_map (dead_end_clauses_at t.size) (inner_cells t)

-- 6. no inner cell has legs on three axes
abbrev pub not_all_three : Size → Cell → Position → Position → Position → Clause
not_all_three s c p q r = pipe_literal s c p false ∷ pipe_literal s c q false ∷ pipe_literal s c r false ∷ []

abbrev pub three_axes_clauses_at : Size → Cell → List Clause
three_axes_clauses_at s c =
    flat_map (λ p. flat_map (λ q. map (not_all_three s c p q) (filter (is_on K) (positions_at s c))) (filter (is_on J) (positions_at s c))) (filter (is_on I) (positions_at s c))

abbrev pub three_axes_clauses : Task → List Clause
three_axes_clauses t = flat_map (three_axes_clauses_at t.size) (inner_cells t)

-- an axis that is normal to both positions
abbrev pub shared_normal : Position → Position → Axis
shared_normal p q = if same_axis p.0 q.0 then next_axis p.0 else third_axis p.0 q.0

-- 7. two legs of an inner cell have the same kind on an axis normal to both. Where they lie on one axis, there is another such axis, on which the other faces of a pipe follow
abbrev pub kinds_agree : Size → Cell → Position → Position → Axis → Bool → Clause
kinds_agree s c p q b sign = pipe_literal s c p false ∷ pipe_literal s c q false ∷ kind_literal s c p b (not sign) ∷ kind_literal s c q b sign ∷ []

abbrev pub colour_clauses_of : Size → Cell → Position × Position → List Clause
colour_clauses_of s c x = kinds_agree s c x.0 x.1 (shared_normal x.0 x.1) true ∷ kinds_agree s c x.0 x.1 (shared_normal x.0 x.1) false ∷ []

abbrev pub colour_clauses_at : Size → Cell → List Clause
colour_clauses_at s c = flat_map (λ p. flat_map (λ q. colour_clauses_of s c (p, q)) (filter (position_before p) (positions_at s c))) (positions_at s c)

abbrev pub colour_clauses : Task → List Clause
colour_clauses t = flat_map (colour_clauses_at t.size) (inner_cells t)

-- 8. a port's leg has kind Z on the z axis
abbrev pub port_colour_clause : Size → Port → Clause
port_colour_clause s p = kind_literal s p.place (port_position p) p.z_axis true ∷ []

abbrev pub port_colour_clauses : Task → List Clause
port_colour_clauses t = map (port_colour_clause t.size) t.ports

-- the positions whose colours a pipe has: both ends of a K pipe, and the low end of another
abbrev pub colour_ends : Axis → List Position
colour_ends I = (I, Plus) ∷ []
colour_ends J = (J, Plus) ∷ []
colour_ends K = (K, Plus) ∷ (K, Minus) ∷ []

-- 9. an absent pipe has no colour
abbrev pub absent_colour_clauses_at : Size → Axis → Cell → List Clause
absent_colour_clauses_at s a c = map (λ p. pipe_literal s c (low_position a) true ∷ literal false (diagram_var s (colour_member p) c) ∷ []) (colour_ends a)

abbrev pub absent_colour_clauses : Task → List Clause
absent_colour_clauses t = flat_map (λ a. flat_map (absent_colour_clauses_at t.size a) (cells t.size)) axes

-- 10. an absent pipe has no sheet
abbrev pub absent_sheet_clauses_at : Size → ℕ → Axis → Cell → List Clause
absent_sheet_clauses_at s flow a c = map (λ b. pipe_literal s c (low_position a) true ∷ sheet_literal s flow c (low_position a) b false ∷ []) (other_axes a)

abbrev pub absent_sheet_clauses : Task → ℕ → List Clause
absent_sheet_clauses t flow = flat_map (λ a. flat_map (absent_sheet_clauses_at t.size flow a) (cells t.size)) axes

-- 11. at a port the sheets spell the letter
abbrev pub letter_clauses_at : Size → ℕ → Port × Pauli → List Clause
letter_clauses_at s flow x =
    (sheet_literal s flow x.0.place (port_position x.0) x.0.z_axis (has_part Kind.Z x.1) ∷ [])
    ∷ (sheet_literal s flow x.0.place (port_position x.0) (third_axis x.0.axis x.0.z_axis) (has_part Kind.X x.1) ∷ [])
    ∷ []

abbrev pub letter_clauses : Task → ℕ → List Pauli → List Clause
letter_clauses t flow word = flat_map (letter_clauses_at t.size flow) (zip t.ports word)

-- 12. an inner Y cell's leg has both sheets or none
abbrev pub y_sheet_clauses_of : Size → ℕ → Cell → Position → List Clause
y_sheet_clauses_of s flow c p =
    (y_literal s c false ∷ sheet_literal s flow c p I false ∷ sheet_literal s flow c p J true ∷ [])
    ∷ (y_literal s c false ∷ sheet_literal s flow c p I true ∷ sheet_literal s flow c p J false ∷ [])
    ∷ []

abbrev pub y_sheet_clauses_at : Size → ℕ → Cell → List Clause
y_sheet_clauses_at s flow c = flat_map (y_sheet_clauses_of s flow c) (filter (is_on K) (positions_at s c))

abbrev pub y_sheet_clauses : Task → ℕ → List Clause
y_sheet_clauses t flow = flat_map (y_sheet_clauses_at t.size flow) (inner_cells t)

-- the lists of so many truth values, counted with the first as the lowest bit
abbrev pub patterns : {X : Type 0} → List X → List (List Bool)
patterns [] = [] ∷ []
patterns (x ∷ xs) = flat_map (λ bs. (false ∷ bs) ∷ (true ∷ bs) ∷ []) (patterns xs)

-- the literal against a value of a variable: negated where the value is true
abbrev pub against : ℕ × Bool → Lit
against (x, b) = literal (not b) x

-- one clause against each odd pattern of the variables, behind a front: where no literal of the front is true, an even number of the variables is
abbrev pub even_clauses : Clause → List ℕ → List Clause
even_clauses front xs = map (λ bs. front ++ map against (zip xs bs)) (filter is_odd (patterns xs))

-- the literals that say that some leg is on the axis
abbrev pub legs_along : Size → Cell → Axis → Clause
legs_along s c b = map (λ r. pipe_literal s c r true) (filter (is_on b) (positions_at s c))

-- the positions that are not on the axis
abbrev pub beside_axis : Size → Cell → Axis → List Position
beside_axis s c b = filter (λ p. not (is_on b p)) (positions_at s c)

-- with no leg on the axis, a leg's sheet that does not span it is in another leg too
abbrev pub spread : Size → ℕ → Cell → Axis → Position → Position → Clause
spread s flow c b p q =
    legs_along s c b
    ++ (sheet_literal s flow c p (third_axis p.0 b) false ∷ pipe_literal s c q false ∷ sheet_literal s flow c q (third_axis q.0 b) true ∷ [])

-- 13. at an inner cell, for each axis with no leg: the sheets that span it are even, and the others are in all legs or in none
abbrev pub joint_clauses_on : Size → ℕ → Cell → Axis → List Clause
joint_clauses_on s flow c b =
    even_clauses (legs_along s c b ++ y_literal s c true ∷ []) (map (λ p. sheet_var_at s flow c p b) (beside_axis s c b))
    ++ flat_map (λ p. map (spread s flow c b p) (filter (λ q. not (same_position q p)) (beside_axis s c b))) (beside_axis s c b)

abbrev pub joint_clauses_at : Size → ℕ → Cell → List Clause
joint_clauses_at s flow c = flat_map (joint_clauses_on s flow c) axes

abbrev pub joint_clauses : Task → ℕ → List Clause
joint_clauses t flow = flat_map (joint_clauses_at t.size flow) (inner_cells t)

-- the clauses of one flow
abbrev pub flow_clauses : Task → ℕ × List Pauli → List Clause
flow_clauses t (flow, word) = absent_sheet_clauses t flow ++ (letter_clauses t flow word ++ (y_sheet_clauses t flow ++ joint_clauses t flow))

-- the clauses of the diagram
abbrev pub diagram_clauses : Task → List Clause
diagram_clauses t =
    box_clauses t ++ (port_clauses t ++ (forbidden_clauses t ++ (y_cube_clauses t ++ (dead_end_clauses t ++ (three_axes_clauses t ++ (colour_clauses t ++ (port_colour_clauses t ++ absent_colour_clauses t)))))))

-- the clause table of a job
unfoldable pub clause_table : Task → Cnf
clause_table t = record { vars = var_count t; clauses = diagram_clauses t ++ flat_map (flow_clauses t) (enumerate_from 0 t.flows) }
