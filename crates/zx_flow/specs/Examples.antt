-- Worked labels.
use Rattle.std.specs.Prelude.{◌≡◌, ℕ, List, [], ◌∷◌, Option, Some, None}
use Rattle.las_base.specs.declared.Axis.TheVariants.{I, J, K}
use Rattle.las_base.specs.declared.Kind.{Kind}
use Rattle.las_base.specs.declared.Pauli.{Pauli}
use Rattle.grid_box.specs.Drawings.{Drawing}
use Rattle.grid_box.specs.Examples.{at, pipe, wire, three_ports, one_port, comb}
use Rattle.zx_graph.specs.Graphs.{zx_of}
use Rattle.zx_graph.specs.Examples.{walled, y_walled}
use Rattle.zx_flow.specs.declared.BadLabel.{BadLabel}
use Rattle.zx_flow.specs.Flows.{bad_label}
use Rattle.zx_flow.specs.Labels.{Label}

-- Z at the first two of three ports
abbrev pub word_zz : List Pauli
word_zz = Pauli.Z ∷ Pauli.Z ∷ Pauli.One ∷ []

-- the comb's labels for that word
abbrev pub comb_labels : List Label
comb_labels = (Pauli.Z, Pauli.Z) ∷ (Pauli.One, Pauli.One) ∷ (Pauli.Z, Pauli.Z) ∷ (Pauli.Z, Pauli.Z) ∷ (Pauli.One, Pauli.One) ∷ []

-- a rule is broken first at a place
abbrev pub fails_at : ℕ → ℕ → Option BadLabel
fails_at rule place = Some (record { rule = rule; place = place })

-- across a wall X becomes Z
abbrev pub WallExchangesXAndZ : Type 0
WallExchangesXAndZ = bad_label (zx_of (wire J I) walled) ((Pauli.X, Pauli.Z) ∷ []) (Pauli.X ∷ Pauli.Z ∷ []) ≡ None

-- the comb's labels obey every rule
abbrev pub CombLabelsObey : Type 0
CombLabelsObey = bad_label (zx_of (three_ports J) comb) comb_labels word_zz ≡ None

-- the ends of a plain edge differ
abbrev pub EdgeEndsDiffer : Type 0
EdgeEndsDiffer = bad_label (zx_of (three_ports J) comb) ((Pauli.Z, Pauli.Z) ∷ (Pauli.One, Pauli.One) ∷ (Pauli.Z, Pauli.Z) ∷ (Pauli.One, Pauli.Z) ∷ (Pauli.One, Pauli.One) ∷ []) word_zz ≡ fails_at 1 3

-- a port does not show its letter
abbrev pub PortLetterIsWrong : Type 0
PortLetterIsWrong = bad_label (zx_of (three_ports J) comb) ((Pauli.Z, Pauli.Z) ∷ (Pauli.One, Pauli.One) ∷ (Pauli.Z, Pauli.Z) ∷ (Pauli.One, Pauli.One) ∷ (Pauli.One, Pauli.One) ∷ []) word_zz ≡ fails_at 2 1

-- a spider of kind Z has an odd number of legs with Z
abbrev pub SpiderIsOdd : Type 0
SpiderIsOdd = bad_label (zx_of (three_ports J) comb) ((Pauli.One, Pauli.One) ∷ (Pauli.One, Pauli.One) ∷ (Pauli.Z, Pauli.Z) ∷ (Pauli.Z, Pauli.Z) ∷ (Pauli.One, Pauli.One) ∷ []) word_zz ≡ fails_at 4 0

-- at a Y end One and Y are kept, and Z is not
abbrev pub YEndTakesOneOrY : Type 0
YEndTakesOneOrY = (bad_label (zx_of one_port y_walled) ((Pauli.Y, Pauli.Y) ∷ []) (Pauli.Y ∷ []) ≡ None)
    × (bad_label (zx_of one_port y_walled) ((Pauli.One, Pauli.One) ∷ []) (Pauli.One ∷ []) ≡ None)
    × (bad_label (zx_of one_port y_walled) ((Pauli.Z, Pauli.X) ∷ []) (Pauli.X ∷ []) ≡ fails_at 3 0)

-- the comb with a wall in each pipe to a port: its spiders are of kind X
abbrev pub walled_comb : Drawing
walled_comb = record {
  size = record { i = 3; j = 1; k = 1 };
  pipes = pipe I (at 0 0 0) Kind.X Kind.X ∷ pipe I (at 1 0 0) Kind.X Kind.X ∷ pipe K (at 0 0 0) Kind.Z Kind.X ∷ pipe K (at 1 0 0) Kind.Z Kind.X ∷ pipe K (at 2 0 0) Kind.Z Kind.X ∷ [];
  y_cells = [];
}

-- a spider of kind X has an odd number of legs with X
abbrev pub XSpiderIsOdd : Type 0
XSpiderIsOdd = bad_label (zx_of (three_ports J) walled_comb) ((Pauli.X, Pauli.X) ∷ (Pauli.X, Pauli.X) ∷ (Pauli.X, Pauli.Z) ∷ (Pauli.X, Pauli.Z) ∷ (Pauli.One, Pauli.One) ∷ []) word_zz ≡ fails_at 5 2
