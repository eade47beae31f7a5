-- What a lawful specification writes is refused for nothing, and is that specification.
use Rattle.std.proofs.Common.{◌≡◌, ℕ, suc, ◌<◌, ◌≤◌, Bool, true, false, ◌&&◌, ◌||◌, not, nat_eq, nat_le, List, [], ◌∷◌, ◌++◌, map, length, Option, Some, None, refl, ap, ◌∙◌, arith}
use Rattle.std.specs.Prelude.{option_map, is_none, position, Ok, ⊤}
use Rattle.std.specs.List.{list_all, list_any, filter_map}
use Rattle.std.proofs.lemmas.Bool.{and_parts, and_from, le-leb}
use Rattle.std.proofs.lemmas.List.{length-map}
use Rattle.las_base.specs.declared.Pauli.{Pauli}
use Rattle.las_base.specs.declared.Cell.{Cell}
use Rattle.las_base.specs.declared.Size.{Size}
use Rattle.las_base.specs.declared.Port.{Port}
use Rattle.las_base.specs.Axes.{same_axis}
use Rattle.las_base.specs.Cells.{holds, same_cell, same_size}
use Rattle.las_base.specs.Jobs.{Task, IsTask, within_limits, port_fits, distinct_cells}
use Rattle.las_base.proofs.Same.{same_cell-sym, same_size-refl}
use Rattle.las_base.proofs.Lists.{all_more}
use Rattle.las_spec.specs.declared.refusal.SpecRefused.{SpecRefused}
use Rattle.las_spec.specs.declared.refusal.SpecRefused.TheVariants.{SizeOut, PortCount, PortWay, PortBasis, PortPlace, PortTwice, FlowCount, FlowLength, FlowLetter, ForbiddenPlace, BoxCount, BoxSize, BoxPort}
use Rattle.las_spec.specs.Written.{Written, port_written, written_by}
use Rattle.las_spec.specs.Refusals.{first_of, unless, is_count, has_bad_basis, fits_at, first_repeat, first_bad_letter, carried, first_bad_port, first_bad_box, port_refusals, flow_refusals, job_refusals, box_refusals, job_refusal, refusal}
use Rattle.las_spec.specs.Briefs.{Brief, IsBrief, brief_of, once, port_of, letters_of, port_carried, judged, job_given, spec_given, task_written, brief_written}
use Rattle.las_spec.proofs.Lists.{all_of_each, no_position, no_position_made, map_back, filter_back}
use Rattle.las_spec.proofs.OnceLemmas.{apart, apart-cells}
use Rattle.las_spec.proofs.Distinct.{unseen, first_is_new, first_not_seen, rest_is_apart, cells_once, sizes_once}

-- ---- rows of the table

abbrev AreNone : {A : Type 0} → List (Option A) → Type 0
AreNone [] = ⊤
AreNone (o ∷ os) = (o ≡ None) × AreNone os

none_first : {A : Type 0} (os : List (Option A)) → AreNone os → first_of os ≡ None
none_first [] h = refl
none_first (o ∷ os) h = rw h.0 (none_first os h.1)

none_mapped : {A B : Type 0} (f : A → B) (o : Option A) → o ≡ None → option_map f o ≡ None
none_mapped f o e = rw e refl

holds_so : (b : Bool) (r : SpecRefused) → b ≡ true → unless b r ≡ None
holds_so b r e = rw e refl

counted : {X : Type 0} (most : ℕ) (xs : List X) → (0 < length xs) × (length xs ≤ most) → is_count most (length xs) ≡ true
counted most xs h = and_from (nat_le 1 (length xs)) (nat_le (length xs) most) (le-leb 1 (length xs) (omega (arith, h.0))) (le-leb (length xs) most h.1)

twice_not : (b : Bool) → b ≡ true → not (not b) ≡ true
twice_not b e = rw e refl

no_repeat : (before : List Cell) (m : ℕ) (cs : List Cell) → unseen same_cell before cs ≡ true → apart same_cell cs ≡ true → first_repeat before m cs ≡ None
no_repeat before m [] e d = refl
no_repeat before m (c ∷ cs) e d =
    let p = and_parts (not (list_any (same_cell c) cs)) (apart same_cell cs) d in
    rw (no_position (same_cell c) before (first_is_new same_cell same_cell-sym before c cs e)) (no_repeat (before ++ c ∷ []) (suc m) cs (rest_is_apart same_cell same_cell-sym before c cs e p.0) p.1)

same_places : (ps : List Port) → map (λ p. p.place) (map port_written ps) ≡ map (λ p. p.place) ps
same_places [] = refl
same_places (p ∷ ps) = ap (λ cs. p.place ∷ cs) (same_places ps)

no_bad_letter : (n : ℕ) (words : List (List Pauli)) → first_bad_letter n (map (map Some) words) ≡ None
no_bad_letter n [] = refl
no_bad_letter n (word ∷ words) =
    rw (no_position_made is_none Some (λ _. true) (λ p _. refl) word (all_of_each (λ _. true) (λ _. refl) word)) (no_bad_letter (suc n) words)

-- ---- boxes

abbrev carried_ports : Size → Size → List Port → List Port
carried_ports own box ps = map (port_carried own box) ps

abbrev carried_places : Size → Size → List Port → List Cell
carried_places own box ps = map (λ p. p.place) (carried_ports own box ps)

no_bad_port : (own box : Size) (before : List Cell) (n : ℕ) (ps : List Port) → list_all (port_fits box) (carried_ports own box ps) ≡ true → unseen same_cell before (carried_places own box ps) ≡ true
    → apart same_cell (carried_places own box ps) ≡ true → first_bad_port own box before n (map port_written ps) ≡ None
no_bad_port own box before n [] fits e d = refl
no_bad_port own box before n (p ∷ ps) fits e d =
    let c = carried own box p.place in
    let cs = carried_places own box ps in
    let f = and_parts (port_fits box (port_carried own box p)) (list_all (port_fits box) (carried_ports own box ps)) fits in
    let q = and_parts (not (list_any (same_cell c) cs)) (apart same_cell cs) d in
    let new : not (list_any (same_cell c) before) ≡ true = rw (first_not_seen same_cell same_cell-sym before c cs e) refl in
    let fine : (fits_at box (port_written p) c && not (list_any (same_cell c) before)) ≡ true = and_from (fits_at box (port_written p) c) (not (list_any (same_cell c) before)) f.0 new in
    rw fine (no_bad_port own box (before ++ c ∷ []) (suc n) ps f.1 (rest_is_apart same_cell same_cell-sym before c cs e q.0) q.1)

-- the ports are in order in a box
record TakesPorts (own : Size) (ports : List Port) (box : Size) : Type 0 where
  limits : within_limits box ≡ true
  fit : list_all (port_fits box) (carried_ports own box ports) ≡ true
  places_differ : distinct_cells (carried_places own box ports) ≡ true

or_last : (b : Bool) → (b || true) ≡ true
or_last true = refl
or_last false = refl

-- what holds of each listed box, for the first and for the others
first_listed : (P : Size → Type 0) (x : Size) (xs : List Size) → ((box : Size) → list_any (same_size box) (x ∷ xs) ≡ true → P box) → P x
first_listed P x xs h = h x (rw (same_size-refl x) refl)

rest_listed : (P : Size → Type 0) (x : Size) (xs : List Size) → ((box : Size) → list_any (same_size box) (x ∷ xs) ≡ true → P box) → (box : Size) → list_any (same_size box) xs ≡ true → P box
rest_listed P x xs h box e = h box (rw e (or_last (same_size box x)))

no_bad_box : (own : Size) (ports : List Port) (n : ℕ) (boxes : List Size) → ((box : Size) → list_any (same_size box) boxes ≡ true → TakesPorts own ports box) → first_bad_box own (map port_written ports) n boxes ≡ None
no_bad_box own ports n [] h = refl
no_bad_box own ports n (x ∷ xs) h =
    let t = first_listed (TakesPorts own ports) x xs h in
    rw (no_bad_port own x [] 0 ports t.fit refl (apart-cells (carried_places own x ports) ∙ t.places_differ)) (no_bad_box own ports (suc n) xs (rest_listed (TakesPorts own ports) x xs h))

all_within : (own : Size) (ports : List Port) (boxes : List Size) → ((box : Size) → list_any (same_size box) boxes ≡ true → TakesPorts own ports box) → list_all within_limits boxes ≡ true
all_within own ports [] h = refl
all_within own ports (x ∷ xs) h =
    and_from (within_limits x) (list_all within_limits xs) (first_listed (TakesPorts own ports) x xs h).limits (all_within own ports xs (rest_listed (TakesPorts own ports) x xs h))

takes_ports : (b : Brief) → IsBrief b → (box : Size) → list_any (same_size box) b.boxes ≡ true → TakesPorts b.task.size b.task.ports box
takes_ports b h box listed = let job = h.box_jobs box listed in record { limits = job.size; fit = job.places; places_differ = job.distinct_places }

-- every box of a specification is within the limits
pub boxes_within : (b : Brief) → IsBrief b → list_all within_limits b.boxes ≡ true
boxes_within b h = all_within b.task.size b.task.ports b.boxes (takes_ports b h)

-- ---- the whole table

port_count_row : (ps : List Port) → (0 < length ps) × (length ps ≤ 32) → unless (is_count 32 (length (map port_written ps))) PortCount ≡ None
port_count_row ps h = holds_so _ PortCount (ap (is_count 32) (length-map ps port_written) ∙ counted 32 ps h)

port_way_row : (ps : List Port) → option_map PortWay (position (λ p. is_none p.direction) (map port_written ps)) ≡ None
port_way_row ps = none_mapped PortWay _ (no_position_made (λ p. is_none p.direction) port_written (λ _. true) (λ p _. refl) ps (all_of_each (λ _. true) (λ _. refl) ps))

port_basis_row : (ps : List Port) → list_all (λ p. not (same_axis p.axis p.z_axis)) ps ≡ true → option_map PortBasis (position has_bad_basis (map port_written ps)) ≡ None
port_basis_row ps e = none_mapped PortBasis _ (no_position_made has_bad_basis port_written (λ p. not (same_axis p.axis p.z_axis)) (λ p t. t) ps e)

port_place_row : (s : Size) (ps : List Port) → list_all (port_fits s) ps ≡ true → option_map PortPlace (position (λ p. not (fits_at s p p.place)) (map port_written ps)) ≡ None
port_place_row s ps e = none_mapped PortPlace _ (no_position_made (λ p. not (fits_at s p p.place)) port_written (port_fits s) (λ p t. twice_not (port_fits s p) t) ps e)

port_twice_row : (ps : List Port) → distinct_cells (map (λ p. p.place) ps) ≡ true → option_map (λ x. PortTwice x.1 x.0) (first_repeat [] 0 (map (λ p. p.place) (map port_written ps))) ≡ None
port_twice_row ps e =
    let cs = map (λ (p : Port). p.place) ps in
    none_mapped (λ x. PortTwice x.1 x.0) _ (ap (first_repeat [] 0) (same_places ps) ∙ no_repeat [] 0 cs refl (apart-cells cs ∙ e))

flow_count_row : (words : List (List Pauli)) → (0 < length words) × (length words ≤ 32) → unless (is_count 32 (length {A = List (Option Pauli)} (map (map Some) words))) FlowCount ≡ None
flow_count_row words h = holds_so _ FlowCount (ap (is_count 32) (length-map words (map Some)) ∙ counted 32 words h)

same_length : (word : List Pauli) (ps : List Port) → nat_eq (length {A = Option Pauli} (map Some word)) (length (map port_written ps)) ≡ nat_eq (length word) (length ps)
same_length word ps = rw (length-map word Some, length-map ps port_written) refl

flow_length_row : (ps : List Port) (words : List (List Pauli)) → list_all (λ word. nat_eq (length word) (length ps)) words ≡ true
    → option_map FlowLength (position (λ word. not (nat_eq (length {A = Option Pauli} word) (length (map port_written ps)))) (map (map Some) words)) ≡ None
flow_length_row ps words e =
    none_mapped FlowLength _ (no_position_made (λ word. not (nat_eq (length {A = Option Pauli} word) (length (map port_written ps)))) (map Some) (λ word. nat_eq (length word) (length ps)) (λ word t. twice_not _ (same_length word ps ∙ t)) words e)

flow_letter_row : (words : List (List Pauli)) → option_map (λ x. FlowLetter x.0 x.1) (first_bad_letter 0 (map (map Some) words)) ≡ None
flow_letter_row words = none_mapped (λ x. FlowLetter x.0 x.1) _ (no_bad_letter 0 words)

forbidden_row : (s : Size) (cs : List Cell) → list_all (holds s) cs ≡ true → option_map ForbiddenPlace (position (λ c. not (holds s c)) cs) ≡ None
forbidden_row s cs e = none_mapped ForbiddenPlace _ (no_position (λ c. not (holds s c)) cs (all_more (holds s) (λ c. not (not (holds s c))) (λ c t. twice_not (holds s c) t) cs e))

box_size_row : (boxes : List Size) → list_all within_limits boxes ≡ true → option_map BoxSize (position (λ box. not (within_limits box)) boxes) ≡ None
box_size_row boxes e = none_mapped BoxSize _ (no_position (λ box. not (within_limits box)) boxes (all_more within_limits (λ box. not (not (within_limits box))) (λ box t. twice_not (within_limits box) t) boxes e))

no_port_refusal : (t : Task) → IsTask t → first_of (port_refusals t.size (map port_written t.ports)) ≡ None
no_port_refusal t h =
    none_first (port_refusals t.size (map port_written t.ports))
    (port_count_row t.ports h.port_count, (port_way_row t.ports, (port_basis_row t.ports h.z_axes, (port_place_row t.size t.ports h.places, (port_twice_row t.ports h.distinct_places, tt)))))

no_flow_refusal : (t : Task) → IsTask t → first_of (flow_refusals (length (map port_written t.ports)) (map (map Some) t.flows)) ≡ None
no_flow_refusal t h =
    none_first (flow_refusals (length (map port_written t.ports)) (map (map Some) t.flows)) (flow_count_row t.flows h.flow_count, (flow_length_row t.ports t.flows h.words, (flow_letter_row t.flows, tt)))

-- what a job writes, in a document with these boxes
abbrev pub job_writes : Task → List Size → Written
job_writes t boxes = written_by t.size t.ports t.flows t.forbidden boxes

-- what the parts of a brief write
abbrev pub brief_writes : Brief → Written
brief_writes b = written_by b.task.size b.task.ports b.task.flows b.task.forbidden b.boxes

no_job_refusal : (t : Task) (boxes : List Size) → IsTask t → job_refusal (job_writes t boxes) ≡ None
unfolding job_refusal
no_job_refusal t boxes h =
    none_first (job_refusals (job_writes t boxes)) (holds_so (within_limits t.size) SizeOut h.size, (no_port_refusal t h, (no_flow_refusal t h, (forbidden_row t.size t.forbidden h.forbidden, tt))))

no_box_refusal : (b : Brief) → IsBrief b → first_of (box_refusals (brief_writes b)) ≡ None
no_box_refusal b h =
    none_first (box_refusals (brief_writes b)) (
      holds_so (is_count 64 (length b.boxes)) BoxCount (counted 64 b.boxes h.box_count),
      (
        box_size_row b.boxes (boxes_within b h),
        (none_mapped (λ x. BoxPort x.0 x.1) _ (no_bad_box b.task.size b.task.ports 0 b.boxes (takes_ports b h)), tt),
      ),
    )

no_refusal : (b : Brief) → IsBrief b → refusal (brief_writes b) ≡ None
unfolding refusal
no_refusal b h = rw (no_job_refusal b.task b.boxes h.task) (no_box_refusal b h)

-- ---- what is written is the specification

task_back : (t : Task) (boxes : List Size) → IsTask t → task_written (job_writes t boxes) ≡ t
task_back t boxes h =
    let ports : filter_map port_of (map port_written t.ports) ≡ t.ports = filter_back port_written port_of (λ p. refl) t.ports in
    let flows : map letters_of (map (map Some) t.flows) ≡ t.flows = map_back (map Some) letters_of (λ word. filter_back Some (λ o. o) (λ p. refl) word) t.flows in
    rw (ports, flows, cells_once t.forbidden h.distinct_forbidden) refl

written_back : (b : Brief) → IsBrief b → brief_written (brief_writes b) ≡ b
written_back b h =
    ap (λ t. brief_of t (once same_size [] b.boxes)) (task_back b.task b.boxes h.task) ∙ ap (brief_of b.task) (sizes_once b.boxes h.distinct_boxes)

-- what a lawful job writes gives that job
pub job_writes_give : (t : Task) (boxes : List Size) → IsTask t → job_given (job_writes t boxes) ≡ Ok t
job_writes_give t boxes h = ap (λ r. judged r (task_written (job_writes t boxes))) (no_job_refusal t boxes h) ∙ ap Ok (task_back t boxes h)

-- what a lawful specification writes gives that specification
pub writes_give : (b : Brief) → IsBrief b → spec_given (brief_writes b) ≡ Ok b
writes_give b h = ap (λ r. judged r (brief_written (brief_writes b))) (no_refusal b h) ∙ ap Ok (written_back b h)
