-- What no row refuses is a job, and a job in each box.
use Rattle.std.proofs.Common.{◌≡◌, ℕ, suc, ◌<◌, ◌≤◌, Bool, true, false, cond, not, ◌&&◌, ◌||◌, nat_le, nat_eq, List, [], ◌∷◌, ◌++◌, map, length, Option, Some, None, refl, sym, ap, ◌∙◌, subst, arith, append_assoc, append-nil}
use Rattle.std.specs.Prelude.{position, option_map, is_none}
use Rattle.std.specs.Option.{option_or}
use Rattle.std.specs.List.{list_all, list_any, filter, filter_map}
use Rattle.std.proofs.lemmas.Bool.{and_parts, leb-true}
use Rattle.std.proofs.lemmas.List.{length-map}
use Rattle.std.proofs.lemmas.List.Folds.{list_all-map}
use Rattle.las_base.specs.declared.Pauli.{Pauli}
use Rattle.las_base.specs.declared.Cell.{Cell}
use Rattle.las_base.specs.declared.Size.{Size}
use Rattle.las_base.specs.declared.Port.{Port}
use Rattle.las_base.specs.Axes.{same_axis}
use Rattle.las_base.specs.Cells.{holds, same_cell, same_size}
use Rattle.las_base.specs.Jobs.{Task, IsTask, task_of, within_limits, port_fits, distinct_cells}
use Rattle.las_base.proofs.Same.{same_cell-sym, same_size-is, same_size-sym, none_any}
use Rattle.las_base.proofs.Lists.{filter_passes}
use Rattle.las_spec.specs.declared.draft.WrittenPort.{WrittenPort}
use Rattle.las_spec.specs.declared.refusal.SpecRefused.{SpecRefused}
use Rattle.las_spec.specs.declared.refusal.SpecRefused.TheVariants.{SizeOut, PortCount, PortWay, PortBasis, PortPlace, PortTwice, FlowCount, FlowLength, FlowLetter, ForbiddenPlace, BoxCount, BoxSize, BoxPort}
use Rattle.las_spec.specs.Written.{Written, port_written}
use Rattle.las_spec.specs.Refusals.{first_of, unless, is_count, has_bad_basis, fits_at, first_repeat, first_bad_letter, carried, first_bad_port, first_bad_box, port_refusals, flow_refusals, box_refusals, job_refusal, refusal}
use Rattle.las_spec.specs.Briefs.{IsBrief, brief_of, once, port_of, letters_of, task_written, brief_written, port_carried}
use Rattle.las_spec.proofs.OnceLemmas.{apart, and_true, apart-push, once-all, once-most, once-some, once-apart, filter-apart, apart-cells, apart-sizes}
use Rattle.las_spec.proofs.WrittenLemmas.{none_found, ports_written, words_written}

-- ---- rows that refuse nothing

neither : {A : Type 0} (a b : Option A) → option_or a b ≡ None → (a ≡ None) × (b ≡ None)
neither None b e = (refl, e)
neither (Some x) b e = absurd (cc)

passes : (b : Bool) (r : SpecRefused) → unless b r ≡ None → b ≡ true
passes true r e = refl
passes false r e = absurd (cc)

nowhere : {A B : Type 0} (f : A → B) (o : Option A) → option_map f o ≡ None → o ≡ None
nowhere f None e = refl
nowhere f (Some x) e = absurd (cc)

counted : (most n : ℕ) → is_count most n ≡ true → (0 < n) × (n ≤ most)
counted most n e =
    let p = and_parts (nat_le 1 n) (nat_le n most) e in
    let low : 1 ≤ n = leb-true 1 n p.0 in
    let high : n ≤ most = leb-true n most p.1 in
    (omega arith, high)

twice_not : {X : Type 0} (test : X → Bool) (xs : List X) → list_all (λ x. not (not (test x))) xs ≡ true → list_all test xs ≡ true
twice_not test [] h = refl
twice_not test (x ∷ xs) h =
    let p = and_parts (not (not (test x))) (list_all (λ x. not (not (test x))) xs) h in
    and_true (test x) (list_all test xs) (at (test x) p.0) (twice_not test xs p.1)
  where
    at : (b : Bool) → not (not b) ≡ true → b ≡ true
    at true e = refl
    at false e = absurd (cc)

-- ---- ports

record ArePorts (s : Size) (ports : List WrittenPort) : Type 0 where
  count : is_count 32 (length ports) ≡ true
  ways : list_all (λ p. not (is_none p.direction)) ports ≡ true
  bases : list_all (λ p. not (has_bad_basis p)) ports ≡ true
  fit : list_all (λ p. fits_at s p p.place) ports ≡ true
  once : first_repeat [] 0 (map (λ p. p.place) ports) ≡ None

are_ports : (s : Size) (ports : List WrittenPort) → first_of (port_refusals s ports) ≡ None → ArePorts s ports
are_ports s ports e =
    let a = neither _ _ e in
    let b = neither _ _ a.1 in
    let c = neither _ _ b.1 in
    let d = neither _ _ c.1 in
    let f = neither _ _ d.1 in
    record {
      count = passes (is_count 32 (length ports)) PortCount a.0;
      ways = none_found (λ (p : WrittenPort). is_none p.direction) ports (nowhere PortWay _ b.0);
      bases = none_found has_bad_basis ports (nowhere PortBasis _ c.0);
      fit = twice_not (λ (p : WrittenPort). fits_at s p p.place) ports (none_found (λ (p : WrittenPort). not (fits_at s p p.place)) ports (nowhere PortPlace _ d.0));
      once = nowhere (λ (x : ℕ × ℕ). PortTwice x.1 x.0) _ f.0;
    }

no_repeat : (before : List Cell) (m : ℕ) (cs : List Cell) → first_repeat before m cs ≡ None → apart same_cell before ≡ true → apart same_cell (before ++ cs) ≡ true
no_repeat before m [] e h = ap (apart same_cell) (append-nil before) ∙ h
no_repeat before m (c ∷ cs) e h =
    let a = neither (option_map (λ n. (m, n)) (position (same_cell c) before)) (first_repeat (before ++ c ∷ []) (suc m) cs) e in
    let new : list_any (same_cell c) before ≡ false = none_any (same_cell c) before (none_found (same_cell c) before (nowhere (λ (n : ℕ). (m, n)) _ a.0)) in
    ap (apart same_cell) (sym (append_assoc before (c ∷ []) cs)) ∙ no_repeat (before ++ c ∷ []) (suc m) cs a.1 (apart-push same_cell same_cell-sym before c h new)

-- ---- flows

record AreFlows (n : ℕ) (words : List (List (Option Pauli))) : Type 0 where
  count : is_count 32 (length words) ≡ true
  long : list_all (λ word. nat_eq (length word) n) words ≡ true
  letters : first_bad_letter 0 words ≡ None

are_flows : (n : ℕ) (words : List (List (Option Pauli))) → first_of (flow_refusals n words) ≡ None → AreFlows n words
are_flows n words e =
    let a = neither _ _ e in
    let b = neither _ _ a.1 in
    let c = neither _ _ b.1 in
    record {
      count = passes (is_count 32 (length words)) FlowCount a.0;
      long = twice_not (λ (word : List (Option Pauli)). nat_eq (length word) n) words (none_found (λ (word : List (Option Pauli)). not (nat_eq (length word) n)) words (nowhere FlowLength _ b.0));
      letters = nowhere (λ (x : ℕ × ℕ). FlowLetter x.0 x.1) _ c.0;
    }

as_long : (n : ℕ) (flows : List (List Pauli)) → list_all (λ word. nat_eq (length word) n) (map (map Some) flows) ≡ true → list_all (λ w. nat_eq (length w) n) flows ≡ true
as_long n [] h = refl
as_long n (w ∷ ws) h =
    let p = and_parts (nat_eq (length (map {B = Option Pauli} Some w)) n) (list_all (λ word. nat_eq (length word) n) (map (map Some) ws)) h in
    and_true (nat_eq (length w) n) (list_all (λ w. nat_eq (length w) n) ws) (ap (λ k. nat_eq k n) (sym (length-map w Some)) ∙ p.0) (as_long n ws p.1)

-- ---- a job

-- what is written in ports and flows that are all there
is_task : (s : Size) (ports : List Port) (flows : List (List Pauli)) (forbidden : List Cell) → within_limits s ≡ true → ArePorts s (map port_written ports) → AreFlows (length ports) (map (map Some) flows)
    → list_all (holds s) forbidden ≡ true → distinct_cells forbidden ≡ true → IsTask (task_of s ports flows forbidden)
is_task s ports flows forbidden size p f cells distinct = record {
  size = size;
  port_count = counted 32 (length ports) (ap (is_count 32) (sym (length-map ports port_written)) ∙ p.count);
  z_axes = sym (list_all-map (λ (w : WrittenPort). not (has_bad_basis w)) port_written ports) ∙ p.bases;
  places = sym (list_all-map (λ (w : WrittenPort). fits_at s w w.place) port_written ports) ∙ p.fit;
  distinct_places = sym (apart-cells (map (λ p. p.place) ports)) ∙ ap (apart same_cell) (places_of ports) ∙ no_repeat [] 0 (map (λ p. p.place) (map port_written ports)) p.once refl;
  flow_count = counted 32 (length flows) (ap (is_count 32) (sym (length-map flows (map {B = Option Pauli} Some))) ∙ f.count);
  words = as_long (length ports) flows f.long;
  forbidden = cells;
  distinct_forbidden = distinct;
}
  where
    places_of : (ps : List Port) → map (λ p. p.place) ps ≡ map (λ (w : WrittenPort). w.place) (map port_written ps)
    places_of [] = refl
    places_of (q ∷ qs) = ap (λ cs. q.place ∷ cs) (places_of qs)

-- ports and flows by which a job is written
record IsJob (w : Written) : Type 0 where
  size : within_limits w.size ≡ true
  ports_are : map port_written (filter_map port_of w.ports) ≡ w.ports
  task : IsTask (task_written w)

is_job : (w : Written) → job_refusal w ≡ None → IsJob w
unfolding job_refusal
is_job w e =
    let a = neither _ _ e in
    let b = neither _ _ a.1 in
    let c = neither _ _ b.1 in
    let d = neither _ _ c.1 in
    let size : within_limits w.size ≡ true = passes (within_limits w.size) SizeOut a.0 in
    let p = are_ports w.size w.ports b.0 in
    let f = are_flows (length w.ports) w.words c.0 in
    let ports = filter_map port_of w.ports in
    let flows = map letters_of w.words in
    let ports_are : map port_written ports ≡ w.ports = ports_written w.ports p.ways p.bases in
    let flows_are : map (map Some) flows ≡ w.words = words_written w.words 0 f.letters in
    let number : length w.ports ≡ length ports = ap length (sym ports_are) ∙ length-map ports port_written in
    let cells : list_all (holds w.size) w.forbidden ≡ true = twice_not (holds w.size) w.forbidden (none_found (λ (x : Cell). not (holds w.size x)) w.forbidden (nowhere ForbiddenPlace _ d.0)) in
    record {
      size = size;
      ports_are = ports_are;
      task = is_task w.size ports flows (once same_cell [] w.forbidden) size (subst (ArePorts w.size) (sym ports_are) p)
          (subst (λ n. AreFlows n (map (map Some) flows)) number (subst (AreFlows (length w.ports)) (sym flows_are) f))
          (once-all same_cell (holds w.size) [] w.forbidden refl cells)
          (sym (apart-cells (once same_cell [] w.forbidden)) ∙ once-apart same_cell same_cell-sym [] w.forbidden refl);
    }

pub job_is_task : (w : Written) → job_refusal w ≡ None → IsTask (task_written w)
job_is_task w e = (is_job w e).task

pub task_by_parts : (s : Size) (ps qs : List Port) (fs gs : List (List Pauli)) (cs ds : List Cell) → ps ≡ qs → fs ≡ gs → cs ≡ ds → IsTask (task_of s qs gs ds) → IsTask (task_of s ps fs cs)
task_by_parts s ps qs fs gs cs ds e f g h = rw (e, f, g) h

-- ---- boxes

no_bad_port : (own box : Size) (before : List Cell) (n : ℕ) (ports : List Port) → first_bad_port own box before n (map port_written ports) ≡ None → apart same_cell before ≡ true
    → (list_all (port_fits box) (map (port_carried own box) ports) ≡ true) × (apart same_cell (before ++ map (λ p. p.place) (map (port_carried own box) ports)) ≡ true)
no_bad_port own box before n [] e h = (refl, ap (apart same_cell) (append-nil before) ∙ h)
no_bad_port own box before n (p ∷ ps) e h =
    by_test (fits_at box (port_written p) (carried own box p.place) && not (list_any (same_cell (carried own box p.place)) before)) refl (λ rest new. no_bad_port own box (before ++ carried own box p.place ∷ []) (suc n) ps rest new)
  where
    c : Cell
    c = carried own box p.place

    places : List Cell
    places = map (λ q. q.place) (map (port_carried own box) ps)

    free : (b : Bool) → list_any (same_cell c) before ≡ b → not b ≡ true → apart same_cell (before ++ c ∷ []) ≡ true
    free true t g = absurd (cc)
    free false t g = apart-push same_cell same_cell-sym before c h t

    by_test : (b : Bool) → (fits_at box (port_written p) c && not (list_any (same_cell c) before)) ≡ b
        → (first_bad_port own box (before ++ c ∷ []) (suc n) (map port_written ps) ≡ None → apart same_cell (before ++ c ∷ []) ≡ true → (list_all (port_fits box) (map (port_carried own box) ps) ≡ true) × (apart same_cell ((before ++ c ∷ []) ++ places) ≡ true))
        → (list_all (port_fits box) (map (port_carried own box) (p ∷ ps)) ≡ true) × (apart same_cell (before ++ map (λ q. q.place) (map (port_carried own box) (p ∷ ps))) ≡ true)
    by_test false t ih = let no : Some n ≡ None = ap (λ b. cond b (first_bad_port own box (before ++ c ∷ []) (suc n) (map port_written ps)) (Some n)) (sym t) ∙ e in absurd (cc no)
    by_test true t ih =
        let rest : first_bad_port own box (before ++ c ∷ []) (suc n) (map port_written ps) ≡ None = ap (λ b. cond b (first_bad_port own box (before ++ c ∷ []) (suc n) (map port_written ps)) (Some n)) (sym t) ∙ e in
        let a = and_parts (fits_at box (port_written p) c) (not (list_any (same_cell c) before)) t in
        let r = ih rest (free (list_any (same_cell c) before) refl a.1) in
        (and_true (fits_at box (port_written p) c) (list_all (port_fits box) (map (port_carried own box) ps)) a.0 r.0, ap (apart same_cell) (sym (append_assoc before (c ∷ []) places)) ∙ r.1)

-- the job of a box is a job
job_in_box : (own box : Size) (ports : List Port) (flows : List (List Pauli)) (forbidden : List Cell) → IsTask (task_of own ports flows forbidden) → within_limits box ≡ true → first_bad_port own box [] 0 (map port_written ports) ≡ None
    → IsTask (task_of box (map (port_carried own box) ports) flows (filter (holds box) forbidden))
job_in_box own box ports flows forbidden t size none =
    let r = no_bad_port own box [] 0 ports none refl in
    let number : length (map (port_carried own box) ports) ≡ length ports = length-map ports (port_carried own box) in
    record {
      size = size;
      port_count = (omega (arith, number, t.port_count.0), omega (arith, number, t.port_count.1));
      z_axes = list_all-map (λ (p : Port). not (same_axis p.axis p.z_axis)) (port_carried own box) ports ∙ t.z_axes;
      places = r.0;
      distinct_places = sym (apart-cells (map (λ p. p.place) (map (port_carried own box) ports))) ∙ r.1;
      flow_count = t.flow_count;
      words = ap (λ n. list_all (λ (w : List Pauli). nat_eq (length w) n) flows) number ∙ t.words;
      forbidden = filter_passes (holds box) forbidden;
      distinct_forbidden = sym (apart-cells (filter (holds box) forbidden)) ∙ filter-apart same_cell (holds box) forbidden (apart-cells forbidden ∙ t.distinct_forbidden);
    }

-- what holds of all boxes holds of one among them
of_listed : (test : Size → Bool) (box : Size) (boxes : List Size) → list_any (same_size box) boxes ≡ true → list_all test boxes ≡ true → test box ≡ true
of_listed test box [] h g = absurd (cc)
of_listed test box (b ∷ bs) h g =
    let p = and_parts (test b) (list_all test bs) g in
    by_same (same_size box b) refl p.0 (λ more. of_listed test box bs more p.1)
  where
    by_same : (c : Bool) → same_size box b ≡ c → test b ≡ true → (list_any (same_size box) bs ≡ true → test box ≡ true) → test box ≡ true
    by_same true e t ih = ap test (same_size-is box b e) ∙ t
    by_same false e t ih = ih (let more : (false || list_any (same_size box) bs) ≡ true = ap (λ c. c || list_any (same_size box) bs) (sym e) ∙ h in more)

none_is : {A : Type 0} (o : Option A) → is_none o ≡ true → o ≡ None
none_is None e = refl
none_is (Some x) e = absurd (cc)

no_bad_box : (own : Size) (ports : List WrittenPort) (n : ℕ) (boxes : List Size) → first_bad_box own ports n boxes ≡ None → list_all (λ box. is_none (first_bad_port own box [] 0 ports)) boxes ≡ true
no_bad_box own ports n [] e = refl
no_bad_box own ports n (box ∷ boxes) e =
    let a = neither (option_map (λ p. (n, p)) (first_bad_port own box [] 0 ports)) (first_bad_box own ports (suc n) boxes) e in
    let here : first_bad_port own box [] 0 ports ≡ None = nowhere (λ (p : ℕ). (n, p)) _ a.0 in
    and_true (is_none (first_bad_port own box [] 0 ports)) (list_all (λ box. is_none (first_bad_port own box [] 0 ports)) boxes) (ap is_none here) (no_bad_box own ports (suc n) boxes a.1)

-- ---- a specification

pub spec_is_brief : (w : Written) → refusal w ≡ None → IsBrief (brief_written w)
unfolding refusal
spec_is_brief w e =
    let a = neither (job_refusal w) (first_of (box_refusals w)) e in
    let b = neither _ _ a.1 in
    let c = neither _ _ b.1 in
    let d = neither _ _ c.1 in
    let job = is_job w a.0 in
    let count = counted 64 (length w.boxes) (passes (is_count 64 (length w.boxes)) BoxCount b.0) in
    let sizes : list_all within_limits w.boxes ≡ true = twice_not within_limits w.boxes (none_found (λ (box : Size). not (within_limits box)) w.boxes (nowhere BoxSize _ c.0)) in
    let bad : first_bad_box w.size w.ports 0 w.boxes ≡ None = nowhere (λ (x : ℕ × ℕ). BoxPort x.0 x.1) _ d.0 in
    let in_limits = once-all same_size within_limits [] w.boxes refl sizes in
    let in_order = once-all same_size (λ (box : Size). is_none (first_bad_port w.size box [] 0 w.ports)) [] w.boxes refl (no_bad_box w.size w.ports 0 w.boxes bad) in
    record {
      task = job.task;
      box_count = (once-some same_size w.boxes count.0, omega (arith, once-most same_size [] w.boxes, count.1));
      box_sizes = in_limits;
      distinct_boxes = sym (apart-sizes (once same_size [] w.boxes)) ∙ once-apart same_size same_size-sym [] w.boxes refl;
      box_jobs = λ box listed.
          let none : first_bad_port w.size box [] 0 w.ports ≡ None = none_is (first_bad_port w.size box [] 0 w.ports) (of_listed (λ (x : Size). is_none (first_bad_port w.size x [] 0 w.ports)) box (once same_size [] w.boxes) listed in_order) in
          job_in_box w.size box (filter_map port_of w.ports) (map letters_of w.words) (once same_cell [] w.forbidden) job.task (of_listed within_limits box (once same_size [] w.boxes) listed in_limits)
          (ap (first_bad_port w.size box [] 0) job.ports_are ∙ none);
    }

-- a specification is refused first for its job
pub job_comes_first : (w : Written) → refusal w ≡ None → job_refusal w ≡ None
unfolding refusal
job_comes_first w e = (neither (job_refusal w) (first_of (box_refusals w)) e).0

pub brief_by_parts : (t u : Task) (bs es : List Size) → t ≡ u → bs ≡ es → IsBrief (brief_of u es) → IsBrief (brief_of t bs)
brief_by_parts t u bs es e b h = rw (e, b) h
