-- The rows of the table that look at one thing after another.
use Rattle.std.proofs.Common.{◌≡◌, ℕ, suc, ◌+◌, ◌<◌, Bool, true, false, cond, not, ◌&&◌, nat_eq, List, [], ◌∷◌, ◌++◌, map, length, get_or, take, drop, Option, Some, None, refl, sym, ap, ◌∙◌, add-one}
use Rattle.std.specs.Prelude.{option_map, position, is_none}
use Rattle.std.specs.Option.{option_or}
use Rattle.std.specs.List.{list_any, position_or_len}
use Rattle.std.proofs.lemmas.List.{at_drop_more, map_more, length-map}
use Rattle.std.specs.Global.{Vec}
use Rattle.las_base.specs.declared.Pauli.{Pauli}
use Rattle.las_base.specs.declared.Cell.{Cell}
use Rattle.las_base.specs.declared.Size.{Size}
use Rattle.las_base.specs.Cells.{same_cell, holds}
use Rattle.las_base.specs.Jobs.{within_limits}
use Rattle.las_spec.specs.declared.draft.WrittenPort.{WrittenPort}
use Rattle.las_spec.specs.declared.refusal.SpecRefused.TheVariants.{FlowLength, FlowLetter, ForbiddenPlace}
use Rattle.las_spec.specs.Written.{Written}
use Rattle.las_spec.specs.Refusals.{is_count, port_refusals, flow_refusals, first_of, job_refusal, fits_at, first_repeat, first_bad_letter, carried, first_bad_port, first_bad_box}

module _ {X Y : Type 0} (f : X → Y) (test : Y → Bool) where
  position_or_len-map : (xs : List X) → position_or_len test (map f xs) ≡ position_or_len (λ x. test (f x)) xs
  position_or_len-map [] = refl
  position_or_len-map (x ∷ xs) = rw (position_or_len-map xs) refl

  pub position_map : (xs : List X) → position test (map f xs) ≡ position (λ x. test (f x)) xs
  position_map xs = rw (position_or_len-map xs, length-map xs f) refl

-- the places of ports
abbrev pub places_of : List WrittenPort → List Cell
places_of ps = map (λ p. p.place) ps

-- the port with this number repeats none, and so on behind it
abbrev RepeatFrom : List WrittenPort → ℕ → Option (ℕ × ℕ)
RepeatFrom ps m = first_repeat (places_of (take m ps)) m (places_of (drop m ps))

repeat_from : (ps : List WrittenPort) (m : ℕ) (d : WrittenPort) → m < length ps
    → RepeatFrom ps m ≡ option_or (option_map (λ n. (m, n)) (position (λ p. same_cell (get_or ps m d).place p.place) (take m ps))) (RepeatFrom ps (m + 1))
repeat_from ps m d h =
    at_drop_more (λ qs. first_repeat (places_of (take m ps)) m (places_of qs)) ps m d h
    ∙ ap (λ o. option_or (option_map (λ n. (m, n)) o) (first_repeat (places_of (take m ps) ++ (get_or ps m d).place ∷ []) (suc m) (places_of (drop (m + 1) ps)))) (position_map (λ (p : WrittenPort). p.place) (same_cell (get_or ps m d).place) (take m ps))
    ∙ ap (λ cs. option_or (option_map (λ n. (m, n)) (position (λ p. same_cell (get_or ps m d).place p.place) (take m ps))) (first_repeat cs (suc m) (places_of (drop (m + 1) ps)))) (sym (map_more (λ (p : WrittenPort). p.place) ps m d h))
    ∙ ap (λ k. option_or (option_map (λ n. (m, n)) (position (λ p. same_cell (get_or ps m d).place p.place) (take m ps))) (first_repeat (places_of (take (m + 1) ps)) k (places_of (drop (m + 1) ps)))) (sym (add-one m))

pub repeats_here : (ps : List WrittenPort) (m n : ℕ) (d : WrittenPort) → m < length ps → first_repeat [] 0 (places_of ps) ≡ first_repeat (places_of (take m ps)) m (places_of (drop m ps))
    → position (λ p. same_cell (get_or ps m d).place p.place) (take m ps) ≡ Some n → Some (m, n) ≡ first_repeat [] 0 (places_of ps)
repeats_here ps m n d h so_far found = sym (so_far ∙ repeat_from ps m d h ∙ ap (λ o. option_or (option_map (λ k. (m, k)) o) (RepeatFrom ps (m + 1))) found)

pub repeats_none : (ps : List WrittenPort) (m : ℕ) (d : WrittenPort) → m < length ps → first_repeat [] 0 (places_of ps) ≡ first_repeat (places_of (take m ps)) m (places_of (drop m ps))
    → position (λ p. same_cell (get_or ps m d).place p.place) (take m ps) ≡ None → first_repeat [] 0 (places_of ps) ≡ first_repeat (places_of (take (m + 1) ps)) (m + 1) (places_of (drop (m + 1) ps))
repeats_none ps m d h so_far none = so_far ∙ repeat_from ps m d h ∙ ap (λ o. option_or (option_map (λ k. (m, k)) o) (RepeatFrom ps (m + 1))) none

-- the letters of words
abbrev pub letters_in : List (Vec (Option Pauli)) → List (List (Option Pauli))
letters_in ws = map (λ v. v.items) ws

pub lengths_in : (ports : ℕ) (ws : List (Vec (Option Pauli))) → position (λ v. not (nat_eq (length v.items) ports)) ws ≡ position (λ word. not (nat_eq (length word) ports)) (map (λ v. v.items) ws)
lengths_in ports ws = sym (position_map (λ (v : Vec (Option Pauli)). v.items) (λ (word : List (Option Pauli)). not (nat_eq (length word) ports)) ws)

bad_letter_from : (ws : List (Vec (Option Pauli))) (n : ℕ) (d : Vec (Option Pauli)) → n < length ws
    → first_bad_letter n (letters_in (drop n ws)) ≡ option_or (option_map (λ p. (n, p)) (position is_none (get_or ws n d).items)) (first_bad_letter (n + 1) (letters_in (drop (n + 1) ws)))
bad_letter_from ws n d h =
    at_drop_more (λ vs. first_bad_letter n (letters_in vs)) ws n d h
    ∙ ap (λ k. option_or (option_map (λ p. (n, p)) (position is_none (get_or ws n d).items)) (first_bad_letter k (letters_in (drop (n + 1) ws)))) (sym (add-one n))

pub bad_letter_here : (ws : List (Vec (Option Pauli))) (n p : ℕ) (v : Vec (Option Pauli)) → n < length ws → v ≡ get_or ws n v → first_bad_letter 0 (letters_in ws) ≡ first_bad_letter n (letters_in (drop n ws)) → position is_none v.items ≡ Some p
    → Some (n, p) ≡ first_bad_letter 0 (letters_in ws)
bad_letter_here ws n p v h at so_far found =
    sym (so_far ∙ bad_letter_from ws n v h ∙ ap (λ w. option_or (option_map (λ q. (n, q)) (position is_none w.items)) (first_bad_letter (n + 1) (letters_in (drop (n + 1) ws)))) (sym at)
    ∙ ap (λ o. option_or (option_map (λ q. (n, q)) o) (first_bad_letter (n + 1) (letters_in (drop (n + 1) ws)))) found)

pub bad_letter_none : (ws : List (Vec (Option Pauli))) (n : ℕ) (v : Vec (Option Pauli)) → n < length ws → v ≡ get_or ws n v → first_bad_letter 0 (letters_in ws) ≡ first_bad_letter n (letters_in (drop n ws)) → position is_none v.items ≡ None
    → first_bad_letter 0 (letters_in ws) ≡ first_bad_letter (n + 1) (letters_in (drop (n + 1) ws))
bad_letter_none ws n v h at so_far none =
    so_far ∙ bad_letter_from ws n v h ∙ ap (λ w. option_or (option_map (λ q. (n, q)) (position is_none w.items)) (first_bad_letter (n + 1) (letters_in (drop (n + 1) ws)))) (sym at)
    ∙ ap (λ o. option_or (option_map (λ q. (n, q)) o) (first_bad_letter (n + 1) (letters_in (drop (n + 1) ws)))) none

-- the places of ports, carried to a box
abbrev pub carried_places : Size → Size → List WrittenPort → List Cell
carried_places own box ps = map (λ p. carried own box p.place) ps

-- the port is in order in the box, and apart from those before it
abbrev pub keeps_order : Size → Size → List WrittenPort → WrittenPort → Bool
keeps_order own box before p = fits_at box p (carried own box p.place) && not (list_any (λ q. same_cell (carried own box p.place) (carried own box q.place)) before)

list_any-map : {X Y : Type 0} (f : X → Y) (test : Y → Bool) (xs : List X) → list_any test (map f xs) ≡ list_any (λ x. test (f x)) xs
list_any-map f test [] = refl
list_any-map f test (x ∷ xs) = rw (list_any-map f test xs) refl

bad_port_from : (own box : Size) (ps : List WrittenPort) (n : ℕ) (d : WrittenPort) → n < length ps
    → first_bad_port own box (carried_places own box (take n ps)) n (drop n ps) ≡ cond (keeps_order own box (take n ps) (get_or ps n d)) (first_bad_port own box (carried_places own box (take (n + 1) ps)) (n + 1) (drop (n + 1) ps)) (Some n)
bad_port_from own box ps n d h =
    let p : WrittenPort = get_or ps n d in
    let c : Cell = carried own box p.place in
    at_drop_more (first_bad_port own box (carried_places own box (take n ps)) n) ps n d h
    ∙ ap (λ b. cond (fits_at box p c && not b) (first_bad_port own box (carried_places own box (take n ps) ++ c ∷ []) (suc n) (drop (n + 1) ps)) (Some n)) (list_any-map (λ (q : WrittenPort). carried own box q.place) (same_cell c) (take n ps))
    ∙ ap (λ cs. cond (keeps_order own box (take n ps) p) (first_bad_port own box cs (suc n) (drop (n + 1) ps)) (Some n)) (sym (map_more (λ (q : WrittenPort). carried own box q.place) ps n d h))
    ∙ ap (λ k. cond (keeps_order own box (take n ps) p) (first_bad_port own box (carried_places own box (take (n + 1) ps)) k (drop (n + 1) ps)) (Some n)) (sym (add-one n))

pub bad_port_here : (own box : Size) (ps : List WrittenPort) (n : ℕ) (d : WrittenPort) → n < length ps → first_bad_port own box [] 0 ps ≡ first_bad_port own box (carried_places own box (take n ps)) n (drop n ps)
    → keeps_order own box (take n ps) (get_or ps n d) ≡ false → Some n ≡ first_bad_port own box [] 0 ps
bad_port_here own box ps n d h so_far bad =
    sym (so_far ∙ bad_port_from own box ps n d h ∙ ap (λ b. cond b (first_bad_port own box (carried_places own box (take (n + 1) ps)) (n + 1) (drop (n + 1) ps)) (Some n)) bad)

pub bad_port_none : (own box : Size) (ps : List WrittenPort) (n : ℕ) (d : WrittenPort) → n < length ps → first_bad_port own box [] 0 ps ≡ first_bad_port own box (carried_places own box (take n ps)) n (drop n ps)
    → keeps_order own box (take n ps) (get_or ps n d) ≡ true → first_bad_port own box [] 0 ps ≡ first_bad_port own box (carried_places own box (take (n + 1) ps)) (n + 1) (drop (n + 1) ps)
bad_port_none own box ps n d h so_far good =
    so_far ∙ bad_port_from own box ps n d h ∙ ap (λ b. cond b (first_bad_port own box (carried_places own box (take (n + 1) ps)) (n + 1) (drop (n + 1) ps)) (Some n)) good

bad_box_from : (own : Size) (ps : List WrittenPort) (boxes : List Size) (n : ℕ) (d : Size) → n < length boxes
    → first_bad_box own ps n (drop n boxes) ≡ option_or (option_map (λ p. (n, p)) (first_bad_port own (get_or boxes n d) [] 0 ps)) (first_bad_box own ps (n + 1) (drop (n + 1) boxes))
bad_box_from own ps boxes n d h =
    at_drop_more (first_bad_box own ps n) boxes n d h
    ∙ ap (λ k. option_or (option_map (λ p. (n, p)) (first_bad_port own (get_or boxes n d) [] 0 ps)) (first_bad_box own ps k (drop (n + 1) boxes))) (sym (add-one n))

pub bad_box_here : (own : Size) (ps : List WrittenPort) (boxes : List Size) (n p : ℕ) (d : Size) → n < length boxes → first_bad_box own ps 0 boxes ≡ first_bad_box own ps n (drop n boxes) → first_bad_port own (get_or boxes n d) [] 0 ps ≡ Some p
    → Some (n, p) ≡ first_bad_box own ps 0 boxes
bad_box_here own ps boxes n p d h so_far found =
    sym (so_far ∙ bad_box_from own ps boxes n d h ∙ ap (λ o. option_or (option_map (λ q. (n, q)) o) (first_bad_box own ps (n + 1) (drop (n + 1) boxes))) found)

pub bad_box_none : (own : Size) (ps : List WrittenPort) (boxes : List Size) (n : ℕ) (d : Size) → n < length boxes → first_bad_box own ps 0 boxes ≡ first_bad_box own ps n (drop n boxes) → first_bad_port own (get_or boxes n d) [] 0 ps ≡ None
    → first_bad_box own ps 0 boxes ≡ first_bad_box own ps (n + 1) (drop (n + 1) boxes)
bad_box_none own ps boxes n d h so_far none =
    so_far ∙ bad_box_from own ps boxes n d h ∙ ap (λ o. option_or (option_map (λ q. (n, q)) o) (first_bad_box own ps (n + 1) (drop (n + 1) boxes))) none

-- what is left of the table where size, ports and flows are in order
pub to_the_last : (w : Written) → within_limits w.size ≡ true → first_of (port_refusals w.size w.ports) ≡ None → first_of (flow_refusals (length w.ports) w.words) ≡ None
    → job_refusal w ≡ option_or (option_map ForbiddenPlace (position (λ c. not (holds w.size c)) w.forbidden)) None
unfolding job_refusal
to_the_last w size ports flows = rw (size, ports, flows) refl

-- what is left of the rows of flows where their number is in order
pub flows_by : (ports : ℕ) (ws : List (Vec (Option Pauli))) (counted : Bool) (wrong : Option ℕ) (bad : Option (ℕ × ℕ)) → counted ≡ is_count 32 (length ws) → counted ≡ true → wrong ≡ position (λ v. not (nat_eq (length v.items) ports)) ws → bad ≡ first_bad_letter 0 (letters_in ws)
    → first_of (flow_refusals ports (letters_in ws)) ≡ option_or (option_map FlowLength wrong) (option_or (option_map (λ x. FlowLetter x.0 x.1) bad) None)
flows_by ports ws counted wrong bad count right lengths letters =
    let in_order : is_count 32 (length (letters_in ws)) ≡ true = ap (is_count 32) (length-map ws (λ (v : Vec (Option Pauli)). v.items)) ∙ sym count ∙ right in
    rw (in_order, ← lengths_in ports ws, ← lengths, ← letters) refl
