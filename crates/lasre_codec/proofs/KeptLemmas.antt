-- Grids that are read one after another.
use Rattle.std.proofs.Common.{◌≡◌, ℕ, zero, suc, ◌+◌, ◌<◌, ◌≤◌, List, [], ◌∷◌, ◌++◌, map, length, take, get_or, Some, None, Vec, slice_get, refl, ap, ◌∙◌, add-one}
use Rattle.std.specs.Prelude.{is_none}
use Rattle.std.specs.List.{find}
use Rattle.std.specs.Option.{option_map_or}
use Rattle.std.specs.declared.alloc.Global.{Global}
use Rattle.std.proofs.lemmas.List.{map_push, take_all}
use Rattle.std.proofs.lemmas.Option.{slice_get-get_or}
use Rattle.serde_json.specs.Data.{Data}
use Rattle.las_base.proofs.Lists.{taken_next}
use Rattle.json_shape.specs.declared.grid.Entry.{Entry}
use Rattle.grid_box.proofs.FindLemmas.{found_next, passed_next, none_passed}
use Rattle.lasre_codec.specs.declared.member.Member.{Member}
use Rattle.lasre_codec.specs.declared.member.Member.TheVariants.{ColorI, ColorJ, ColorKM, ColorKP, CorrIJ, CorrIK, CorrJI, CorrJK, CorrKI, CorrKJ, ExistI, ExistJ, ExistK, NodeY, MaxI, MaxJ, MaxK, Optional, Ports, Stabilizers}
use Rattle.lasre_codec.specs.Members.{grids, member_number}
use Rattle.lasre_codec.specs.Entries.{entries_in, or_none}
use Rattle.lasre_codec.specs.Documents.{misshapen_in}
use Rattle.lasre_codec.specs.Kept.{AreKept}

-- the first n of these members are read, in order
pub record AreRead (d : Data) (ms : List Member) (n : ℕ) (vs : List (Vec Entry Global)) : Type 0 where
  pub shaped : find (λ m. is_none (entries_in d m)) (take n ms) ≡ None
  pub kept : map (λ v. v.items) vs ≡ map (λ m. or_none (entries_in d m)) (take n ms)

pub reading_begins : (d : Data) (ms : List Member) → AreRead d ms 0 []
reading_begins d ms = record { shaped = refl; kept = refl }

pub reading_goes_on : (d : Data) (ms : List Member) (n : ℕ) (m : Member) (old new : List (Vec Entry Global)) (v : Vec Entry Global) → n < length ms → entries_in d (get_or ms n m) ≡ Some v.items → new ≡ old ++ v ∷ [] → AreRead d ms n old → AreRead d ms (n + 1) new
reading_goes_on d ms n m old new v low is put before =
    let at = slice_get-get_or ms n m low in
    record {
      shaped = passed_next (λ m. is_none (entries_in d m)) ms n (get_or ms n m) before.shaped at (ap is_none is);
      kept =
          rw (put, map_push (λ (w : Vec Entry Global). w.items) old v, add-one, taken_next ms n (get_or ms n m) at, map_push (λ m. or_none (entries_in d m)) (take n ms) (get_or ms n m), before.kept, is) refl;
    }

pub reading_breaks : (d : Data) (ms : List Member) (n : ℕ) (m : Member) (old : List (Vec Entry Global)) → n < length ms → entries_in d (get_or ms n m) ≡ None → AreRead d ms n old → find (λ m. is_none (entries_in d m)) ms ≡ Some (get_or ms n m)
reading_breaks d ms n m old low is before =
    found_next (λ m. is_none (entries_in d m)) ms n (get_or ms n m) before.shaped (slice_get-get_or ms n m low) (ap is_none is)

at_kept : (vs : List (Vec Entry Global)) (es : List (List Entry)) (k : ℕ) → map (λ v. v.items) vs ≡ es → option_map_or (λ v. v.items) (slice_get vs k) [] ≡ or_none (slice_get es k)
at_kept vs es k e = go vs k ∙ ap (λ l. or_none (slice_get l k)) e
  where
    go : (vs : List (Vec Entry Global)) (k : ℕ) → option_map_or (λ v. v.items) (slice_get vs k) [] ≡ or_none (slice_get (map (λ v. v.items) vs) k)
    go [] k = refl
    go (v ∷ vs) zero = refl
    go (v ∷ vs) (suc k) = go vs k

-- all are read, and kept under their numbers
pub reading_ends : (d : Data) (n : ℕ) (vs : List (Vec Entry Global)) → length grids ≤ n → AreRead d grids n vs → (misshapen_in d ≡ None) × AreKept d vs
reading_ends d n vs end before = (none_passed (λ m. is_none (entries_in d m)) grids n before.shaped end, by_member)
  where
    all : map (λ v. v.items) vs ≡ map (λ m. or_none (entries_in d m)) grids
    all = before.kept ∙ ap (map (λ m. or_none (entries_in d m))) (take_all n grids end)

    by_member : AreKept d vs
    by_member ColorI = at_kept vs (map (λ m. or_none (entries_in d m)) grids) (member_number ColorI) all
    by_member ColorJ = at_kept vs (map (λ m. or_none (entries_in d m)) grids) (member_number ColorJ) all
    by_member ColorKM = at_kept vs (map (λ m. or_none (entries_in d m)) grids) (member_number ColorKM) all
    by_member ColorKP = at_kept vs (map (λ m. or_none (entries_in d m)) grids) (member_number ColorKP) all
    by_member CorrIJ = at_kept vs (map (λ m. or_none (entries_in d m)) grids) (member_number CorrIJ) all
    by_member CorrIK = at_kept vs (map (λ m. or_none (entries_in d m)) grids) (member_number CorrIK) all
    by_member CorrJI = at_kept vs (map (λ m. or_none (entries_in d m)) grids) (member_number CorrJI) all
    by_member CorrJK = at_kept vs (map (λ m. or_none (entries_in d m)) grids) (member_number CorrJK) all
    by_member CorrKI = at_kept vs (map (λ m. or_none (entries_in d m)) grids) (member_number CorrKI) all
    by_member CorrKJ = at_kept vs (map (λ m. or_none (entries_in d m)) grids) (member_number CorrKJ) all
    by_member ExistI = at_kept vs (map (λ m. or_none (entries_in d m)) grids) (member_number ExistI) all
    by_member ExistJ = at_kept vs (map (λ m. or_none (entries_in d m)) grids) (member_number ExistJ) all
    by_member ExistK = at_kept vs (map (λ m. or_none (entries_in d m)) grids) (member_number ExistK) all
    by_member NodeY = at_kept vs (map (λ m. or_none (entries_in d m)) grids) (member_number NodeY) all
    by_member MaxI = at_kept vs (map (λ m. or_none (entries_in d m)) grids) (member_number MaxI) all
    by_member MaxJ = at_kept vs (map (λ m. or_none (entries_in d m)) grids) (member_number MaxJ) all
    by_member MaxK = at_kept vs (map (λ m. or_none (entries_in d m)) grids) (member_number MaxK) all
    by_member Optional = at_kept vs (map (λ m. or_none (entries_in d m)) grids) (member_number Optional) all
    by_member Ports = at_kept vs (map (λ m. or_none (entries_in d m)) grids) (member_number Ports) all
    by_member Stabilizers = at_kept vs (map (λ m. or_none (entries_in d m)) grids) (member_number Stabilizers) all
