-- What a specification's value writes, member by member.
use Rattle.std.proofs.Common.{◌≡◌, true, Some, None, refl}
use Rattle.std.specs.Prelude.{codes}
use Rattle.std.specs.List.{list_all}
use Rattle.serde_json.specs.Data.{Data}
use Rattle.json_shape.specs.Arrays.{is_object}
use Rattle.json_shape.specs.Numbers.{whole_member}
use Rattle.las_base.specs.declared.Size.{Size}
use Rattle.las_base.specs.Jobs.{within_limits}
use Rattle.las_spec.specs.declared.refusal.Field.TheVariants.{Optional}
use Rattle.las_spec.specs.Written.{Written}
use Rattle.spec_codec.specs.Documents.{size_in, ports_in, words_in, forbidden_in, boxes_in, missing_in, misshapen_in, has_shape, written_in}
use Rattle.las_spec.specs.Briefs.{Brief, IsBrief, spec_given}
use Rattle.spec_codec.specs.Readings.{spec_in}
use Rattle.spec_codec.specs.Texts.{spec_value}
use Rattle.las_spec.proofs.Lawful.{brief_writes}
use Rattle.spec_codec.proofs.Shapes.{whole_back, limits_near, cells_back, sizes_back, words_back, ports_back}

-- a value of which each member has its shape
record Writes (d : Data) (w : Written) : Type 0 where
  i : whole_member (codes "max_i") d ≡ Some w.size.i
  j : whole_member (codes "max_j") d ≡ Some w.size.j
  k : whole_member (codes "max_k") d ≡ Some w.size.k
  ports : ports_in d ≡ Some w.ports
  words : words_in d ≡ Some w.words
  options : has_shape d Optional ≡ true
  forbidden : forbidden_in d ≡ Some w.forbidden
  boxes : (own : Size) → boxes_in own d ≡ Some w.boxes

none_misshapen : (d : Data) (w : Written) → Writes d w → misshapen_in d ≡ None
none_misshapen d w h =
    rw (h.i, h.j, h.k, h.ports, h.words, h.options, h.forbidden, h.boxes (record { i = 0; j = 0; k = 0 })) refl

writes_size : (d : Data) (w : Written) → Writes d w → size_in d ≡ Some w.size
writes_size d w h = rw (h.i, h.j, h.k) refl

all_written : (d : Data) (w : Written) → Writes d w → written_in d ≡ Some w
unfolding written_in
all_written d w h = rw (writes_size d w h) (rw (h.ports, h.words, h.forbidden, h.boxes w.size) refl)

given : (d : Data) (w : Written) → is_object d ≡ true → missing_in d ≡ None → Writes d w → spec_in d ≡ spec_given w
given d w object_is present h = rw (object_is, present, none_misshapen d w h, all_written d w h) refl

value_writes : (b : Brief) → IsBrief b → list_all within_limits b.boxes ≡ true → Writes (spec_value b) (brief_writes b)
unfolding spec_value
value_writes b h sizes =
    let near = limits_near b.task.size h.task.size in
    record {
      i = whole_back b.task.size.i near.0;
      j = whole_back b.task.size.j near.1;
      k = whole_back b.task.size.k near.2;
      ports = ports_back b.task.size near b.task.ports h.task.places;
      words = words_back b.task.flows;
      options = refl;
      forbidden = cells_back b.task.size near b.task.forbidden h.task.forbidden;
      boxes = λ own. sizes_back b.boxes sizes;
    }

is_whole : (b : Brief) → (is_object (spec_value b) ≡ true) × (missing_in (spec_value b) ≡ None)
unfolding spec_value
is_whole b = (refl, refl)

-- the value gives what its brief writes
pub value_gives : (b : Brief) → IsBrief b → list_all within_limits b.boxes ≡ true → spec_in (spec_value b) ≡ spec_given (brief_writes b)
value_gives b h sizes = let w = is_whole b in given (spec_value b) (brief_writes b) w.0 w.1 (value_writes b h sizes)
