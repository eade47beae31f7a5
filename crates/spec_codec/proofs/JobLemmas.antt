-- A value that has the members of a job gives that job.
use Rattle.std.proofs.Common.{◌≡◌, Some, None, [], refl}
use Rattle.serde_json.specs.Data.{Data}
use Rattle.las_base.specs.Jobs.{Task, IsTask}
use Rattle.spec_codec.specs.Documents.{ports_in, words_in, forbidden_in}
use Rattle.spec_codec.specs.Readings.{job_misshapen_in, job_written_in, job_in}
use Rattle.spec_codec.specs.Texts.{HoldsJob, JobIsReadBack}
use Rattle.spec_codec.proofs.Shapes.{whole_back, limits_near, cells_back, words_back, ports_back}
use Rattle.las_spec.proofs.Lawful.{job_writes, job_writes_give}

module _ (d : Data) (t : Task) (task : IsTask t) (h : HoldsJob d t) where
  ports : ports_in d ≡ Some (job_writes t []).ports
  ports = rw h.ports (ports_back t.size (limits_near t.size task.size) t.ports task.places)

  words : words_in d ≡ Some (job_writes t []).words
  words = rw h.flows (words_back t.flows)

  forbidden : forbidden_in d ≡ Some t.forbidden
  forbidden = rw h.optional (cells_back t.size (limits_near t.size task.size) t.forbidden task.forbidden)

  shaped : job_misshapen_in d ≡ None
  shaped =
      let near = limits_near t.size task.size in
      rw (ports, words, forbidden, h.i, h.j, h.k, h.optional, whole_back t.size.i near.0, whole_back t.size.j near.1, whole_back t.size.k near.2) refl

  written : job_written_in d ≡ Some (job_writes t [])
  unfolding job_written_in
  written =
      let near = limits_near t.size task.size in
      rw (ports, words, forbidden, h.i, h.j, h.k, whole_back t.size.i near.0, whole_back t.size.j near.1, whole_back t.size.k near.2) refl

pub job_is_read_back : JobIsReadBack
unfolding job_in
job_is_read_back d t task h = rw (shaped d t task h, written d t task h) (job_writes_give t [] task)
