use Rattle.std.proofs.Common.{◌≡◌, take, false}
use Rattle.std.specs.List.{list_any}
use Rattle.las_spec.specs.Briefs.{job_of}
use Rattle.las_base.specs.Jobs.{same_job}
use Rattle.las_top.proofs.audit.is_listed.Given as goal

abbrev pub invariant-loop-number : goal.invariant-loop-number
invariant-loop-number l = list_any (λ box. same_job (job_of l.spec box) l.other) (take l.number l.spec.boxes) ≡ false
