use Rattle.std.proofs.Common.{◌∙◌, ap, []}
use Rattle.las_base.specs.Cells.{same_size}
use Rattle.las_spec.specs.Briefs.{once}
use Rattle.las_spec.specs.Written.{written_as}
use Rattle.las_spec.proofs.BriefLemmas.{spec_is_brief, brief_by_parts, job_comes_first}
use Rattle.las_spec.proofs.make.spec_of_draft.Goals as goal

pub job_of_draft-requires : goal.job_of_draft-requires
job_of_draft-requires c = job_comes_first (written_as c.args.draft.now) c.requires

pub new-requires : goal.new-requires
new-requires c =
    brief_by_parts _ _ _ _ c.in_ok-job.ensures (c.in_ok-boxes.ensures ∙ ap (once same_size []) c.deref.ensures.value) (spec_is_brief (written_as c.args.draft.now) c.requires)
