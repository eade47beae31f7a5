use Rattle.spec_codec.proofs.JobLemmas.{job_is_read_back}
use Rattle.spec_codec.proofs.laws.job_is_read_back.Goals as goal

pub returns : goal.returns
returns c = job_is_read_back
