use Rattle.cnf_base.proofs.laws.lessons_join.Goals as goal
use Rattle.cnf_base.proofs.LessonLemmas.{lessons_join as law}

pub returns : goal.returns
returns c = law
