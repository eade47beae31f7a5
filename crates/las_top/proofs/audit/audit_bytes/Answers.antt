use Rattle.std.proofs.Common.{◌∙◌, sym, ap}
use Rattle.lasre_codec.specs.Documents.{Lasre, lasre_as}
use Rattle.las_top.specs.Audit.{audit_of}
use Rattle.las_top.specs.Findings.{answer_by}
use Rattle.las_top.proofs.SolutionLemmas.{if_ok, audited_exactly, audited_solves, read_exactly}
use Rattle.las_top.proofs.audit.audit_bytes.Goals as goal

pub returns-in-Ok-clause-exact : goal.returns-in-Ok-clause-exact
returns-in-Ok-clause-exact c =
    let l : Lasre = lasre_as c.in-Ok.lasre.job c.in-Ok.lasre.diagram c.in-Ok.lasre.sheets in
    if_ok c.audit_of.result c.audit_of.ensures (λ f is. read_exactly _ (answer_by f) (audit_of c.args.spec.now l) c.args.bytes.now l c.in-Ok.ensures.ok is (audited_exactly c.args.spec.now l c.in-Ok.ensures.fits))

pub returns-in-Ok-clause-solves : goal.returns-in-Ok-clause-solves
returns-in-Ok-clause-solves c =
    let l : Lasre = lasre_as c.in-Ok.lasre.job c.in-Ok.lasre.diagram c.in-Ok.lasre.sheets in
    if_ok c.audit_of.result c.audit_of.ensures (λ f is good. record {
      lasre = l;
      given = c.in-Ok.ensures.ok;
      solves = audited_solves c.args.spec.now l c.in-Ok.ensures.fits (sym (ap (λ a. a.status) is) ∙ good);
    })
