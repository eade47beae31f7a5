-- Counts of faults that are told.
use Rattle.std.proofs.Common.{subst}
use Rattle.las_top.specs.declared.run.Status.{Status}
use Rattle.las_top.specs.Faults.{AreTold, Faults, IsNoFault, NoneRose}

-- where the status is that of no fault, no count rose
pub none_rose : (before after : Faults) (status : Status) → AreTold before after status → IsNoFault status → NoneRose before after
none_rose before after status told none = record {
  of_source = λ rose. subst IsNoFault (told.of_source rose) none;
  of_out = λ rose. subst IsNoFault (told.of_out rose) none;
  of_err = λ rose. subst IsNoFault (told.of_err rose) none;
  of_shelf = λ rose. subst IsNoFault (told.of_shelf rose) none;
}
