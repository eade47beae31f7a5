use Rattle.std.proofs.Common.{List, [], refl, false, get_or}
use Rattle.cnf_base.specs.declared.literal.Lit.{Lit}
use Rattle.log_check.specs.declared.table.Entry.{Entry}
use Rattle.log_check.proofs.TableLemmas.{dead_clause, entry_is_read, live_clause}
use Rattle.log_check.proofs.table.range_at.Goals as goal

pub returns-then-entry : goal.returns-then-entry
returns-then-entry c =
    let d : Entry = record { id = 0; start = 0; end = 0; live = false } in
    let es = c.args.entries.now in
    let r = λ (lits : List Lit). entry_is_read lits es c.args.place c.args.size (get_or es c.args.place d) d c.requires.there refl c.requires.within in record {
      clause = λ lits. live_clause lits es c.args.place c.args.size (get_or es c.args.place d) (r lits) c.if-entry.true;
      bounds = ((r []).rising, (r []).within);
    }

pub returns-else-entry-clause-clause : goal.returns-else-entry-clause-clause
returns-else-entry-clause-clause c =
    let d : Entry = record { id = 0; start = 0; end = 0; live = false } in
    let es = c.args.entries.now in
    λ lits. dead_clause lits es c.args.place c.args.size (get_or es c.args.place d) (entry_is_read lits es c.args.place c.args.size (get_or es c.args.place d) d c.requires.there refl c.requires.within) c.if-entry.false
