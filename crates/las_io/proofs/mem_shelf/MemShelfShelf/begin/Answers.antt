use Rattle.std.proofs.Common.{[], sym, ap, ◌∙◌, subst}
use Rattle.las_io.specs.Shelves.{HasNames}
use Rattle.las_io.specs.Scripts.{put_file}
use Rattle.las_io.proofs.Places.{put_begins, put_names}
use Rattle.las_io.proofs.mem_shelf.MemShelfShelf.begin.Goals as goal

pub returns-in-Ok-clause-files : goal.returns-in-Ok-clause-files
returns-in-Ok-clause-files c = put_begins _ _ _ (ap (λ s. s.files) c.in-Ok.ensures ∙ ap (λ s. put_file c.args.name.now [] s.files) c.if-count_call.ensures.after)

pub returns-in-Ok-clause-names : goal.returns-in-Ok-clause-names
returns-in-Ok-clause-names c = subst HasNames (sym (ap (λ s. s.files) c.in-Ok.ensures)) (put_names c.args.name.now [] c.count_call.new.self.files c.requires.lawful c.count_call.ensures.kept.names)
