use Rattle.std.proofs.Common.{◌≡◌, IfSome, ap, subst}
use Rattle.las_io.specs.Scripts.{ScriptedShelf, IsKept, grow_file, shelf_after_call}
use Rattle.las_io.proofs.Places.{none_appended, piece_appended, grown_names, files_grown}
use Rattle.las_io.proofs.mem_shelf.MemShelfShelf.append.Goals as goal

pub returns-then-count_call-clause-files : goal.returns-then-count_call-clause-files
returns-then-count_call-clause-files c =
    let P : ScriptedShelf → Type 0 = λ s. IsKept s.files s.begun in
    none_appended c.args.self.now.begun c.args.piece.now _ _ (subst P c.if-count_call.ensures.after c.count_call.ensures.kept) (ap (λ s. s.files) c.if-count_call.ensures.after)

pub returns-in-Ok-clause-files : goal.returns-in-Ok-clause-files
returns-in-Ok-clause-files c =
    let P : ScriptedShelf → Type 0 = λ s. IsKept s.files s.begun in
    let Q : ScriptedShelf → Type 0 = λ s. IfSome s.begun (λ name. c.grow_begun.new.self ≡ record s { files = grow_file name c.args.piece.now s.files }) in
    piece_appended c.args.self.now.begun c.args.piece.now _ _ (subst P c.if-count_call.ensures.after c.count_call.ensures.kept)
    (files_grown c.args.self.now.begun c.args.piece.now (shelf_after_call c.args.self.now) c.grow_begun.new.self (subst Q c.if-count_call.ensures.after c.in-Ok.ensures))

pub returns-in-Ok-clause-names : goal.returns-in-Ok-clause-names
returns-in-Ok-clause-names c =
    let P : ScriptedShelf → Type 0 = λ s. IsKept s.files s.begun in
    let Q : ScriptedShelf → Type 0 = λ s. IfSome s.begun (λ name. c.grow_begun.new.self ≡ record s { files = grow_file name c.args.piece.now s.files }) in
    grown_names c.args.self.now.begun c.args.piece.now c.args.self.now.files _ c.requires (subst P c.if-count_call.ensures.after c.count_call.ensures.kept)
    (files_grown c.args.self.now.begun c.args.piece.now (shelf_after_call c.args.self.now) c.grow_begun.new.self (subst Q c.if-count_call.ensures.after c.in-Ok.ensures))
