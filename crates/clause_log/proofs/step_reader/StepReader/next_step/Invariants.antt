use Rattle.std.proofs.Common.{◌≡◌, ◌+◌, ◌-◌, ◌^◌, ◌++◌, None, true, IfSome, length, string_bytes}
use Rattle.las_io.specs.Shelves.{FilesStay}
use Rattle.clause_log.specs.Pieces.{hand_in, is_one_line, reader_log}
use Rattle.clause_log.proofs.step_reader.StepReader.next_step.Given as goal

abbrev pub invariant-loop-count : goal.invariant-loop-count
invariant-loop-count g l = record {
  same_shelf : l.self.shelf.ghost_name ≡ l.fn.self.shelf.ghost_name;
  name : string_bytes l.self.name ≡ string_bytes l.fn.self.name;
  line : l.self.line ≡ l.fn.self.line;
  one_line : is_one_line l.torn.items ≡ true;
  place : length l.torn.items + (l.self.filled - l.self.at) + (l.fn.self.taken - (l.fn.self.filled - l.fn.self.at)) ≡ l.self.taken;
  log : IfSome (g.H.Shelf.files l.fn.self.shelf.now) (λ fs. reader_log (string_bytes l.fn.self.name) (l.torn.items ++ hand_in l.self.piece.items l.self.at l.self.filled) l.self.taken fs ≡ reader_log (string_bytes l.fn.self.name) (hand_in l.fn.self.piece.items l.fn.self.at l.fn.self.filled) l.fn.self.taken fs);
  files : FilesStay (g.H.Shelf.files l.fn.self.shelf.now) (g.H.Shelf.files l.self.shelf.now);
  begun : g.H.Shelf.begun_name l.self.shelf.now ≡ None;
  faults : g.H.Shelf.faults l.self.shelf.now ≡ g.H.Shelf.faults l.fn.self.shelf.now;
}

abbrev pub decreases-loop-count : goal.decreases-loop-count
decreases-loop-count g l = 2 ^ 40 - l.self.taken
