use Rattle.std.proofs.Common.{rules, ◌≡◌, ◌-◌, ◌++◌, ◌∙◌, ap, List, true, string_bytes, ℕ}
use Rattle.las_io.specs.Shelves.{FilesStay}
use Rattle.las_io.proofs.Rises.{stays}
use Rattle.las_io.proofs.Fetched.{told_before}
use Rattle.las_io.proofs.Fetched.{stay_twice}
use Rattle.clause_log.specs.Pieces.{PieceComes, bytes_from, hand_in, is_one_line, reader_ahead}
use Rattle.clause_log.proofs.PieceLemmas.{came_well, end_told, limit_told, log_kept, log_torn, place_after, torn_more, torn_told}
use Rattle.clause_log.proofs.step_reader.StepReader.next_step.Goals as goal

pub returns-then-self-eq-LIMIT-clause-gives : goal.returns-then-self-eq-LIMIT-clause-gives
returns-then-self-eq-LIMIT-clause-gives g c =
    let s = c.loop-count.self in
    let f = c.args.self.now in
    let hand : List ℕ = hand_in s.piece.items s.at s.filled in
    let all : is_one_line (c.loop-count.torn.items ++ hand) ≡ true = torn_more c.loop-count.torn.items hand c.loop-count.invariant.one_line (search rules) in
    limit_told (g.H.Shelf.files f.shelf.now) (string_bytes f.name) (c.loop-count.torn.items ++ hand) (hand_in f.piece.items f.at f.filled) s.taken f.taken f.line (reader_ahead (string_bytes s.name) (hand_in s.piece.items s.filled s.filled) s.taken s.line (g.H.Shelf.files s.shelf.now)) (search rules) all c.loop-count.invariant.log

pub returns-then-is_empty-clause-gives : goal.returns-then-is_empty-clause-gives
returns-then-is_empty-clause-gives g c =
    let s = c.loop-count.self in
    let f = c.args.self.now in
    let n = c.take_piece.new.self in
    let hand : List ℕ = hand_in s.piece.items s.at s.filled in
    let both : List ℕ = c.extend_from_slice.new.self.items in
    let stays : FilesStay (g.H.Shelf.files f.shelf.now) (g.H.Shelf.files n.shelf.now) = stay_twice (g.H.Shelf.files f.shelf.now) (g.H.Shelf.files s.shelf.now) (g.H.Shelf.files n.shelf.now) c.loop-count.invariant.files c.in_ok-take_piece.ensures.files in
    let log = log_torn (g.H.Shelf.files f.shelf.now) (string_bytes f.name) c.loop-count.torn.items hand both (hand_in f.piece.items f.at f.filled) s.taken f.taken (search rules) c.loop-count.invariant.log in
    let comes = told_before (λ fs. PieceComes (bytes_from (string_bytes s.name) s.taken fs) n.piece.items n.filled) (g.H.Shelf.files f.shelf.now) (g.H.Shelf.files s.shelf.now) c.loop-count.invariant.files c.in_ok-take_piece.ensures.comes in
    end_told (g.H.Shelf.files f.shelf.now) (g.H.Shelf.files n.shelf.now) (string_bytes f.name) (string_bytes s.name) (string_bytes n.name) both (hand_in f.piece.items f.at f.filled) n.piece.items s.taken f.taken f.line n.line n.filled n.at n.taken stays (search rules) (search rules) (search rules) (search rules) (search rules) (search rules) comes (search rules) log

pub returns-then-not-branch-clause-gives : goal.returns-then-not-branch-clause-gives
returns-then-not-branch-clause-gives g c =
    let s = c.loop-count.self in
    let f = c.args.self.now in
    let n = c.take_piece.new.self in
    let hand : List ℕ = hand_in s.piece.items s.at s.filled in
    let both : List ℕ = c.extend_from_slice.new.self.items in
    let joined : both ≡ c.loop-count.torn.items ++ hand = search rules in
    let all : is_one_line both ≡ true = ap is_one_line joined ∙ torn_more c.loop-count.torn.items hand c.loop-count.invariant.one_line (search rules) in
    let log = log_torn (g.H.Shelf.files f.shelf.now) (string_bytes f.name) c.loop-count.torn.items hand both (hand_in f.piece.items f.at f.filled) s.taken f.taken joined c.loop-count.invariant.log in
    let comes = told_before (λ fs. PieceComes (bytes_from (string_bytes s.name) s.taken fs) n.piece.items n.filled) (g.H.Shelf.files f.shelf.now) (g.H.Shelf.files s.shelf.now) c.loop-count.invariant.files c.in_ok-take_piece.ensures.comes in
    torn_told (g.H.Shelf.files f.shelf.now) (string_bytes f.name) (string_bytes s.name) both (hand_in f.piece.items f.at f.filled) n.piece.items s.taken f.taken f.line n.line n.filled (reader_ahead (string_bytes n.name) (hand_in n.piece.items n.at n.filled) n.taken n.line (g.H.Shelf.files n.shelf.now)) (search rules) (search rules) (search rules) (search rules) comes all (search rules) log

pub loop-count-preserved : goal.loop-count-preserved
loop-count-preserved g c =
    let s = c.loop-count.self in
    let f = c.args.self.now in
    let n = c.take_piece.new.self in
    let hand : List ℕ = hand_in s.piece.items s.at s.filled in
    let both : List ℕ = c.extend_from_slice.new.self.items in
    let joined : both ≡ c.loop-count.torn.items ++ hand = search rules in
    let log = log_torn (g.H.Shelf.files f.shelf.now) (string_bytes f.name) c.loop-count.torn.items hand both (hand_in f.piece.items f.at f.filled) s.taken f.taken joined c.loop-count.invariant.log in
    let comes = told_before (λ fs. PieceComes (bytes_from (string_bytes s.name) s.taken fs) n.piece.items n.filled) (g.H.Shelf.files f.shelf.now) (g.H.Shelf.files s.shelf.now) c.loop-count.invariant.files c.in_ok-take_piece.ensures.comes in
    record {
      same_shelf = search rules;
      name = search rules;
      line = search rules;
      one_line = ap is_one_line joined ∙ torn_more c.loop-count.torn.items hand c.loop-count.invariant.one_line (search rules);
      place = place_after c.loop-count.torn.items both s.piece.items s.at s.filled (f.taken - (f.filled - f.at)) n.at n.filled s.taken n.taken joined (search rules) (search rules) (search rules) (search rules) c.loop-count.invariant.place;
      log = log_kept (g.H.Shelf.files f.shelf.now) (string_bytes f.name) (string_bytes s.name) both (hand_in f.piece.items f.at f.filled) n.piece.items s.taken f.taken n.filled n.at n.taken (search rules) (search rules) (search rules) (search rules) comes log;
      files = stay_twice (g.H.Shelf.files f.shelf.now) (g.H.Shelf.files s.shelf.now) (g.H.Shelf.files n.shelf.now) c.loop-count.invariant.files c.in_ok-take_piece.ensures.files;
      begun = search rules;
      faults = stays _ _ _ c.loop-count.invariant.faults c.in_ok-take_piece.ensures.cause.later (λ rose. came_well _ _ (c.in_ok-take_piece.ensures.cause.rises rose));
    }
