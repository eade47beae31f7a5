use Rattle.std.proofs.Common.{ℕ, ap, ◌∙◌, ◌==◌, ◌+◌, ◌≤◌, length, None, Some, Err, arith, rules, length-take}
use Rattle.las_io.proofs.Fetched.{begins, fetch_of, goes_on, none_failed, came_in_vain, file_ends, file_gone, too_long, stay_twice}
use Rattle.las_io.proofs.Rises.{fetched_well, rose_through, stays}
use Rattle.las_io.proofs.whole_file.fetch_pieces.Goals as goal

pub loop-all-init : goal.loop-all-init
loop-all-init g c = record {
  within = omega (arith, c.args.all.now.ok.0, ap (length {A = ℕ}) c.requires.empty);
  room = c.requires.room;
  so_far = begins _ _ _ _ _ _ _ c.requires.none_begun c.requires.empty;
  faults = omega arith;
}

pub loop-all-preserved : goal.loop-all-preserved
loop-all-preserved g c =
    let fetch = fetch_of _ _ _ _ _ _ _ _ _ _ (Some c.in-Ok-Some.count) c.in-Ok-Some.field-0-is c.in-Ok-Some.ensures.fetch in
    record {
      within = omega (arith, c.in-Ok.ensures.len, fetch.within, c.in-Ok-Some.ensures.len, length-take {A = ℕ});
      room = search rules;
      so_far = rw c.in-Ok.ensures.items (goes_on _ _ _ _ _ _ _ _ _ _ _ c.loop-all.invariant.so_far fetch (omega arith));
      faults = stays _ _ _ c.loop-all.invariant.faults c.in-Ok-Some.ensures.cause.later (λ rose. fetched_well (Some c.in-Ok-Some.count) _ _ c.in-Ok-Some.field-0-is (c.in-Ok-Some.ensures.cause.rises rose));
    }

pub returns-in-Ok-None-clause-end : goal.returns-in-Ok-None-clause-end
returns-in-Ok-None-clause-end g c =
    let fetch = fetch_of _ _ _ _ _ _ _ _ _ _ None c.in-Ok-None.field-0-is c.in-Ok-None.ensures.fetch in
    file_gone _ _ _ _ _ _ _ _ _ _ c.args.limit c.is_empty.result c.loop-all.invariant.so_far fetch (omega (arith, c.loop-all.all.ok.0)) (c.is_empty.ensures ∙ ap (λ n. n == 0) c.loop-all.all.ok.0)

pub returns-in-Ok-None-clause-files : goal.returns-in-Ok-None-clause-files
returns-in-Ok-None-clause-files g c = stay_twice _ _ _ c.loop-all.invariant.so_far.stay c.in-Ok-None.ensures.fetch.stay

pub returns-in-Ok-None-clause-begun : goal.returns-in-Ok-None-clause-begun
returns-in-Ok-None-clause-begun g c = c.in-Ok-None.ensures.fetch.none_begun

pub returns-in-Err-Failed-clause-end : goal.returns-in-Err-Failed-clause-end
returns-in-Err-Failed-clause-end g c = none_failed _ _ _ _ _ _ _ _ _ _ c.loop-all.invariant.so_far c.in-Err-Failed.ensures.fetch (omega (arith, c.loop-all.all.ok.0))

pub returns-in-Err-Failed-clause-files : goal.returns-in-Err-Failed-clause-files
returns-in-Err-Failed-clause-files g c = stay_twice _ _ _ c.loop-all.invariant.so_far.stay c.in-Err-Failed.ensures.fetch.stay

pub returns-in-Err-Failed-clause-begun : goal.returns-in-Err-Failed-clause-begun
returns-in-Err-Failed-clause-begun g c = c.in-Err-Failed.ensures.fetch.none_begun

pub returns-in-Err-Failed-clause-shelf_fault : goal.returns-in-Err-Failed-clause-shelf_fault
returns-in-Err-Failed-clause-shelf_fault g c = λ _. rose_through _ _ _ (omega arith) (c.in-Err-Failed.ensures.cause.failed (ap Err c.in-Err-Failed.field-0-is))

pub returns-in-Err-Memory-clause-end : goal.returns-in-Err-Memory-clause-end
returns-in-Err-Memory-clause-end g c = none_failed _ _ _ _ _ _ _ _ _ _ c.loop-all.invariant.so_far c.in-Err-Memory.ensures.fetch (omega (arith, c.loop-all.all.ok.0))

pub returns-in-Err-Memory-clause-files : goal.returns-in-Err-Memory-clause-files
returns-in-Err-Memory-clause-files g c = stay_twice _ _ _ c.loop-all.invariant.so_far.stay c.in-Err-Memory.ensures.fetch.stay

pub returns-in-Err-Memory-clause-begun : goal.returns-in-Err-Memory-clause-begun
returns-in-Err-Memory-clause-begun g c = c.in-Err-Memory.ensures.fetch.none_begun

pub returns-then-count-eq0-clause-end : goal.returns-then-count-eq0-clause-end
returns-then-count-eq0-clause-end g c =
    let room : 1 ≤ length c.fetch_next.new.part = search rules in
    let fetch = fetch_of _ _ _ _ _ _ _ _ _ _ (Some c.in-Ok-Some.count) c.in-Ok-Some.field-0-is c.in-Ok-Some.ensures.fetch in
    file_ends _ _ _ _ _ _ _ _ _ _ _ c.args.limit c.loop-all.invariant.so_far fetch c.if-count-eq0.true room (omega (arith, c.loop-all.all.ok.0))

pub returns-then-count-eq0-clause-files : goal.returns-then-count-eq0-clause-files
returns-then-count-eq0-clause-files g c = stay_twice _ _ _ c.loop-all.invariant.so_far.stay c.in-Ok-Some.ensures.fetch.stay

pub returns-then-count-eq0-clause-begun : goal.returns-then-count-eq0-clause-begun
returns-then-count-eq0-clause-begun g c = c.in-Ok-Some.ensures.fetch.none_begun

pub returns-in-Err-clause-end : goal.returns-in-Err-clause-end
returns-in-Err-clause-end g c =
    let room : length c.loop-all.all.items + length c.fetch_next.new.part ≤ c.args.limit + 1 = search rules in
    let fetch = fetch_of _ _ _ _ _ _ _ _ _ _ (Some c.in-Ok-Some.count) c.in-Ok-Some.field-0-is c.in-Ok-Some.ensures.fetch in
    came_in_vain _ _ _ _ _ _ _ _ _ _ _ c.args.limit c.loop-all.invariant.so_far fetch (omega arith) room

pub returns-in-Err-clause-files : goal.returns-in-Err-clause-files
returns-in-Err-clause-files g c = stay_twice _ _ _ c.loop-all.invariant.so_far.stay c.in-Ok-Some.ensures.fetch.stay

pub returns-in-Err-clause-begun : goal.returns-in-Err-clause-begun
returns-in-Err-clause-begun g c = c.in-Ok-Some.ensures.fetch.none_begun

pub returns-clause-end : goal.returns-clause-end
returns-clause-end g c = too_long _ _ _ _ _ _ _ _ _ c.loop-all.invariant.so_far (omega (arith, c.loop-all.all.ok.0))
