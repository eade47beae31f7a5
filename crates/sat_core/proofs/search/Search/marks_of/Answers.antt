use Rattle.std.proofs.Common.{◌≡◌, ◌<◌, false, length, get_or, ap, ◌∙◌, arith}
use Rattle.std.proofs.lemmas.List.{length-replicate}
use Rattle.sat_core.specs.Reducing.{places_of}
use Rattle.sat_core.proofs.GoLemmas.{some_at}
use Rattle.sat_core.proofs.MarkLemmas.{marks_begin, marks_go_on, marks_end}
use Rattle.sat_core.proofs.search.Search.marks_of.Goals as goal

pub loop-r-init : goal.loop-r-init
loop-r-init c = marks_begin c.in_ok-marks.marks.items c.bound.result (places_of c.args.clauses.now) (c.in_ok-marks.ensures.items_if_clones_equal (λ y e. e))

pub index_mut-requires : goal.index_mut-requires
index_mut-requires c =
    let below : (get_or c.args.clauses.now c.loop-r.r-index (record { 0 = 0 })).0 < c.bound.result = c.bound.ensures _ (c.requires _ (some_at c.args.clauses.now c.loop-r.r-index c.loop-r-test.true)) in
    let long : length c.in_ok-marks.marks.items ≡ c.bound.result = ap length (c.in_ok-marks.ensures.items_if_clones_equal (λ y e. e)) ∙ length-replicate c.bound.result false in
    let same = c.loop-r.invariant.long_is in
    omega (arith, c.loop-r.marks.ok.0)

pub loop-r-preserved : goal.loop-r-preserved
loop-r-preserved c =
    let below : (get_or c.args.clauses.now c.loop-r.r-index (record { 0 = 0 })).0 < c.bound.result = c.bound.ensures _ (c.requires _ (some_at c.args.clauses.now c.loop-r.r-index c.loop-r-test.true)) in
    let long : length c.in_ok-marks.marks.items ≡ c.bound.result = ap length (c.in_ok-marks.ensures.items_if_clones_equal (λ y e. e)) ∙ length-replicate c.bound.result false in
    marks_go_on c.loop-r.marks.items (length c.in_ok-marks.marks.items) c.args.clauses.now c.loop-r.r-index c.loop-r-test.true (omega arith) c.loop-r.invariant

pub returns : goal.returns
returns c = marks_end c.loop-r.marks.items (length c.in_ok-marks.marks.items) c.args.clauses.now c.loop-r.r-index c.loop-r-test.false c.loop-r.invariant
