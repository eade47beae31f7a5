use Rattle.std.proofs.Common.{◌≡◌, ◌+◌, ◌<◌, length, true, nat_lt, get_or, set, sym, ap, subst, ◌∙◌, arith}
use Rattle.std.specs.Vec.{with_items}
use Rattle.std.proofs.lemmas.List.{with_items_is, get_or_read, length-map}
use Rattle.decide_order.specs.Rankings.{Ranking, ranking_of, given_back}
use Rattle.decide_order.specs.Places.{first_ones}
use Rattle.decide_order.proofs.KeptLemmas.{held_already}
use Rattle.decide_order.proofs.var_heap.VarHeap.give_back.Goals as goal

pub returns-then-place-count-clause-ranking : goal.returns-then-place-count-clause-ranking
returns-then-place-count-clause-ranking c =
    let inside = c.self.inside in
    let kept = c.self.invariant in
    let within : c.args.var.0 < length inside.scores.items = omega (arith, ap (λ (r : Ranking). length r.scores) c.self.view_is, c.requires) in
    let place_is : c.index.result.now ≡ get_or inside.places.items c.args.var.0 0 = get_or_read inside.places.items c.args.var.0 c.index.result.now (omega (arith, kept.seated.places_length)) c.index.ensures 0 in
    let stored : (with_items inside.places c.hold.new.places).items ≡ c.hold.new.places = with_items_is inside.places c.hold.new.places (omega (arith, c.hold.ensures.seated.places_length, kept.seated.places_length, inside.places.ok.0, ap length c.deref.ensures.value)) in
    let var_is : get_or inside.order.items c.index.result.now 0 ≡ c.args.var.0 = ap (λ k. get_or inside.order.items k 0) place_is ∙ kept.seated.var_there c.args.var.0 within in
    let held = rw (c.deref_mut-then-place-count.ensures.value, c.deref_mut.ensures.value) at c.hold.ensures.held in
    let after : first_ones (inside.count + 1) (with_items inside.places c.hold.new.places).items ≡ set (first_ones inside.count inside.places.items) c.args.var.0 true =
    ap (first_ones (inside.count + 1)) stored ∙ held ∙ ap (λ v. set (first_ones inside.count inside.places.items) v true) var_is in
    ap (λ h. ranking_of inside.scores.items inside.step h) after ∙ ap (λ (r : Ranking). given_back r c.args.var.0) c.self.view_is

pub returns-else-place-count-clause-ranking : goal.returns-else-place-count-clause-ranking
returns-else-place-count-clause-ranking c =
    let inside = c.self.inside in
    let P : Ranking → Type 0 = λ r. r ≡ given_back r c.args.var.0 in
    let within : c.args.var.0 < length inside.scores.items = omega (arith, ap (λ (r : Ranking). length r.scores) c.self.view_is, c.requires) in
    let place_is : c.index.result.now ≡ get_or inside.places.items c.args.var.0 0 = get_or_read inside.places.items c.args.var.0 c.index.result.now (omega (arith, c.self.invariant.seated.places_length)) c.index.ensures 0 in
    subst P c.self.view_is (held_already inside.scores.items inside.step inside.order.items inside.places.items inside.count c.self.invariant c.args.var.0 within (omega (arith, place_is, c.if-place-count.false)))

pub returns-then-place-count-clause-held_count : goal.returns-then-place-count-clause-held_count
returns-then-place-count-clause-held_count c =
    sym (ap (λ (r : Ranking). length r.held) c.self.view_is) ∙ length-map c.self.inside.places.items (λ place. nat_lt place c.self.inside.count) ∙ c.self.invariant.seated.places_length ∙ ap (λ (r : Ranking). length r.scores) c.self.view_is

pub returns-else-place-count-clause-held_count : goal.returns-else-place-count-clause-held_count
returns-else-place-count-clause-held_count c =
    sym (ap (λ (r : Ranking). length r.held) c.self.view_is) ∙ length-map c.self.inside.places.items (λ place. nat_lt place c.self.inside.count) ∙ c.self.invariant.seated.places_length ∙ ap (λ (r : Ranking). length r.scores) c.self.view_is
