use Rattle.std.proofs.Common.{◌<◌, length, set, refl, sym, subst, length-set, arith}
use Rattle.las_io.specs.Shelves.{File}
use Rattle.las_io.specs.Scripts.{IsPlace}
use Rattle.las_io.proofs.Places.{IsGrown, grown_at, grown_shelf}
use Rattle.las_io.proofs.mem_shelf.MemShelf.grow_begun.Goals as goal

pub invariant_of-self : goal.invariant_of-self
invariant_of-self c =
    let files = c.self.inside.files.items in
    let place = c.in-Some.place in
    let inside : place < length files = subst (IsPlace files) c.in-Some.is c.self.invariant.1 in
    let grown : IsGrown files place c.index_mut.result.now c.grow.new.self c.args.piece.now =
    grown_at files place c.index_mut.result.now c.grow.new.self c.args.piece.now c.self.invariant.0 inside c.index_mut.ensures.value c.in_ok-grow.ensures in
    (grown.names, subst (IsPlace (set files place c.grow.new.self)) (sym c.in-Some.is) (omega (arith, length-set {A = File})), c.self.invariant.2)

pub returns-in_ok-grow : goal.returns-in_ok-grow
returns-in_ok-grow c =
    let files = c.self.inside.files.items in
    let place = c.in-Some.place in
    let inside : place < length files = subst (IsPlace files) c.in-Some.is c.self.invariant.1 in
    let grown : IsGrown files place c.index_mut.result.now c.grow.new.self c.args.piece.now =
    grown_at files place c.index_mut.result.now c.grow.new.self c.args.piece.now c.self.invariant.0 inside c.index_mut.ensures.value c.in_ok-grow.ensures in
    grown_shelf _ _ c.self.inside.begun place _ _ _ c.self.view_is c.in-Some.is refl grown
