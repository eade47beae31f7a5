use Rattle.std.proofs.Common.{ℕ, ◌<◌, Option, IfSome, length, unwrap_or, subst, rules}
use Rattle.clause_log.specs.Pieces.{PieceComes, bytes_from}
use Rattle.clause_log.proofs.PieceLemmas.{piece_told}
use Rattle.clause_log.proofs.step_reader.fetch_into.Goals as goal

pub returns-in-Ok-Some-clause-comes : goal.returns-in-Ok-Some-clause-comes
returns-in-Ok-Some-clause-comes g c =
    let some : 0 < length c.fetch.new.buf = search rules in
    let P : Option ℕ → Type 0 = λ o. IfSome (g.H.Shelf.files c.args.shelf.now) (λ fs. PieceComes (bytes_from c.args.name.now c.args.at fs) c.fetch.new.buf (unwrap_or o 0)) in
    subst P c.in-Ok-Some.field-0-is (piece_told c.args.name.now c.args.at c.fetch.new.buf c.in-Ok-Some.field-0 (g.H.Shelf.files c.args.shelf.now) some c.in-Ok-Some.ensures.bound c.in-Ok-Some.ensures.bytes)

pub returns-in-Ok-None-clause-comes : goal.returns-in-Ok-None-clause-comes
returns-in-Ok-None-clause-comes g c =
    let some : 0 < length c.fetch.new.buf = search rules in
    let P : Option ℕ → Type 0 = λ o. IfSome (g.H.Shelf.files c.args.shelf.now) (λ fs. PieceComes (bytes_from c.args.name.now c.args.at fs) c.fetch.new.buf (unwrap_or o 0)) in
    subst P c.in-Ok-None.field-0-is (piece_told c.args.name.now c.args.at c.fetch.new.buf c.in-Ok-None.field-0 (g.H.Shelf.files c.args.shelf.now) some c.in-Ok-None.ensures.bound c.in-Ok-None.ensures.bytes)
