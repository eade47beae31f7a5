use Rattle.std.proofs.Common.{◌≡◌, [], set, None, Some, position, sym, ap, ◌∙◌, subst, arith}
use Rattle.las_io.specs.Shelves.{is_named, HasNames}
use Rattle.las_io.proofs.Places.{IsPut, changed_first, added, put_names, put_begun}
use Rattle.las_io.proofs.mem_shelf.MemShelf.put_empty.Goals as goal

pub invariant_of-self : goal.invariant_of-self
invariant_of-self c =
    let files = c.self.inside.files.items in
    let name = c.args.name.now in
    let first : position (is_named name) files ≡ Some c.in-Some.place = ap (λ s. position (is_named name) s.files) c.self.view_is ∙ sym c.place_of.ensures ∙ c.in-Some.is in
    let put : IsPut files (set files c.in-Some.place c.clear.new.self) c.in-Some.place name [] =
    changed_first files c.in-Some.place c.index_mut.result.now c.clear.new.self name [] c.self.invariant.0 first c.index_mut.ensures.value c.clear.ensures in
    (subst HasNames (sym put.list) (put_names name [] files c.requires c.self.invariant.0), put.within, c.self.invariant.2)

pub returns-in-Some : goal.returns-in-Some
returns-in-Some c =
    let files = c.self.inside.files.items in
    let name = c.args.name.now in
    let first : position (is_named name) files ≡ Some c.in-Some.place = ap (λ s. position (is_named name) s.files) c.self.view_is ∙ sym c.place_of.ensures ∙ c.in-Some.is in
    let put : IsPut files (set files c.in-Some.place c.clear.new.self) c.in-Some.place name [] =
    changed_first files c.in-Some.place c.index_mut.result.now c.clear.new.self name [] c.self.invariant.0 first c.index_mut.ensures.value c.clear.ensures in
    put_begun _ _ _ _ _ _ c.self.view_is put

pub invariant_of-self-in-None : goal.invariant_of-self-in-None
invariant_of-self-in-None c =
    let files = c.self.inside.files.items in
    let name = c.args.name.now in
    let none : position (is_named name) files ≡ None = ap (λ s. position (is_named name) s.files) c.self.view_is ∙ sym c.place_of.ensures ∙ c.in-None.is in
    let new : c.new-in-None.result ≡ (name, []) = c.new-in-None.ensures ∙ ap (λ b. (b, c.new.result.items)) c.in_ok-name-in-None.ensures.ok ∙ ap (λ b. (name, b)) c.new.ensures.items in
    let put : IsPut files c.push.new.self.items c.len-place.result name [] =
    added files c.push.new.self.items c.len-place.result c.new-in-None.result name [] none (omega arith) c.in_ok-push-in-None.ensures.items new in
    (subst HasNames (sym put.list) (put_names name [] files c.requires c.self.invariant.0), put.within, c.self.invariant.2)

pub returns-in_ok-push-in-None : goal.returns-in_ok-push-in-None
returns-in_ok-push-in-None c =
    let files = c.self.inside.files.items in
    let name = c.args.name.now in
    let none : position (is_named name) files ≡ None = ap (λ s. position (is_named name) s.files) c.self.view_is ∙ sym c.place_of.ensures ∙ c.in-None.is in
    let new : c.new-in-None.result ≡ (name, []) = c.new-in-None.ensures ∙ ap (λ b. (b, c.new.result.items)) c.in_ok-name-in-None.ensures.ok ∙ ap (λ b. (name, b)) c.new.ensures.items in
    let put : IsPut files c.push.new.self.items c.len-place.result name [] =
    added files c.push.new.self.items c.len-place.result c.new-in-None.result name [] none (omega arith) c.in_ok-push-in-None.ensures.items new in
    put_begun _ _ _ _ _ _ c.self.view_is put
