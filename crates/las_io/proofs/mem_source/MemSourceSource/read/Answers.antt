use Rattle.std.proofs.Common.{◌≡◌, ℕ, ◌+◌, ◌-◌, min, ◌++◌, length, take, drop, sym, ap, ◌∙◌, arith, length-take, length-drop, length-append, drop_of_length-le}
use Rattle.std.proofs.lemmas.List.{take_rest}
use Rattle.las_io.proofs.Pieces.{next_bytes, front_of_copy}
use Rattle.las_io.proofs.mem_source.MemSourceSource.read.Goals as goal

pub returns-clause-bytes : goal.returns-clause-bytes
returns-clause-bytes c =
    let bytes = c.self.inside.bytes.items in
    let at = c.self.inside.at in
    let n = c.min-count.result in
    let same : c.deref-2.result.now ≡ bytes = c.deref-2.ensures.value in
    let whole : take (length c.deref-2.result.now - at) (drop at c.deref-2.result.now) ≡ drop at bytes = take_rest c.deref-2.result.now at ∙ ap (drop at) same in
    let copied : c.copy_from_slice.new.self ≡ take n (drop at bytes) = c.copy_from_slice.ensures.after ∙ ap (take n) whole in
    let least : n ≡ min c.min.result (length (drop at bytes)) = c.min-count.ensures ∙ ap (λ l. min c.min.result (length l)) whole in
    let len : length (take n (drop at bytes)) ≡ n = omega (arith, length-take {A = ℕ}) in
    let front : take n (c.copy_from_slice.new.self ++ drop n c.args.buf.now) ≡ take n (drop at bytes) = front_of_copy _ _ n (ap length copied ∙ len) ∙ copied in (
      sym (ap (λ s. s.bytes) c.self.view_is) ∙ next_bytes bytes at n ∙ ap (λ l. l ++ drop (at + n) bytes) (sym front),
      λ none room. drop_of_length-le bytes {i = at + n} (omega (arith, length-append {A = ℕ}, length-drop {A = ℕ}, ap length copied, len)),
    )
