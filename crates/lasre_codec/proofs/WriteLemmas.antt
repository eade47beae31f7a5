-- Values that are sent one by one: arrays by number, and the object by its table of members.
use Rattle.std.proofs.Common.{◌≡◌, ℕ, suc, ◌+◌, ◌<◌, ◌≤◌, List, [], ◌∷◌, ◌++◌, map, length, take, get_or, Some, refl, sym, ap, ◌∙◌, subst, arith}
use Rattle.std.proofs.lemmas.List.{take_all, take_more}
use Rattle.serde.specs.Event.{Log, Logs, Then, Sends, WritesEach, seq_begins, seq_ends, map_begins, map_ends, field_key}
use Rattle.serde.specs.declared.name.Case.TheVariants.{AsIs}
use Rattle.serde_json.specs.Data.{Data}
use Rattle.serde_json.specs.Events.{items_len, SendsValue, SendsItems, SendsMembers}
use Rattle.serde_json.specs.View.{items_of}
use Rattle.las_base.specs.Cells.{numbers_from}
use Rattle.las_base.proofs.Blocks.{numbers_more, length-numbers_from}
use Rattle.spec_codec.specs.Texts.{array_of}
use Rattle.lasre_codec.specs.declared.member.Member.{Member}
use Rattle.lasre_codec.specs.Members.{member_name, members}
use Rattle.lasre_codec.specs.Documents.{Lasre}
use Rattle.lasre_codec.specs.Texts.{member_value, members_by, lasre_value}

-- one more is sent behind those before it
sent_behind : {A : Type 0} (sends : A → Log → Log → Type 0) (xs : List A) (x : A) (first mid new : Log) → WritesEach sends xs first mid → sends x mid new → WritesEach sends (xs ++ x ∷ []) first new
sent_behind sends [] x first mid new before next = (new, subst (λ l. sends x l new) before next, refl)
sent_behind sends (y ∷ ys) x first mid new before next = (before.0, before.1, sent_behind sends ys x before.0 mid new before.2 next)

-- ---- arrays

-- the values for the first n numbers are sent in turn
abbrev pub AreSent : (ℕ → Data) → ℕ → Log → Log → Type 0
AreSent f n = WritesEach (λ k. SendsValue (f k)) (numbers_from 0 n)

-- and one more for the next
pub number_sent : (f : ℕ → Data) (n : ℕ) (first mid new : Log) → AreSent f n first mid → SendsValue (f n) mid new → AreSent f (n + 1) first new
number_sent f n first mid new before next =
    let more : n + 1 ≡ suc n = omega arith in
    let last : 0 + n ≡ n = omega arith in
    subst (λ ns. WritesEach (λ k. SendsValue (f k)) ns first new) (sym (ap (numbers_from 0) more ∙ numbers_more 0 n ∙ ap (λ m. numbers_from 0 n ++ m ∷ []) last)) (sent_behind (λ k. SendsValue (f k)) (numbers_from 0 n) n first mid new before next)

items_sent : (f : ℕ → Data) (ns : List ℕ) (first last new : Log) → WritesEach (λ k. SendsValue (f k)) ns first last → Logs last new seq_ends → SendsItems (items_of (map f ns)) first new
items_sent f [] first last new before ended = subst (λ l. Logs l new seq_ends) before ended
items_sent f (n ∷ ns) first last new before ended = (before.0, before.1, items_sent f ns before.0 last new before.2 ended)

items_many : (f : ℕ → Data) (ns : List ℕ) → items_len (items_of (map f ns)) ≡ length ns
items_many f [] = refl
items_many f (n ∷ ns) = ap suc (items_many f ns)

-- between the marks of a sequence they are an array
pub numbers_sent : (f : ℕ → Data) (n told count : ℕ) (old first last new : Log) → Logs old first (seq_begins (Some told)) → told ≡ count → AreSent f n first last → n ≡ count → Logs last new seq_ends → SendsValue (array_of (map f (numbers_from 0 count))) old new
numbers_sent f n told count old first last new begun many before all ended =
    let len : told ≡ items_len (items_of (map f (numbers_from 0 count))) = many ∙ sym (items_many f (numbers_from 0 count) ∙ length-numbers_from 0 count) in
    (first, subst (λ m. Logs old first (seq_begins (Some m))) len begun, items_sent f (numbers_from 0 count) first last new (subst (λ m. AreSent f m first last) all before) ended)

-- ---- members

-- a member's name is sent, and then its value
abbrev pub SendsMember : Lasre → Member → Log → Log → Type 0
SendsMember l m = Then (Sends (field_key (member_name m) AsIs)) (SendsValue (member_value l m))

-- the first n members are sent, and one more
pub member_sent : (l : Lasre) (n : ℕ) (d : Member) (name : List ℕ) (first mid named new : Log) → n < 20 → WritesEach (SendsMember l) (take n members) first mid → name ≡ member_name (get_or members n d) → Logs mid named (field_key name AsIs) → SendsValue (member_value l (get_or members n d)) named new
    → WritesEach (SendsMember l) (take (n + 1) members) first new
member_sent l n d name first mid named new low before name_is named_is value =
    subst (λ ms. WritesEach (SendsMember l) ms first new) (sym (take_more members n d low))
    (sent_behind (SendsMember l) (take n members) (get_or members n d) first mid new before (named, subst (λ s. Logs mid named (field_key s AsIs)) name_is named_is, value))

members_end : (l : Lasre) (ms : List Member) (first last new : Log) → WritesEach (SendsMember l) ms first last → Logs last new map_ends → SendsMembers (members_by l ms) first new
members_end l [] first last new before ended = subst (λ x. Logs x new map_ends) before ended
members_end l (m ∷ ms) first last new before ended = (before.1.0, before.0, before.1.1, before.1.2, members_end l ms before.0 last new before.2 ended)

-- between the marks of a map they are the object
pub members_sent : (l : Lasre) (n : ℕ) (old first last new : Log) → Logs old first (map_begins (Some 20)) → 20 ≤ n → WritesEach (SendsMember l) (take n members) first last → Logs last new map_ends → SendsValue (lasre_value l) old new
unfolding lasre_value
members_sent l n old first last new begun all before ended =
    (first, begun, members_end l members first last new (subst (λ ms. WritesEach (SendsMember l) ms first last) (take_all n members all) before) ended)
