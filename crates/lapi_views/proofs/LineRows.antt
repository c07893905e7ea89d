-- What a line adds to the rows of a run, by how far its task had come before it.
use Rattle.std.proofs.Common.{◌≡◌, ℕ, zero, suc, ◌+◌, ◌<◌, List, [], ◌∷◌, ◌++◌, length, map, drop, reverse, refl, sym, ap, ◌∙◌, arith, Some, Ok, Result}
use Rattle.std.specs.Prelude.{slice_get, slice_index}
use Rattle.std.specs.List.{flat_map, AllByRecursion}
use Rattle.std.proofs.lemmas.List.{length-reverse}
use Rattle.lapi_base.specs.declared.packet.Packet.{Packet}
use Rattle.lapi_base.specs.declared.reply.Bad.{Bad}
use Rattle.lapi_base.specs.declared.rule.Rules.{Rules}
use Rattle.lapi_base.specs.declared.schedule.Act.{Act}
use Rattle.lapi_base.specs.declared.script.Script.{Script}
use Rattle.lapi_base.specs.Packet.PacketBytes.{packet}
use Rattle.lapi_base.specs.Packet.Spelling.{decoded}
use Rattle.lapi_base.specs.Record.Below.{below}
use Rattle.lapi_base.specs.Record.Counters.{count}
use Rattle.lapi_base.specs.Record.Operations.{numbers_below}
use Rattle.lapi_base.specs.Record.TaskPart.{actor}
use Rattle.lapi_base.specs.Record.Wires.{Run, IsEntry}
use Rattle.lapi_base.proofs.ListLaws.{flat_map-push}
use Rattle.lapi_base.proofs.UptoLaws.{over-at}
use Rattle.lapi_picture.specs.declared.row.Row.TheVariants as rows
use Rattle.lapi_views.specs.Chart.{act_rows, cargo_of, changed_rows, counted_row, deed_of, happened_rows, line_rows, put_rows, sent_rows}
use Rattle.lapi_views.specs.ChartParts.{cargo_by, counted_after, entries_after, entry_rows, happened_after, mark_of, rows_after}

all_from : {X : Type 0} (P : X → Type 0) (xs : List X) → ((k : ℕ) (x : X) → slice_get xs k ≡ Some x → P x) → AllByRecursion P xs
all_from P [] each = tt
all_from P (x ∷ xs) each = (each 0 x refl, all_from P xs (λ k y e. each (suc k) y e))

all-drop : {X : Type 0} (P : X → Type 0) (n : ℕ) (xs : List X) → AllByRecursion P xs → AllByRecursion P (drop n xs)
all-drop P zero xs all = all
all-drop P (suc n) [] all = tt
all-drop P (suc n) (x ∷ xs) all = all-drop P n xs all.1

drop-map : {X Y : Type 0} (f : X → Y) (n : ℕ) (xs : List X) → drop n (map f xs) ≡ map f (drop n xs)
drop-map f zero xs = refl
drop-map f (suc n) [] = refl
drop-map f (suc n) (x ∷ xs) = drop-map f n xs

-- what is said of each number below a bound is said of all
each_below : {X : Type 0} (f g : ℕ → List X) (n : ℕ) → ((b : ℕ) → b < n → f b ≡ g b) → flat_map f (numbers_below n) ≡ flat_map g (numbers_below n)
unfolding numbers_below below
each_below f g zero same = refl
each_below f g (suc n) same =
    flat_map-push f (numbers_below n) n
    ∙ ap (λ xs. xs ++ f n) (each_below f g n (λ b l. let m : b < suc n = omega arith in same b m))
    ∙ ap (λ xs. flat_map g (numbers_below n) ++ xs) (let m : n < suc n = omega arith in same n m)
    ∙ sym (flat_map-push g (numbers_below n) n)

-- entries are told by their bytes, where each packet has its spelling
told_by_bytes : (a b k : ℕ) (packets : List Packet) → AllByRecursion (λ p. decoded (packet p) ≡ Ok p) packets → entry_rows a b k (map packet packets) ≡ sent_rows a b k packets
unfolding entry_rows sent_rows
told_by_bytes a b k [] all = refl
told_by_bytes a b k (p ∷ packets) all =
    ap (λ (found : Result Packet Bad). rows.Sent a b k (cargo_by found) ∷ entry_rows a b (k + 1) (map packet packets)) all.0
    ∙ ap (λ rest. rows.Sent a b k (cargo_of p) ∷ rest) (told_by_bytes a b (k + 1) packets all.1)

module _ (script : Script) (rules : Rules) (r s : Run) (t : ℕ) where
  put_told : ((b k : ℕ) (p : Packet) → IsEntry s t b k p → decoded (packet p) ≡ Ok p) → (b : ℕ) → b < script.tasks → entries_after t (mark_of script rules r t) s b ≡ put_rows t r s b
  unfolding mark_of
  put_told read b l =
      let k = length (r.wire t b) in
      let before : slice_index (map (λ b. length (r.wire t b)) (numbers_below script.tasks)) b ≡ k = over-at (λ b. length (r.wire t b)) script.tasks b 0 l in
      ap (λ j. entry_rows t b j (drop j (map packet (s.wire t b)))) before
      ∙ ap (λ entries. entry_rows t b k entries) (drop-map packet k (s.wire t b))
      ∙ told_by_bytes t b k (drop k (s.wire t b)) (all-drop (λ p. decoded (packet p) ≡ Ok p) k (s.wire t b) (all_from (λ p. decoded (packet p) ≡ Ok p) (s.wire t b) (λ k p e. read b k p e)))

  counted_told : (c : ℕ) → c < script.counters → counted_after script rules t (mark_of script rules r t) s c ≡ changed_rows script rules t r s c
  unfolding mark_of
  counted_told c l = ap (λ before. counted_row t c before (count script rules s.journal t c)) (over-at (count script rules r.journal t) script.counters c 0 l)

pub line_told : (script : Script) (rules : Rules) (r s : Run) (n : ℕ) (act : Act) → ((b k : ℕ) (p : Packet) → IsEntry s (actor act) b k p → decoded (packet p) ≡ Ok p)
    → rows_after script rules n (actor act) (deed_of act) (mark_of script rules r (actor act)) s ≡ act_rows script rules n act r s
unfolding rows_after act_rows mark_of
line_told script rules r s n act read =
    let t = actor act in
    ap (λ k. line_rows n act r s ++ (happened_after t k (reverse s.journal) ++ (flat_map (entries_after t (mark_of script rules r t) s) (numbers_below script.tasks) ++ flat_map (counted_after script rules t (mark_of script rules r t) s) (numbers_below script.counters)))) (sym (length-reverse r.journal))
    ∙ ap (λ put. line_rows n act r s ++ (happened_rows act r s ++ (put ++ flat_map (counted_after script rules t (mark_of script rules r t) s) (numbers_below script.counters)))) (each_below (entries_after t (mark_of script rules r t) s) (put_rows t r s) script.tasks (put_told script rules r s t read))
    ∙ ap (λ counted. line_rows n act r s ++ (happened_rows act r s ++ (flat_map (put_rows t r s) (numbers_below script.tasks) ++ counted))) (each_below (counted_after script rules t (mark_of script rules r t) s) (changed_rows script rules t r s) script.counters (counted_told script rules r s t))
