-- Laws of what the sending end of a link stands for.
use Rattle.std.proofs.Common.{◌≡◌, ℕ, suc, ◌+◌, ◌-◌, ◌<◌, ◌≤◌, nat_lt, Bool, true, false, cond, not, ◌&&◌, List, [], ◌∷◌, ◌++◌, take, drop, Option, Some, None, length, refl, sym, ap, ◌∙◌, ⊎_elim, arith, append_assoc, append-nil}
use Rattle.std.specs.Prelude.{slice_index_or}
use Rattle.std.specs.List.{AllByRecursion, filter_map, cons_option}
use Rattle.std.proofs.lemmas.Bool.{cases_lt, both_ways, and_parts, or_left, and_left, and_right, not-true, cond-true, cond-false, false_from_ne_true, lt-ltb, le-ltb}
use Rattle.std.proofs.Math.Seq.{take-add}
use Rattle.std.proofs.lemmas.List.{drop-drop, length-drop, map-append, get_or-drop}
use Rattle.std.proofs.lemmas.List.Elements.{filter_map-append}
use Rattle.lapi_base.specs.declared.wire.WireEntry.{WireEntry}
use Rattle.lapi_base.specs.Record.Below.{below}
use Rattle.lapi_base.proofs.BelowLaws.{below-all, below-none, below-cut}
use Rattle.lapi_base.proofs.ListLaws.{all-weaker}
use Rattle.lapi_window.specs.NumberSet.{Members, flag_at, is_in, is_covered}
use Rattle.lapi_window.specs.SendWindow.{Sending, sent_count, is_sent, is_acked, is_unacked, bytes_of, unacked, packet_of}
use Rattle.lapi_link.specs.Sender.{SendingEnd, IsSendingEnd, sent, entries_to, tag_of, covered_tag, newly_acked}

-- `send`
pub sent_one_more : (s : SendingEnd) (i : ℕ) → sent (sent s i) 1 ≡ sent s (i + 1)
sent_one_more s i =
    let packets = append_assoc s.window.packets (take i s.waiting) (take 1 (drop i s.waiting)) ∙ ap (λ (xs : List (List ℕ)). s.window.packets ++ xs) (sym (take-add i 1 s.waiting)) in
    let waiting = drop-drop 1 i s.waiting in
    ap (λ (xs : List (List ℕ)). record s { window = record s.window { packets = xs }; waiting = drop 1 (drop i s.waiting) }) packets
    ∙ ap (λ (xs : List (List ℕ)). record s { window = record s.window { packets = s.window.packets ++ take (i + 1) s.waiting }; waiting = xs }) waiting

pub entries_one_more : (entries : List WireEntry) (to i : ℕ) (waiting : List (List ℕ)) (entry : WireEntry) → entries_to to (take 1 (drop i waiting)) ≡ entry ∷ [] → (entries ++ entries_to to (take i waiting)) ++ entry ∷ [] ≡ entries ++ entries_to to (take (i + 1) waiting)
entries_one_more entries to i waiting entry e =
    ap (λ (xs : List WireEntry). (entries ++ entries_to to (take i waiting)) ++ xs) (sym e)
    ∙ append_assoc entries (entries_to to (take i waiting)) (entries_to to (take 1 (drop i waiting)))
    ∙ ap (λ (xs : List WireEntry). entries ++ xs) (sym (map-append (λ (bytes : List ℕ). record { to = to; bytes = bytes }) (take i waiting) (take 1 (drop i waiting))))
    ∙ ap (λ (xs : List (List ℕ)). entries ++ entries_to to xs) (sym (take-add i 1 waiting))

-- What f gives of the unacknowledged numbers below one, as a loop over the numbers from the base on goes.
abbrev pub gives_below : {Y : Type 0} → (ℕ → Option Y) → Sending → ℕ → List Y
gives_below f w n = filter_map f (below n (is_unacked w))

below-step : (n : ℕ) (p : ℕ → Bool) → below (n + 1) p ≡ cond (p n) (below n p ++ n ∷ []) (below n p)
unfolding below
below-step n p = let e : n + 1 ≡ suc n = omega arith in ap (λ k. below k p) e

acked-low : (m : Members) (n : ℕ) → n < m.base → is_in m n ≡ true
unfolding is_in
acked-low m n lt = or_left (nat_lt n m.base) (flag_at m.flags (n - m.base)) (lt-ltb n m.base lt)

pub below-none-yet : {Y : Type 0} (f : ℕ → Option Y) (w : Sending) → gives_below f w w.acked.base ≡ []
below-none-yet f w = ap (filter_map f) (below-none w.acked.base (is_unacked w) (λ k l. and_right (is_sent w k) (not (is_acked w k)) (ap not (acked-low w.acked k l))))

pub below-one-more : {Y : Type 0} (f : ℕ → Option Y) (w : Sending) (n : ℕ) → gives_below f w (n + 1) ≡ gives_below f w n ++ cons_option (cond (is_unacked w n) (f n) None) []
below-one-more f w n =
    ap (filter_map f) (below-step n (is_unacked w))
    ∙ (elim (is_unacked w n) as (λ b. filter_map f (cond b (below n (is_unacked w) ++ n ∷ []) (below n (is_unacked w))) ≡ gives_below f w n ++ cons_option (cond b (f n) None) []) [
      | true ↦ filter_map-append f (below n (is_unacked w)) (n ∷ [])
      | false ↦ sym (append-nil (gives_below f w n))
    ])

pub below-all-sent : {Y : Type 0} (f : ℕ → Option Y) (w : Sending) → sent_count w ≤ w.numbers → gives_below f w (sent_count w) ≡ filter_map f (unacked w)
below-all-sent f w le = ap (filter_map f) (sym (below-cut (sent_count w) w.numbers (is_unacked w) le (λ k ge. and_left (is_sent w k) (not (is_acked w k)) (le-ltb k (sent_count w) ge))))

-- a packet more is sent again where its number is not acknowledged, and none where it is
pub resent-one : (entries : List WireEntry) (to : ℕ) (w : Sending) (n : ℕ) (bytes : List ℕ) → packet_of w n ≡ Some bytes → (entries ++ entries_to to (gives_below (bytes_of w) w n)) ++ record { to = to; bytes = bytes } ∷ [] ≡ entries ++ entries_to to (gives_below (bytes_of w) w (n + 1))
resent-one entries to w n bytes at =
    append_assoc entries (entries_to to (gives_below (bytes_of w) w n)) (entries_to to (bytes ∷ []))
    ∙ ap (λ (xs : List WireEntry). entries ++ xs) (sym (map-append (λ (b : List ℕ). record { to = to; bytes = b }) (gives_below (bytes_of w) w n) (bytes ∷ [])))
    ∙ ap (λ (xs : List (List ℕ)). entries ++ entries_to to xs) (sym (below-one-more (bytes_of w) w n ∙ ap (λ (o : Option (List ℕ)). gives_below (bytes_of w) w n ++ cons_option o []) at))

pub resent-none : (entries : List WireEntry) (to : ℕ) (w : Sending) (n : ℕ) → packet_of w n ≡ None → entries ++ entries_to to (gives_below (bytes_of w) w n) ≡ entries ++ entries_to to (gives_below (bytes_of w) w (n + 1))
resent-none entries to w n none =
    ap (λ (xs : List (List ℕ)). entries ++ entries_to to xs) (sym (below-one-more (bytes_of w) w n ∙ ap (λ (o : Option (List ℕ)). gives_below (bytes_of w) w n ++ cons_option o []) none ∙ append-nil (gives_below (bytes_of w) w n)))

-- `acked`
filter_map-none : {X Y : Type 0} (f : X → Option Y) (xs : List X) → AllByRecursion (λ x. f x ≡ None) xs → filter_map f xs ≡ []
filter_map-none f [] h = refl
filter_map-none f (x ∷ xs) h = ap (λ o. cons_option o (filter_map f xs)) h.0 ∙ filter_map-none f xs h.1

not-covered : (s : SendingEnd) (base bits : ℕ) → ((n : ℕ) → is_covered base bits n ≡ true → is_acked s.window n ≡ true) → (n : ℕ) → (is_sent s.window n && not (is_acked s.window n)) ≡ true → covered_tag s base bits n ≡ None
not-covered s base bits all n waits =
    cond-false (is_covered base bits n) (tag_of s n) None
    (false_from_ne_true _ (λ covered. both_ways (is_acked s.window n) (not-true (is_acked s.window n) (and_parts (is_sent s.window n) (not (is_acked s.window n)) waits).1) (all n covered)))

-- nothing is new where all that is covered is acknowledged
pub none-new : (s : SendingEnd) (base bits : ℕ) → ((n : ℕ) → is_covered base bits n ≡ true → is_acked s.window n ≡ true) → newly_acked s base bits ≡ []
none-new s base bits all =
    let waits = λ (n : ℕ). is_sent s.window n && not (is_acked s.window n) in
    filter_map-none (covered_tag s base bits) (unacked s.window)
    (all-weaker (λ n. (n < s.window.numbers) × (waits n ≡ true)) (λ n. covered_tag s base bits n ≡ None) (λ n h. not-covered s base bits all n h.1) (unacked s.window) (below-all s.window.numbers waits))

above-base : (m : Members) (n : ℕ) → is_in m n ≡ false → m.base ≤ n
unfolding is_in
above-base m n absent =
    ⊎_elim
    (λ (lt : n < m.base). absurd (both_ways (is_in m n) absent (or_left (nat_lt n m.base) (flag_at m.flags (n - m.base)) (lt-ltb n m.base lt))))
    (λ (ge : m.base ≤ n). ge)
    (cases_lt n m.base)

-- the tags that stay are those of the numbers from the new base on
pub tags-stay : (old new : SendingEnd) → old.window.acked.base ≤ new.window.acked.base → new.tags ≡ drop (new.window.acked.base - old.window.acked.base) old.tags → (n : ℕ) → is_acked new.window n ≡ false → tag_of new n ≡ tag_of old n
unfolding tag_of
tags-stay old new grows dropped n absent =
    let a = old.window.acked.base in
    let b = new.window.acked.base in
    let above = above-base new.window.acked n absent in
    let low : a ≤ n = omega (arith, above, grows) in
    let place : (b - a) + (n - b) ≡ n - a = omega (arith, above, grows) in
    cond-false (nat_lt n b) None (slice_index_or new.tags (n - b) None) (le-ltb n b above)
    ∙ ap (λ xs. slice_index_or xs (n - b) None) dropped
    ∙ get_or-drop (b - a) old.tags (n - b) None
    ∙ ap (λ k. slice_index_or old.tags k None) place
    ∙ sym (cond-false (nat_lt n a) None (slice_index_or old.tags (n - a) None) (le-ltb n a low))

-- and each has its own
pub tagged-still : (old new : SendingEnd) → IsSendingEnd old → old.window.acked.base ≤ new.window.acked.base → sent_count new.window ≡ sent_count old.window → new.window.numbers ≡ old.window.numbers → new.tags ≡ drop (new.window.acked.base - old.window.acked.base) old.tags → new.window.acked.base + length new.tags ≡ new.window.numbers
tagged-still old new h grows sent numbers dropped =
    let whole = h.whole in
    let tagged = h.tagged in
    let left = ap length dropped ∙ length-drop (new.window.acked.base - old.window.acked.base) old.tags in
    omega (arith, whole, tagged, left, grows, sent, numbers)

-- the tag at its place
pub covered-at : (s : SendingEnd) (base bits n : ℕ) → is_covered base bits n ≡ true → s.window.acked.base ≤ n → slice_index_or s.tags (n - s.window.acked.base) None ≡ covered_tag s base bits n
unfolding tag_of
covered-at s base bits n covered above =
    sym (cond-true (is_covered base bits n) (tag_of s n) None covered ∙ cond-false (nat_lt n s.window.acked.base) None (slice_index_or s.tags (n - s.window.acked.base) None) (le-ltb n s.window.acked.base above))
