-- Laws of what a sending window stands for.
use Rattle.std.proofs.Common.{◌≡◌, ℕ, zero, suc, ◌+◌, ◌-◌, ◌<◌, ◌≤◌, nat_lt, Bool, true, false, not, cond, ◌||◌, ◌&&◌, ◌⊎◌, inl, inr, List, [], ◌∷◌, ◌++◌, length, drop, Option, Some, None, slice_get, option_copied, option_map, IsSome, Bor, refl, sym, ap, ◌∙◌, ⊎_elim, arith, length-append, length-drop}
use Rattle.std.proofs.lemmas.Bool.{cases_lt, and_left, and_parts, or_left, or_cases, cond-true, cond-false, cond_both, lt-ltb, le-ltb, not-true}
use Rattle.circular_buffer.proofs.Places.{slice_get-append_left, slice_get-last, slice_get-drop}
use Rattle.lapi_base.specs.Record.Below.{below}
use Rattle.lapi_base.proofs.BelowLaws.{below-cut, below-member, below-same, length-below-none, length-below-suc}
use Rattle.lapi_window.specs.NumberSet.{Members, is_in, is_covered}
use Rattle.lapi_window.specs.SendWindow.{Sending, IsSending, MaySend, sent_count, is_sent, is_acked, base_of, is_unacked, unacked, bytes_of, packet_of}
use Rattle.lapi_window.proofs.MemberLaws.{is_in-low, base_le_absent, base_grows, least_missing-base}

pub sending-base : (s : Sending) (capacity : ℕ) → IsSending s capacity → base_of s ≡ s.acked.base
sending-base s capacity h =
    let le = h.sent.0 in
    least_missing-base s.acked s.numbers h.absent (omega (arith, le))

-- `next`
pub next-none : (s : Sending) (capacity : ℕ) → IsSending s capacity → (sent_count s ≡ s.numbers) ⊎ (length s.packets ≡ capacity) → (sent_count s ≡ s.numbers) ⊎ (sent_count s ≡ base_of s + s.window)
next-none s capacity h (inl e) = inl e
next-none s capacity h (inr e) =
    let base = sending-base s capacity h in
    let room = h.room.0 in
    inr (omega (arith, base, room, e))

pub next-some : (s : Sending) (capacity : ℕ) → IsSending s capacity → (sent_count s ≡ s.numbers → ⊥) → (length s.packets ≡ capacity → ⊥) → MaySend s
next-some s capacity h more free =
    let base = sending-base s capacity h in
    let room = h.room in
    let le = h.sent.0 in
    let r0 = room.0 in
    let r1 = room.1 in
    record {
      exists = omega (arith, more, le);
      within = omega (arith, free, base, r0, r1);
    }

pub may-not : (s : Sending) → MaySend s → (sent_count s ≡ s.numbers) ⊎ (sent_count s ≡ base_of s + s.window) → ⊥
may-not s m (inl e) = let lt = m.exists in omega (arith, lt, e)
may-not s m (inr e) = let lt = m.within in omega (arith, lt, e)

-- `sent`
pub pushed : (packets : List (List ℕ)) (frame : List ℕ) (capacity : ℕ) → length packets < capacity → drop (length (packets ++ frame ∷ []) - capacity) (packets ++ frame ∷ []) ≡ packets ++ frame ∷ []
pushed packets frame capacity lt =
    let len = length-append packets (frame ∷ []) in
    let e : length (packets ++ frame ∷ []) - capacity ≡ 0 = omega (arith, len) in
    ap (λ k. drop k (packets ++ frame ∷ [])) e

pub bytes_of-last : (s : Sending) (frame : List ℕ) → bytes_of (record s { packets = s.packets ++ frame ∷ [] }) (sent_count s) ≡ Some frame
unfolding bytes_of
bytes_of-last s frame =
    let e : sent_count s - s.acked.base ≡ length s.packets = omega arith in
    cond-false (nat_lt (sent_count s) s.acked.base) None (slice_get (s.packets ++ frame ∷ []) (sent_count s - s.acked.base)) (le-ltb (sent_count s) s.acked.base (omega arith))
    ∙ slice_get-last s.packets frame (sent_count s - s.acked.base) e

pub bytes_of-others : (s : Sending) (frame : List ℕ) (n : ℕ) → n < sent_count s → bytes_of (record s { packets = s.packets ++ frame ∷ [] }) n ≡ bytes_of s n
unfolding bytes_of
bytes_of-others s frame n h =
    ⊎_elim
    (λ (lt : n < s.acked.base).
    cond-true (nat_lt n s.acked.base) None (slice_get (s.packets ++ frame ∷ []) (n - s.acked.base)) (lt-ltb n s.acked.base lt)
    ∙ sym (cond-true (nat_lt n s.acked.base) None (slice_get s.packets (n - s.acked.base)) (lt-ltb n s.acked.base lt)))
    (λ (ge : s.acked.base ≤ n).
    let inside : n - s.acked.base < length s.packets = omega arith in
    ap (λ x. cond (nat_lt n s.acked.base) None x) (slice_get-append_left s.packets (frame ∷ []) (n - s.acked.base) inside))
    (cases_lt n s.acked.base)

-- `unacked_len`, `unacked`
pub unacked-is : (s : Sending) → sent_count s ≤ s.numbers → unacked s ≡ below (sent_count s) (λ n. not (is_in s.acked n))
unacked-is s le =
    below-cut (sent_count s) s.numbers (λ n. is_sent s n && not (is_acked s n)) le (λ k ge. and_left (is_sent s k) (not (is_acked s k)) (le-ltb k (sent_count s) ge))
    ∙ below-same (sent_count s) (λ n. is_sent s n && not (is_acked s n)) (λ n. not (is_in s.acked n)) (λ k lt. ap (λ b. b && not (is_acked s k)) (lt-ltb k (sent_count s) lt))

length-below-span : (base m : ℕ) (p : ℕ → Bool) → ((k : ℕ) → k < base → p k ≡ false) → length (below (base + m) p) ≤ m
length-below-span base zero p h =
    let none = length-below-none (base + 0) p (λ k l. h k (let q : k < base = omega arith in q)) in
    omega (arith, none)
length-below-span base (suc m) p h =
    let before = length-below-span base m p h in
    let e : base + suc m ≡ suc (base + m) = omega arith in
    let longer = ap (λ k. length (below k p)) e ∙ length-below-suc (base + m) p in
    let one = cond_both {A = ℕ} (p (base + m)) 1 0 (λ x. x ≤ 1) (λ _. omega arith) (λ _. omega arith) in
    omega (arith, before, longer, one)

pub unacked-bounded : (s : Sending) (capacity : ℕ) → IsSending s capacity → length (unacked s) ≤ s.window
unacked-bounded s capacity h =
    let le = h.sent.0 in
    let all = ap length (unacked-is s le) in
    let span = length-below-span s.acked.base (length s.packets) (λ n. not (is_in s.acked n)) (λ k l. ap not (is_in-low s.acked k l)) in
    let r0 = h.room.0 in
    let r1 = h.room.1 in
    omega (arith, all, span, r0, r1)

-- a number that was sent and is not acknowledged has its packet in its place
pub record IsKept (s : Sending) (n : ℕ) : Type 0 where
  pub above : s.acked.base ≤ n
  pub inside : n - s.acked.base < length s.packets
  pub bytes : bytes_of s n ≡ slice_get s.packets (n - s.acked.base)

pub unacked-kept : (s : Sending) (i n : ℕ) → slice_get (below (sent_count s) (λ k. not (is_in s.acked k))) i ≡ Some n → IsKept s n
unfolding bytes_of
unacked-kept s i n e =
    let there = below-member (sent_count s) (λ k. not (is_in s.acked k)) i n e in
    let lt = there.0 in
    let above = base_le_absent s.acked n (not-true (is_in s.acked n) there.1) in
    record {
      above = above;
      inside = omega (arith, lt, above);
      bytes = cond-false (nat_lt n s.acked.base) None (slice_get s.packets (n - s.acked.base)) (le-ltb n s.acked.base above);
    }

-- `packet`
pub unacked-above : (s : Sending) (n : ℕ) → is_unacked s n ≡ true → s.acked.base ≤ n
unacked-above s n h = base_le_absent s.acked n (not-true (is_acked s n) (and_parts (is_sent s n) (not (is_acked s n)) h).1)

pub packet-kept : (s : Sending) (n : ℕ) → is_unacked s n ≡ true → packet_of s n ≡ slice_get s.packets (n - s.acked.base)
unfolding bytes_of
packet-kept s n h =
    cond-true (is_unacked s n) (bytes_of s n) None h
    ∙ cond-false (nat_lt n s.acked.base) None (slice_get s.packets (n - s.acked.base)) (le-ltb n s.acked.base (unacked-above s n h))

-- `acked`
pub acked-base : (old new : Members) (base bits end : ℕ) → ((n : ℕ) → is_in new n ≡ (is_in old n || is_covered base bits n)) → ((n : ℕ) → is_in old n ≡ true → n < end) → ((n : ℕ) → is_covered base bits n ≡ true → n < end) → new.base ≤ end
acked-base old new base bits end set near covered =
    ⊎_elim
    (λ (lt : end < new.base).
    let both = sym (set end) ∙ is_in-low new end lt in
    absurd (⊎_elim
    (λ (h : is_in old end ≡ true). let l = near end h in let q : ⊥ = omega (arith, l) in q)
    (λ (h : is_covered base bits end ≡ true). let l = covered end h in let q : ⊥ = omega (arith, l) in q)
    (or_cases (is_in old end) (is_covered base bits end) both)))
    (λ (ge : new.base ≤ end). ge)
    (cases_lt end new.base)

pub acked-near : (old new : Members) (base bits end n : ℕ) → ((k : ℕ) → is_in new k ≡ (is_in old k || is_covered base bits k)) → ((k : ℕ) → is_in old k ≡ true → k < end) → ((k : ℕ) → is_covered base bits k ≡ true → k < end) → is_in new n ≡ true → n < end
acked-near old new base bits end n set near covered h =
    ⊎_elim
    (λ (o : is_in old n ≡ true). near n o)
    (λ (o : is_covered base bits n ≡ true). covered n o)
    (or_cases (is_in old n) (is_covered base bits n) (sym (set n) ∙ h))

pub acked-grows : (old new : Members) (base bits : ℕ) → ((n : ℕ) → is_in new n ≡ (is_in old n || is_covered base bits n)) → is_in new new.base ≡ false → old.base ≤ new.base
acked-grows old new base bits set absent =
    base_grows old new absent (λ n h. set n ∙ or_left (is_in old n) (is_covered base bits n) h)

-- the packets that stay are those of the numbers from the new base on
pub acked-packets : (packets : List (List ℕ)) (old new end : ℕ) → end ≡ old + length packets → old ≤ new → new ≤ end → new + length (drop (length packets - (end - new)) packets) ≡ end
acked-packets packets old new end at le fits =
    let len = length-drop (length packets - (end - new)) packets in
    omega (arith, len)

pub acked-bytes : (s t : Sending) (n : ℕ) → s.acked.base ≤ t.acked.base → t.acked.base ≤ sent_count s → t.packets ≡ drop (length s.packets - (sent_count s - t.acked.base)) s.packets → is_in t.acked n ≡ false → bytes_of t n ≡ bytes_of s n
unfolding bytes_of
acked-bytes s t n le fits kept absent =
    let above = base_le_absent t.acked n absent in
    let low : s.acked.base ≤ n = omega arith in
    let k = length s.packets - (sent_count s - t.acked.base) in
    let e : n - s.acked.base ≡ (length s.packets - (sent_count s - t.acked.base)) + (n - t.acked.base) = omega arith in
    cond-false (nat_lt n t.acked.base) None (slice_get t.packets (n - t.acked.base)) (le-ltb n t.acked.base above)
    ∙ ap (λ xs. slice_get xs (n - t.acked.base)) kept
    ∙ slice_get-drop k s.packets (n - t.acked.base) (n - s.acked.base) e
    ∙ sym (cond-false (nat_lt n s.acked.base) None (slice_get s.packets (n - s.acked.base)) (le-ltb n s.acked.base low))

pub unacked-list : (s : Sending) (capacity end : ℕ) (acked : Members) → IsSending s capacity → end ≡ sent_count s → acked ≡ s.acked → below end (λ n. not (is_in acked n)) ≡ unacked s
unacked-list s capacity end acked h e a =
    ap (λ k. below k (λ n. not (is_in acked n))) e
    ∙ ap (λ (m : Members). below (sent_count s) (λ n. not (is_in m n))) a
    ∙ sym (unacked-is s h.sent.0)

pub kept-number : (s : Sending) (capacity i n : ℕ) → IsSending s capacity → slice_get (unacked s) i ≡ Some n → IsKept s n
kept-number s capacity i n h e = unacked-kept s i n (sym (ap (λ xs. slice_get xs i) (unacked-is s h.sent.0)) ∙ e)

pub kept_of : (s : Sending) (capacity end i n : ℕ) → IsSending s capacity → end ≡ sent_count s → slice_get (below end (λ k. not (is_in s.acked k))) i ≡ Some n → IsKept s n
kept_of s capacity end i n h e found =
    unacked-kept s i n (ap (λ k. slice_get (below k (λ x. not (is_in s.acked x))) i) (sym e) ∙ found)

pub some_of_copied : {X : Type 0} (o : Option (Bor X)) (x : X) → option_copied o ≡ Some x → IsSome o
some_of_copied None x e = absurd (cc)
some_of_copied (Some r) x e = refl

pub copied-map : {X : Type 0} (o : Option (Bor X)) → option_map (λ b. b.now) o ≡ option_copied o
copied-map None = refl
copied-map (Some r) = refl

-- what an acknowledgement leaves
pub record IsAcked (s t : Sending) (capacity : ℕ) : Type 0 where
  pub sending : IsSending t capacity
  pub sent : sent_count t ≡ sent_count s
  pub base : s.acked.base ≤ t.acked.base
  pub bytes : (n : ℕ) → is_in t.acked n ≡ false → bytes_of t n ≡ bytes_of s n

pub acked-all : (s : Sending) (capacity : ℕ) (new : Members) (base bits : ℕ) (packets : List (List ℕ)) → IsSending s capacity → ((n : ℕ) → is_in new n ≡ (is_in s.acked n || is_covered base bits n)) → is_in new new.base ≡ false → ((n : ℕ) → is_covered base bits n ≡ true → n < sent_count s) → packets ≡ drop (length s.packets - (sent_count s - new.base)) s.packets → IsAcked s (record s { acked = new; packets = packets }) capacity
acked-all s capacity new base bits packets h set absent covered kept =
    let fits = acked-base s.acked new base bits (sent_count s) set h.near covered in
    let grows = acked-grows s.acked new base bits set absent in
    let whole = acked-packets s.packets s.acked.base new.base (sent_count s) refl grows fits in
    let len = ap length kept in
    let same : new.base + length packets ≡ sent_count s = omega (arith, whole, len) in
    let le = h.sent.0 in
    let room = h.room.1 in
    record {
      sending = record {
        size = h.size;
        room = (h.room.0, omega (arith, same, grows, room));
        sent = (omega (arith, same, le), h.sent.1);
        absent = absent;
        near = λ n e. let lt = acked-near s.acked new base bits (sent_count s) n set h.near covered e in omega (arith, lt, same);
      };
      sent = same;
      base = grows;
      bytes = λ n e. acked-bytes s (record s { acked = new; packets = packets }) n grows fits kept e;
    }
