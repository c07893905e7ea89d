-- What a flush of a task adds to each wire, exactly.
use Rattle.std.proofs.Common.{◌≡◌, ℕ, zero, suc, ◌+◌, ◌-◌, ◌<◌, ◌≤◌, ◌==◌, Bool, true, false, not, cond, ◌&&◌, List, [], ◌∷◌, ◌++◌, length, refl, sym, ap, ◌∙◌, subst, ⊎_elim, inl, inr, arith}
use Rattle.std.specs.Prelude.{◌⊎◌, nat_lt, slice_get}
use Rattle.std.specs.List.{AllByRecursion, flat_map}
use Rattle.std.proofs.lemmas.Bool.{and_from, both_ways, cond-true, cond-false, cases_lt, lt-ltb, le-ltb, eqb-true, eq-eqb, ne_eqb}
use Rattle.std.proofs.lemmas.List.{length-append, length_push}
use Rattle.std.proofs.lemmas.List.Concat.{flat_map-cons}
use Rattle.lapi_base.specs.declared.script.Script.{Script}
use Rattle.lapi_base.specs.declared.rule.Rules.{Rules}
use Rattle.lapi_base.specs.declared.event.Event.{Event}
use Rattle.lapi_base.specs.declared.schedule.Act.TheVariants.{Poll, Deliver}
use Rattle.lapi_base.specs.Packet.Layout.{window_of}
use Rattle.lapi_base.specs.Record.Below.{below}
use Rattle.lapi_base.specs.Packet.Spelling.{refusal}
use Rattle.lapi_base.specs.Packet.PacketBytes.{packet_size}
use Rattle.lapi_base.specs.Record.Wires.{Run, numbered, base, is_sent, packet_of, packets, to_send}
use Rattle.lapi_base.specs.Record.Acts.{poll, perform, after}
use Rattle.lapi_base.specs.Record.WorldView.{HoldsOfRecords}
use Rattle.lapi_base.proofs.ListLaws.{get-some, all-weaker}
use Rattle.lapi_base.proofs.BelowLaws.{below-all}
use Rattle.lapi_laws.proofs.Lines.{SoundRun}
use Rattle.lapi_parts.proofs.Records.{record-sound}
use Rattle.lapi_flush.specs.Served.{delivers}
use Rattle.lapi_flush.specs.Flushed.{IsCalm, polled, part_acts, link_acts, flush}
use Rattle.lapi_flush.specs.Counted.{counts_of, counted_part, counted_links, new_numbers, IsCounted, FlushesAreCounted}
use Rattle.lapi_flush.proofs.NoneOwed.{IsPaid, record-paid}
use Rattle.lapi_flush.proofs.ServedParts.{all-counted}
use Rattle.lapi_flush.proofs.FlushedTasks.{J, s0, new, size, s0-wire, s0-other, edge-far, is-part, part-moves, links, count-new, after-join}

-- ---- numbers

-- the numbers below n that are at least top
below-from : (n top : ℕ) (p : ℕ → Bool) → ((k : ℕ) → k < top → p k ≡ false) → ((k : ℕ) → k < n → top ≤ k → p k ≡ true) → length (below n p) ≡ n - top
unfolding below
below-from zero top p low high = omega arith
below-from (suc n) top p low high =
    let old = below-from n top p low (λ k l ge. high k (omega arith) ge) in
    ⊎_elim
    (λ (lt : n < top). ap length (cond-false (p n) (below n p ++ n ∷ []) (below n p) (low n lt)) ∙ old ∙ none n top lt)
    (λ (ge : top ≤ n). ap length (cond-true (p n) (below n p ++ n ∷ []) (below n p) (high n (omega arith) ge)) ∙ length_push (below n p) n ∙ ap (λ m. m + 1) old ∙ one n top ge)
    (cases_lt n top)
  where
    none : (n top : ℕ) → n < top → n - top ≡ suc n - top
    none n top l = omega arith

    one : (n top : ℕ) → top ≤ n → (n - top) + 1 ≡ suc n - top
    one n top l = omega arith

module _ (script : Script) (rules : Rules) where
  -- one packet for each number of the link
  packets-all : (J : List Event) (a b : ℕ) (numbers : List ℕ) → AllByRecursion (λ n. n < length (numbered script J a b)) numbers → length (packets script rules J a b numbers) ≡ length numbers
  unfolding packets
  packets-all J a b [] all = refl
  packets-all J a b (n ∷ ns) all =
      let packet = λ (m : ℕ). packet_of script rules J m (slice_get (numbered script J a b) m) in
      let pair = get-some (numbered script J a b) n all.0 in
      let one : length (packet n) ≡ 1 = ap (λ o. length (packet_of script rules J n o)) pair.1 in
      let rest = packets-all J a b ns all.1 in
      ap length (flat_map-cons packet n ns) ∙ length-append (packet n) (flat_map packet ns) ∙ sums (length (packet n)) (length (flat_map packet ns)) (length ns) one rest
    where
      sums : (p f n : ℕ) → p ≡ 1 → f ≡ n → p + f ≡ suc n
      sums p f n a b = omega arith

  module _ (r : Run) (t : ℕ) (sound : SoundRun script rules r) (paid : IsPaid script rules r) where
    -- a Poll adds a packet for each number that wasn't sent
    new-exact : (b top : ℕ) → IsCalm r t b top → length (numbered script (polled script rules r t) t b) ≤ top + window_of script
        → length (new script rules r t sound paid b) ≡ length (numbered script (polled script rules r t) t b) - top
    unfolding new to_send size J
    new-exact b top calm room =
        let J = polled script rules r t in
        let count = length (numbered script J t b) in
        let p = λ (n : ℕ). not (is_sent r t b n) && nat_lt n (base script (record r { journal = J }) t b + window_of script) in
        packets-all J t b (below count p) (all-weaker (λ k. (k < count) × (p k ≡ true)) (λ k. k < count) (λ k h. h.0) (below count p) (below-all count p))
        ∙ below-from count top p
        (λ k l. ap (λ x. not x && nat_lt k (base script (record r { journal = J }) t b + window_of script)) (calm.sent k ∙ lt-ltb k top l))
        (λ k l ge. and_from _ _ (ap not (calm.sent k ∙ le-ltb k top ge)) (edge-far script rules r t sound paid b top calm room k l))

    module _ (tops : ℕ → ℕ) (calms : (b : ℕ) → b < script.tasks → IsCalm r t b (tops b)) (rooms : (b : ℕ) → b < script.tasks → length (numbered script (polled script rules r t) t b) ≤ tops b + window_of script) where
      first_run : Run
      first_run = poll script rules r t

      many : ℕ → ℕ
      many b = length (new script rules r t sound paid b)

      -- after the parts of the first n links
      done : ℕ → Run
      done n = after script rules packet_size refusal first_run (link_acts script rules r t n)

      Counted : ℕ → Type 0
      Counted n = (x y : ℕ) → length ((done n).wire x y) ≡ length (first_run.wire x y) + cond (y == t && nat_lt x n) (many x) 0

      none-yet : Counted 0
      unfolding done link_acts after Counted
      none-yet x y = plus (y == t) (nat_lt x 0) (length (first_run.wire x y)) (many x) (le-ltb x 0 (omega arith))
        where
          plus : (c d : Bool) (n m : ℕ) → d ≡ false → n ≡ n + cond (c && d) m 0
          plus true d n m e = rw e (omega arith)
          plus false d n m e = omega arith

      -- one part more
      one-part : (b : ℕ) → b < script.tasks → Counted b → Counted (suc b)
      unfolding done link_acts Counted first_run many after s0
      one-part b l old x y =
          let acts = link_acts script rules r t b in
          let first = length (r.wire t b) in
          let count = length ((poll script rules r t).wire t b) - first in
          let joined = after-join script rules acts (part_acts script rules (done b) t b first count) (poll script rules r t) in
          ap (λ (u : Run). length (u.wire x y)) joined
          ∙ part count (sym (count-new script rules r t sound paid tops calms rooms b))
        where
          -- b itself has none
          more-none : (c : Bool) (x b n : ℕ) → (x ≡ b → n ≡ 0) → cond (c && nat_lt x b) n 0 ≡ cond (c && nat_lt x (suc b)) n 0
          more-none false x b n h = refl
          more-none true x b n h =
              ⊎_elim
              (λ (lt : x < b). ap (λ d. cond d n 0) (lt-ltb x b lt ∙ sym (lt-ltb x (suc b) (omega (arith, lt)))))
              (λ (ge : b ≤ x).
              ⊎_elim
              (λ (le : x < suc b). let z = h (omega (arith, le, ge)) in rw (le-ltb x b ge, lt-ltb x (suc b) le) (sym z))
              (λ (gt : suc b ≤ x). ap (λ d. cond d n 0) (le-ltb x b ge ∙ sym (le-ltb x (suc b) gt)))
              (cases_lt x (suc b)))
              (cases_lt x b)

          -- or all that the part adds
          more-some : (w : ℕ) (c : Bool) (x b n m : ℕ) → (x ≡ b → n ≡ m) → (w + cond (c && nat_lt x b) n 0) + cond (x == b && c) m 0 ≡ w + cond (c && nat_lt x (suc b)) n 0
          more-some w false x b n m h = elim (x == b) as (λ d. (w + 0) + cond (d && false) m 0 ≡ w + 0) [ true ↦ omega arith | false ↦ omega arith ]
          more-some w true x b n m h =
              ⊎_elim
              (λ (lt : x < b). rw (lt-ltb x b lt, lt-ltb x (suc b) (omega (arith, lt)), ne_eqb x b (λ e. omega (arith, e, lt))) (omega arith))
              (λ (ge : b ≤ x).
              ⊎_elim
              (λ (le : x < suc b). let is : x ≡ b = omega (arith, le, ge) in rw (le-ltb x b ge, lt-ltb x (suc b) le, eq-eqb x b is) (let z = h is in omega (arith, z)))
              (λ (gt : suc b ≤ x). rw (le-ltb x b ge, le-ltb x (suc b) gt, ne_eqb x b (λ e. omega (arith, e, gt))) (omega arith))
              (cases_lt x (suc b)))
              (cases_lt x b)

          part : (count : ℕ) → count ≡ many b
              → length ((after script rules packet_size refusal (done b) (part_acts script rules (done b) t b (length (r.wire t b)) count)).wire x y)
              ≡ length (first_run.wire x y) + cond (y == t && nat_lt x (suc b)) (many x) 0
          part zero e = old x y ∙ ap (λ k. length (first_run.wire x y) + k) (more-none (y == t) x b (many x) (λ is. ap many is ∙ sym e))
          part (suc last) e =
              let k = links script rules r t sound paid tops calms rooms b (omega (arith, l)) in
              let is_part = part-moves script rules r t sound paid first_run (done b) t b (length (r.wire t b)) last (size script rules r t sound paid b) (k.wires t b) (λ m h. k.stays t b m h)
              (is-part script rules r t sound paid b (tops b) (calms b l) (rooms b l) last (sym e)) in
              all-counted script rules (done b) t b (length (r.wire t b)) last (size script rules r t sound paid b) is_part paid.0 k.is_sound x y
              ∙ ap (λ n. n + cond (x == b && y == t) (suc last) 0) (old x y)
              ∙ more-some (length (first_run.wire x y)) (y == t) x b (many x) (suc last) (λ is. ap many is ∙ sym e)

      all-parts : (n : ℕ) → n ≤ script.tasks → Counted n
      all-parts zero l = none-yet
      all-parts (suc b) l = one-part b (omega (arith, l)) (all-parts b (omega (arith, l)))

      -- what the Poll itself adds
      polled-length : (x y : ℕ) → length (first_run.wire x y) ≡ length (r.wire x y) + cond (x == t) (many y) 0
      unfolding first_run many s0
      polled-length x y =
          ⊎_elim
          (λ (is : (x == t) ≡ true).
          let same = eqb-true x t is in
          subst (λ a. length ((poll script rules r t).wire a y) ≡ length (r.wire a y) + many y) (sym same) (ap length (s0-wire script rules r t sound paid y) ∙ length-append (r.wire t y) (new script rules r t sound paid y))
          ∙ ap (λ c. length (r.wire x y) + cond c (many y) 0) (sym is))
          (λ (not_t : (x == t) ≡ false).
          ap length (s0-other script rules r t sound paid x y (λ e. both_ways _ not_t (eq-eqb x t e)))
          ∙ rw not_t (omega arith))
          (either (x == t))
        where
          either : (c : Bool) → (c ≡ true) ⊎ (c ≡ false)
          either true = inl refl
          either false = inr refl

      many-is : (b : ℕ) → b < script.tasks → many b ≡ new_numbers script rules r t tops b
      unfolding many
      many-is b l = new-exact b (tops b) (calms b l) (rooms b l)

      -- the entries of the wire back before a part
      back-length : (b : ℕ) → b < script.tasks → length ((done b).wire b t) ≡ counts_of r b t + cond (b == t) (new_numbers script rules r t tops b) 0
      unfolding Counted
      back-length b l =
          all-parts b (omega (arith, l)) b t
          ∙ ap (λ c. length (first_run.wire b t) + cond (t == t && c) (many b) 0) (le-ltb b b (omega arith))
          ∙ nothing (t == t) (length (first_run.wire b t)) (many b)
          ∙ polled-length b t
          ∙ own (b == t) refl
        where
          nothing : (c : Bool) (w n : ℕ) → w + cond (c && false) n 0 ≡ w
          nothing true w n = omega arith
          nothing false w n = omega arith

          own : (c : Bool) → (b == t) ≡ c → length (r.wire b t) + cond (b == t) (many t) 0 ≡ length (r.wire b t) + cond (b == t) (new_numbers script rules r t tops b) 0
          own true is = rw is (ap (λ n. length (r.wire b t) + n) (ap many (sym (eqb-true b t is)) ∙ many-is b l))
          own false is = rw is refl

      same-part : (b count : ℕ) → b < script.tasks → count ≡ new_numbers script rules r t tops b
          → part_acts script rules (done b) t b (length (r.wire t b)) count
          ≡ counted_part t b (counts_of r t b) (counts_of r b t + cond (b == t) (new_numbers script rules r t tops b) 0) (new_numbers script rules r t tops b)
      same-part b count l e = subst (λ n. part_acts script rules (done b) t b (length (r.wire t b)) count ≡ counted_part t b (counts_of r t b) (counts_of r b t + cond (b == t) (new_numbers script rules r t tops b) 0) n) e (at count)
        where
          at : (n : ℕ) → part_acts script rules (done b) t b (length (r.wire t b)) n
              ≡ counted_part t b (counts_of r t b) (counts_of r b t + cond (b == t) (new_numbers script rules r t tops b) 0) n
          at zero = refl
          at (suc last) = ap (λ k. delivers t b (length (r.wire t b)) (suc last) ++ Deliver b t (k + last) ∷ []) (back-length b l)

      same-links : (n : ℕ) → n ≤ script.tasks → link_acts script rules r t n ≡ counted_links (counts_of r) t (new_numbers script rules r t tops) n
      unfolding link_acts counted_links done first_run many
      same-links zero l = refl
      same-links (suc b) l =
          let count = length ((poll script rules r t).wire t b) - length (r.wire t b) in
          let room : b < script.tasks = omega (arith, l) in
          ap (λ acts. acts ++ part_acts script rules (done b) t b (length (r.wire t b)) count) (same-links b (omega (arith, l)))
          ∙ ap (λ acts. counted_links (counts_of r) t (new_numbers script rules r t tops) b ++ acts)
          (same-part b count room (sym (count-new script rules r t sound paid tops calms rooms b) ∙ many-is b room))

      pub counted : t < script.tasks → IsCounted script rules r (after script rules packet_size refusal r (flush script rules r t)) t (new_numbers script rules r t tops)
      unfolding after perform done first_run Counted
      counted task = record {
        lines = ap (λ acts. Poll t ∷ acts) (same-links script.tasks (omega arith));
        counts = λ x y lx ly.
            all-parts script.tasks (omega arith) x y
            ∙ ap (λ n. n + cond (y == t && nat_lt x script.tasks) (many x) 0) (polled-length x y ∙ ap (λ n. length (r.wire x y) + cond (x == t) n 0) (many-is y ly))
            ∙ ap (λ n. (length (r.wire x y) + cond (x == t) (new_numbers script rules r t tops y) 0) + cond (y == t && nat_lt x script.tasks) n 0) (many-is x lx)
            ∙ ap (λ c. (length (r.wire x y) + cond (x == t) (new_numbers script rules r t tops y) 0) + cond c (new_numbers script rules r t tops x) 0) (ap (λ c. y == t && c) (lt-ltb x script.tasks lx) ∙ and-true (y == t));
      }
        where
          and-true : (c : Bool) → (c && true) ≡ c
          and-true true = refl
          and-true false = refl

-- the law, of every record
pub flushes-counted : HoldsOfRecords FlushesAreCounted
flushes-counted script rules r is = λ now t tops l calms rooms. counted script rules r t (record-sound script rules r is) (record-paid script rules r is now) tops calms rooms l
