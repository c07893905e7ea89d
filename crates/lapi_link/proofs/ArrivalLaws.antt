-- What a packet that comes does to the receiving end of a link.
use Rattle.std.proofs.Common.{◌≡◌, ◌≢◌, ◌⊎◌, ℕ, ◌+◌, ◌*◌, ◌^◌, ◌<◌, ◌≤◌, ◌==◌, true, false, cond, ◌||◌, List, [], ◌∷◌, length, map, set, Option, Some, None, is_some, IfSome, refl, sym, ap, ◌∙◌, subst, ⊎_elim, inl, inr, arith}
use Rattle.std.specs.Prelude.{option_map}
use Rattle.std.specs.Option.{unwrap_or}
use Rattle.std.specs.List.{AllByRecursion}
use Rattle.std.proofs.lemmas.Bool.{false≢true, both_ways, and_parts, and_from, false_from_ne_true, eqb-true, eq-eqb, or_cases, cond-true, cond-false}
use Rattle.lapi_base.specs.declared.script.Script.{Script}
use Rattle.lapi_base.specs.declared.handler.HeaderOut.{HeaderOut}
use Rattle.lapi_base.specs.declared.message.MsgName.{MsgName}
use Rattle.lapi_base.specs.declared.head.Head.{Head}
use Rattle.lapi_base.specs.declared.packet.Packet.{Packet}
use Rattle.lapi_base.specs.declared.packet.Packet.TheVariants.{Data}
use Rattle.lapi_base.specs.declared.packet.DataPacket.{DataPacket}
use Rattle.lapi_base.specs.Record.Fragments.{fragments_in, IsPayload}
use Rattle.lapi_base.specs.Packet.Layout.{unit_of, window_of}
use Rattle.lapi_base.specs.Record.Names.{name_eq}
use Rattle.lapi_base.specs.Record.Operations.{numbers_below}
use Rattle.lapi_base.specs.Record.Wires.{has_number}
use Rattle.lapi_base.specs.Record.Arrived.{is_fragment, has_fragment, has_some, some_packet, whole_by, payload_of, assembled, count_of}
use Rattle.lapi_base.proofs.NameLaws.{name_eq-refl, name_eq-true}
use Rattle.lapi_base.proofs.PacketNumbers.{some-there}
use Rattle.lapi_window.specs.RecvWindow.{Receiving, is_taken, base_of}
use Rattle.lapi_reassembly.specs.Partial.{Gathered, nothing_of, with_fragment, is_whole, message, fragment}
use Rattle.lapi_reassembly.specs.Partials.{Gathering, partial, is_there, HasRoom, Agrees, IsMissing, kept_of}
use Rattle.lapi_link.specs.declared.arrival.Arrival.TheVariants.{Repeat}
use Rattle.lapi_link.specs.Receiver.{ReceivingEnd, is_complete, fragment_at, gathered_by, partial_by, partial_of, came, kept_answer, answer_of, unanswered, ReceivesFor, IsPartOnly, MayArrive, MayBring, WhatArrivesMayBeTaken, WholeIsComplete, message_of, arrival_of, gathered_with, arrival_with}
use Rattle.lapi_link.proofs.FragmentLists.{every-all, joined-map, told-at, none-yet, one-more}
use Rattle.lapi_base.proofs.HeldPackets.{number-more, number-known, packet-found, none-found, no-fragment, fragment-there}
use Rattle.lapi_link.proofs.HeldFragments.{is_some-at, bytes-at, missing-at, first-at, later-at, held-at}
use Rattle.lapi_link.proofs.LeastNumbers.{base-is}
use Rattle.lapi_link.proofs.Unanswered.{there-unanswered, or-unanswered, kept-unanswered, if-unanswered, answer-or, answer-kept}

module _ (script : Script) where
  -- What is told of a message by its fragments.
  module _ (ps : List Packet) (m : MsgName) where
    complete-is : (p : DataPacket) → is_complete script ps m p.length ≡ is_whole (gathered_by script ps m p)
    unfolding count_of whole_by
    complete-is p = every-all (fragments_in (unit_of script) p.length) (has_fragment ps m) (fragment_at script ps m) (is_some-at script ps m)

    kept-is : (p : DataPacket) → partial_by script ps m (Some p) ≡ kept_of (gathered_by script ps m p)
    kept-is p = ap (λ b. cond b None (Some (gathered_by script ps m p))) (complete-is p)

    -- packets with one head and length tell the same
    same-head : (p q : DataPacket) → (q.head ≡ p.head) × (q.length ≡ p.length) → partial_by script ps m (Some q) ≡ partial_by script ps m (Some p)
    same-head p q same =
        let by : Head → ℕ → Option Gathered = λ head len. cond (is_complete script ps m len) None (Some (record { name = m; head = head; unit = unit_of script; length = len; fragments = map (fragment_at script ps m) (numbers_below (fragments_in (unit_of script) len)); out = None })) in
        λ i. by (same.0 i) (same.1 i)

  same-fragments : (ps now : List Packet) (m : MsgName) (o : Option DataPacket) → ((j : ℕ) → fragment_at script now m j ≡ fragment_at script ps m j) → partial_by script now m o ≡ partial_by script ps m o
  same-fragments ps now m None same = refl
  same-fragments ps now m (Some p) same =
      let by : (ℕ → Option (List ℕ)) → Option Gathered = λ f. kept_of (record { name = m; head = p.head; unit = unit_of script; length = p.length; fragments = map f (numbers_below (fragments_in (unit_of script) p.length)); out = None }) in
      kept-is now m p ∙ ap by (λ i j. same j i) ∙ sym (kept-is ps m p)

  message-is : (ps : List Packet) (p : DataPacket) (out : Option HeaderOut) → record (message (gathered_by script (Data p ∷ ps) p.name p)) { out = out } ≡ message_of script ps p out
  unfolding count_of assembled
  message-is ps p out =
      let now = Data p ∷ ps in
      ap (λ bytes. record { name = p.name; head = p.head; bytes = bytes; out = out }) (joined-map (fragment_at script now p.name) (payload_of now p.name) (numbers_below (fragments_in (unit_of script) p.length)) (bytes-at script now p.name))

  -- Messages of another name stay.
  module _ (ps : List Packet) (p : DataPacket) (m : MsgName) (other : name_eq m p.name ≡ false) where
    other-fragments : (j : ℕ) → fragment_at script (Data p ∷ ps) m j ≡ fragment_at script ps m j
    other-fragments j = later-at script ps m j p (false_from_ne_true _ (λ e. both_ways _ other (and_parts (name_eq m p.name) (p.fragment == j) e).0))

    pub other-partial : partial_of script (Data p ∷ ps) m ≡ partial_of script ps m
    unfolding partial_of some_packet
    other-partial =
        ap (λ b. partial_by script (Data p ∷ ps) m (cond b (Some p) (some_packet ps m))) other
        ∙ same-fragments ps (Data p ∷ ps) m (some_packet ps m) other-fragments

  all-partials : (ps : List Packet) (p : DataPacket) (old now : MsgName → Option Gathered) → ((m : MsgName) → old m ≡ partial_of script ps m) → ((m : MsgName) → m ≢ p.name → now m ≡ old m) → now p.name ≡ partial_of script (Data p ∷ ps) p.name → (m : MsgName) → now m ≡ partial_of script (Data p ∷ ps) m
  all-partials ps p old now told others own m =
      elim (name_eq m p.name) as (λ b. name_eq m p.name ≡ b → now m ≡ partial_of script (Data p ∷ ps) m) [
        | true ↦ λ e. subst (λ (x : MsgName). now x ≡ partial_of script (Data p ∷ ps) x) (sym (name_eq-true m p.name e)) own
        | false ↦ λ e.
            others m (λ same. both_ways _ e (subst (λ (x : MsgName). name_eq x p.name ≡ true) (sym same) (name_eq-refl p.name)))
            ∙ told m ∙ sym (other-partial ps p m e)
      ] refl

  pub own-partial : (ps : List Packet) (p : DataPacket) → partial_of script (Data p ∷ ps) p.name ≡ partial_by script (Data p ∷ ps) p.name (Some p)
  unfolding partial_of some_packet
  own-partial ps p = ap (λ b. partial_by script (Data p ∷ ps) p.name (cond b (Some p) (some_packet ps p.name))) (name_eq-refl p.name)

  -- A packet that may come.
  module _ (ps : List Packet) (p : DataPacket) (fits : MayArrive script ps p) where
    -- nothing of its message has come, or a packet with its head and length
    pub before : ((some_packet ps p.name ≡ None) × (partial_of script ps p.name ≡ None)) ⊎ (partial_of script ps p.name ≡ partial_by script ps p.name (Some p))
    unfolding partial_of
    before =
        elim (some_packet ps p.name) as (λ o. some_packet ps p.name ≡ o → ((o ≡ None) × (partial_by script ps p.name o ≡ None)) ⊎ (partial_by script ps p.name o ≡ partial_by script ps p.name (Some p))) [
          | None ↦ λ e. inl (refl, refl)
          | Some q ↦ λ e. let r = packet-found ps p.name q e in inr (same-head ps p.name p q (fits.heads r.0 q r.1 r.2))
        ] refl

    numbers-now : ((n : ℕ) → has_number ps n ≡ true → n < 2 ^ 22) → (n : ℕ) → has_number (Data p ∷ ps) n ≡ true → n < 2 ^ 22
    numbers-now old n h =
        ⊎_elim
        (λ (x : (n == p.seq) ≡ true). subst (λ k. k < 2 ^ 22) (sym (eqb-true n p.seq x)) fits.number)
        (λ (x : has_number ps n ≡ true). old n x)
        (or_cases (n == p.seq) (has_number ps n) (number-more p ps n ∙ h))

    -- It came before.
    module _ (known : has_number ps p.seq ≡ true) where
      known-fragments : (j : ℕ) → fragment_at script (Data p ∷ ps) p.name j ≡ fragment_at script ps p.name j
      known-fragments j =
          let at = fits.known known in
          elim (is_fragment p.name j (Data p)) as (λ b. is_fragment p.name j (Data p) ≡ b → fragment_at script (Data p ∷ ps) p.name j ≡ fragment_at script ps p.name j) [
            | true ↦ λ e.
                let same : p.fragment ≡ j = eqb-true p.fragment j (and_parts (name_eq p.name p.name) (p.fragment == j) e).1 in
                first-at script ps p.name j p e
                ∙ sym (held-at script ps p.name j p.payload (subst (λ k. has_fragment ps p.name k ≡ true) same (fragment-there ps at.0 p at.1)) (λ k q there name of. fits.payloads k q there name (of ∙ sym same)))
            | false ↦ λ e. later-at script ps p.name j p e
          ] refl

      pub known-partial : partial_of script ps p.name ≡ partial_of script (Data p ∷ ps) p.name
      known-partial =
          let at = fits.known known in
          ⊎_elim
          (λ (x : (some_packet ps p.name ≡ None) × (partial_of script ps p.name ≡ None)). absurd (both_ways _ (none-found ps p.name x.0) (some-there ps at.0 p at.1)))
          (λ (x : partial_of script ps p.name ≡ partial_by script ps p.name (Some p)). x ∙ sym (same-fragments ps (Data p ∷ ps) p.name (Some p) known-fragments) ∙ sym (own-partial ps p))
          before

    -- Its number is new.
    module _ (fresh : has_number ps p.seq ≡ false) where
      open-before : ((some_packet ps p.name ≡ None) × (partial_of script ps p.name ≡ None)) ⊎ (partial_of script ps p.name ≡ Some (gathered_by script ps p.name p))
      open-before =
          elim before [
            | inl x ↦ inl x
            | inr x ↦ inr (x ∙ cond-false (is_complete script ps p.name p.length) None (Some (gathered_by script ps p.name p)) (fits.open_message fresh))
          ]

      within : p.fragment < fragments_in (unit_of script) p.length
      unfolding count_of
      within = fits.fragment

      so-far : unwrap_or (partial_of script ps p.name) (nothing_of (unit_of script) p.name p.head p.length) ≡ gathered_by script ps p.name p
      so-far =
          let nothing = nothing_of (unit_of script) p.name p.head p.length in
          ⊎_elim
          (λ (x : (some_packet ps p.name ≡ None) × (partial_of script ps p.name ≡ None)).
          ap (λ o. unwrap_or o nothing) x.1
          ∙ ap (λ xs. record nothing { fragments = xs }) (none-yet (fragment_at script ps p.name) (fragments_in (unit_of script) p.length) (λ j. missing-at script ps p.name j (no-fragment ps p.name j (none-found ps p.name x.0)))))
          (λ (x : partial_of script ps p.name ≡ Some (gathered_by script ps p.name p)). ap (λ o. unwrap_or o nothing) x)
          open-before

      with-one : with_fragment (gathered_by script ps p.name p) p.fragment p.payload ≡ gathered_by script (Data p ∷ ps) p.name p
      with-one =
          ap (λ xs. record (gathered_by script ps p.name p) { fragments = xs })
          (one-more (fragment_at script ps p.name) (fragment_at script (Data p ∷ ps) p.name) (fragments_in (unit_of script) p.length) p.fragment p.payload within
          (first-at script ps p.name p.fragment p (and_from _ _ (name_eq-refl p.name) (eq-eqb p.fragment p.fragment refl)))
          (λ k ne. later-at script ps p.name k p (false_from_ne_true _ (λ e. ne (sym (eqb-true p.fragment k (and_parts (name_eq p.name p.name) (p.fragment == k) e).1))))))

      -- whether some of it came before
      some-true : (q : DataPacket) → some_packet ps p.name ≡ Some q → has_some ps p.name ≡ true
      some-true q e = let r = packet-found ps p.name q e in subst (λ (m : MsgName). has_some ps m ≡ true) r.2 (some-there ps r.0 q r.1)

      some-is : is_some (partial_of script ps p.name) ≡ has_some ps p.name
      unfolding partial_of
      some-is =
          ⊎_elim
          (λ (x : (some_packet ps p.name ≡ None) × (partial_of script ps p.name ≡ None)). ap is_some x.1 ∙ sym (none-found ps p.name x.0))
          (λ (x : partial_of script ps p.name ≡ Some (gathered_by script ps p.name p)).
          elim (some_packet ps p.name) as (λ o. some_packet ps p.name ≡ o → is_some (partial_of script ps p.name) ≡ has_some ps p.name) [
            | None ↦ λ e. absurd (false≢true (sym (ap (λ o. is_some (partial_by script ps p.name o)) e) ∙ ap is_some x))
            | Some q ↦ λ e. ap is_some x ∙ sym (some-true q e)
          ] refl)
          open-before

      module _ (s : Gathering) (unit : s.unit ≡ unit_of script) (told : option_map unanswered (partial s p.name) ≡ partial_of script ps p.name) where
        gathered-is : unanswered (gathered_with s p) ≡ gathered_by script (Data p ∷ ps) p.name p
        gathered-is =
            ap (λ g. with_fragment g p.fragment p.payload) (or-unanswered (partial s p.name) (nothing_of s.unit p.name p.head p.length))
            ∙ ap (λ o. with_fragment (unwrap_or o (nothing_of s.unit p.name p.head p.length)) p.fragment p.payload) told
            ∙ ap (λ u. with_fragment (unwrap_or (partial_of script ps p.name) (nothing_of u p.name p.head p.length)) p.fragment p.payload) unit
            ∙ ap (λ g. with_fragment g p.fragment p.payload) so-far
            ∙ with-one

        whole-now : is_whole (gathered_with s p) ≡ is_complete script (Data p ∷ ps) p.name p.length
        whole-now = ap is_whole gathered-is ∙ sym (complete-is (Data p ∷ ps) p.name p)

        kept-now : option_map unanswered (kept_of (gathered_with s p)) ≡ partial_of script (Data p ∷ ps) p.name
        kept-now = kept-unanswered (gathered_with s p) ∙ ap kept_of gathered-is ∙ sym (kept-is (Data p ∷ ps) p.name p) ∙ sym (own-partial ps p)

        there-is : is_there s p.name ≡ has_some ps p.name
        there-is = sym (there-unanswered (partial s p.name)) ∙ ap is_some told ∙ some-is

        arrival-now : arrival_with (is_there s p.name) (gathered_with s p) ≡ arrival_of script ps p (kept_answer (partial s p.name))
        unfolding arrival_of
        arrival-now =
            let now = gathered_by script (Data p ∷ ps) p.name p in
            let out = kept_answer (partial s p.name) in
            let answered : (gathered_with s p).out ≡ out = answer-or (partial s p.name) s.unit p.name p.head p.length in
            ap (λ x. came (is_there s p.name) (is_whole (gathered_with s p)) (record (message (gathered_with s p)) { out = x })) answered
            ∙ ap (λ g. came (is_there s p.name) (is_whole g) (record (message g) { out = out })) gathered-is
            ∙ ap (λ b. came b (is_whole now) (record (message now) { out = out })) there-is
            ∙ sym (ap (λ b. came (has_some ps p.name) b (record (message now) { out = out })) (complete-is (Data p ∷ ps) p.name p))
            ∙ ap (λ x. came (has_some ps p.name) (is_complete script (Data p ∷ ps) p.name p.length) x) (message-is ps p out)
            ∙ sym (cond-false (has_number ps p.seq) Repeat _ fresh)

        agrees : Agrees s p.name p.head p.length
        agrees =
            if-unanswered (λ g. (g.head ≡ p.head) × (g.length ≡ p.length)) (λ g h. h) (partial s p.name) (partial_of script ps p.name) told
            (⊎_elim
            (λ (x : (some_packet ps p.name ≡ None) × (partial_of script ps p.name ≡ None)). subst (λ o. IfSome o (λ g. (g.head ≡ p.head) × (g.length ≡ p.length))) (sym x.1) tt)
            (λ (x : partial_of script ps p.name ≡ Some (gathered_by script ps p.name p)). subst (λ o. IfSome o (λ g. (g.head ≡ p.head) × (g.length ≡ p.length))) (sym x) (refl, refl))
            open-before)

        missing-now : IsMissing s p.name p.fragment
        missing-now =
            if-unanswered (λ g. fragment g p.fragment ≡ None) (λ g h. h) (partial s p.name) (partial_of script ps p.name) told
            (⊎_elim
            (λ (x : (some_packet ps p.name ≡ None) × (partial_of script ps p.name ≡ None)). subst (λ o. IfSome o (λ g. fragment g p.fragment ≡ None)) (sym x.1) tt)
            (λ (x : partial_of script ps p.name ≡ Some (gathered_by script ps p.name p)).
            subst (λ o. IfSome o (λ g. fragment g p.fragment ≡ None)) (sym x)
            (told-at (fragment_at script ps p.name) (fragments_in (unit_of script) p.length) p.fragment within ∙ missing-at script ps p.name p.fragment (fits.missing fresh)))
            open-before)

  -- a message that is there is there in part
  part-only : (ps : List Packet) (m : MsgName) → is_some (partial_of script ps m) ≡ true → IsPartOnly script ps m
  unfolding partial_of
  part-only ps m there =
      elim (some_packet ps m) as (λ o. some_packet ps m ≡ o → is_some (partial_by script ps m o) ≡ true → IsPartOnly script ps m) [
        | None ↦ λ e t. absurd (false≢true t)
        | Some p ↦ λ e t. (
          p,
          e,
          false_from_ne_true _ (λ whole. false≢true (sym (ap (λ b. is_some (cond b None (Some (gathered_by script ps m p)))) whole) ∙ t)),
        )
      ] refl there

  parts-only : (ps : List Packet) (s : Gathering) → ((m : MsgName) → option_map unanswered (partial s m) ≡ partial_of script ps m) → (ms : List MsgName) → AllByRecursion (λ m. is_there s m ≡ true) ms → AllByRecursion (IsPartOnly script ps) ms
  parts-only ps s told [] all = tt
  parts-only ps s told (m ∷ ms) all = (part-only ps m (sym (ap is_some (told m)) ∙ there-unanswered (partial s m) ∙ all.0), parts-only ps s told ms all.1)

  has-room : (ps : List Packet) (p : DataPacket) (s : Gathering) → MayArrive script ps p → has_number ps p.seq ≡ false → s.names ≡ window_of script → ((m : MsgName) → option_map unanswered (partial s m) ≡ partial_of script ps m) → (is_there s p.name ≡ true) ⊎ HasRoom s
  has-room ps p s fits fresh names told =
      ⊎_elim
      (λ (x : (some_packet ps p.name ≡ None) × (partial_of script ps p.name ≡ None)).
      inr (λ ms apart all. subst (λ n. length ms < n) (sym names) (fits.room fresh (none-found ps p.name x.0) ms apart (parts-only ps s told ms all))))
      (λ (x : partial_of script ps p.name ≡ Some (gathered_by script ps p.name p)). inl (sym (there-unanswered (partial s p.name)) ∙ ap is_some (told p.name ∙ x)))
      (open-before ps p fits fresh)

-- ---- the end

module _ (script : Script) (ps : List Packet) (p : DataPacket) (w : Receiving) (g : Gathering) (s : ReceivingEnd) (is : record { window = w; partials = g } ≡ s) (receives : ReceivesFor script s ps) (fits : MayArrive script ps p) where
  end : ReceivesFor script (record { window = w; partials = g }) ps
  end = subst (λ x. ReceivesFor script x ps) (sym is) receives

  -- the window reaches as far as the packet
  reached : p.seq < base_of w + w.window
  reached =
      let base = base-is w ps end.taken end.numbers in
      omega (arith, base, end.window, fits.reach)

  -- A number that was taken before.
  module _ (taken : is_taken w p.seq ≡ true) where
    known : has_number ps p.seq ≡ true
    known = sym (end.taken p.seq) ∙ taken

    pub repeat-kept : ReceivesFor script (record { window = w; partials = g }) (Data p ∷ ps)
    repeat-kept = record {
      window = end.window;
      sizes = end.sizes;
      taken = λ n. end.taken n ∙ number-known p ps n known;
      numbers = numbers-now script ps p fits end.numbers;
      partials = all-partials script ps p (λ m. option_map unanswered (partial g m)) (λ m. option_map unanswered (partial g m)) end.partials (λ m ne. refl) (end.partials p.name ∙ known-partial script ps p fits known);
    }

    pub repeat-arrival : (out : Option HeaderOut) → Repeat ≡ arrival_of script ps p out
    unfolding arrival_of
    repeat-arrival out = sym (cond-true (has_number ps p.seq) Repeat _ known)

  -- A number that wasn't.
  module _ (absent : is_taken w p.seq ≡ false) where
    fresh : has_number ps p.seq ≡ false
    fresh = sym (end.taken p.seq) ∙ absent

    fresh-agrees : Agrees g p.name p.head p.length
    fresh-agrees = agrees script ps p fits fresh g end.sizes.1 (end.partials p.name)

    fresh-fragment : (p.length ≤ 64 * g.unit) × (p.fragment < fragments_in g.unit p.length)
    fresh-fragment = subst (λ (u : ℕ). (p.length ≤ 64 * u) × (p.fragment < fragments_in u p.length)) (sym end.sizes.1) (fits.size, within script ps p fits fresh)

    fresh-missing : IsMissing g p.name p.fragment
    fresh-missing = missing-now script ps p fits fresh g end.sizes.1 (end.partials p.name)

    fresh-payload : IsPayload g.unit p.length p.fragment p.payload
    fresh-payload = subst (λ (u : ℕ). IsPayload u p.length p.fragment p.payload) (sym end.sizes.1) fits.payload

    fresh-room : (is_there g p.name ≡ true) ⊎ HasRoom g
    fresh-room = has-room script ps p g fits fresh end.sizes.0 end.partials

    brings : MayBring g p
    brings = record {
      message = fresh-agrees;
      size = fresh-fragment.0;
      fragment = fresh-fragment.1;
      missing = fresh-missing;
      payload = fresh-payload;
      room = fresh-room;
    }

    pub fresh-arrival : arrival_with (is_there g p.name) (gathered_with g p) ≡ arrival_of script ps p (answer_of s p.name)
    fresh-arrival = arrival-now script ps p fits fresh g end.sizes.1 (end.partials p.name) ∙ ap (λ x. arrival_of script ps p (answer_of x p.name)) is

    pub fresh-kept : (v : Receiving) (h : Gathering) → v.window ≡ w.window → ((n : ℕ) → is_taken v n ≡ (n == p.seq || is_taken w n)) → (h.names ≡ g.names) × (h.unit ≡ g.unit) → partial h p.name ≡ kept_of (gathered_with g p) → ((m : MsgName) → m ≢ p.name → partial h m ≡ partial g m) → ReceivesFor script (record { window = v; partials = h }) (Data p ∷ ps)
    fresh-kept v h size set sizes own others = record {
      window = size ∙ end.window;
      sizes = (sizes.0 ∙ end.sizes.0, sizes.1 ∙ end.sizes.1);
      taken = λ n. set n ∙ ap (λ b. n == p.seq || b) (end.taken n) ∙ number-more p ps n;
      numbers = numbers-now script ps p fits end.numbers;
      partials = all-partials script ps p (λ m. option_map unanswered (partial g m)) (λ m. option_map unanswered (partial h m)) end.partials (λ m ne. ap (option_map unanswered) (others m ne)) (ap (option_map unanswered) own ∙ kept-now script ps p fits fresh g end.sizes.1 (end.partials p.name));
    }

-- What may come may be taken.
pub may-take : WhatArrivesMayBeTaken
may-take script s ps p receives fits = record {
  number = omega (arith, fits.number);
  reach = reached script ps p s.window s.partials s refl receives fits;
  fresh = brings script ps p s.window s.partials s refl receives fits;
}

-- What is whole then is complete.
pub whole-is : WholeIsComplete
whole-is script s ps p receives fits absent = whole-now script ps p fits (sym (receives.taken p.seq) ∙ absent) s.partials receives.sizes.1 (receives.partials p.name)

-- The answers to headers.
pub answers-kept : (old new : Gathering) (p : DataPacket) → partial new p.name ≡ kept_of (gathered_with old p) → ((m : MsgName) → m ≢ p.name → partial new m ≡ partial old m) → (m : MsgName) → is_there new m ≡ true → kept_answer (partial new m) ≡ kept_answer (partial old m)
answers-kept old new p own others m there =
    elim (name_eq m p.name) as (λ b. name_eq m p.name ≡ b → kept_answer (partial new m) ≡ kept_answer (partial old m)) [
      | true ↦ λ e.
          let same = name_eq-true m p.name e in
          let here : is_some (kept_of (gathered_with old p)) ≡ true = sym (ap is_some own) ∙ subst (λ (x : MsgName). is_there new x ≡ true) same there in
          subst (λ (x : MsgName). kept_answer (partial new x) ≡ kept_answer (partial old x)) (sym same)
          (ap kept_answer own ∙ answer-kept (gathered_with old p) here ∙ answer-or (partial old p.name) old.unit p.name p.head p.length)
      | false ↦ λ e.
          ap kept_answer (others m (λ same. both_ways _ e (subst (λ (x : MsgName). name_eq x p.name ≡ true) (sym same) (name_eq-refl p.name))))
    ] refl

pub answered-for : (script : Script) (ps : List Packet) (w : Receiving) (g h : Gathering) (s : ReceivingEnd) → record { window = w; partials = g } ≡ s → ReceivesFor script s ps → (h.names ≡ g.names) × (h.unit ≡ g.unit) → ((m : MsgName) → option_map unanswered (partial h m) ≡ option_map unanswered (partial g m)) → ReceivesFor script (record { window = w; partials = h }) ps
answered-for script ps w g h s is receives sizes same =
    let end = subst (λ x. ReceivesFor script x ps) (sym is) receives in
    record {
      window = end.window;
      sizes = (sizes.0 ∙ end.sizes.0, sizes.1 ∙ end.sizes.1);
      taken = end.taken;
      numbers = end.numbers;
      partials = λ m. same m ∙ end.partials m;
    }

-- Before anything came.
pub nothing-came : (script : Script) (w : Receiving) (g : Gathering) → w.window ≡ window_of script → (g.names ≡ window_of script) × (g.unit ≡ unit_of script) → ((n : ℕ) → is_taken w n ≡ false) → ((m : MsgName) → partial g m ≡ None) → ReceivesFor script (record { window = w; partials = g }) []
unfolding has_number some_packet partial_of
nothing-came script w g window sizes none empty = record {
  window = window;
  sizes = sizes;
  taken = none;
  numbers = λ n h. absurd (false≢true h);
  partials = λ m. ap (option_map unanswered) (empty m);
}
