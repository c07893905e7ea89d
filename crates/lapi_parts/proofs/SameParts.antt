-- Two records with the same part at a task tell the same of it.
use Rattle.std.proofs.Common.{◌≡◌, ℕ, ◌+◌, false, cond, ◌&&◌, ◌||◌, not, List, [], ◌∷◌, ◌++◌, length, Option, Some, None, refl, sym, ap, ◌∙◌}
use Rattle.std.specs.Prelude.{slice_get, nat_lt}
use Rattle.std.specs.List.{flat_map}
use Rattle.lapi_base.specs.declared.script.Script.{Script}
use Rattle.lapi_base.specs.declared.rule.Rules.{Rules}
use Rattle.lapi_base.specs.declared.message.Leg.TheVariants.{Go, Back}
use Rattle.lapi_base.specs.declared.message.MsgName.{MsgName}
use Rattle.lapi_base.specs.declared.event.Event.{Event}
use Rattle.lapi_base.specs.declared.packet.Packet.{Packet}
use Rattle.lapi_base.specs.Packet.Layout.{window_of}
use Rattle.lapi_base.specs.Record.Below.{every_below, below, least_missing}
use Rattle.lapi_base.specs.Record.Names.{EventKey, Issued, Copied, Landed, message, happened}
use Rattle.lapi_base.specs.Record.Operations.{statement, sender, receiver, is_data, has_back, fragment_count}
use Rattle.lapi_base.specs.Record.Values.{Values, values}
use Rattle.lapi_base.specs.Record.Counters.{count, reads}
use Rattle.lapi_base.specs.Record.Refusals.{next, joined, refusal_of, refusals}
use Rattle.lapi_base.specs.Record.Jobs.{queue, runs}
use Rattle.lapi_base.specs.Record.Packets.{data_packet}
use Rattle.lapi_base.specs.Record.Wires.{Run, numbered, has_number, has_ack, all_numbers, base, data_done, data_clear, packet_of, packets, to_send, ack, owed_ack, to_resend}
use Rattle.lapi_base.specs.Record.Acts.{ready, copy_each, poll}
use Rattle.lapi_base.specs.Record.Atomic.{Atomic}
use Rattle.lapi_base.specs.Record.TaskPart.{events_at, Part, part_at}
use Rattle.lapi_base.specs.Record.Arrived.{assembled, ack_of}
use Rattle.lapi_base.specs.Laws.Locality.{copied, polled, SameStatements, SameLinks, SameJobs, SameMemory, IsToldByPart}
use Rattle.lapi_laws.proofs.Out.{numbered-copied}
use Rattle.lapi_laws.proofs.Sound.{Sound, add_entries}
use Rattle.lapi_laws.proofs.Lines.{SoundRun, poll-sound}
use Rattle.lapi_parts.proofs.Records.{record-sound}
use Rattle.lapi_parts.proofs.ExactBytes.{ExactRun, poll-exact, record-exact}
use Rattle.lapi_parts.proofs.LocalEvents.{next-local, numbered-local, LiesAt, happened-local, count-local, reads-local, runs-local, refusals-local}
use Rattle.lapi_parts.proofs.LocalQuestions.{by_points, joined-local, why-local, ready-local, copy_each-local, data_done-local}
use Rattle.lapi_parts.proofs.LineFrames.{ready-own}
use Rattle.lapi_parts.proofs.HandedPackets.{ack-local}
use Rattle.lapi_parts.proofs.OtherTasks.{happens-local, queue-local}
use Rattle.lapi_parts.proofs.Replay.{came, replayed, replay-agrees}

module _ (script : Script) (rules : Rules) (t : ℕ) where
  -- what a part holds, apart from the record
  pub record SamePart (r s : Run) : Type 0 where
    pub events : events_at script t r.journal ≡ events_at script t s.journal
    pub put : (b : ℕ) → r.wire t b ≡ s.wire t b
    pub handed : (a : ℕ) → r.handed a t ≡ s.handed a t
    pub owed : (a : ℕ) → r.owed a t ≡ s.owed a t

  pub same-part : (r s : Run) → part_at script t r ≡ part_at script t s → SamePart r s
  unfolding part_at
  same-part r s e = record { events = ap (λ (p : Part). p.events) e; put = λ b. ap (λ (p : Part). p.put b) e; handed = λ a. ap (λ (p : Part). p.handed a) e; owed = λ a. ap (λ (p : Part). p.owed a) e }

  module _ (r s : Run) (same : SamePart r s) where
    -- what the task's own events answer
    by-events : {A : Type 0} (f : List Event → A) → ((J : List Event) → f (events_at script t J) ≡ f J) → f r.journal ≡ f s.journal
    by-events f local = sym (local r.journal) ∙ ap f same.events ∙ local s.journal

    pub happened-same : (d : EventKey) → LiesAt script t d → happened d r.journal ≡ happened d s.journal
    happened-same d l = by-events (happened d) (happened-local script t d l)

    data_done-same : (i : ℕ) → data_done script r t i ≡ data_done script s t i
    unfolding data_done
    data_done-same i =
        let m = message t i Go in
        let b = receiver script m in
        let all = λ (K : List Event) (ps : List Packet). cond (has_back (statement script t i)) (happened (Landed (message t i Back)) K) (happened (Copied m) K && all_numbers script (numbered script K t b) m (has_ack ps)) in
        sym (data_done-local script t r i)
        ∙ ap (λ K. all K (r.handed b t)) same.events
        ∙ ap (all (events_at script t s.journal)) (same.handed b)
        ∙ data_done-local script t s i

    data_clear-same : (i : ℕ) → data_clear script r t i ≡ data_clear script s t i
    unfolding data_clear
    data_clear-same i =
        ap (every_below i) (by_points _ _ (λ j.
        ap (λ x. not (is_data (statement script t j) && x) || data_done script r t j) (happened-same (Issued t j) refl)
        ∙ ap (λ x. not (is_data (statement script t j) && happened (Issued t j) s.journal) || x) (data_done-same j)))

    pub statements-same : Atomic script rules r.journal → Atomic script rules s.journal → SameStatements script rules t r s
    statements-same ar as' = record {
      same_events = λ d at. sym (happens-local script rules t d r.journal ar at) ∙ ap (happened d) same.events ∙ happens-local script rules t d s.journal as' at;
      next = by-events (λ K. next K t) (next-local script t);
      refused = λ i. by-events (λ K. refusal_of script rules K t i) (λ K. why-local script t rules K i);
      refusals = by-events (λ K. refusals K t) (refusals-local script t);
      counters = λ c. by-events (λ K. count script rules K t c) (λ K. count-local script t rules K c);
      reads = by-events (λ K. reads script rules K t) (reads-local script t rules);
      joined = λ i. by-events (λ K. joined script K t i) (λ K. joined-local script t K i);
      data_done = data_done-same;
      clear = data_clear-same;
    }

    numbered-same : (b : ℕ) → numbered script r.journal t b ≡ numbered script s.journal t b
    numbered-same b = by-events (λ K. numbered script K t b) (λ K. numbered-local script t K b)

    ready-same : ready script r.journal t ≡ ready script s.journal t
    ready-same = by-events (λ K. ready script K t) (ready-local script t)

    base-same : (b : ℕ) → base script r t b ≡ base script s t b
    unfolding base
    base-same b =
        ap (λ (pairs : List (MsgName × ℕ)). least_missing (length pairs) (has_ack (r.handed b t))) (numbered-same b)
        ∙ ap (λ (ps : List Packet). least_missing (length (numbered script s.journal t b)) (has_ack ps)) (same.handed b)

    pub copied-same : events_at script t (copied script rules r t) ≡ events_at script t (copied script rules s t)
    copied-same =
        copy_each-local script t (ready script r.journal t) r.journal (ready-own script r.journal t)
        ∙ ap (λ K. copy_each K (ready script r.journal t)) same.events
        ∙ ap (copy_each (events_at script t s.journal)) ready-same
        ∙ sym (copy_each-local script t (ready script s.journal t) s.journal (ready-own script s.journal t))

    stale-same : (b : ℕ) → to_resend script rules r t b ≡ to_resend script rules s t b
    unfolding to_resend
    stale-same b =
        let numbers = λ (pairs : List (MsgName × ℕ)) (sent told : List Packet). below (length pairs) (λ n. has_number sent n && not (has_ack told n)) in
        ap (λ pairs. numbers pairs (r.wire t b) (r.handed b t)) (numbered-same b)
        ∙ ap (λ sent. numbers (numbered script s.journal t b) sent (r.handed b t)) (same.put b)
        ∙ ap (numbers (numbered script s.journal t b) (s.wire t b)) (same.handed b)

    fresh-same : (J K : List Event) (b : ℕ) → numbered script J t b ≡ numbered script K t b → to_send script rules r J t b ≡ to_send script rules s K t b
    unfolding to_send base
    fresh-same J K b e =
        let numbers = λ (pairs : List (MsgName × ℕ)) (sent told : List Packet). below (length pairs) (λ n. not (has_number sent n) && nat_lt n (least_missing (length pairs) (has_ack told) + window_of script)) in
        ap (λ pairs. numbers pairs (r.wire t b) (r.handed b t)) e
        ∙ ap (λ sent. numbers (numbered script K t b) sent (r.handed b t)) (same.put b)
        ∙ ap (numbers (numbered script K t b) (s.wire t b)) (same.handed b)

    -- The replays are one.
    came-same : came script rules r t ≡ came script rules s t
    came-same = by_points _ _ (λ m. ap (λ ps. assembled (fragment_count script m) ps m) (same.handed (sender script m)))

    replay-same : replayed script rules t (came script rules r t) (events_at script t r.journal) ≡ replayed script rules t (came script rules s t) (events_at script t s.journal)
    replay-same =
        ap (λ c. replayed script rules t c (events_at script t r.journal)) came-same
        ∙ ap (replayed script rules t (came script rules s t)) same.events

    module _ (sr : SoundRun script rules r) (xr : ExactRun script rules r) (ss : SoundRun script rules s) (xs : ExactRun script rules s) where
      pub memory-same : SameMemory script rules t r s
      memory-same x =
          let f = replay-agrees script rules r sr xr t in
          let g = replay-agrees script rules s ss xs t in
          sym (ap (λ (line : ℕ → ℕ). line x) (f.memory t)) ∙ ap (λ (v : Values). v.memory t x) replay-same ∙ ap (λ (line : ℕ → ℕ). line x) (g.memory t)

      pub bytes-same : (m : MsgName) → sender script m ≡ t → (values script rules r.journal).bytes m ≡ (values script rules s.journal).bytes m
      bytes-same m at =
          let f = replay-agrees script rules r sr xr t in
          let g = replay-agrees script rules s ss xs t in
          sym (f.bytes m at) ∙ ap (λ (v : Values). v.bytes m) replay-same ∙ g.bytes m at

      held-same : (m : MsgName) → receiver script m ≡ t → (values script rules r.journal).held m ≡ (values script rules s.journal).held m
      held-same m at =
          let f = replay-agrees script rules r sr xr t in
          let g = replay-agrees script rules s ss xs t in
          sym (f.held m at) ∙ ap (λ (v : Values). v.held m) replay-same ∙ g.held m at

      pub jobs-same : SameJobs script rules t r s
      jobs-same = record {
        waiting = sym (queue-local script rules t r.journal sr.atomic) ∙ ap (λ K. queue script rules K t) same.events ∙ queue-local script rules t s.journal ss.atomic;
        running = λ w. by-events (λ K. runs K t w) (λ K. runs-local script t K w);
        held = held-same;
      }

  -- Packets of the same numbers of messages with the same bytes.
  packets-same : (J K : List Event) (b : ℕ) (numbers : List ℕ) → numbered script J t b ≡ numbered script K t b → ((m : MsgName) → sender script m ≡ t → (values script rules J).bytes m ≡ (values script rules K).bytes m) → packets script rules J t b numbers ≡ packets script rules K t b numbers
  unfolding packets
  packets-same J K b numbers e bytes =
      ap (λ (f : ℕ → List Packet). flat_map f numbers) (by_points _ _ (λ n.
      ap (packet_of script rules J n) (ap (λ (pairs : List (MsgName × ℕ)). slice_get pairs n) e)
      ∙ one n (slice_get (numbered script K t b) n) refl))
    where
      one : (n : ℕ) (o : Option (MsgName × ℕ)) → slice_get (numbered script K t b) n ≡ o → packet_of script rules J n o ≡ packet_of script rules K n o
      one n None at = refl
      one n (Some pair) at = ap (λ (bs : List ℕ). data_packet script pair.0 n pair.1 bs ∷ []) (bytes pair.0 (numbered-copied script K t b n pair at).1)

  module _ (r s : Run) (same : SamePart r s) (sr : SoundRun script rules r) (xr : ExactRun script rules r) (ss : SoundRun script rules s) (xs : ExactRun script rules s) where
    -- what the task owes is told by what was handed to it
    owed-same : (a : ℕ) → owed_ack script rules r a t ≡ owed_ack script rules s a t
    unfolding owed_ack
    owed-same a =
        let told = ack-local script rules r a t (sr.hands a t) ∙ ap (λ ps. ack_of script ps a t) (same.handed a) ∙ sym (ack-local script rules s a t (ss.hands a t)) in
        ap (λ o. cond o (ack script rules r a t ∷ []) []) (same.owed a) ∙ ap (λ k. cond (s.owed a t) (k ∷ []) []) told

    -- the records after a Poll have the same events and the same packets handed over at the task
    polled-same : (b : ℕ) → polled script rules r t b ≡ polled script rules s t b
    unfolding poll
    polled-same b =
        let J = copied script rules r t in
        let K = copied script rules s t in
        let events = copied-same r s same in
        let u : Run = record { replies = []; wire = λ x y. []; handed = r.handed; owed = λ x y. false; journal = J } in
        let v : Run = record { replies = []; wire = λ x y. []; handed = s.handed; owed = λ x y. false; journal = K } in
        let alike : SamePart u v = record { events = events; put = λ c. refl; handed = same.handed; owed = λ a. refl } in
        let pr = poll-sound script rules r t sr in
        let ps = poll-sound script rules s t ss in
        let pairs = sym (numbered-local script t J b) ∙ ap (λ L. numbered script L t b) events ∙ numbered-local script t K b in
        let bytes = bytes-same u v alike (bare u.handed J pr) (plain u.handed J (poll-exact script rules r t sr pr xr)) (bare v.handed K ps) (plain v.handed K (poll-exact script rules s t ss ps xs)) in
        ap (λ ps. ps ++ owed_ack script rules r b t) (packets-same J K b (to_send script rules r J t b) pairs bytes ∙ ap (packets script rules K t b) (fresh-same r s same J K b pairs))
        ∙ ap (λ ps. packets script rules K t b (to_send script rules s K t b) ++ ps) (owed-same b)
      where
        -- a run without its wires is sound and exact as well
        bare : (handed : ℕ → ℕ → List Packet) (L : List Event) {wire : ℕ → ℕ → List Packet} → Sound script rules L wire handed → Sound script rules L (λ x y. []) handed
        bare handed L {wire = wire} h = add_entries script rules L wire (λ x y. []) handed (λ x y. tt) h

        plain : (handed : ℕ → ℕ → List Packet) (L : List Event) {q : Run} → ExactRun script rules q → ExactRun script rules (record { replies = []; wire = λ x y. []; handed = q.handed; owed = λ x y. false; journal = q.journal })
        plain handed L x = record { wires = λ x y. tt; hands = x.hands }

    pub links-same : SameLinks script rules t r s
    links-same = record {
      numbers = numbered-same r s same;
      base = base-same r s same;
      ready = ready-same r s same;
      copied = copied-same r s same;
      polled = polled-same;
      ticked = λ b. packets-same r.journal s.journal b (to_resend script rules r t b) (numbered-same r s same b) (bytes-same r s same sr xr ss xs) ∙ ap (packets script rules s.journal t b) (stale-same r s same b);
    }

-- the laws
pub told-statements : IsToldByPart SameStatements
told-statements script rules t r s ir is e = statements-same script rules t r s (same-part script rules t r s e) (record-sound script rules r ir).atomic (record-sound script rules s is).atomic

pub told-links : IsToldByPart SameLinks
told-links script rules t r s ir is e = links-same script rules t r s (same-part script rules t r s e) (record-sound script rules r ir) (record-exact script rules r ir) (record-sound script rules s is) (record-exact script rules s is)

pub told-jobs : IsToldByPart SameJobs
told-jobs script rules t r s ir is e = jobs-same script rules t r s (same-part script rules t r s e) (record-sound script rules r ir) (record-exact script rules r ir) (record-sound script rules s is) (record-exact script rules s is)

pub told-memory : IsToldByPart SameMemory
told-memory script rules t r s ir is e = memory-same script rules t r s (same-part script rules t r s e) (record-sound script rules r ir) (record-exact script rules r ir) (record-sound script rules s is) (record-exact script rules s is)
