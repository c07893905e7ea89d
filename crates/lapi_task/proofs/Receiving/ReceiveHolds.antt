-- What a task holds after a packet came.
use Rattle.std.proofs.Common.{Option, ◌≡◌, ℕ, ◌+◌, ◌<◌, ◌==◌, Bool, true, false, cond, ◌&&◌, not, List, [], ◌∷◌, ◌++◌, length, None, Some, refl, sym, ap, ◌∙◌, subst, arith, add-zero}
use Rattle.std.specs.Prelude.{nat_le, slice_get, slice_index}
use Rattle.std.proofs.lemmas.Bool.{and_parts, leb-true}
use Rattle.lapi_base.specs.declared.script.Script.{Script}
use Rattle.lapi_base.specs.declared.rule.Rules.{Rules}
use Rattle.lapi_base.specs.declared.event.Event.{Event}
use Rattle.lapi_base.specs.declared.head.Head.{Head}
use Rattle.lapi_base.specs.declared.head.Head.TheVariants as heads
use Rattle.lapi_base.specs.declared.message.MsgName.{MsgName}
use Rattle.lapi_base.specs.declared.packet.Packet.TheVariants.{Data}
use Rattle.lapi_base.specs.declared.packet.DataPacket.{DataPacket}
use Rattle.lapi_base.specs.Record.Arrived.{whole_by, is_whole, assembled, count_of}
use Rattle.lapi_base.specs.Record.Counters.{count}
use Rattle.lapi_base.specs.Record.Handlers.{has_completion, word_bytes, buffer, kept_place}
use Rattle.lapi_base.specs.Record.Atomic.{Atomic}
use Rattle.lapi_base.specs.declared.handler.HeaderOut.{HeaderOut}
use Rattle.lapi_base.specs.Laws.Receiving.{SpansAreInMemory}
use Rattle.lapi_base.specs.Record.HeadSays.{is_active, announces, lands, head_pieces}
use Rattle.lapi_base.specs.Record.Operations.{statements, fragment_count}
use Rattle.lapi_base.specs.Record.Wires.{Run, is_delivered}
use Rattle.lapi_base.specs.Record.Acts.{followed, deliver, perform}
use Rattle.lapi_base.specs.declared.schedule.Act.TheVariants.{Deliver}
use Rattle.lapi_base.specs.Laws.Landing.{completes}
use Rattle.lapi_base.specs.Record.Refusals.{option_any}
use Rattle.lapi_base.specs.Record.WorldView.{performed, IsRecord}
use Rattle.lapi_base.specs.Record.Values.{Write, values, memory_bytes, byte_after, scattered}
use Rattle.lapi_base.proofs.BelowLaws.{below-same}
use Rattle.lapi_base.proofs.UptoLaws.{over-same}
use Rattle.lapi_parts.proofs.ArrivingPackets.{counts-is}
use Rattle.lapi_parts.proofs.CarriedLengths.{carried-length}
use Rattle.lapi_parts.proofs.Deliveries.{deliveries-write, deliveries-announce}
use Rattle.lapi_parts.proofs.WholeMessages.{assembled-bytes}
use Rattle.lapi_task.specs.declared.state.State.{State}
use Rattle.lapi_reassembly.specs.declared.message.Message.{Message}
use Rattle.lapi_task.specs.Landed.{FewWait, ArrivalJoins, called, head_writes, memory_after, counters_after, jobs_after, events_of}
use Rattle.lapi_task.specs.Answered.{answer_to, completion_in, completes_in, kept_pieces, job_with}
use Rattle.lapi_task.specs.HasJobs.{pending, HasJobs}
use Rattle.lapi_jobs.specs.Jobs.{Works}
use Rattle.lapi_task.specs.StandsFor.{HoldsFor, is_uncopied}
use Rattle.lapi_task.proofs.Following.HeaderAnswers.{announces-same, is-told, job-told, pending-told}
use Rattle.lapi_task.proofs.Following.JobsLand.{jobs-come}
use Rattle.lapi_task.proofs.Following.JoinsLand.{head-joins, rounds-come}
use Rattle.lapi_task.proofs.Stepping.StepMemories.{memory-length}
use Rattle.lapi_task.proofs.Receiving.ReceiveCounts.{announced-length, announced-at}
use Rattle.lapi_task.proofs.Receiving.ReceiveEvents.{come, came_bytes, is_all, is_opening, come-mild, mild-all, same-messages}
use Rattle.lapi_task.proofs.Receiving.ReceiveKinds.{Comes, IsThere, there-is}
use Rattle.lapi_task.proofs.Copying.UncopiedLaws.{uncopied-same}
use Rattle.lapi_task.proofs.Following.Landings.{WritesWithin, writes-over, scattered-within, writes-are}

-- what comes of a packet from task a took effect in what a task holds
pub record Lands (a count : ℕ) (arrival : Option Message) (before after : State) : Type 0 where
  pub memory : after.memory ≡ memory_after arrival before.memory
  pub counters : after.counters ≡ counters_after count arrival before.counters
  pub jobs : after.jobs ≡ jobs_after (length before.memory) count arrival before.jobs
  pub few : FewWait before.jobs → FewWait after.jobs
  pub joins : ArrivalJoins a arrival before.collective after.collective
  pub rest : after ≡ record before { memory = after.memory; counters = after.counters; jobs = after.jobs; collective = after.collective }

module _ (script : Script) (rules : Rules) (t : ℕ) where
  -- The memory, by the law of deliveries;
  abbrev place : List Event → ℕ → ℕ
  place J x = (values script rules J).memory t x

  abbrev WritesAs : (whole : Bool) → MsgName → Head → (n : ℕ) → List ℕ → (J K : List Event) → Type 0
  WritesAs whole m h n bytes J K = (x : ℕ) → place K x ≡ cond whole (byte_after (lands script rules (values script rules J).memory t m h n bytes) x (place J x)) (place J x)

  kept-within : (len : ℕ) (out : Option HeaderOut) → SpansAreInMemory script (kept_pieces script.memory len out)
  kept-within len None = tt
  kept-within len (Some out) = placed out.place
    where
      placed : (place : Option ℕ) → SpansAreInMemory script (kept_place script.memory len place)
      placed None = tt
      placed (Some at) =
          elim (nat_le (at + len) script.memory) as (λ b. nat_le (at + len) script.memory ≡ b → SpansAreInMemory script (cond b (record { at = at; len = len } ∷ []) [])) [
            | true ↦ λ e. (leb-true (at + len) script.memory e, tt)
            | false ↦ λ e. tt
          ] refl

  writes-within : (memory : List ℕ) (h : Head) (out : Option HeaderOut) (bytes : List ℕ) → length memory ≡ script.memory → IsThere script rules h (length bytes) → WritesWithin script.memory (head_writes h out bytes memory)
  unfolding word_bytes
  writes-within memory (heads.RmwGo op at in1 in2 prev org) out bytes size there = (there.asked.0, tt)
  writes-within memory (heads.Am handler tgt cmpl header) out bytes size there = subst (λ n. WritesWithin script.memory (scattered (kept_pieces n (length bytes) out) bytes)) (sym size) (scattered-within script (kept_pieces script.memory (length bytes) out) bytes (kept-within (length bytes) out))
  writes-within memory h out bytes size there = scattered-within script (head_pieces h (length bytes)) bytes there.pieces

  memory-come : (whole : Bool) (m : MsgName) (h : Head) (n : ℕ) (bytes : List ℕ) (out : Option HeaderOut) (J K : List Event) → IsThere script rules h n → (whole ≡ true → length bytes ≡ n) → (is_active h ≡ true → buffer script rules m ≡ kept_pieces script.memory n out) → WritesAs whole m h n bytes J K → memory_after (come whole m h bytes out) (memory_bytes script rules J t) ≡ memory_bytes script rules K t
  unfolding memory_bytes
  memory-come false m h n bytes out J K there size keeps w = over-same (place J) (place K) script.memory (λ x. sym (w x))
  memory-come true m h n bytes out J K there size keeps w =
      let memory = memory_bytes script rules J t in
      let own : IsThere script rules h (length bytes) = subst (IsThere script rules h) (sym (size refl)) there in
      let ws = head_writes h out bytes memory in
      let same : ws ≡ lands script rules (values script rules J).memory t m h n bytes = writes-are script rules J t m h out bytes own.asked (λ on. keeps on ∙ ap (λ len. kept_pieces script.memory len out) (sym (size refl))) ∙ ap (λ len. lands script rules (values script rules J).memory t m h len bytes) (size refl) in
      writes-over (place J) script.memory ws (writes-within memory h out bytes (memory-length script rules J t) own)
      ∙ over-same (λ x. byte_after ws x (place J x)) (place K) script.memory (λ x. ap (λ (us : List Write). byte_after us x (place J x)) same ∙ sym (w x))

  -- and the counters.
  abbrev Announces : (whole completion : Bool) → Head → (J K : List Event) → Type 0
  Announces whole completion h J K = (c : ℕ) → count script rules K t c ≡ count script rules J t c + cond (whole && option_any (λ d. d == c) (announces h completion)) 1 0

  counters-length : (count : ℕ) (whole : Bool) (m : MsgName) (h : Head) (bytes : List ℕ) (out : Option HeaderOut) (counters : List ℕ) → length (counters_after count (come whole m h bytes out) counters) ≡ length counters
  counters-length count false m h bytes out counters = refl
  counters-length count true m h bytes out counters = announced-length counters (announces h (completes_in count out))

  counters-come : (handlers : ℕ) (whole completion : Bool) (m : MsgName) (h : Head) (bytes : List ℕ) (out : Option HeaderOut) (counters : List ℕ) (J K : List Event) → (is_active h ≡ true → completion ≡ completes_in handlers out) → Announces whole completion h J K → (c : ℕ) → c < length counters → slice_index counters c ≡ count script rules J t c → slice_index (counters_after handlers (come whole m h bytes out) counters) c ≡ count script rules K t c
  counters-come handlers false completion m h bytes out counters J K told w c l e = e ∙ sym (add-zero _) ∙ sym (w c)
  counters-come handlers true completion m h bytes out counters J K told w c l e =
      announced-at counters (announces h (completes_in handlers out)) c l
      ∙ ap (λ n. n + cond (option_any (λ d. d == c) (announces h (completes_in handlers out))) 1 0) e
      ∙ ap (λ o. count script rules J t c + cond (option_any (λ d. d == c) o) 1 0) (sym (announces-same h completion (completes_in handlers out) told))
      ∙ sym (w c)

  -- What came whole is as long as the packet says.
  pub came-length : (r : Run) (a : ℕ) (p : DataPacket) → Comes script rules r a t p → is_all script (r.handed a t) p ≡ true → length (came_bytes script (r.handed a t) p) ≡ p.length
  unfolding is_whole
  came-length r a p h all =
      let f = h.facts in
      let ps = Data p ∷ r.handed a t in
      let counts : fragment_count script p.name ≡ count_of script p.length = counts-is script rules p.name ∙ ap (count_of script) (sym f.size) in
      let whole : is_whole script ps p.name ≡ true = ap (λ n. whole_by n ps p.name) counts ∙ all in
      ap length (ap (λ n. assembled n ps p.name) (sym counts) ∙ assembled-bytes script rules r.journal p.name ps f.atomic f.copied f.exact whole)
      ∙ carried-length script rules r.journal p.name f.atomic f.copied
      ∙ sym f.size

  pub delivers : (r : Run) (a k : ℕ) → performed script rules r (Deliver a t k) ≡ deliver script rules r a t k
  unfolding performed perform
  delivers r a k = refl

  -- where no job is named, or the message is an active one
  on-active : (h : Head) (n : ℕ) (out : Option HeaderOut) → (is_active h ≡ false → out ≡ None) → (c : ℕ) → completion_in n out ≡ Some c → is_active h ≡ true
  on-active h n out none c e =
      elim (is_active h) as (λ b. is_active h ≡ b → b ≡ true) [
        | true ↦ λ _. refl
        | false ↦ λ off. let q : None ≡ Some c = sym (ap (completion_in n) (none off)) ∙ e in absurd (cc)
      ] refl

  -- the events of the delivery, and what lands with it
  abbrev pub answer_now : DataPacket → Option HeaderOut
  answer_now p = answer_to rules p.name p.head p.length

  abbrev pub handlers_now : ℕ
  handlers_now = length rules.completions

  abbrev pub lands_now : Run → (from : ℕ) → DataPacket → Option Message
  lands_now r a p = come (completes script rules r a t p) p.name p.head (came_bytes script (r.handed a t) p) (answer_now p)

  abbrev pub events_now : Run → (from : ℕ) → DataPacket → List Event
  events_now r a p = called (is_opening (r.handed a t) p) p.name p.head ++ events_of handlers_now (lands_now r a p)

  pub holds-arrived : (r : Run) (a k : ℕ) (p : DataPacket) → IsRecord script rules r → slice_get (r.wire a t) k ≡ Some (Data p) → Comes script rules r a t p → let K = followed r.journal (events_now r a p) in (deliver script rules r a t k).journal ≡ K → Atomic script rules K →
      (before after : State) → HoldsFor script rules t before r.journal →
      Lands a handlers_now (lands_now r a p) before after →
      HoldsFor script rules t after K
  holds-arrived r a k p is entry c journal atomic before after h g =
      let J = r.journal in
      let K = followed J (events_now r a p) in
      let whole = completes script rules r a t p in
      let first = is_opening (r.handed a t) p in
      let bytes = came_bytes script (r.handed a t) p in
      let out = answer_now p in
      let told = is-told script rules r is a t k p entry in
      let completion = has_completion script rules p.name.origin p.name.statement in
      let same = mild-all script rules t (events_now r a p) J (come-mild handlers_now first whole p.name p.head bytes out) in
      let to : (performed script rules r (Deliver a t k)).journal ≡ K = ap (λ (x : Run). x.journal) (delivers r a k) ∙ journal in
      let writes : WritesAs whole p.name p.head p.length bytes J K = λ x. ap (λ L. place L x) (sym to) ∙ deliveries-write script rules r is a t k x p entry in
      let tells : Announces whole completion p.head J K = λ d. ap (λ L. count script rules L t d) (sym to) ∙ deliveries-announce script rules r is a t k d p entry in
      let next = ap (λ (x : State). x.next) g.rest in
      let size : length before.memory ≡ script.memory = ap length h.memory ∙ memory-length script rules J t in
      let long : whole ≡ true → length bytes ≡ p.length = λ e. came-length r a p c (and_parts (not (is_delivered r a t p.seq)) (is_all script (r.handed a t) p) e).1 in
      let named : (d : ℕ) → whole ≡ true → completion_in handlers_now out ≡ Some d → job_with (length before.memory) p.name p.head (length bytes) out d ≡ pending script rules p.name = λ d e chosen.
      ap (λ n. job_with n p.name p.head (length bytes) out d) size
      ∙ ap (λ n. job_with script.memory p.name p.head n out d) (long e)
      ∙ pending-told script rules r is a t k p entry d (on-active p.head handlers_now out told.none d chosen) chosen in
      record {
        number = ap (λ (x : State). x.number) g.rest ∙ h.number;
        next = next ∙ h.next ∙ sym same.next;
        ahead = λ i l. same.issued i ∙ h.ahead i (omega (arith, l, next));
        reads = ap (λ (x : State). x.reads.items) g.rest ∙ h.reads ∙ sym same.reads;
        refusals = ap (λ (x : State). x.refusals.items) g.rest ∙ h.refusals ∙ sym same.refusals;
        memory =
            g.memory
            ∙ ap (memory_after (lands_now r a p)) h.memory
            ∙ memory-come whole p.name p.head p.length bytes out J K (there-is script rules p.head p.length c.kind c.fits.head) long told.keeps writes;
        counter_count = ap length g.counters ∙ counters-length handlers_now whole p.name p.head bytes out before.counters ∙ h.counter_count;
        counters = λ d l. ap (λ xs. slice_index xs d) g.counters ∙ counters-come handlers_now whole completion p.name p.head bytes out before.counters J K told.completes tells d (let n = h.counter_count in omega (arith, l, n)) (h.counters d l);
        uncopied = ap (λ (x : State). x.uncopied.items) g.rest ∙ h.uncopied ∙ below-same (length (statements script t)) (is_uncopied script J t) (is_uncopied script K t) (λ i _. uncopied-same script t J K i (same-messages script rules t J K i same));
        jobs =
            let few = g.few (let x = h.jobs in x.few) in
            subst (λ (x : Works). HasJobs script rules t x K) (sym g.jobs)
            (jobs-come script rules t first whole p.name p.head bytes out (length before.memory) handlers_now before.jobs J atomic (job-told script rules r is a t k p entry) named (subst FewWait g.jobs few) h.jobs);
        rounds = rounds-come script rules t first whole p.name p.head bytes out handlers_now a before.collective after.collective J atomic (head-joins script rules t r is a k p entry) g.joins h.rounds;
      }
