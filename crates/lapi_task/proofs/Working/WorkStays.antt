-- What the begin and the end of a job, and what follows it, leave of what a task did and of its links.
use Rattle.std.proofs.Common.{◌≡◌, ℕ, ◌<◌, ◌≤◌, ◌==◌, false, ◌&&◌, List, ◌∷◌, length, Option, Some, None, refl, sym, ap, ◌∙◌, subst}
use Rattle.std.specs.Prelude.{slice_get, slice_index}
use Rattle.std.proofs.lemmas.Bool.{and_right}
use Rattle.lapi_base.specs.declared.script.Script.{Script}
use Rattle.lapi_base.specs.declared.rule.Rules.{Rules}
use Rattle.lapi_base.specs.declared.event.Event.{Event}
use Rattle.lapi_base.specs.declared.event.Event.TheVariants.{Copy, Begin, End}
use Rattle.lapi_base.specs.declared.message.Leg.TheVariants.{Go, Back, Join}
use Rattle.lapi_base.specs.declared.message.MsgName.{MsgName}
use Rattle.lapi_base.specs.Record.Counters.{count, reads}
use Rattle.lapi_base.specs.Record.Names.{message, leg_eq, name_eq, key_of, key_eq, Issued, Landed}
use Rattle.lapi_base.specs.Record.Operations.{statements}
use Rattle.lapi_base.specs.Record.Refusals.{next, refusals}
use Rattle.lapi_base.specs.Record.Values.{values, memory_bytes}
use Rattle.lapi_base.specs.Record.Wires.{Run, numbered}
use Rattle.lapi_base.proofs.BelowLaws.{below-same}
use Rattle.lapi_base.proofs.NameLaws.{happened-other}
use Rattle.lapi_link.specs.Sender.{SendingEnd}
use Rattle.lapi_task.specs.declared.state.State.{State}
use Rattle.lapi_task.specs.declared.task.Task.{Task}
use Rattle.lapi_task.specs.HasJobs.{HasJobs}
use Rattle.lapi_task.specs.Sends.{packet_at}
use Rattle.lapi_task.specs.StandsFor.{is_uncopied, SenderAt, HoldsFor, StandsFor}
use Rattle.lapi_task.proofs.Joining.RoundsStay.{JoinsNone, rounds-stay}
use Rattle.lapi_task.proofs.Stepping.StepLaws.{IsQuiet}
use Rattle.lapi_task.proofs.Standing.Tags.{tags-same}
use Rattle.lapi_task.proofs.Receiving.ReceiveEvents.{is_polled, polled-apart}
use Rattle.lapi_task.proofs.Copying.UncopiedLaws.{LeavesMessages, uncopied-stays}
use Rattle.lapi_task.proofs.Acknowledging.UnfinishedLaws.{tracks-stay, quiet-stays}

-- the begin or the end of a job, or a copy that no poll makes
abbrev pub IsWork : Event → Type 0
IsWork (Begin m t w) = Unit {0}
IsWork (End m t w) = Unit {0}
IsWork (Copy m) = is_polled m.leg ≡ false
IsWork _ = ⊥

module _ (script : Script) (rules : Rules) (t : ℕ) where
  -- the task did as much as before
  record DidNoMore (e : Event) (J : List Event) : Type 0 where
    pub next : next (e ∷ J) t ≡ next J t
    pub issued : (i : ℕ) → key_eq (Issued t i) (key_of e) ≡ false
    pub copied : (i : ℕ) → LeavesMessages script t e i
    pub joins : JoinsNone t e
    pub reads : reads script rules (e ∷ J) t ≡ reads script rules J t
    pub refusals : refusals (e ∷ J) t ≡ refusals J t

  work-more : (e : Event) (J : List Event) → IsWork e → DidNoMore e J
  unfolding next reads refusals name_eq
  work-more (Begin m a w) J h = record { next = refl; issued = λ i. refl; copied = λ i. record { issued = refl; entered = refl; data_copied = refl; joins_copied = λ d. refl }; joins = record { entered = λ i. refl; landed = λ d j. refl }; reads = refl; refusals = refl }
  work-more (End m a w) J h = record { next = refl; issued = λ i. refl; copied = λ i. record { issued = refl; entered = refl; data_copied = refl; joins_copied = λ d. refl }; joins = record { entered = λ i. refl; landed = λ d j. refl }; reads = refl; refusals = refl }
  work-more (Copy m) J h = record {
    next = refl;
    issued = λ i. refl;
    copied = λ i. record {
      issued = refl;
      entered = refl;
      data_copied = and_right (t == m.origin && i == m.statement) (leg_eq Go m.leg) (polled-apart Go m.leg refl h);
      joins_copied = λ d. and_right (t == m.origin && i == m.statement) (leg_eq (Join d) m.leg) (polled-apart (Join d) m.leg refl h);
    };
    joins = record { entered = λ i. refl; landed = λ d j. refl };
    reads = refl;
    refusals = refl;
  }
  work-more _ J h = absurd h

  work-lands : (e : Event) (i : ℕ) → IsWork e → key_eq (Landed (message t i Back)) (key_of e) ≡ false
  work-lands (Begin m a w) i h = refl
  work-lands (End m a w) i h = refl
  work-lands (Copy m) i h = refl
  work-lands _ i h = absurd h

  -- what the event made of the memory, the counters and the jobs of a task
  pub record Made (e : Event) (J : List Event) (before after : State) : Type 0 where
    pub memory : after.memory ≡ memory_bytes script rules (e ∷ J) t
    pub counter_count : length after.counters ≡ script.counters
    pub counters : (c : ℕ) → c < script.counters → slice_index after.counters c ≡ count script rules (e ∷ J) t c
    pub jobs : HasJobs script rules t after.jobs (e ∷ J)
    pub rest : after ≡ record before { memory = after.memory; counters = after.counters; jobs = after.jobs }

  pub work-holds : (e : Event) (J : List Event) (before after : State) → IsWork e → HoldsFor script rules t before J → Made e J before after → HoldsFor script rules t after (e ∷ J)
  work-holds e J before after is h g =
      let did = work-more e J is in record {
        number = ap (λ (x : State). x.number) g.rest ∙ h.number;
        next = ap (λ (x : State). x.next) g.rest ∙ h.next ∙ sym did.next;
        ahead = λ i l. happened-other (Issued t i) e J (did.issued i) ∙ h.ahead i (subst (λ n. n ≤ i) (ap (λ (x : State). x.next) g.rest) l);
        reads = ap (λ (x : State). x.reads.items) g.rest ∙ h.reads ∙ sym did.reads;
        refusals = ap (λ (x : State). x.refusals.items) g.rest ∙ h.refusals ∙ sym did.refusals;
        memory = g.memory;
        counter_count = g.counter_count;
        counters = g.counters;
        uncopied = ap (λ (x : State). x.uncopied.items) g.rest ∙ h.uncopied ∙ below-same (length (statements script t)) (is_uncopied script J t) (is_uncopied script (e ∷ J) t) (λ k _. uncopied-stays script t e J k (did.copied k));
        jobs = g.jobs;
        rounds = rounds-stay script t e J did.joins before.collective after.collective (ap (λ (x : State). x.collective) g.rest) did.next h.rounds;
      }

  -- ---- the links

  pub begin-quiet : (m : MsgName) (w : ℕ) (J : List Event) → IsQuiet script rules (Begin m t w) J
  unfolding numbered packet_at values
  begin-quiet m w J = record { numbers = λ a b. refl; packets = λ a b n. refl }

  pub end-quiet : (m : MsgName) (w : ℕ) (J : List Event) → IsQuiet script rules (End m t w) J
  unfolding numbered packet_at values
  end-quiet m w J = record { numbers = λ a b. refl; packets = λ a b n. refl }

  abbrev pub with_event : Run → Event → Run
  with_event r e = record r { journal = e ∷ r.journal }

  pub sender-quiet : (r : Run) (e : Event) (b : ℕ) (o : Option SendingEnd) → IsQuiet script rules e r.journal → SenderAt script rules r t b o → SenderAt script rules (with_event r e) t b o
  sender-quiet r e b None q h = absurd h
  sender-quiet r e b (Some s) q h = record {
    numbers = record { size = h.numbers.size; numbers = h.numbers.numbers ∙ sym (ap length (q.numbers t b)); sent = h.numbers.sent; acked = h.numbers.acked };
    whole = h.whole;
    kept = λ n l u. h.kept n l u ∙ sym (q.packets t b n);
    waiting = λ i. h.waiting i ∙ sym (q.packets t b _);
    tags = tags-same script s r.journal (e ∷ r.journal) t b (q.numbers t b) h.tags;
  }

  pub work-stands : (r : Run) (e : Event) (before : Task) (after : State) → IsWork e → IsQuiet script rules e r.journal → StandsFor script rules t before r → Made e r.journal before.state after → StandsFor script rules t (record before { state = after }) (with_event r e)
  work-stands r e before after is q h g = record {
    calls = record { valid = h.calls.valid; rules_valid = h.calls.rules_valid; sizes = h.calls.sizes; statements = h.calls.statements; limits = h.calls.limits; rounds = h.calls.rounds };
    holds = work-holds e r.journal before.state after is h.holds g;
    unfinished = let did = work-more e r.journal is in tracks-stay script rules t before.unfinished r (with_event r e) (λ i. quiet-stays script rules t r e i (λ b. q.numbers t b) (did.issued i) (did.copied i).data_copied (work-lands e i is)) h.unfinished;
    sender_count = h.sender_count;
    receiver_count = h.receiver_count;
    senders = λ b l. sender-quiet r e b (slice_get before.senders.items b) q (h.senders b l);
    receivers = h.receivers;
    owed_count = h.owed_count;
    owed = h.owed;
  }
