-- Where nothing is under way, and no message is an active one, a record is quiet.
use Rattle.std.proofs.Common.{◌≡◌, ℕ, ◌+◌, ◌<◌, ◌==◌, true, false, ◌&&◌, not, [], ◌∷◌, length, Some, None, refl, ap, ◌∙◌, subst}
use Rattle.std.specs.Prelude.{nat_lt}
use Rattle.std.specs.List.{AllByRecursion}
use Rattle.std.proofs.lemmas.Bool.{and_parts, and_left, both_ways, lt-ltb}
use Rattle.lapi_base.specs.declared.script.Script.{Script}
use Rattle.lapi_base.specs.declared.rule.Rules.{Rules}
use Rattle.lapi_base.specs.declared.message.MsgName.{MsgName}
use Rattle.lapi_base.specs.declared.message.Leg.TheVariants.{Go}
use Rattle.lapi_base.specs.Packet.Layout.{window_of}
use Rattle.lapi_base.specs.Record.Names.{leg_eq, Copied, Landed, Begun, happened}
use Rattle.lapi_base.specs.Record.Operations.{statement, receiver, is_am}
use Rattle.lapi_base.specs.Record.Handlers.{has_completion}
use Rattle.lapi_base.specs.Record.Jobs.{is_job, queue, runs}
use Rattle.lapi_base.specs.Record.Wires.{Run, numbered, base, has_number, is_number, is_sent, is_acked, to_send}
use Rattle.lapi_base.specs.Record.Acts.{ready}
use Rattle.lapi_base.specs.Record.Atomic.{has_statement, has_message}
use Rattle.lapi_base.specs.Record.Final.{Quiet}
use Rattle.lapi_base.proofs.ListLaws.{any-all, list_all-at}
use Rattle.lapi_laws.proofs.Backward.{there}
use Rattle.lapi_laws.proofs.Workers.{Waiting, queue-waiting, begun}
use Rattle.lapi_laws.proofs.Out.{numbered-copied}
use Rattle.lapi_laws.proofs.Sound.{Fits, number-known}
use Rattle.lapi_laws.proofs.Lines.{SoundRun}
use Rattle.lapi_base.proofs.BelowLaws.{below-none}
use Rattle.lapi_epochs.specs.Epochs.{Has}
use Rattle.lapi_flush.specs.Settled.{IsSettled, HasNoNotes}
use Rattle.lapi_epochs.proofs.EpochOrder.{has-of}
use Rattle.lapi_flush.proofs.NoneOwed.{IsPaid}
use Rattle.lapi_flush.proofs.ServedParts.{place-below}
use Rattle.lapi_flush.proofs.SettledRecords.{ends-there}

module _ (script : Script) (rules : Rules) (plain : (a i : ℕ) → Has script a i → is_am (statement script a i) ≡ false) (none : HasNoNotes script rules) (r : Run) (sound : SoundRun script rules r) (paid : IsPaid script rules r) (s : IsSettled script rules r) where
  no-active : (m : MsgName) → has_message script rules m ≡ true → is_am (statement script m.origin m.statement) ≡ true → ⊥
  no-active m h am = both_ways _ (plain m.origin m.statement (has-of script rules m.origin m.statement (and_parts (has_statement script rules m.origin m.statement) _ h).0)) am

  nobody-waits : (t : ℕ) → queue script rules r.journal t ≡ []
  unfolding is_job has_completion
  nobody-waits t =
      elim (queue script rules r.journal t) as (λ ms. AllByRecursion (λ m. Waiting script rules r.journal t m × (not (happened (Begun m) r.journal) ≡ true)) ms → ms ≡ []) [
        | [] ↦ λ h. refl
        | m ∷ ms ↦ λ h.
            let job = and_parts (leg_eq m.leg Go) (has_completion script rules m.origin m.statement && receiver script m == t) h.0.0.0 in
            let completes = and_parts (has_completion script rules m.origin m.statement) (receiver script m == t) job.1 in
            let am = (and_parts (is_am (statement script m.origin m.statement)) _ completes.0).0 in
            absurd (no-active m (there script rules (Landed m) r.journal sound.atomic h.0.0.1) am)
      ] (queue-waiting script rules r.journal t)

  nobody-runs : (t w : ℕ) → runs r.journal t w ≡ None
  nobody-runs t w =
      elim (runs r.journal t w) as (λ o. runs r.journal t w ≡ o → o ≡ None) [
        | None ↦ λ e. refl
        | Some m ↦ λ e.
            let b = begun script rules r.journal t w m sound.atomic e in
            let is = and_parts (has_message script rules m && (leg_eq m.leg Go && is_am (statement script m.origin m.statement))) _ b.1 in
            let both = and_parts (has_message script rules m) (leg_eq m.leg Go && is_am (statement script m.origin m.statement)) is.0 in
            absurd (no-active m both.0 (and_parts (leg_eq m.leg Go) (is_am (statement script m.origin m.statement)) both.1).1)
      ] refl

  nothing-fresh : (a b : ℕ) → a < script.tasks → b < script.tasks → to_send script rules r r.journal a b ≡ []
  unfolding to_send
  nothing-fresh a b la lb =
      let len = length (numbered script r.journal a b) in
      below-none len (λ n. not (is_sent r a b n) && nat_lt n (base script (record r { journal = r.journal }) a b + window_of script)) (λ n l. and_left _ _ (ap not ((s.calm a b la lb).sent n ∙ lt-ltb n len l)))

  -- all that was sent goes between tasks, and is acknowledged
  sent-acked : (a b n : ℕ) → is_sent r a b n ≡ true → is_acked r a b n ≡ true
  unfolding has_number
  sent-acked a b n h =
      let p = any-all (is_number n) (Fits script rules r.journal r.handed a b) (r.wire a b) (sound.wires a b) h in
      let x = number-known script rules r.journal r.handed a b n p.0 p.1 p.2 in
      let copied = numbered-copied script r.journal a b n x.0 x.1 in
      let ends = ends-there script rules none r.journal x.0.0.origin x.0.0.statement x.0.0.leg sound.atomic copied.0 in
      let la : a < script.tasks = subst (λ u. u < script.tasks) copied.1 ends.0 in
      let lb : b < script.tasks = subst (λ u. u < script.tasks) copied.2 ends.1 in
      (s.calm a b la lb).acked n (place-below script rules (numbered script r.journal a b) n x.0 x.1)

  pub settled-quiet : Quiet script rules r
  settled-quiet = record {
    acked = sent-acked;
    resting = record {
      none_waits = λ t l. nobody-waits t;
      none_runs = λ t w l lw. nobody-runs t w;
      no_copy = λ t l. list_all-at (λ m. happened (Copied m) r.journal) (ready script r.journal t) (s.copied t l);
      no_entry = λ a b la lb. nothing-fresh a b la lb;
    };
    none_owed = λ a b la lb. paid.1 a b;
  }
