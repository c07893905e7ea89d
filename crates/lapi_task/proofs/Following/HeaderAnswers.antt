-- What the answer to the header of a packet that comes says of its message, by the record.
use Rattle.std.proofs.Common.{◌≡◌, ℕ, ◌==◌, Bool, true, false, ◌&&◌, length, Option, None, Some, refl, sym, ap, ◌∙◌}
use Rattle.std.specs.Prelude.{slice_get, unwrap_or}
use Rattle.std.proofs.lemmas.Bool.{false≢true, and_parts}
use Rattle.lapi_base.specs.declared.script.Script.{Script}
use Rattle.lapi_base.specs.declared.rule.Rules.{Rules}
use Rattle.lapi_base.specs.declared.handler.HeaderOut.{HeaderOut}
use Rattle.lapi_base.specs.declared.head.Head.{Head}
use Rattle.lapi_base.specs.declared.head.Head.TheVariants as heads
use Rattle.lapi_base.specs.declared.message.Leg.TheVariants.{Go}
use Rattle.lapi_base.specs.declared.message.MsgName.{MsgName}
use Rattle.lapi_base.specs.declared.packet.Packet.TheVariants.{Data}
use Rattle.lapi_base.specs.declared.packet.DataPacket.{DataPacket}
use Rattle.lapi_base.specs.Record.Handlers.{buffer, completion, user, has_completion}
use Rattle.lapi_base.specs.Record.HeadSays.{is_active, announces, follows}
use Rattle.lapi_base.specs.Record.Jobs.{is_job}
use Rattle.lapi_base.specs.Record.Names.{leg_eq}
use Rattle.lapi_base.specs.Record.Operations.{statement, is_am, receiver, tgt_counter, cmpl_counter}
use Rattle.lapi_base.specs.Record.Wires.{Run, IsEntry}
use Rattle.lapi_base.specs.Record.WorldView.{IsRecord}
use Rattle.lapi_base.proofs.TestLaws.{eqb-refl}
use Rattle.lapi_parts.proofs.ArrivingPackets.{active-is, no-completion}
use Rattle.lapi_parts.proofs.Deliveries.{facts}
use Rattle.lapi_parts.proofs.HeadAnswers.{handlers-answer, actives-name}
use Rattle.lapi_task.specs.Answered.{answer_to, completion_in, completes_in, kept_pieces, user_in, completion_counter, job_with}
use Rattle.lapi_task.specs.HasJobs.{pending}

module _ (script : Script) (rules : Rules) where
  -- The answer is that to the header of message m, if it is an active one, and else there is none.
  pub record IsToldBy (m : MsgName) (h : Head) (len : ℕ) (out : Option HeaderOut) : Type 0 where
    pub keeps : is_active h ≡ true → buffer script rules m ≡ kept_pieces script.memory len out
    pub handler : is_active h ≡ true → completion script rules m ≡ completion_in (length rules.completions) out
    pub user_is : is_active h ≡ true → user script m ≡ user_in out
    pub completes : is_active h ≡ true → has_completion script rules m.origin m.statement ≡ completes_in (length rules.completions) out
    pub target : is_active h ≡ true → tgt_counter (statement script m.origin m.statement) ≡ announces h false
    pub notice : is_active h ≡ true → cmpl_counter (statement script m.origin m.statement) ≡ completion_counter h
    pub none : is_active h ≡ false → out ≡ None

  passive : (m : MsgName) (h : Head) (len : ℕ) → is_active h ≡ false → answer_to rules m h len ≡ None
  passive m (heads.Am handler tgt cmpl header) len e = absurd (false≢true (sym e))
  passive m _ len e = refl

  told-none : (m : MsgName) (h : Head) (len : ℕ) → is_active h ≡ false → IsToldBy m h len (answer_to rules m h len)
  told-none m h len off =
      let never = λ (on : is_active h ≡ true). false≢true (sym off ∙ on) in
      record {
        keeps = λ on. absurd (never on);
        handler = λ on. absurd (never on);
        user_is = λ on. absurd (never on);
        completes = λ on. absurd (never on);
        target = λ on. absurd (never on);
        notice = λ on. absurd (never on);
        none = λ _. passive m h len off;
      }

  module _ (r : Run) (is : IsRecord script rules r) (a t k : ℕ) (p : DataPacket) (entry : IsEntry r a t k (Data p)) where
    told-by : (h : Head) → p.head ≡ h → IsToldBy p.name h p.length (answer_to rules p.name h p.length)
    told-by (heads.Am handler tgt cmpl header) e =
        let x = handlers-answer script rules r is a t k handler p tgt cmpl header entry e in
        let y = actives-name script rules r is a t k handler p tgt cmpl header entry e in
        record {
          keeps = λ _. x.buffer;
          handler = λ _. x.completion;
          user_is = λ _. x.user;
          completes = λ _. x.completes;
          target = λ _. y.1;
          notice = λ _. y.2;
          none = λ off. absurd (false≢true (sym off));
        }
    told-by (heads.Put at tgt cmpl) e = told-none p.name (heads.Put at tgt cmpl) p.length refl
    told-by (heads.Putv tgt cmpl pieces) e = told-none p.name (heads.Putv tgt cmpl pieces) p.length refl
    told-by (heads.GetGo asked source dest tgt org) e = told-none p.name (heads.GetGo asked source dest tgt org) p.length refl
    told-by (heads.GetvGo tgt org source dest) e = told-none p.name (heads.GetvGo tgt org source dest) p.length refl
    told-by (heads.GetBack dest org) e = told-none p.name (heads.GetBack dest org) p.length refl
    told-by (heads.GetvBack org dest) e = told-none p.name (heads.GetvBack org dest) p.length refl
    told-by (heads.RmwGo op at in1 in2 prev org) e = told-none p.name (heads.RmwGo op at in1 in2 prev org) p.length refl
    told-by (heads.RmwBack dest org) e = told-none p.name (heads.RmwBack dest org) p.length refl
    told-by (heads.Echo dest cmpl) e = told-none p.name (heads.Echo dest cmpl) p.length refl
    told-by (heads.Note op cmpl) e = told-none p.name (heads.Note op cmpl) p.length refl
    told-by (heads.Gfence round) e = told-none p.name (heads.Gfence round) p.length refl
    told-by (heads.Addr round address) e = told-none p.name (heads.Addr round address) p.length refl

    pub is-told : IsToldBy p.name p.head p.length (answer_to rules p.name p.head p.length)
    is-told = told-by p.head refl

    active : (is_am (statement script p.name.origin p.name.statement) && leg_eq p.name.leg Go) ≡ is_active p.head
    active =
        let f = facts script rules r is a t k p entry in
        active-is script rules _ p.name p.name.leg (statement script p.name.origin p.name.statement) f.leg ∙ ap is_active (sym f.head)

    -- its message is a job where a completion handler is named
    pub job-told : is_job script rules t p.name ≡ completes_in (length rules.completions) (answer_to rules p.name p.head p.length)
    unfolding is_job
    job-told =
        let f = facts script rules r is a t k p entry in
        let m = p.name in
        let out = answer_to rules m p.head p.length in
        let hc = has_completion script rules m.origin m.statement in
        elim (is_active p.head) as (λ b. is_active p.head ≡ b → (leg_eq m.leg Go && (hc && receiver script m == t)) ≡ completes_in (length rules.completions) out) [
          | true ↦ λ on.
              let both = and_parts (is_am (statement script m.origin m.statement)) (leg_eq m.leg Go) (active ∙ on) in
              ap (λ b. b && (hc && receiver script m == t)) both.1
              ∙ ap (λ n. hc && n == t) f.place
              ∙ ap (λ b. hc && b) (eqb-refl t)
              ∙ and-true hc
              ∙ is-told.completes on
          | false ↦ λ off.
              no-job off
              ∙ sym (ap (completes_in (length rules.completions)) (is-told.none off))
        ] refl
      where
        and-true : (b : Bool) → (b && true) ≡ b
        and-true true = refl
        and-true false = refl

        no-job : is_active p.head ≡ false → (leg_eq p.name.leg Go && (has_completion script rules p.name.origin p.name.statement && receiver script p.name == t)) ≡ false
        no-job off =
            let am = is_am (statement script p.name.origin p.name.statement) in
            let X = receiver script p.name == t in
            elim (leg_eq p.name.leg Go) as (λ g. (am && g) ≡ false → (g && (has_completion script rules p.name.origin p.name.statement && X)) ≡ false) [
              | true ↦ λ e. ap (λ b. b && X) (no-completion script rules p.name.origin p.name.statement (sym (and-true am) ∙ e))
              | false ↦ λ e. refl
            ] (active ∙ off)

    pub pending-told : (c : ℕ) → is_active p.head ≡ true → completion_in (length rules.completions) (answer_to rules p.name p.head p.length) ≡ Some c → job_with script.memory p.name p.head p.length (answer_to rules p.name p.head p.length) c ≡ pending script rules p.name
    pending-told c on e =
        let x = is-told in
        λ i. record {
          name = p.name;
          completion = ap (λ (o : Option ℕ). unwrap_or o 0) (sym (x.handler on ∙ e)) i;
          user = sym (x.user_is on) i;
          buffer = slice_get (sym (x.keeps on) i) 0;
          target_counter = sym (x.target on) i;
          completion_counter = sym (x.notice on) i;
        }

-- what depends on a completion, where one matters for active messages alone
pub announces-same : (h : Head) (b c : Bool) → (is_active h ≡ true → b ≡ c) → announces h b ≡ announces h c
announces-same (heads.Am handler tgt cmpl header) b c e = ap (announces (heads.Am handler tgt cmpl header)) (e refl)
announces-same _ b c e = refl

pub follows-same : (h : Head) (m : MsgName) (b c : Bool) → (is_active h ≡ true → b ≡ c) → follows h b m ≡ follows h c m
unfolding follows
follows-same (heads.Am handler tgt cmpl header) m b c e = ap (λ x. follows (heads.Am handler tgt cmpl header) x m) (e refl)
follows-same _ m b c e = refl
