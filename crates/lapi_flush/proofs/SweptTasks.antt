-- What a sweep leaves.
use Rattle.std.proofs.Common.{◌+◌, ◌*◌, ◌≡◌, ℕ, zero, suc, ◌<◌, ◌≤◌, true, cond, ◌&&◌, List, [], ◌∷◌, ◌++◌, length, refl, sym, ap, ◌∙◌, subst, ⊎_elim, inl, inr, arith}
use Rattle.std.specs.List.{AllByRecursion, flat_map}
use Rattle.std.proofs.lemmas.Bool.{both_ways, cond_both, cases_lt, cases_Bool, false_from_ne_true}
use Rattle.std.proofs.lemmas.List.{length-append}
use Rattle.lapi_base.specs.declared.script.Script.{Script}
use Rattle.lapi_base.specs.declared.rule.Rules.{Rules}
use Rattle.lapi_base.specs.declared.message.Leg.TheVariants.{Go}
use Rattle.lapi_base.specs.declared.message.MsgName.{MsgName}
use Rattle.lapi_base.specs.declared.event.Event.{Event}
use Rattle.lapi_base.specs.declared.event.Event.TheVariants.{Issue, Refuse, Enter, Pass, Copy, Head, Land, Begin, End}
use Rattle.lapi_base.specs.declared.schedule.Act.{Act}
use Rattle.lapi_base.specs.Record.Names.{message, EventKey, Issued, Refused, Entered, Passed, Copied, Landed, key_of, happened}
use Rattle.lapi_base.specs.Record.Operations.{numbers_below, statements, statement, is_data, has_join}
use Rattle.lapi_base.specs.Packet.Spelling.{refusal}
use Rattle.lapi_base.specs.Packet.PacketBytes.{packet_size}
use Rattle.lapi_base.specs.Record.Refusals.{next}
use Rattle.lapi_base.specs.Record.Wires.{Run, numbered}
use Rattle.lapi_base.specs.Record.Acts.{joins, to_copy_of, ready, copy_each, perform, after}
use Rattle.lapi_base.specs.Record.WorldView.{HoldsOfRecords}
use Rattle.lapi_base.proofs.NameLaws.{happened-cases, happened-grown}
use Rattle.lapi_laws.proofs.Lines.{SoundRun}
use Rattle.lapi_parts.proofs.Records.{record-sound}
use Rattle.lapi_parts.proofs.LocalQuestions.{by_points}
use Rattle.lapi_flush.specs.Served.{IsOfMessage, AddsEvents, AllNamed}
use Rattle.lapi_flush.specs.Flushed.{all_data, IsCalm, polled, flush}
use Rattle.lapi_flush.specs.Swept.{sweep_to, sweep, HasRoom, IsSweptAt, SweepsAreSwept}
use Rattle.lapi_flush.proofs.NoneOwed.{IsPaid, after-paid, record-paid}
use Rattle.lapi_flush.proofs.ServedParts.{named-append, events-on}
use Rattle.lapi_flush.proofs.FlushedTasks.{flush-named, flushed, flush-sound, poll-atomic}
use Rattle.lapi_base.proofs.CopyLaws.{all-copied}

-- ---- events of messages change nothing of statements

IsOfStatement : EventKey → Type 0
IsOfStatement (Issued a i) = Unit {0}
IsOfStatement (Refused a i) = Unit {0}
IsOfStatement (Entered a i) = Unit {0}
IsOfStatement (Passed a i) = Unit {0}
IsOfStatement _ = ⊥

apart-deeds : (e : Event) (d : EventKey) → IsOfMessage e → IsOfStatement d → d ≡ key_of e → ⊥
unfolding IsOfStatement
apart-deeds (Issue a i) d h g q = h
apart-deeds (Refuse a i why) d h g q = h
apart-deeds (Enter a i) d h g q = h
apart-deeds (Pass a i) d h g q = h
apart-deeds (Copy m) d h g q = subst IsOfStatement q g
apart-deeds (Head m) d h g q = subst IsOfStatement q g
apart-deeds (Land m) d h g q = subst IsOfStatement q g
apart-deeds (Begin m t w) d h g q = subst IsOfStatement q g
apart-deeds (End m t w) d h g q = subst IsOfStatement q g

-- a key_of that no event of a kind does was happened before such events
pub happened-before : (P : Event → Type 0) (d : EventKey) → ((e : Event) → P e → d ≡ key_of e → ⊥) → (later J : List Event) → AllByRecursion P later → happened d (later ++ J) ≡ true → happened d J ≡ true
happened-before P d apart [] J h x = x
happened-before P d apart (e ∷ later) J h x =
    ⊎_elim
    (λ (y : d ≡ key_of e). absurd (apart e h.0 y))
    (λ (y : happened d (later ++ J) ≡ true). happened-before P d apart later J h.1 y)
    (happened-cases d e (later ++ J) x)

pub kept-done : (J K : List Event) (d : EventKey) → AddsEvents J K → happened d J ≡ true → happened d K ≡ true
kept-done J K d x h = subst (λ L. happened d L ≡ true) (sym x.1) (happened-grown x.0 J d h)

same-done : (J K : List Event) (d : EventKey) → AddsEvents J K → IsOfStatement d → happened d K ≡ happened d J
same-done J K d x g =
    elim (cases_Bool (happened d J)) [
      | inl h ↦ kept-done J K d x h ∙ sym h
      | inr h ↦ false_from_ne_true _ (λ y. both_ways _ h (happened-before IsOfMessage d (λ e of. apart-deeds e d of g) x.0 J x.2 (subst (λ L. happened d L ≡ true) x.1 y))) ∙ sym h
    ]

next-on : (later J : List Event) (a : ℕ) → AllByRecursion IsOfMessage later → next (later ++ J) a ≡ next J a
unfolding next
next-on [] J a h = refl
next-on (Issue b i ∷ later) J a h = absurd h.0
next-on (Refuse b i why ∷ later) J a h = absurd h.0
next-on (Enter b i ∷ later) J a h = absurd h.0
next-on (Pass b i ∷ later) J a h = absurd h.0
next-on (Copy m ∷ later) J a h = next-on later J a h.1
next-on (Head m ∷ later) J a h = next-on later J a h.1
next-on (Land m ∷ later) J a h = next-on later J a h.1
next-on (Begin m t w ∷ later) J a h = next-on later J a h.1
next-on (End m t w ∷ later) J a h = next-on later J a h.1

pub same-next : (J K : List Event) (a : ℕ) → AddsEvents J K → next K a ≡ next J a
same-next J K a x = ap (λ L. next L a) x.1 ∙ next-on x.0 J a x.2

pub same-issued : (J K : List Event) (a i : ℕ) → AddsEvents J K → happened (Issued a i) K ≡ happened (Issued a i) J
unfolding IsOfStatement
same-issued J K a i x = same-done J K (Issued a i) x tt

pub same-entered : (J K : List Event) (a i : ℕ) → AddsEvents J K → happened (Entered a i) K ≡ happened (Entered a i) J
unfolding IsOfStatement
same-entered J K a i x = same-done J K (Entered a i) x tt

-- ---- what a Poll copies

module _ (script : Script) (rules : Rules) where
  copies-add : (ms : List MsgName) (J : List Event) → AddsEvents J (copy_each J ms)
  unfolding copy_each
  copies-add [] J = ([], refl, tt)
  copies-add (m ∷ ms) J =
      let K = cond (happened (Copied m) J) J (Copy m ∷ J) in
      events-on script rules J K (copy_each K ms) (cond_both (happened (Copied m) J) J (Copy m ∷ J) (AddsEvents J) (λ _. ([], refl, tt)) (λ _. (Copy m ∷ [], refl, (tt, tt)))) (copies-add ms K)

  pub polled-adds : (r : Run) (t : ℕ) → AddsEvents r.journal (polled script rules r t)
  polled-adds r t = copies-add (ready script r.journal t) r.journal

  -- what is ready hangs on statements alone
  to_copy-same : (J K : List Event) (t i : ℕ) → AddsEvents J K → to_copy_of script K t i ≡ to_copy_of script J t i
  to_copy-same J K t i x =
      ap (λ b. cond (is_data (statement script t i) && b) (message t i Go ∷ []) (cond (has_join (statement script t i) && happened (Entered t i) K) (joins script t i) [])) (same-issued J K t i x)
      ∙ ap (λ b. cond (is_data (statement script t i) && happened (Issued t i) J) (message t i Go ∷ []) (cond (has_join (statement script t i) && b) (joins script t i) [])) (same-entered J K t i x)

  pub same-ready : (J K : List Event) (t : ℕ) → AddsEvents J K → ready script K t ≡ ready script J t
  unfolding ready
  same-ready J K t x = ap (λ f. flat_map f (numbers_below (length (statements script t)))) (by_points _ _ (λ i. to_copy-same J K t i x))

  -- ---- task by task

  module _ (r : Run) (tops : ℕ → ℕ → ℕ) (room : HasRoom script rules r tops) where
    pub record Swept (u : Run) (n : ℕ) : Type 0 where
      pub is_sound : SoundRun script rules u
      pub is_paid : IsPaid script rules u
      pub events : AddsEvents r.journal u.journal
      pub rest : (a b : ℕ) → n ≤ a → a < script.tasks → b < script.tasks → IsCalm u a b (tops a b)
      pub marks : (a : ℕ) → a < n → IsSweptAt script rules r u a
      named : AllNamed script rules r (sweep_to script rules r n)
      lines : length (sweep_to script rules r n) + 2 * all_data script.tasks r ≤ n + 2 * all_data script.tasks u

    one-task : (u : Run) (t : ℕ) → t < script.tasks → Swept u t → u ≡ after script rules packet_size refusal r (sweep_to script rules r t) → Swept (after script rules packet_size refusal u (flush script rules u t)) (suc t)
    unfolding sweep_to
    one-task u t l k is =
        let v = after script rules packet_size refusal u (flush script rules u t) in
        let K = polled script rules u t in
        let adds = events-on script rules r.journal u.journal K k.events (polled-adds u t) in
        let atomic = poll-atomic script rules u t k.is_sound in
        let f = flushed script rules u t k.is_sound k.is_paid (tops t) (λ b lb. k.rest t b (omega arith) l lb) (λ b lb. room K atomic adds t b l lb) l in
        let on = events-on script rules u.journal K v.journal (polled-adds u t) f.events in record {
          is_sound = flush-sound script rules u t k.is_sound;
          is_paid = after-paid script rules (flush script rules u t) u k.is_paid;
          events = events-on script rules r.journal K v.journal adds f.events;
          rest = λ a b low la lb. f.others a b (tops a b) (λ e. absurd (omega arith)) (k.rest a b (omega arith) la lb);
          marks = λ a la.
              ⊎_elim
              (λ (lt : a < t).
              let mark = k.marks a lt in record {
                then_journal = mark.then_journal;
                since = mark.since;
                until = events-on script rules mark.then_journal u.journal v.journal mark.until on;
                copied = mark.copied;
                landed = λ m from to h. kept-done u.journal v.journal (Landed m) on (mark.landed m from to h);
                calm = λ b lb. f.others a b (length (numbered script mark.then_journal a b)) (λ e. absurd (omega arith)) (mark.calm b lb);
              })
              (λ (ge : t ≤ a).
              let same : t ≡ a = omega arith in
              subst (IsSweptAt script rules r v) same
              (record {
                then_journal = K;
                since = adds;
                until = f.events;
                copied = subst (λ ms. AllByRecursion (λ m. happened (Copied m) K ≡ true) ms) (same-ready r.journal u.journal t k.events) (all-copied (ready script u.journal t) u.journal);
                landed = f.landed;
                calm = f.own;
              }))
              (cases_lt a t);
          named =
              let acts = sweep_to script rules r t in
              let w = after script rules packet_size refusal r acts in
              named-append script rules acts (flush script rules w t) r k.named (subst (λ x. AllNamed script rules x (flush script rules x t)) is (flush-named script rules u t k.is_sound k.is_paid (tops t) (λ b lb. k.rest t b (omega arith) l lb) (λ b lb. room K atomic adds t b l lb) l));
          lines =
              let acts = sweep_to script rules r t in
              let len = length-append acts (flush script rules (after script rules packet_size refusal r acts) t) in
              let same = ap (λ w. length (flush script rules w t)) is in
              let old = k.lines in
              let now = f.lines in
              sums (length (acts ++ flush script rules (after script rules packet_size refusal r acts) t)) (length acts) (length (flush script rules (after script rules packet_size refusal r acts) t)) (length (flush script rules u t)) (all_data script.tasks r) (all_data script.tasks u) (all_data script.tasks v) t len same old now;
        }
      where
        sums : (all x y z f g h n : ℕ) → all ≡ x + y → z ≡ y → x + 2 * f ≤ n + 2 * g → z + 2 * g ≤ 1 + 2 * h → all + 2 * f ≤ suc n + 2 * h
        sums all x y z f g h n a b c d = omega arith

    pub all-tasks : SoundRun script rules r → IsPaid script rules r → ((a b : ℕ) → a < script.tasks → b < script.tasks → IsCalm r a b (tops a b)) → (n : ℕ) → n ≤ script.tasks → Swept (after script rules packet_size refusal r (sweep_to script rules r n)) n
    unfolding sweep_to after
    all-tasks sound paid calm zero l = record { is_sound = sound; is_paid = paid; events = ([], refl, tt); rest = λ a b _ la lb. calm a b la lb; marks = λ a la. absurd (omega arith); named = tt; lines = omega arith }
    all-tasks sound paid calm (suc t) l =
        let u = after script rules packet_size refusal r (sweep_to script rules r t) in
        subst (λ v. Swept v (suc t)) (sym (after-append (sweep_to script rules r t) (flush script rules u t) r)) (one-task u t (omega arith) (all-tasks sound paid calm t (omega arith)) refl)
      where
        after-append : (xs ys : List Act) (s : Run) → after script rules packet_size refusal s (xs ++ ys) ≡ after script rules packet_size refusal (after script rules packet_size refusal s xs) ys
        after-append [] ys s = refl
        after-append (x ∷ xs) ys s = after-append xs ys (perform script rules packet_size refusal s x)

    -- the sweep as a whole
    pub swept : SoundRun script rules r → IsPaid script rules r → ((a b : ℕ) → a < script.tasks → b < script.tasks → IsCalm r a b (tops a b)) →
        let s = after script rules packet_size refusal r (sweep script rules r) in
        SoundRun script rules s × AddsEvents r.journal s.journal × ((a : ℕ) → a < script.tasks → IsSweptAt script rules r s a) × (length (sweep script rules r) + 2 * all_data script.tasks r ≤ script.tasks + 2 * all_data script.tasks s) × AllNamed script rules r (sweep script rules r)
    swept sound paid calm = let k = all-tasks sound paid calm script.tasks (omega arith) in (k.is_sound, k.events, λ a l. k.marks a l, k.lines, k.named)

-- the law, of every record
pub sweeps-swept : HoldsOfRecords SweepsAreSwept
sweeps-swept script rules r is = λ now tops calm room a l. (swept script rules r tops room (record-sound script rules r is) (record-paid script rules r is now) calm).2 a l
