-- Bytes that spell no packet: the task that is handed them stays as it is, and a reply is all that is added.
use Rattle.std.proofs.Common.{◌≡◌, ◌≢◌, ℕ, ◌<◌, ◌≤◌, false, cond, List, [], ◌∷◌, ◌++◌, length, take, drop, get_or, set, Some, None, refl, sym, ap, ◌∙◌, subst, arith}
use Rattle.std.specs.Prelude.{nat_lt, slice_get, Result, Ok, Err, is_ok}
use Rattle.std.proofs.lemmas.Bool.{lt-ltb, le-ltb, false≢true}
use Rattle.std.proofs.lemmas.List.{set-get_or, length-take-le, length-drop, take-append-drop}
use Rattle.lapi_base.specs.declared.script.Script.{Script}
use Rattle.lapi_base.specs.declared.rule.Rules.{Rules}
use Rattle.lapi_base.specs.declared.schedule.Act.TheVariants.{Cut, Inject}
use Rattle.lapi_base.specs.declared.packet.Packet.{Packet}
use Rattle.lapi_base.specs.declared.reply.Bad.{Bad}
use Rattle.lapi_base.specs.declared.reply.Reason.TheVariants.{Short}
use Rattle.lapi_base.specs.declared.reply.Reply.{Reply}
use Rattle.lapi_base.specs.declared.reply.Reply.TheVariants as replies
use Rattle.lapi_base.specs.Record.Acts.{cut_entry, perform, reply_with}
use Rattle.lapi_base.specs.Record.Wires.{Run}
use Rattle.lapi_base.specs.Record.WorldView.{performed}
use Rattle.lapi_base.specs.Packet.PacketBytes.{packet_size}
use Rattle.lapi_base.specs.Packet.Spelling.{Spells, decoded, fault_or, refusal, spells_packet}
use Rattle.lapi_base.proofs.Spellings.{spelling_is}
use Rattle.lapi_task.specs.declared.task.Task.{Task}
use Rattle.lapi_world.specs.declared.network.Network.{Network}
use Rattle.lapi_world.specs.Stands.{Stands, TasksStand, WiresStand}
use Rattle.lapi_world.proofs.Delivering.{network-with}

-- where bytes are a front of a packet's spelling and not the whole, they are too short
abbrev pub CutsAreShort : Type 0
CutsAreShort = (p : Packet) (front more : List ℕ) → Spells p (front ++ more) → more ≢ [] → decoded front ≡ Err (record { place = length front; reason = Short })

abbrev pub bad_at : ℕ → Bad
bad_at n = record { place = n; reason = Short }

module _ (script : Script) (rules : Rules) (r : Run) where
  pub performed-inject : (a b : ℕ) (bytes : List ℕ) → performed script rules r (Inject a b bytes) ≡ reply_with script rules r (replies.Bad (refusal bytes))
  unfolding performed perform
  performed-inject a b bytes = refl

  performed-cut : (a b k n : ℕ) → performed script rules r (Cut a b k n) ≡ cut_entry script rules packet_size r n (slice_get (r.wire a b) k)
  unfolding performed perform
  performed-cut a b k n = refl

  pub cut-none : (a b k n : ℕ) → slice_get (r.wire a b) k ≡ None → performed script rules r (Cut a b k n) ≡ reply_with script rules r replies.Absent
  cut-none a b k n e = performed-cut a b k n ∙ ap (cut_entry script rules packet_size r n) e

  -- An entry of so many bytes is cut below its end, and else there is nothing.
  module _ (a b k n : ℕ) (p : Packet) (bytes : List ℕ) (there : slice_get (r.wire a b) k ≡ Some p) (spells : Spells p bytes) where
    size-is : packet_size p ≡ length bytes
    unfolding packet_size
    size-is = ap length (spelling_is p bytes spells)

    cut-at : (is : Reply) → is ≡ cond (nat_lt n (length bytes)) (replies.Bad (bad_at n)) replies.Absent → performed script rules r (Cut a b k n) ≡ reply_with script rules r is
    cut-at is e =
        performed-cut a b k n ∙ ap (cut_entry script rules packet_size r n) there
        ∙ ap (λ (size : ℕ). reply_with script rules r (cond (nat_lt n size) (replies.Bad (bad_at n)) replies.Absent)) size-is
        ∙ ap (reply_with script rules r) (sym e)

    pub cut-past : length bytes ≤ n → performed script rules r (Cut a b k n) ≡ reply_with script rules r replies.Absent
    cut-past past = cut-at replies.Absent (sym (ap (λ t. cond t (replies.Bad (bad_at n)) replies.Absent) (le-ltb n (length bytes) past)))

    pub cut-within : n < length bytes → performed script rules r (Cut a b k n) ≡ reply_with script rules r (replies.Bad (bad_at n))
    cut-within lt = cut-at (replies.Bad (bad_at n)) (sym (ap (λ t. cond t (replies.Bad (bad_at n)) replies.Absent) (lt-ltb n (length bytes) lt)))

-- Bytes that spell no packet are refused with their first fault.
refused-by : (o : Result Packet Bad) → is_ok o ≡ false → o ≡ Err (fault_or (bad_at 0) o)
refused-by (Ok p) h = absurd (false≢true (sym h))
refused-by (Err bad) h = refl

pub is-refused : (bytes : List ℕ) → spells_packet bytes ≡ false → decoded bytes ≡ Err (refusal bytes)
unfolding spells_packet refusal
is-refused bytes h = refused-by (decoded bytes) h

pub none-spelled : (bytes : List ℕ) (p : Packet) → spells_packet bytes ≡ false → decoded bytes ≡ Ok p → ⊥
unfolding spells_packet
none-spelled bytes p h read = false≢true (sym h ∙ ap is_ok read)

-- The first n bytes of an entry, where it has more, spell none, and are too short at their end.
pub front-of : CutsAreShort → (p : Packet) (bytes front : List ℕ) (n : ℕ) → Spells p bytes → n < length bytes → front ≡ take n bytes → (spells_packet front ≡ false) × (refusal front ≡ bad_at n)
unfolding spells_packet refusal
front-of short p bytes front n spells lt is =
    let long = length-take-le n bytes (omega (arith, lt)) in
    let more : drop n bytes ≢ [] = λ e. let l = ap length e ∙ refl in let d = length-drop n bytes in omega (arith, lt, l, d) in
    let told = short p (take n bytes) (drop n bytes) (subst (Spells p) (sym (take-append-drop n bytes)) spells) more in
    let read : decoded front ≡ Err (bad_at n) = ap decoded is ∙ told ∙ ap (λ (m : ℕ). Err (bad_at m)) long in
    (ap is_ok read, ap (fault_or (bad_at 0)) read)

-- The network is as it was where the task that was handed bytes stayed as it was.
pub same-tasks : (tasks : List Task) (t : ℕ) (task after : Task) → task ≡ get_or tasks t task → after ≡ task → set tasks t after ≡ tasks
same-tasks tasks t task after at same = ap (set tasks t) (same ∙ at) ∙ set-get_or tasks t task

module _ (script : Script) (rules : Rules) (r s : Run) (reply : Reply) (does : s ≡ reply_with script rules r reply) where
  pub refused-replies : s.replies ≡ r.replies ++ reply ∷ []
  refused-replies = ap (λ (q : Run). q.replies) does

  -- it stands for the record with the reply
  pub refused-stands : (old new : Network) → Stands script rules old r → new.journal ≡ old.journal → new.wires ≡ old.wires → new.tasks.items ≡ old.tasks.items → Stands script rules new s
  refused-stands old new h journal wires tasks =
      let with = network-with script rules r reply old h in
      subst (Stands script rules new) (sym does)
      (record {
        journal = journal ∙ with.journal;
        task_count = ap length tasks ∙ with.task_count;
        wire_count = ap (λ w. length w.items) wires ∙ with.wire_count;
        tasks = subst (TasksStand script rules (reply_with script rules r reply)) (sym tasks) with.tasks;
        wires = subst (WiresStand script (reply_with script rules r reply)) (sym (ap (λ w. w.items) wires)) with.wires;
      })
