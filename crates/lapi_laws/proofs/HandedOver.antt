-- A record lists as handed over the entries of the lines that delivered one, in order, and as owed what they leave owed.
use Rattle.std.proofs.Common.{◌≡◌, ℕ, ◌==◌, Bool, true, false, cond, ◌&&◌, ◌||◌, not, List, [], ◌∷◌, ◌++◌, length, reverse, Option, Some, None, refl, sym, ap, ◌∙◌, subst, append_assoc, ◌+◌, length-append, arith}
use Rattle.std.specs.Prelude.{slice_get, option_to_list, nat_lt}
use Rattle.std.specs.List.{zip, flat_map, list_any, AllByRecursion}
use Rattle.std.proofs.lemmas.Grind.{flat_map-append}
use Rattle.std.proofs.lemmas.List.{append-nil, reverse-append}
use Rattle.std.proofs.lemmas.Bool.{cond_both, and_parts, eqb-true}
use Rattle.lapi_base.specs.declared.script.Script.{Script}
use Rattle.lapi_base.specs.declared.rule.Rules.{Rules}
use Rattle.lapi_base.specs.declared.event.Event.{Event}
use Rattle.lapi_base.specs.declared.schedule.Act.{Act}
use Rattle.lapi_base.specs.declared.schedule.Act.TheVariants.{Step, Poll, Tick, Deliver, Cut, Inject}
use Rattle.lapi_base.specs.declared.reply.Bad.{Bad}
use Rattle.lapi_base.specs.declared.reply.Reason.TheVariants.{Short}
use Rattle.lapi_base.specs.declared.reply.Reply.{Reply}
use Rattle.lapi_base.specs.declared.reply.Reply.TheVariants.{Did, Blocked, Absent, Idle, Busy}
use Rattle.lapi_base.specs.declared.packet.Packet.{Packet}
use Rattle.lapi_base.specs.declared.packet.Packet.TheVariants.{Data, Ack}
use Rattle.lapi_base.specs.Packet.Layout.{holds_back}
use Rattle.lapi_base.specs.Record.Refusals.{next, refusal_of}
use Rattle.lapi_base.specs.Record.Jobs.{queue, runs}
use Rattle.lapi_base.specs.Record.Wires.{Run, start, ack, packets, sends, to_resend, IsEntry}
use Rattle.lapi_base.specs.Record.Acts.{reply_with, add_event, unless_refused, deliver_entry, begin_at, begin_first, end_at, cut_entry, hand_over, at_once, followed, with_handed, step, poll, tick, deliver, begin, end, perform, after, run_of, handed_by, deliveries, is_numbered, owes_by, owes, copy_each, ready}
use Rattle.lapi_base.specs.Record.Operations.{statements}
use Rattle.lapi_base.proofs.ListLaws.{all-append, get-front}

-- what a line hands over is the same however the wire grows
abbrev pub IsFixed : (wire : List Packet) → (from to : ℕ) → Act → Reply → Type 0
IsFixed wire a b act reply = (more : List Packet) → handed_by (wire ++ more) a b act reply ≡ handed_by wire a b act reply

-- what one act makes of a record: one reply more, longer wires, what it hands over, and what it leaves owed
pub record Adds (script : Script) (r : Run) (act : Act) (s : Run) : Type 0 where
  pub reply : Reply
  pub replies : s.replies ≡ r.replies ++ reply ∷ []
  pub wire : (a b : ℕ) → (more : List Packet) × (s.wire a b ≡ r.wire a b ++ more)
  pub handed : (a b : ℕ) → s.handed a b ≡ reverse (handed_by (r.wire a b) a b act reply) ++ r.handed a b
  pub owed : (a b : ℕ) (before : Bool) → r.owed a b ≡ (holds_back script && before) → s.owed a b ≡ (holds_back script && owes_by (r.wire a b) a b act reply before)
  pub fixed : (a b : ℕ) → IsFixed (r.wire a b) a b act reply

-- the lines so far account for what was handed over, and for what is owed
record Accounts (script : Script) (acts : List Act) (r : Run) : Type 0 where
  count : length acts ≡ length r.replies
  handed : (a b : ℕ) → r.handed a b ≡ reverse (deliveries (r.wire a b) a b acts r.replies)
  owed : (a b : ℕ) → r.owed a b ≡ (holds_back script && owes (r.wire a b) a b (zip acts r.replies) false)
  fixed : (a b : ℕ) → AllByRecursion (λ (line : Act × Reply). IsFixed (r.wire a b) a b line.0 line.1) (zip acts r.replies)

pub zip-push : {A B : Type 0} (xs : List A) (ys : List B) (x : A) (y : B) → length xs ≡ length ys → zip (xs ++ x ∷ []) (ys ++ y ∷ []) ≡ zip xs ys ++ (x, y) ∷ []
zip-push [] [] x y e = refl
zip-push [] (z ∷ ys) x y e = absurd (omega arith)
zip-push (w ∷ xs) [] x y e = absurd (omega arith)
zip-push (w ∷ xs) (z ∷ ys) x y e = let l : length xs ≡ length ys = omega arith in ap (λ ls. (w, z) ∷ ls) (zip-push xs ys x y l)

-- Longer wires hand over the same.
fixed-later : (wire more : List Packet) (a b : ℕ) (act : Act) (reply : Reply) → IsFixed wire a b act reply → IsFixed (wire ++ more) a b act reply
fixed-later wire more a b act reply h rest = ap (λ w. handed_by w a b act reply) (append_assoc wire more rest) ∙ h (more ++ rest) ∙ sym (h more)

fixed-all : (wire more : List Packet) (a b : ℕ) (lines : List (Act × Reply)) → AllByRecursion (λ (line : Act × Reply). IsFixed wire a b line.0 line.1) lines
    → (flat_map (λ (line : Act × Reply). handed_by (wire ++ more) a b line.0 line.1) lines ≡ flat_map (λ (line : Act × Reply). handed_by wire a b line.0 line.1) lines) × AllByRecursion (λ (line : Act × Reply). IsFixed (wire ++ more) a b line.0 line.1) lines
fixed-all wire more a b [] h = (refl, tt)
fixed-all wire more a b (line ∷ lines) h =
    let rest = fixed-all wire more a b lines h.1 in
    (cc (h.0 more, rest.0), (fixed-later wire more a b line.0 line.1 h.0, rest.1))

-- and leave the same owed.
owes_by-fixed : (wire more : List Packet) (a b : ℕ) (act : Act) (reply : Reply) (before : Bool) → IsFixed wire a b act reply → owes_by (wire ++ more) a b act reply before ≡ owes_by wire a b act reply before
owes_by-fixed wire more a b (Poll t) reply before h = refl
owes_by-fixed wire more a b (Step t) reply before h = refl
owes_by-fixed wire more a b (Tick t) reply before h = refl
owes_by-fixed wire more a b (Deliver x y k) reply before h = ap (λ ps. list_any is_numbered ps || before) (h more)
owes_by-fixed wire more a b (Cut x y k n) reply before h = refl
owes_by-fixed wire more a b (Inject x y bytes) reply before h = refl
owes_by-fixed wire more a b (Act.Begin t w) reply before h = refl
owes_by-fixed wire more a b (Act.End t w) reply before h = refl

owes-fixed : (wire more : List Packet) (a b : ℕ) (lines : List (Act × Reply)) (before : Bool) → AllByRecursion (λ (line : Act × Reply). IsFixed wire a b line.0 line.1) lines → owes (wire ++ more) a b lines before ≡ owes wire a b lines before
unfolding owes
owes-fixed wire more a b [] before h = refl
owes-fixed wire more a b (line ∷ lines) before h =
    ap (owes (wire ++ more) a b lines) (owes_by-fixed wire more a b line.0 line.1 before h.0) ∙ owes-fixed wire more a b lines (owes_by wire a b line.0 line.1 before) h.1

owes-push : (wire : List Packet) (a b : ℕ) (lines : List (Act × Reply)) (act : Act) (reply : Reply) (before : Bool) → owes wire a b (lines ++ (act, reply) ∷ []) before ≡ owes_by wire a b act reply (owes wire a b lines before)
unfolding owes
owes-push wire a b [] act reply before = refl
owes-push wire a b (line ∷ lines) act reply before = owes-push wire a b lines act reply (owes_by wire a b line.0 line.1 before)

accounts-more : (script : Script) (acts : List Act) (r : Run) (act : Act) (s : Run) → Accounts script acts r → Adds script r act s → Accounts script (acts ++ act ∷ []) s
unfolding deliveries
accounts-more script acts r act s h n = record {
  count = length-append acts (act ∷ []) ∙ ap (λ k. k + 1) h.count ∙ sym (length-append r.replies (n.reply ∷ [])) ∙ ap length (sym n.replies);
  handed = λ a b.
      let grown = n.wire a b in
      let more = grown.0 in
      let lines = zip acts r.replies in
      let same = fixed-all (r.wire a b) more a b lines (h.fixed a b) in
      let of : List Packet → Act × Reply → List Packet = λ wire line. handed_by wire a b line.0 line.1 in
      let grows : flat_map (of (r.wire a b)) lines ++ handed_by (r.wire a b) a b act n.reply ≡ flat_map (of (r.wire a b ++ more)) (lines ++ (act, n.reply) ∷ []) =
      ap (λ ps. ps ++ handed_by (r.wire a b) a b act n.reply) (sym same.0)
      ∙ ap (λ ps. flat_map (of (r.wire a b ++ more)) lines ++ ps) (sym (n.fixed a b more) ∙ sym (append-nil (handed_by (r.wire a b ++ more) a b act n.reply)))
      ∙ sym (flat_map-append (of (r.wire a b ++ more)) lines ((act, n.reply) ∷ []))
      in
      n.handed a b
      ∙ ap (λ ps. reverse (handed_by (r.wire a b) a b act n.reply) ++ ps) (h.handed a b)
      ∙ sym (reverse-append (flat_map (of (r.wire a b)) lines) (handed_by (r.wire a b) a b act n.reply))
      ∙ ap reverse grows
      ∙ ap (λ ls. reverse (flat_map (of (r.wire a b ++ more)) ls)) (sym (zip-push acts r.replies act n.reply h.count))
      ∙ ap (λ rs. reverse (flat_map (of (r.wire a b ++ more)) (zip (acts ++ act ∷ []) rs))) (sym n.replies)
      ∙ ap (λ wire. reverse (flat_map (of wire) (zip (acts ++ act ∷ []) s.replies))) (sym grown.1);
  owed = λ a b.
      let grown = n.wire a b in
      let more = grown.0 in
      let lines = zip acts r.replies in
      let held = λ (owed : Bool). holds_back script && owed in
      n.owed a b (owes (r.wire a b) a b lines false) (h.owed a b)
      ∙ ap held (sym (owes_by-fixed (r.wire a b) more a b act n.reply (owes (r.wire a b) a b lines false) (n.fixed a b)))
      ∙ ap (λ before. held (owes_by (r.wire a b ++ more) a b act n.reply before)) (sym (owes-fixed (r.wire a b) more a b lines false (h.fixed a b)))
      ∙ ap held (sym (owes-push (r.wire a b ++ more) a b lines act n.reply false))
      ∙ ap (λ ls. held (owes (r.wire a b ++ more) a b ls false)) (sym (zip-push acts r.replies act n.reply h.count))
      ∙ ap (λ rs. held (owes (r.wire a b ++ more) a b (zip (acts ++ act ∷ []) rs) false)) (sym n.replies)
      ∙ ap (λ wire. held (owes wire a b (zip (acts ++ act ∷ []) s.replies) false)) (sym grown.1);
  fixed = λ a b.
      let grown = n.wire a b in
      let lines = zip acts r.replies in
      let Fixed : List Packet → Act × Reply → Type 0 = λ wire line. IsFixed wire a b line.0 line.1 in
      let old = (fixed-all (r.wire a b) grown.0 a b lines (h.fixed a b)).1 in
      let new = fixed-later (r.wire a b) grown.0 a b act n.reply (n.fixed a b) in
      subst (λ wire. AllByRecursion (Fixed wire) (zip (acts ++ act ∷ []) s.replies)) (sym grown.1)
      (subst (λ rs. AllByRecursion (Fixed (r.wire a b ++ grown.0)) (zip (acts ++ act ∷ []) rs)) (sym n.replies)
      (subst (AllByRecursion (Fixed (r.wire a b ++ grown.0))) (sym (zip-push acts r.replies act n.reply h.count))
      (all-append (Fixed (r.wire a b ++ grown.0)) lines ((act, n.reply) ∷ []) old (new, tt))));
}

and-none : (x : Bool) → (x && false) ≡ false
and-none true = refl
and-none false = refl

and-all : (x : Bool) → (x && true) ≡ x
and-all true = refl
and-all false = refl

or-none : (x : Bool) → (x || false) ≡ x
or-none true = refl
or-none false = refl

swapped : (x y z : Bool) → (x && (y && z)) ≡ (y && (x && z))
swapped true y z = refl
swapped false y z = sym (and-none y)

shared : (x y z : Bool) → ((x && y) || (x && z)) ≡ (x && (y || z))
shared true y z = refl
shared false y z = refl

module _ (script : Script) (rules : Rules) where
  -- a line that adds a reply and events alone
  quiet-adds : (r : Run) (act : Act) (reply : Reply) (J : List Event) → ((wire : List Packet) (a b : ℕ) → handed_by wire a b act reply ≡ []) → ((wire : List Packet) (a b : ℕ) (before : Bool) → owes_by wire a b act reply before ≡ before) → Adds script r act (record r { replies = r.replies ++ reply ∷ []; journal = J })
  quiet-adds r act reply J none keeps = record {
    reply = reply;
    replies = refl;
    wire = λ a b. ([], sym (append-nil (r.wire a b)));
    handed = λ a b. ap (λ ps. reverse ps ++ r.handed a b) (sym (none (r.wire a b) a b));
    owed = λ a b before e. e ∙ ap (λ o. holds_back script && o) (sym (keeps (r.wire a b) a b before));
    fixed = λ a b more. none (r.wire a b ++ more) a b ∙ sym (none (r.wire a b) a b);
  }

  step-adds : (r : Run) (t : ℕ) → Adds script r (Step t) (step script rules r t)
  unfolding step followed
  step-adds r t =
      cond_both (nat_lt (next r.journal t) (length (statements script t))) (add_event script rules r (unless_refused script rules r t (next r.journal t) (refusal_of script rules r.journal t (next r.journal t)))) (reply_with script rules r Idle) (Adds script r (Step t))
      (λ _.
      elim (unless_refused script rules r t (next r.journal t) (refusal_of script rules r.journal t (next r.journal t))) as (λ o. Adds script r (Step t) (add_event script rules r o)) [
        | None ↦ quiet-adds r (Step t) Blocked r.journal (λ wire a b. refl) (λ wire a b before. refl)
        | Some e ↦ quiet-adds r (Step t) Did (e ∷ r.journal) (λ wire a b. refl) (λ wire a b before. refl)
      ])
      (λ _. quiet-adds r (Step t) Idle r.journal (λ wire a b. refl) (λ wire a b before. refl))

  begin-adds : (r : Run) (t w : ℕ) → Adds script r (Act.Begin t w) (begin script rules r t w)
  unfolding begin followed
  begin-adds r t w =
      elim (runs r.journal t w) as (λ o. Adds script r (Act.Begin t w) (begin_at script rules r t w o)) [
        | Some m ↦ quiet-adds r (Act.Begin t w) Busy r.journal (λ wire a b. refl) (λ wire a b before. refl)
        | None ↦
            elim (queue script rules r.journal t) as (λ ms. Adds script r (Act.Begin t w) (begin_first script rules r t w ms)) [
              | [] ↦ quiet-adds r (Act.Begin t w) Idle r.journal (λ wire a b. refl) (λ wire a b before. refl)
              | m ∷ ms ↦ quiet-adds r (Act.Begin t w) Did (Event.Begin m t w ∷ r.journal) (λ wire a b. refl) (λ wire a b before. refl)
            ]
      ]

  -- a line that grows the wires from one task, and hands over nothing
  sending-adds : (r : Run) (act : Act) (t : ℕ) (journal : List Event) (owed : (a b : ℕ) → Bool) (more : (a b : ℕ) → List Packet) → ((wire : List Packet) (a b : ℕ) → handed_by wire a b act Did ≡ []) → ((a b : ℕ) (before : Bool) → r.owed a b ≡ (holds_back script && before) → owed a b ≡ (holds_back script && owes_by (r.wire a b) a b act Did before))
      → Adds script r act (record { replies = r.replies ++ Did ∷ []; wire = λ a b. cond (a == t) (r.wire a b ++ more a b) (r.wire a b); handed = r.handed; owed = owed; journal = journal })
  sending-adds r act t journal owed more none left = record {
    reply = Did;
    replies = refl;
    wire = λ a b. cond_both (a == t) (r.wire a b ++ more a b) (r.wire a b) (λ ps. (rest : List Packet) × (ps ≡ r.wire a b ++ rest)) (λ _. (more a b, refl)) (λ _. ([], sym (append-nil (r.wire a b))));
    handed = λ a b. ap (λ ps. reverse ps ++ r.handed a b) (sym (none (r.wire a b) a b));
    owed = left;
    fixed = λ a b rest. none (r.wire a b ++ rest) a b ∙ sym (none (r.wire a b) a b);
  }

  poll-adds : (r : Run) (t : ℕ) → Adds script r (Poll t) (poll script rules r t)
  unfolding poll
  poll-adds r t =
      let journal = copy_each r.journal (ready script r.journal t) in
      sending-adds r (Poll t) t journal (λ a b. not (b == t) && r.owed a b) (λ a b. sends script rules r journal a b) (λ wire a b. refl) (λ a b before e. ap (λ o. not (b == t) && o) e ∙ swapped (not (b == t)) (holds_back script) before)

  tick-adds : (r : Run) (t : ℕ) → Adds script r (Tick t) (tick script rules r t)
  unfolding tick
  tick-adds r t = sending-adds r (Tick t) t r.journal r.owed (λ a b. packets script rules r.journal a b (to_resend script rules r a b)) (λ wire a b. refl) (λ a b before e. e)

  -- the entry that a line delivers, asked at the ends of its wire
  at_ends : (r : Run) (x y k : ℕ) (p : Packet) (a b : ℕ) → IsEntry r x y k p → (a == x && b == y) ≡ true → IsEntry r a b k p
  at_ends r x y k p a b e t =
      let both = and_parts _ _ t in
      subst (λ v. IsEntry r a v k p) (sym (eqb-true b y both.1)) (subst (λ u. IsEntry r u y k p) (sym (eqb-true a x both.0)) e)

  found-fixed : (r : Run) (x y k : ℕ) (p : Packet) → IsEntry r x y k p → (a b : ℕ) → IsFixed (r.wire a b) a b (Deliver x y k) Did
  found-fixed r x y k p e a b more =
      elim (a == x && b == y) as (λ c. (a == x && b == y) ≡ c → cond c (option_to_list (slice_get (r.wire a b ++ more) k)) [] ≡ cond c (option_to_list (slice_get (r.wire a b) k)) []) [
        | true ↦ λ t. let here = at_ends r x y k p a b e t in ap option_to_list (get-front (r.wire a b) more k p here ∙ sym here)
        | false ↦ λ t. refl
      ] refl

  found-handed : (r : Run) (x y k : ℕ) (p : Packet) → IsEntry r x y k p → (a b : ℕ)
      → cond (a == x && b == y) (p ∷ r.handed a b) (r.handed a b) ≡ reverse (handed_by (r.wire a b) a b (Deliver x y k) Did) ++ r.handed a b
  found-handed r x y k p e a b =
      elim (a == x && b == y) as (λ c. (a == x && b == y) ≡ c → cond c (p ∷ r.handed a b) (r.handed a b) ≡ reverse (cond c (option_to_list (slice_get (r.wire a b) k)) []) ++ r.handed a b) [
        | true ↦ λ t. ap (λ o. reverse (option_to_list o) ++ r.handed a b) (sym (at_ends r x y k p a b e t))
        | false ↦ λ t. refl
      ] refl

  -- whether it is a data packet
  found-any : (r : Run) (x y k : ℕ) (p : Packet) → IsEntry r x y k p → (a b : ℕ) → list_any is_numbered (handed_by (r.wire a b) a b (Deliver x y k) Did) ≡ ((a == x && b == y) && is_numbered p)
  found-any r x y k p e a b =
      elim (a == x && b == y) as (λ c. (a == x && b == y) ≡ c → list_any is_numbered (cond c (option_to_list (slice_get (r.wire a b) k)) []) ≡ (c && is_numbered p)) [
        | true ↦ λ t. ap (λ o. list_any is_numbered (option_to_list o)) (at_ends r x y k p a b e t) ∙ or-none (is_numbered p)
        | false ↦ λ t. refl
      ] refl

  hand-adds : (r : Run) (x y k : ℕ) (p : Packet) → IsEntry r x y k p → Adds script r (Deliver x y k) (reply_with script rules (hand_over script rules r x y p) Did)
  unfolding hand_over
  hand-adds r x y k (Ack layout from to least bits) e = record {
    reply = Did;
    replies = refl;
    wire = λ a b. ([], sym (append-nil (r.wire a b)));
    handed = found-handed r x y k (Ack layout from to least bits) e;
    owed = λ a b before h. h ∙ ap (λ o. holds_back script && (o || before)) (sym (found-any r x y k (Ack layout from to least bits) e a b ∙ and-none (a == x && b == y)));
    fixed = found-fixed r x y k (Ack layout from to least bits) e;
  }
  hand-adds r x y k (Data p) e =
      let told = at_once script rules (ack script rules (with_handed script rules r x y (Data p)) x y) in record {
        reply = Did;
        replies = refl;
        wire = λ a b. cond_both (a == y && b == x) (r.wire a b ++ told) (r.wire a b) (λ ps. (rest : List Packet) × (ps ≡ r.wire a b ++ rest)) (λ _. (told, refl)) (λ _. ([], sym (append-nil (r.wire a b))));
        handed = found-handed r x y k (Data p) e;
        owed = λ a b before h. ap (λ o. (holds_back script && (a == x && b == y)) || o) h ∙ shared (holds_back script) (a == x && b == y) before ∙ ap (λ o. holds_back script && (o || before)) (sym (found-any r x y k (Data p) e a b ∙ and-all (a == x && b == y)));
        fixed = found-fixed r x y k (Data p) e;
      }

  deliver-adds : (r : Run) (x y k : ℕ) → Adds script r (Deliver x y k) (deliver script rules r x y k)
  unfolding deliver
  deliver-adds r x y k =
      elim (slice_get (r.wire x y) k) as (λ o. slice_get (r.wire x y) k ≡ o → Adds script r (Deliver x y k) (deliver_entry script rules r x y o)) [
        | None ↦ λ e. quiet-adds r (Deliver x y k) Absent r.journal (λ wire a b. refl) (λ wire a b before. refl)
        | Some p ↦ λ e. hand-adds r x y k p e
      ] refl

  end-adds : (r : Run) (t w : ℕ) → Adds script r (Act.End t w) (end script rules r t w)
  unfolding end
  end-adds r t w =
      elim (runs r.journal t w) as (λ o. Adds script r (Act.End t w) (end_at script rules r t w o)) [
        | None ↦ quiet-adds r (Act.End t w) Idle r.journal (λ wire a b. refl) (λ wire a b before. refl)
        | Some m ↦ quiet-adds r (Act.End t w) Did (end_at script rules r t w (Some m)).journal (λ wire a b. refl) (λ wire a b before. refl)
      ]

  module _ (size : Packet → ℕ) (refusal : List ℕ → Bad) where
    cut-adds : (r : Run) (a b k n : ℕ) (o : Option Packet) → Adds script r (Cut a b k n) (cut_entry script rules size r n o)
    cut-adds r a b k n None = quiet-adds r (Cut a b k n) Absent r.journal (λ wire a b. refl) (λ wire a b before. refl)
    cut-adds r a b k n (Some p) = quiet-adds r (Cut a b k n) (cond (nat_lt n (size p)) (Reply.Bad (record { place = n; reason = Short })) Absent) r.journal (λ wire a b. refl) (λ wire a b before. refl)

    pub perform-adds : (r : Run) (act : Act) → Adds script r act (perform script rules size refusal r act)
    unfolding perform
    perform-adds r (Step t) = step-adds r t
    perform-adds r (Poll t) = poll-adds r t
    perform-adds r (Tick t) = tick-adds r t
    perform-adds r (Deliver a b k) = deliver-adds r a b k
    perform-adds r (Cut a b k n) = cut-adds r a b k n (slice_get (r.wire a b) k)
    perform-adds r (Inject a b bytes) = quiet-adds r (Inject a b bytes) (Reply.Bad (refusal bytes)) r.journal (λ wire a b. refl) (λ wire a b before. refl)
    perform-adds r (Act.Begin t w) = begin-adds r t w
    perform-adds r (Act.End t w) = end-adds r t w

    after-accounts : (acts before : List Act) (r : Run) → Accounts script before r → Accounts script (before ++ acts) (after script rules size refusal r acts)
    unfolding after
    after-accounts [] before r h = subst (λ acts. Accounts script acts r) (sym (append-nil before)) h
    after-accounts (act ∷ acts) before r h =
        let s = perform script rules size refusal r act in
        subst (λ all. Accounts script all (after script rules size refusal s acts)) (append_assoc before (act ∷ []) acts)
        (after-accounts acts (before ++ act ∷ []) s (accounts-more script before r act s h (perform-adds r act)))

    nothing : Accounts script [] start
    unfolding deliveries owes
    nothing = record { count = refl; handed = λ a b. refl; owed = λ a b. sym (and-none (holds_back script)); fixed = λ a b. tt }

    pub run-handed : (acts : List Act) (a b : ℕ) → (run_of script rules size refusal acts).handed a b ≡ reverse (deliveries ((run_of script rules size refusal acts).wire a b) a b acts (run_of script rules size refusal acts).replies)
    unfolding run_of
    run-handed acts a b = (after-accounts acts [] start nothing).handed a b

    pub run-owes : (acts : List Act) (a b : ℕ) → (run_of script rules size refusal acts).owed a b ≡ (holds_back script && owes ((run_of script rules size refusal acts).wire a b) a b (zip acts (run_of script rules size refusal acts).replies) false)
    unfolding run_of
    run-owes acts a b = (after-accounts acts [] start nothing).owed a b
