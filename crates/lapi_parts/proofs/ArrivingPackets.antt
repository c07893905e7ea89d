-- A packet that comes in: its acknowledgement and its events are told by itself and the packets before it.
use Rattle.std.proofs.Common.{◌≡◌, ℕ, suc, ◌+◌, ◌==◌, Bool, true, false, cond, ◌&&◌, not, List, [], ◌∷◌, ◌++◌, Option, Some, refl, sym, ap, ◌∙◌, subst, ⊎_elim}
use Rattle.std.specs.Prelude.{slice_get, is_some}
use Rattle.std.specs.List.{AllByRecursion, list_any}
use Rattle.std.proofs.lemmas.Bool.{or_cases, and_from, and_parts, false≢true, eqb-true, cond-true}
use Rattle.lapi_base.specs.declared.script.Script.{Script}
use Rattle.lapi_base.specs.declared.statement.Statement.{Statement}
use Rattle.lapi_base.specs.declared.statement.Statement.TheVariants.{Put, Get, Putv, Getv, Rmw, Am, Gfence}
use Rattle.lapi_base.specs.declared.rule.Rules.{Rules}
use Rattle.lapi_base.specs.declared.message.Leg.{Leg}
use Rattle.lapi_base.specs.declared.message.Leg.TheVariants.{Go, Back, Note, Echo, Join}
use Rattle.lapi_base.specs.declared.message.MsgName.{MsgName}
use Rattle.lapi_base.specs.declared.event.Event.{Event}
use Rattle.lapi_base.specs.declared.event.Event.TheVariants.{Head, Land}
use Rattle.lapi_base.specs.declared.head.Head.{Head as PacketHead}
use Rattle.lapi_base.specs.declared.packet.Packet.{Packet}
use Rattle.lapi_base.specs.declared.packet.Packet.TheVariants.{Data, Ack}
use Rattle.lapi_base.specs.declared.packet.DataPacket.{DataPacket}
use Rattle.lapi_base.specs.Packet.Layout.{window_of}
use Rattle.lapi_base.specs.Record.Below.{bits_of}
use Rattle.lapi_base.specs.Record.Names.{message, leg_eq, Copied}
use Rattle.lapi_base.specs.Record.Operations.{statement, is_am, has_back, has_leg, cmpl_counter, message_length, fragment_count}
use Rattle.lapi_base.specs.Record.Handlers.{completion, has_completion, answers}
use Rattle.lapi_base.specs.Record.Packets.{head_by, data_packet}
use Rattle.lapi_base.specs.Record.Wires.{Run, numbered, is_number, has_number, ack}
use Rattle.lapi_base.specs.Record.Acts.{after_land, with_handed}
use Rattle.lapi_base.specs.Record.WorldView.{HoldsOfRecords}
use Rattle.lapi_base.specs.Laws.Entries.{carried}
use Rattle.lapi_base.specs.Record.HeadSays.{is_active, noted, answered, follows}
use Rattle.lapi_base.specs.Record.Arrived.{IsKnown, ack_of, has_some, whole_by, is_whole, count_of, comes}
use Rattle.lapi_base.specs.Laws.Receiving.{AcksAreTold, NextAcksAreTold, ArrivalsAreTold, RepeatsAreKnown}
use Rattle.lapi_base.proofs.ListLaws.{all-get, some-same}
use Rattle.lapi_base.proofs.TestLaws.{eqb-refl}
use Rattle.lapi_laws.proofs.Out.{numbered-copied}
use Rattle.lapi_laws.proofs.Backward.{there}
use Rattle.lapi_laws.proofs.Sound.{Fits}
use Rattle.lapi_parts.proofs.Records.{record-sound}
use Rattle.lapi_parts.proofs.ExactBytes.{Exact, record-exact}
use Rattle.lapi_parts.proofs.HandedPackets.{arrival_of, least-local, ack-local, arrival-local}

and-none : (x : Bool) → (x && false) ≡ false
and-none true = refl
and-none false = refl

head_of : Packet → PacketHead
head_of (Data p) = p.head
head_of (Ack layout from to base bits) = PacketHead.Gfence 0

length_of : Packet → ℕ
length_of (Data p) = p.length
length_of (Ack layout from to base bits) = 0

module _ (script : Script) (rules : Rules) where
  -- What the head of a message tells of its statement: whether it is an active message,
  pub active-is : (answers : Bool) (m : MsgName) (leg : Leg) (s : Statement) → has_leg script answers m.origin leg s ≡ true → (is_am s && leg_eq leg Go) ≡ is_active (head_by script m leg s)
  active-is ans m Go (Put target to from len tgt org cmpl) h = refl
  active-is ans m Go (Get target from to len tgt org) h = refl
  active-is ans m Go (Putv target to from tgt org cmpl) h = refl
  active-is ans m Go (Getv target from to tgt org) h = refl
  active-is ans m Go (Rmw target op at in1 in2 prev org) h = refl
  active-is ans m Go (Am target handler header from len tgt org cmpl) h = refl
  active-is ans m Back (Get target from to len tgt org) h = refl
  active-is ans m Back (Getv target from to tgt org) h = refl
  active-is ans m Back (Rmw target op at in1 in2 prev org) h = refl
  active-is ans m Note (Put target to from len tgt org cmpl) h = refl
  active-is ans m Note (Putv target to from tgt org cmpl) h = refl
  active-is ans m Note (Am target handler header from len tgt org cmpl) h = refl
  active-is ans m Echo s h = ap (λ b. b) (and-none (is_am s))
  active-is ans m (Join d) Gfence h = refl
  active-is ans m (Join d) (Statement.Addr at) h = refl
  active-is ans m _ s h = absurd (false≢true h)

  -- and what follows its landing.
  after : MsgName → Bool → Leg → Statement → List Event
  after m completion leg s = cond (leg_eq leg Go) (cond (has_back s) (answered m) (cond completion [] (noted m (cmpl_counter s)))) []

  none-follows : (m : MsgName) (completion : Bool) (cmpl : Option ℕ) → completion ≡ false → cond completion [] (noted m cmpl) ≡ noted m cmpl
  none-follows m completion cmpl e = ap (λ b. cond b [] (noted m cmpl)) e

  follows-is : (answers : Bool) (m : MsgName) (completion : Bool) (leg : Leg) (s : Statement) → has_leg script answers m.origin leg s ≡ true → (is_am s ≡ false → completion ≡ false) → after m completion leg s ≡ follows (head_by script m leg s) completion m
  unfolding after follows
  follows-is ans m c Go (Put target to from len tgt org cmpl) h n = none-follows m c cmpl (n refl)
  follows-is ans m c Go (Get target from to len tgt org) h n = refl
  follows-is ans m c Go (Putv target to from tgt org cmpl) h n = none-follows m c cmpl (n refl)
  follows-is ans m c Go (Getv target from to tgt org) h n = refl
  follows-is ans m c Go (Rmw target op at in1 in2 prev org) h n = refl
  follows-is ans m c Go (Am target handler header from len tgt org cmpl) h n = refl
  follows-is ans m c Back (Get target from to len tgt org) h n = refl
  follows-is ans m c Back (Getv target from to tgt org) h n = refl
  follows-is ans m c Back (Rmw target op at in1 in2 prev org) h n = refl
  follows-is ans m c Note (Put target to from len tgt org cmpl) h n = refl
  follows-is ans m c Note (Putv target to from tgt org cmpl) h n = refl
  follows-is ans m c Note (Am target handler header from len tgt org cmpl) h n = refl
  follows-is ans m c Echo s h n = refl
  follows-is ans m c (Join d) Gfence h n = refl
  follows-is ans m c (Join d) (Statement.Addr at) h n = refl
  follows-is ans m c _ s h n = absurd (false≢true h)

  pub no-completion : (a i : ℕ) → is_am (statement script a i) ≡ false → has_completion script rules a i ≡ false
  unfolding has_completion
  no-completion a i h = ap (λ b. b && is_some (completion script rules (message a i Go))) h

  pub after-is : (m : MsgName) → has_leg script (answers script rules m.origin m.statement) m.origin m.leg (statement script m.origin m.statement) ≡ true → after_land script rules m ≡ follows (head_by script m m.leg (statement script m.origin m.statement)) (has_completion script rules m.origin m.statement) m
  unfolding after
  after-is m h = follows-is _ m (has_completion script rules m.origin m.statement) m.leg (statement script m.origin m.statement) h (no-completion m.origin m.statement)

  pub counts-is : (m : MsgName) → fragment_count script m ≡ count_of script (message_length script m)
  unfolding fragment_count count_of
  counts-is m = refl

  -- The events by what was handed over are those by the packet itself.
  comes-is : (ps : List Packet) (p : DataPacket) → has_leg script (answers script rules p.name.origin p.name.statement) p.name.origin p.name.leg (statement script p.name.origin p.name.statement) ≡ true → p.head ≡ head_by script p.name p.name.leg (statement script p.name.origin p.name.statement) → p.length ≡ message_length script p.name → arrival_of script rules ps (Data p) p.name ≡ comes script rules ps p
  unfolding arrival_of comes is_whole
  comes-is ps p h head length =
      let m = p.name in
      let s = statement script m.origin m.statement in
      let c = has_completion script rules m.origin m.statement in
      ap (λ x. cond (x && not (has_some ps m)) (Head m ∷ []) [] ++ cond (whole_by (fragment_count script m) (Data p ∷ ps) m) (Land m ∷ after_land script rules m) []) (active-is _ m m.leg s h ∙ ap is_active (sym head))
      ∙ ap (λ n. cond (is_active p.head && not (has_some ps m)) (Head m ∷ []) [] ++ cond (whole_by n (Data p ∷ ps) m) (Land m ∷ after_land script rules m) []) (counts-is m ∙ ap (count_of script) (sym length))
      ∙ ap (λ es. cond (is_active p.head && not (has_some ps m)) (Head m ∷ []) [] ++ cond (whole_by (count_of script p.length) (Data p ∷ ps) m) (Land m ∷ es) []) (after-is m h ∙ ap (λ k. follows k c m) (sym head))

  pub head-is : (J : List Event) (p : DataPacket) → Exact script rules J (Data p) → p.head ≡ head_by script p.name p.name.leg (statement script p.name.origin p.name.statement)
  unfolding data_packet head_of
  head-is J p x = ap head_of x

  pub length-is : (J : List Event) (p : DataPacket) → Exact script rules J (Data p) → p.length ≡ message_length script p.name
  unfolding data_packet length_of
  length-is J p x = ap length_of x

  handed-with : (r : Run) (a b : ℕ) (p : Packet) → (with_handed script rules r a b p).handed a b ≡ p ∷ r.handed a b
  handed-with r a b p = cond-true (a == a && b == b) (p ∷ r.handed a b) (r.handed a b) (and_from _ _ (eqb-refl a) (eqb-refl b))

  ack-by : (r : Run) (old : ℕ → ℕ → List Packet) (a b : ℕ) → AllByRecursion (Fits script rules r.journal old a b) (r.handed a b) → ack script rules r a b ≡ ack_of script (r.handed a b) a b
  unfolding ack ack_of
  ack-by r old a b all = ap (λ n. Ack script.layout b a n (bits_of (window_of script) (λ i. has_number (r.handed a b) (n + i)))) (least-local script rules r.journal old a b (r.handed a b) all)

  -- Two packets of one number are the same packet.
  same-data : (r : Run) (a b : ℕ) (p q : DataPacket) → Fits script rules r.journal r.handed a b (Data p) → Fits script rules r.journal r.handed a b (Data q) → Exact script rules r.journal (Data p) → Exact script rules r.journal (Data q) → p.seq ≡ q.seq → Data q ≡ Data p
  same-data r a b p q f g x y e =
      let both : Some (p.name, p.fragment) ≡ Some (q.name, q.fragment) = sym f ∙ ap (slice_get (numbered script r.journal a b)) e ∙ g in
      let pair = some-same (p.name, p.fragment) (q.name, q.fragment) both in
      let name : p.name ≡ q.name = ap (λ (v : MsgName × ℕ). v.0) pair in
      let fragment : p.fragment ≡ q.fragment = ap (λ (v : MsgName × ℕ). v.1) pair in
      y ∙ ap (λ (k : MsgName). data_packet script k q.seq q.fragment (carried script rules r.journal k)) (sym name)
      ∙ ap (λ n. data_packet script p.name n q.fragment (carried script rules r.journal p.name)) (sym e)
      ∙ ap (λ j. data_packet script p.name p.seq j (carried script rules r.journal p.name)) (sym fragment)
      ∙ sym x

  number-at : (p : DataPacket) (q : Packet) (r : Run) (a b : ℕ) → is_number p.seq q ≡ true → Fits script rules r.journal r.handed a b (Data p) → Exact script rules r.journal (Data p) → Fits script rules r.journal r.handed a b q → Exact script rules r.journal q → q ≡ Data p
  number-at p (Data q) r a b n f x g y = same-data r a b p q f g x y (sym (eqb-true q.seq p.seq n))
  number-at p (Ack layout from to base bits) r a b n f x g y = absurd (false≢true n)

  known-in : (r : Run) (a b : ℕ) (p : DataPacket) → Fits script rules r.journal r.handed a b (Data p) → Exact script rules r.journal (Data p) → (ps : List Packet) → AllByRecursion (Fits script rules r.journal r.handed a b) ps → AllByRecursion (Exact script rules r.journal) ps → IsKnown p ps
  unfolding has_number
  known-in r a b p f e [] fs es any = absurd (false≢true any)
  known-in r a b p f e (q ∷ qs) fs es any =
      ⊎_elim
      (λ (n : is_number p.seq q ≡ true). (0, ap Some (number-at p q r a b n f e fs.0 es.0)))
      (λ (n : list_any (is_number p.seq) qs ≡ true). let later = known-in r a b p f e qs fs.1 es.1 n in (suc later.0, later.1))
      (or_cases (is_number p.seq q) (list_any (is_number p.seq) qs) any)

-- the laws
pub acks-told : HoldsOfRecords AcksAreTold
acks-told script rules r is = λ a b. ack-local script rules r a b ((record-sound script rules r is).hands a b)

pub next-acks-told : HoldsOfRecords NextAcksAreTold
next-acks-told script rules r is = λ a b k p wire.
    let s = record-sound script rules r is in
    let fit = all-get (Fits script rules r.journal r.handed a b) (r.wire a b) k (Data p) (s.wires a b) wire in
    let q = with_handed script rules r a b (Data p) in
    let same = handed-with script rules r a b (Data p) in
    let all : AllByRecursion (Fits script rules r.journal r.handed a b) (q.handed a b) = subst (AllByRecursion (Fits script rules r.journal r.handed a b)) (sym same) (fit, s.hands a b) in
    ack-by script rules q r.handed a b all ∙ ap (λ ps. ack_of script ps a b) same

pub arrivals-told : HoldsOfRecords ArrivalsAreTold
arrivals-told script rules r is = λ a b k p wire.
    let s = record-sound script rules r is in
    let fit = all-get (Fits script rules r.journal r.handed a b) (r.wire a b) k (Data p) (s.wires a b) wire in
    let exact = all-get (Exact script rules r.journal) (r.wire a b) k (Data p) ((record-exact script rules r is).wires a b) wire in
    let copied = (numbered-copied script r.journal a b p.seq (p.name, p.fragment) fit).0 in
    let leg = (and_parts _ _ (there script rules (Copied p.name) r.journal s.atomic copied)).1 in
    arrival-local script rules r a b p s.atomic fit (s.hands a b)
    ∙ comes-is script rules (r.handed a b) p leg (head-is script rules r.journal p exact) (length-is script rules r.journal p exact)

pub repeats-known : HoldsOfRecords RepeatsAreKnown
repeats-known script rules r is = λ a b k p wire.
    let s = record-sound script rules r is in
    let x = record-exact script rules r is in
    known-in script rules r a b p (all-get (Fits script rules r.journal r.handed a b) (r.wire a b) k (Data p) (s.wires a b) wire) (all-get (Exact script rules r.journal) (r.wire a b) k (Data p) (x.wires a b) wire) (r.handed a b) (s.hands a b) (x.hands a b)
