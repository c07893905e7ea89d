-- What landings and what follows them leave of what a task did.
use Rattle.std.proofs.Common.{◌≡◌, ℕ, ◌==◌, Bool, true, false, cond, not, ◌&&◌, List, [], ◌∷◌, ◌++◌, Option, Some, None, refl, sym, ap, ◌∙◌}
use Rattle.std.specs.List.{AllByRecursion}
use Rattle.std.proofs.lemmas.Bool.{and_right, false≢true}
use Rattle.lapi_base.specs.declared.script.Script.{Script}
use Rattle.lapi_base.specs.declared.rule.Rules.{Rules}
use Rattle.lapi_base.specs.declared.event.Event.{Event}
use Rattle.lapi_base.specs.declared.event.Event.TheVariants.{Copy, Land}
use Rattle.lapi_base.specs.declared.handler.HeaderOut.{HeaderOut}
use Rattle.lapi_base.specs.declared.head.Head.{Head}
use Rattle.lapi_base.specs.declared.head.Head.TheVariants as heads
use Rattle.lapi_base.specs.declared.message.Leg.{Leg}
use Rattle.lapi_base.specs.declared.message.Leg.TheVariants.{Go, Back, Note, Echo, Join}
use Rattle.lapi_base.specs.declared.message.MsgName.{MsgName}
use Rattle.lapi_base.specs.declared.packet.Packet.{Packet}
use Rattle.lapi_base.specs.declared.packet.DataPacket.{DataPacket}
use Rattle.lapi_base.specs.declared.packet.Packet.TheVariants.{Data}
use Rattle.lapi_base.specs.Record.HeadSays.{is_active, noted, follows}
use Rattle.lapi_base.specs.Record.Arrived.{count_of, has_some, whole_by, assembled, comes}
use Rattle.lapi_base.specs.Record.Counters.{reads}
use Rattle.lapi_base.specs.Record.Handlers.{has_completion}
use Rattle.lapi_base.specs.Record.Jobs.{runs}
use Rattle.lapi_base.specs.Record.Names.{message, leg_eq, name_eq, Issued, Entered, Copied, happened}
use Rattle.lapi_base.specs.Record.Wires.{has_number}
use Rattle.lapi_base.specs.Record.Acts.{followed}
use Rattle.lapi_base.specs.Record.Refusals.{next, refusals}
use Rattle.lapi_base.proofs.NameLaws.{happened-other}
use Rattle.lapi_reassembly.specs.declared.message.Message.{Message}
use Rattle.lapi_link.specs.declared.arrival.Arrival.TheVariants.{Repeat}
use Rattle.lapi_link.specs.Receiver.{came, message_of, arrival_of}
use Rattle.lapi_task.specs.Answered.{completes_in}
use Rattle.lapi_task.specs.Landed.{called, is_first, landed, events_of}
use Rattle.lapi_task.proofs.Following.HeaderAnswers.{follows-same}
use Rattle.lapi_base.proofs.ListLaws.{all-append}
use Rattle.lapi_task.proofs.Copying.UncopiedLaws.{SameMessages}

-- What lands with a packet that makes its message whole, and with another one.
abbrev pub come : (whole : Bool) → MsgName → Head → List ℕ → Option HeaderOut → Option Message
come whole m h bytes out = cond whole (Some (record { name = m; head = h; bytes = bytes; out = out })) None

abbrev pub came_bytes : Script → List Packet → DataPacket → List ℕ
came_bytes script ps p = assembled (count_of script p.length) (Data p ∷ ps) p.name

abbrev pub is_all : Script → List Packet → DataPacket → Bool
is_all script ps p = whole_by (count_of script p.length) (Data p ∷ ps) p.name

-- the packet has a new number, and is the first of its message
abbrev pub is_opening : List Packet → DataPacket → Bool
is_opening ps p = not (has_number ps p.seq) && not (has_some ps p.name)

landed-come : (known some whole : Bool) (m : MsgName) (h : Head) (bytes : List ℕ) (old now : Option HeaderOut) → landed now (cond known Repeat (came some whole (record { name = m; head = h; bytes = bytes; out = old }))) ≡ come (not known && whole) m h bytes (cond some old now)
landed-come true some whole m h bytes old now = refl
landed-come false true true m h bytes old now = refl
landed-come false false true m h bytes old now = refl
landed-come false true false m h bytes old now = refl
landed-come false false false m h bytes old now = refl

pub come-is : (script : Script) (ps : List Packet) (p : DataPacket) (old now : Option HeaderOut) → landed now (arrival_of script ps p old) ≡ come (not (has_number ps p.seq) && is_all script ps p) p.name p.head (came_bytes script ps p) (cond (has_some ps p.name) old now)
unfolding arrival_of
come-is script ps p old now = landed-come (has_number ps p.seq) (has_some ps p.name) (is_all script ps p) p.name p.head (came_bytes script ps p) old now

-- by the answer, where the number is new
pub come-told : (script : Script) (ps : List Packet) (p : DataPacket) (o out : Option HeaderOut) → (has_number ps p.seq ≡ false → o ≡ out) → come (not (has_number ps p.seq) && is_all script ps p) p.name p.head (came_bytes script ps p) o ≡ come (not (has_number ps p.seq) && is_all script ps p) p.name p.head (came_bytes script ps p) out
come-told script ps p o out same =
    let lands = λ (known : Bool) (x : Option HeaderOut). come (not known && is_all script ps p) p.name p.head (came_bytes script ps p) x in
    elim (has_number ps p.seq) as (λ b. has_number ps p.seq ≡ b → lands b o ≡ lands b out) [
      | true ↦ λ e. refl
      | false ↦ λ e. ap (lands false) (same e)
    ] refl

first-came : (known some whole : Bool) (m : Message) → is_first (cond known Repeat (came some whole m)) ≡ (not known && not some)
first-came true some whole m = refl
first-came false true true m = refl
first-came false true false m = refl
first-came false false true m = refl
first-came false false false m = refl

pub first-is : (script : Script) (ps : List Packet) (p : DataPacket) (old : Option HeaderOut) → is_first (arrival_of script ps p old) ≡ is_opening ps p
unfolding arrival_of
first-is script ps p old = first-came (has_number ps p.seq) (has_some ps p.name) (is_all script ps p) (message_of script ps p old)

either-way : (x y : Bool) → (x && y) ≡ (y && x)
either-way true true = refl
either-way true false = refl
either-way false true = refl
either-way false false = refl

-- its events
pub come-events : (script : Script) (rules : Rules) (ps : List Packet) (p : DataPacket) (out : Option HeaderOut) (count : ℕ) → (is_active p.head ≡ true → has_completion script rules p.name.origin p.name.statement ≡ completes_in count out) → (known : Bool) → cond known [] (comes script rules ps p) ≡ called (not known && not (has_some ps p.name)) p.name p.head ++ events_of count (come (not known && is_all script ps p) p.name p.head (came_bytes script ps p) out)
unfolding comes
come-events script rules ps p out count told true = refl
come-events script rules ps p out count told false =
    ap (λ b. cond b (Event.Head p.name ∷ []) [] ++ cond (is_all script ps p) (Land p.name ∷ follows p.head (has_completion script rules p.name.origin p.name.statement) p.name) []) (either-way (is_active p.head) (not (has_some ps p.name)))
    ∙ ap (λ es. called (not (has_some ps p.name)) p.name p.head ++ es) (one (is_all script ps p))
  where
    one : (whole : Bool) → cond whole (Land p.name ∷ follows p.head (has_completion script rules p.name.origin p.name.statement) p.name) [] ≡ events_of count (come whole p.name p.head (came_bytes script ps p) out)
    one true = ap (λ es. Land p.name ∷ es) (follows-same p.head p.name (has_completion script rules p.name.origin p.name.statement) (completes_in count out) told)
    one false = refl

pub followed-append : (xs ys J : List Event) → followed J (xs ++ ys) ≡ followed (followed J xs) ys
unfolding followed
followed-append [] ys J = refl
followed-append (x ∷ xs) ys J = followed-append xs ys (x ∷ J)

-- a poll copies messages of this leg
abbrev pub is_polled : Leg → Bool
is_polled Go = true
is_polled (Join d) = true
is_polled _ = false

pub polled-apart : (x y : Leg) → is_polled x ≡ true → is_polled y ≡ false → leg_eq x y ≡ false
polled-apart x Go h e = absurd (false≢true (sym e))
polled-apart x (Join d) h e = absurd (false≢true (sym e))
polled-apart Go Back h e = refl
polled-apart Go Note h e = refl
polled-apart Go Echo h e = refl
polled-apart (Join d) Back h e = refl
polled-apart (Join d) Note h e = refl
polled-apart (Join d) Echo h e = refl
polled-apart _ y h e = absurd (false≢true h)

-- the call of a header handler, a landing, or a copy that no poll makes
abbrev pub IsMild : Event → Type 0
IsMild (Event.Head m) = Unit {0}
IsMild (Land m) = Unit {0}
IsMild (Copy m) = is_polled m.leg ≡ false
IsMild _ = ⊥

mild-noted : (m : MsgName) (o : Option ℕ) → AllByRecursion IsMild (noted m o)
mild-noted m None = tt
mild-noted m (Some c) = (refl, tt)

mild-follows : (h : Head) (completion : Bool) (m : MsgName) → AllByRecursion IsMild (follows h completion m)
unfolding follows
mild-follows (heads.Put at tgt cmpl) completion m = mild-noted m cmpl
mild-follows (heads.Putv tgt cmpl pieces) completion m = mild-noted m cmpl
mild-follows (heads.Am handler tgt cmpl header) true m = tt
mild-follows (heads.Am handler tgt cmpl header) false m = mild-noted m cmpl
mild-follows (heads.GetGo asked source dest tgt org) completion m = (refl, tt)
mild-follows (heads.GetvGo tgt org source dest) completion m = (refl, tt)
mild-follows (heads.RmwGo op at in1 in2 prev org) completion m = (refl, tt)
mild-follows _ completion m = tt

mild-called : (first active : Bool) (m : MsgName) → AllByRecursion IsMild (cond (first && active) (Event.Head m ∷ []) [])
mild-called true true m = (tt, tt)
mild-called true false m = tt
mild-called false active m = tt

mild-come : (count : ℕ) (whole : Bool) (m : MsgName) (h : Head) (bytes : List ℕ) (out : Option HeaderOut) → AllByRecursion IsMild (events_of count (come whole m h bytes out))
mild-come count true m h bytes out = (tt, mild-follows h (completes_in count out) m)
mild-come count false m h bytes out = tt

pub come-mild : (count : ℕ) (first whole : Bool) (m : MsgName) (h : Head) (bytes : List ℕ) (out : Option HeaderOut) → AllByRecursion IsMild (called first m h ++ events_of count (come whole m h bytes out))
come-mild count first whole m h bytes out = all-append IsMild (called first m h) (events_of count (come whole m h bytes out)) (mild-called first (is_active h) m) (mild-come count whole m h bytes out)

module _ (script : Script) (rules : Rules) (t : ℕ) where
  -- what the task did is as it was
  pub record DidSame (J K : List Event) : Type 0 where
    pub next : next K t ≡ next J t
    pub issued : (i : ℕ) → happened (Issued t i) K ≡ happened (Issued t i) J
    pub entered : (i : ℕ) → happened (Entered t i) K ≡ happened (Entered t i) J
    pub copied : (m : MsgName) → is_polled m.leg ≡ true → happened (Copied m) K ≡ happened (Copied m) J
    pub reads : reads script rules K t ≡ reads script rules J t
    pub refusals : refusals K t ≡ refusals J t
    pub running : (w : ℕ) → runs K t w ≡ runs J t w

  not-copied : (k m : MsgName) → is_polled k.leg ≡ true → is_polled m.leg ≡ false → name_eq k m ≡ false
  unfolding name_eq
  not-copied k m on off = and_right (k.origin == m.origin && k.statement == m.statement) (leg_eq k.leg m.leg) (polled-apart k.leg m.leg on off)

  mild-one : (e : Event) (J : List Event) → IsMild e → DidSame J (e ∷ J)
  unfolding next reads refusals runs
  mild-one (Event.Head m) J h = record {
    next = refl;
    issued = λ i. happened-other (Issued t i) (Event.Head m) J refl;
    entered = λ i. happened-other (Entered t i) (Event.Head m) J refl;
    copied = λ k on. happened-other (Copied k) (Event.Head m) J refl;
    reads = refl;
    refusals = refl;
    running = λ w. refl;
  }
  mild-one (Land m) J h = record {
    next = refl;
    issued = λ i. happened-other (Issued t i) (Land m) J refl;
    entered = λ i. happened-other (Entered t i) (Land m) J refl;
    copied = λ k on. happened-other (Copied k) (Land m) J refl;
    reads = refl;
    refusals = refl;
    running = λ w. refl;
  }
  mild-one (Copy m) J h = record {
    next = refl;
    issued = λ i. happened-other (Issued t i) (Copy m) J refl;
    entered = λ i. happened-other (Entered t i) (Copy m) J refl;
    copied = λ k on. happened-other (Copied k) (Copy m) J (not-copied k m on h);
    reads = refl;
    refusals = refl;
    running = λ w. refl;
  }
  mild-one _ J h = absurd h

  pub mild-all : (es J : List Event) → AllByRecursion IsMild es → DidSame J (followed J es)
  unfolding followed
  mild-all [] J h = record { next = refl; issued = λ i. refl; entered = λ i. refl; copied = λ k on. refl; reads = refl; refusals = refl; running = λ w. refl }
  mild-all (e ∷ es) J h =
      let one = mild-one e J h.0 in
      let rest = mild-all es (e ∷ J) h.1 in
      record {
        next = rest.next ∙ one.next;
        issued = λ i. rest.issued i ∙ one.issued i;
        entered = λ i. rest.entered i ∙ one.entered i;
        copied = λ k on. rest.copied k on ∙ one.copied k on;
        reads = rest.reads ∙ one.reads;
        refusals = rest.refusals ∙ one.refusals;
        running = λ w. rest.running w ∙ one.running w;
      }

  -- a poll has the same to copy
  pub same-messages : (J K : List Event) (i : ℕ) → DidSame J K → SameMessages script t J K i
  same-messages J K i h = record {
    issued = h.issued i;
    entered = h.entered i;
    data_copied = h.copied (message t i Go) refl;
    joins_copied = λ d. h.copied (message t i (Join d)) refl;
  }
