-- What comes of a packet that fits its task, by what the task has.
use Rattle.std.proofs.Common.{◌≡◌, ℕ, ◌+◌, ◌*◌, ◌<◌, ◌≤◌, ◌==◌, ◌||◌, ◌++◌, Bool, true, false, not, List, length, get_or, Option, Some, None, IfSome, refl, sym, ap, ◌∙◌, subst, arith}
use Rattle.std.specs.Prelude.{slice_get, slice_set}
use Rattle.std.proofs.lemmas.Bool.{and_from, eqb-true}
use Rattle.std.proofs.lemmas.List.{length-set, append-nil}
use Rattle.std.proofs.lemmas.Option.{get_or_from_slice_get}
use Rattle.lapi_base.specs.declared.event.Event.{Event}
use Rattle.lapi_base.specs.declared.handler.HeaderOut.{HeaderOut}
use Rattle.lapi_base.specs.declared.head.Head.{Head}
use Rattle.lapi_base.specs.declared.message.Leg.TheVariants.{Back}
use Rattle.lapi_base.specs.declared.message.MsgName.{MsgName}
use Rattle.lapi_base.specs.declared.packet.DataPacket.{DataPacket}
use Rattle.lapi_base.specs.declared.packet.Packet.TheVariants.{Data}
use Rattle.lapi_base.proofs.ListLaws.{get-some, get-set, some-same}
use Rattle.lapi_window.specs.RecvWindow.{Receiving, is_taken}
use Rattle.lapi_reassembly.specs.declared.message.Message.{Message}
use Rattle.lapi_reassembly.specs.Partial.{IsMessageOf, is_whole, message}
use Rattle.lapi_link.specs.declared.arrival.Arrival.{Arrival}
use Rattle.lapi_link.specs.declared.arrival.Arrival.TheVariants.{Whole, Repeat, First, More, FirstWhole}
use Rattle.lapi_link.specs.Receiver.{ReceivingEnd, TakesOnce, came, gathered_with, whole_message}
use Rattle.lapi_task.specs.declared.task.Task.{Task}
use Rattle.lapi_task.specs.Acknowledging.{MayAnswer}
use Rattle.lapi_task.specs.Answered.{completes_in}
use Rattle.lapi_task.specs.HasEffect.{IsAtSome}
use Rattle.lapi_task.specs.Landed.{MayCall, HeadMayLand, FollowerMayLeave, ArrivalMayLand, ArrivalMayAnswer, HasCome, landed, called, is_first, kept_now}
use Rattle.lapi_task.specs.MayReceive.{DataFits, is_last}
use Rattle.lapi_task.specs.StandsFor.{ReceiverAt}
use Rattle.lapi_task.specs.Unfinished.{IsOfStatement}
use Rattle.std.proofs.lemmas.List.Elements.{recursion_from_All}
use Rattle.lapi_base.specs.declared.span.Span.{Span}
use Rattle.lapi_base.specs.Packet.Format.{byte_count}
use Rattle.lapi_base.specs.Packet.Layout.{is_version, layout_of, bits_size, window_of}
use Rattle.lapi_base.specs.Packet.Spelling.{HasSpelling}
use Rattle.lapi_base.specs.Record.HeadSays.{asked_pieces}
use Rattle.lapi_base.specs.Record.Operations.{numbers_below}
use Rattle.lapi_base.specs.Record.Valid.{IsByte}
use Rattle.lapi_base.specs.Record.Values.{values, memory_bytes}
use Rattle.lapi_base.proofs.LayoutLaws.{window-bits}
use Rattle.lapi_base.proofs.ListLaws.{all-map, all-any}
use Rattle.lapi_parts.proofs.SmallBytes.{AllBytes, values-small}
use Rattle.lapi_vector.specs.Pieces.{AreWithin}
use Rattle.lapi_task.proofs.Following.KeptHeads.{Bears, says-of-messages}
use Rattle.lapi_task.proofs.Following.SpelledFollowers.{go-of, leaves}

-- what is read at a place that there is
pub read-there : {X : Type 0} (xs : List X) (n : ℕ) (d : X) → n < length xs → slice_get xs n ≡ Some (get_or xs n d)
read-there xs n d l = let x = get-some xs n l in x.1 ∙ ap (λ y. Some y) (sym (get_or_from_slice_get xs n x.0 d x.1))

-- the message that is whole is that of the arrival, but for the answer to its header
by-arrival : (P : Message → Type 0) (now : Option HeaderOut) (arrival : Arrival) → ((m : Message) (out : Option HeaderOut) → whole_message arrival ≡ Some m → P (record m { out = out })) → IfSome (landed now arrival) P
by-arrival P now (Whole m) h = h m m.out refl
by-arrival P now (FirstWhole m) h = h m now refl
by-arrival P now Repeat h = tt
by-arrival P now First h = tt
by-arrival P now More h = tt

-- where a message came whole, its packet was the last one of it
whole-came : (some whole : Bool) (x m : Message) → whole_message (came some whole x) ≡ Some m → whole ≡ true
whole-came some true x m e = refl
whole-came true false x m e = absurd (let q : None ≡ Some m = e in cc)
whole-came false false x m e = absurd (let q : None ≡ Some m = e in cc)

last-came : (old new : ReceivingEnd) (p : DataPacket) (arrival : Arrival) → TakesOnce old new p arrival → (m : Message) → whole_message arrival ≡ Some m → is_last old p ≡ true
last-came old new p arrival once m e =
    elim (is_taken old.window p.seq) as (λ b. is_taken old.window p.seq ≡ b → is_last old p ≡ true) [
      | true ↦ λ taken. absurd (let q : None ≡ Some m = sym (ap whole_message (once.repeat taken).0) ∙ e in cc)
      | false ↦ λ fresh.
          let g = gathered_with old.partials p in
          and_from _ _ (ap not fresh) (whole-came _ (is_whole g) (message g) m (sym (ap whole_message (once.fresh fresh).0) ∙ e))
    ] refl

if-of : (o : Option Message) (m : Message) (P : Message → Type 0) → o ≡ Some m → IfSome o P → P m
if-of o m P e h = subst (λ x. IfSome x P) e h

module _ (task : Task) (a : ℕ) (p : DataPacket) (end : ReceivingEnd) (fits : DataFits task a p end) (now : Option HeaderOut) (came-whole : Option Message) (before after : List ReceivingEnd) (events during : List Event) (own : HasCome before after a p now came-whole events during end) where
  -- It may land,
  abbrev MayLandNow : (count : ℕ) → Message → Type 0
  MayLandNow count m = HeadMayLand a m.head (completes_in count m.out) (length m.bytes) task.state.memory task.state.counters task.state.collective

  lands-now : (count : ℕ) (m : Message) (out : Option HeaderOut) → whole_message own.arrival ≡ Some m → MayLandNow count (record m { out = out })
  lands-now count m out e =
      let c = completes_in count out in
      let is : IsMessageOf p.name p.head p.length m = if-of (whole_message own.arrival) m (IsMessageOf p.name p.head p.length) e own.message in
      let given = fits.lands (last-came end own.mid p own.arrival own.once m e) c in
      subst (λ (h : Head). HeadMayLand a h c (length m.bytes) task.state.memory task.state.counters task.state.collective) (sym is.head)
      (subst (λ n. HeadMayLand a p.head c n task.state.memory task.state.counters task.state.collective) (sym is.bytes) given)

  pub may-land-now : (count : ℕ) → ArrivalMayLand a count came-whole task.state.memory task.state.counters task.state.collective
  may-land-now count = some came-whole (subst (λ o. IfSome o (MayLandNow count)) (sym own.whole) (by-arrival (MayLandNow count) now own.arrival (lands-now count)))
    where
      some : (o : Option Message) → IfSome o (MayLandNow count) → ArrivalMayLand a count o task.state.memory task.state.counters task.state.collective
      some None h = tt
      some (Some m) h = h

  -- what follows may leave,
  module _ (leave : (c : Bool) → AreWithin (asked_pieces p.head) (length task.state.memory) → FollowerMayLeave task.sizes.layout task.state.number a p.name p.head c task.state.memory) where
    abbrev FollowsNow : (count : ℕ) → Message → Type 0
    FollowsNow count m = FollowerMayLeave task.sizes.layout task.state.number a m.name m.head (completes_in count m.out) task.state.memory

    follows-now : (count : ℕ) (m : Message) (out : Option HeaderOut) → whole_message own.arrival ≡ Some m → FollowsNow count (record m { out = out })
    follows-now count m out e =
        let c = completes_in count out in
        let is : IsMessageOf p.name p.head p.length m = if-of (whole_message own.arrival) m (IsMessageOf p.name p.head p.length) e own.message in
        let given = leave c (fits.lands (last-came end own.mid p own.arrival own.once m e) c).asked in
        subst (λ (x : MsgName). FollowerMayLeave task.sizes.layout task.state.number a x m.head c task.state.memory) (sym is.name)
        (subst (λ (h : Head). FollowerMayLeave task.sizes.layout task.state.number a p.name h c task.state.memory) (sym is.head) given)

    pub may-answer-now : (count : ℕ) → ArrivalMayAnswer task.sizes.layout task.state.number a count came-whole task.state.memory
    may-answer-now count = some came-whole (subst (λ o. IfSome o (FollowsNow count)) (sym own.whole) (by-arrival (FollowsNow count) now own.arrival (follows-now count)))
      where
        some : (o : Option Message) → IfSome o (FollowsNow count) → ArrivalMayAnswer task.sizes.layout task.state.number a count o task.state.memory
        some None h = tt
        some (Some m) h = h

  -- and is an answer to a statement that there is, if it is one;
  abbrev IsOwn : Message → Type 0
  IsOwn m = m.name.leg ≡ Back → m.name.statement < length task.statements

  owned : (m : Message) (out : Option HeaderOut) → whole_message own.arrival ≡ Some m → IsOwn (record m { out = out })
  owned m out e =
      let is : IsMessageOf p.name p.head p.length m = if-of (whole_message own.arrival) m (IsMessageOf p.name p.head p.length) e own.message in
      subst (λ (x : MsgName). x.leg ≡ Back → x.statement < length task.statements) (sym is.name) fits.own

  pub of-statement : (count : ℕ) → count ≡ length task.statements → IsOfStatement came-whole count
  of-statement count same = some came-whole (subst (λ o. IfSome o IsOwn) (sym own.whole) (by-arrival IsOwn now own.arrival owned))
    where
      some : (o : Option Message) → IfSome o IsOwn → IsOfStatement o count
      some None h = tt
      some (Some m) h = λ back. subst (λ n. m.name.statement < n) (sym same) (h back)

  -- and the window stays as wide.
  pub as-wide : own.end.window.window ≡ end.window.window
  as-wide =
      ap (λ (w : _). w.window) own.keeps.numbers
      ∙ elim (is_taken end.window p.seq) as (λ b. is_taken end.window p.seq ≡ b → own.mid.window.window ≡ end.window.window) [
        | true ↦ λ taken. ap (λ (x : ReceivingEnd). x.window.window) (own.once.repeat taken).1
        | false ↦ λ fresh. (own.once.fresh fresh).1.sizes.0
      ] refl

  -- The end has the packet's number too.
  pub numbers-then : (n : ℕ) → is_taken own.end.window n ≡ (n == p.seq || is_taken end.window n)
  numbers-then n =
      ap (λ (w : Receiving). is_taken w n) own.keeps.numbers
      ∙ elim (is_taken end.window p.seq) as (λ b. is_taken end.window p.seq ≡ b → is_taken own.mid.window n ≡ (n == p.seq || is_taken end.window n)) [
        | true ↦ λ taken. ap (λ (x : ReceivingEnd). is_taken x.window n) (own.once.repeat taken).1 ∙ known-number taken
        | false ↦ λ fresh. (own.once.fresh fresh).1.numbers n
      ] refl
    where
      known-number : is_taken end.window p.seq ≡ true → is_taken end.window n ≡ (n == p.seq || is_taken end.window n)
      known-number taken =
          elim (n == p.seq) as (λ b. (n == p.seq) ≡ b → is_taken end.window n ≡ (b || is_taken end.window n)) [
            | true ↦ λ e. subst (λ k. is_taken end.window k ≡ true) (sym (eqb-true n p.seq e)) taken
            | false ↦ λ e. refl
          ] refl

  -- With a number that had come before nothing came of it.
  module _ (taken : is_taken end.window p.seq ≡ true) where
    repeats : own.arrival ≡ Repeat
    repeats = (own.once.repeat taken).0

    pub end-same : own.end ≡ end
    end-same = own.keeps.none (ap (λ (x : Arrival). kept_now x now) repeats) ∙ (own.once.repeat taken).1

    pub came-none : came-whole ≡ None
    came-none = own.whole ∙ ap (landed now) repeats

    pub called-none : during ≡ events
    called-none = own.calls ∙ ap (λ (x : Arrival). events ++ called (is_first x) p.name p.head) repeats ∙ append-nil events

-- The header of a packet that has a spelling may be handed to a handler.
pub may-call : (p : DataPacket) → HasSpelling (Data p) → MayCall p
may-call p spelled =
    let says = says-of-messages (Data p) spelled.0 spelled.1 in
    let origin = says.2 in
    record { origin = omega (arith, origin); length = says.3 }

module _ (task : Task) (at : IsAtSome task) (a : ℕ) (known : a < task.sizes.tasks) where
  tasks-are : task.sizes.tasks ≡ at.0.tasks
  tasks-are = ap (λ (z : _). z.tasks) at.4.stands.calls.sizes

  pub known-task : a < at.0.tasks
  known-task = let e = tasks-are in omega (arith, e, known)

  pub receiver-there : a < length task.receivers.items
  receiver-there = let l = known-task in let e = at.4.stands.receiver_count in omega (arith, l, e)

  pub sender-there : a < length task.senders.items
  sender-there = let l = known-task in let e = at.4.stands.sender_count in omega (arith, l, e)

  pub owed-there : a < length task.owed.items
  owed-there = let l = known-task in let e = at.4.stands.owed_count in omega (arith, l, e)

  -- it speaks the script's layout
  layout-is : task.sizes.layout ≡ at.0.layout
  layout-is = ap (λ (z : _). z.layout) at.4.stands.calls.sizes

  known-layout : is_version task.sizes.layout ≡ true
  known-layout = ap is_version layout-is ∙ at.4.stands.calls.valid.layout

  -- so many bits has an acknowledgement in a layout
  abbrev bits_in : (layout : ℕ) → ℕ
  bits_in layout = 8 * byte_count (bits_size (layout_of layout))

  window-is : (end : ReceivingEnd) → slice_get task.receivers.items a ≡ Some end → end.window.window ≡ bits_in task.sizes.layout
  unfolding window_of
  window-is end there =
      let receives = subst (ReceiverAt at.0 at.1 (at.3.handed a at.2)) there (at.4.stands.receivers a known-task) in
      receives.0.window ∙ window-bits (layout_of at.0.layout) ∙ ap bits_in (sym layout-is)

  -- What follows the landing of a packet that has a spelling may leave.
  pub follows-spelled : (p : DataPacket) → HasSpelling (Data p) → p.from ≡ a → p.layout ≡ task.sizes.layout → (c : Bool) → AreWithin (asked_pieces p.head) (length task.state.memory) → FollowerMayLeave task.sizes.layout task.state.number a p.name p.head c task.state.memory
  unfolding memory_bytes
  follows-spelled p spelled from spoken c within = λ x e.
      let l = known-task in
      let tasks : at.0.tasks ≤ 8 = at.4.stands.calls.valid.tasks.1 in
      let own : task.state.number ≡ at.2 = at.4.stands.holds.number in
      let place : at.2 < at.0.tasks = at.4.known in
      let says = says-of-messages (Data p) spelled.0 spelled.1 in
      let place-small = (values-small at.0 at.1 at.4.stands.calls.valid at.3.journal).memory in
      let small : AllBytes task.state.memory = subst AllBytes (sym at.4.stands.holds.memory) (all-map (λ _. Unit {0}) IsByte (λ i. (values at.0 at.1 at.3.journal).memory at.2 i) (numbers_below at.0.memory) (all-any (numbers_below at.0.memory)) (λ i _. place-small at.2 i)) in
      let layout = task.sizes.layout in
      let bears : Bears (layout_of layout) p.name.leg p.head = subst (λ n. Bears (layout_of n) p.name.leg p.head) spoken says.4 in
      leaves layout known-layout task.state.number a (omega (arith, own, place, tasks)) (omega (arith, l, tasks)) p.name (says.1 (go-of (layout_of layout) p.name.leg p.head bears layout task.state.number a p.name c task.state.memory x e) ∙ from) says.0 task.state.memory small p.head c bears (recursion_from_All (λ (s : Span). s.at + s.len ≤ length task.state.memory) (asked_pieces p.head) within) x e

  -- The task may answer once it took a packet.
  pub may-answer : (then : Task) (old new : ReceivingEnd) → slice_get task.receivers.items a ≡ Some old → new.window.window ≡ old.window.window → then.receivers.items ≡ slice_set task.receivers.items a new → then.state.number ≡ task.state.number → then.sizes.layout ≡ task.sizes.layout → MayAnswer then a
  may-answer then old new there wide receivers number layout =
      let l = known-task in
      let tasks : at.0.tasks ≤ 8 = at.4.stands.calls.valid.tasks.1 in
      let own : task.state.number ≡ at.2 = at.4.stands.holds.number in
      let place : at.2 < at.0.tasks = at.4.known in
      let size = ap length receivers ∙ length-set task.receivers.items a new in
      let here = receiver-there in
      let few = window-is old there in
      record {
        version = ap is_version layout ∙ known-layout;
        own = omega (arith, number, own, place, tasks);
        other = omega (arith, l, tasks);
        there = omega (arith, size, here);
        window = λ end found.
            let same : new ≡ end = some-same new end (sym (ap (λ xs. slice_get xs a) receivers ∙ get-set task.receivers.items a old new there) ∙ found) in
            let size : end.window.window ≡ bits_in then.sizes.layout = ap (λ (x : ReceivingEnd). x.window.window) (sym same) ∙ wide ∙ few ∙ ap bits_in (sym layout) in
            subst (λ n. end.window.window ≤ n) size (let q : end.window.window ≤ end.window.window = omega arith in q);
      }
