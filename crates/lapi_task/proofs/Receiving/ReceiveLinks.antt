-- The ends of a task's links after a packet came.
use Rattle.std.proofs.Common.{◌≡◌, ℕ, ◌<◌, Bool, true, false, cond, ◌&&◌, List, [], ◌∷◌, ◌++◌, length, slice_set, Option, Some, None, refl, sym, ap, ◌∙◌, subst}
use Rattle.std.specs.Prelude.{slice_get}
use Rattle.std.proofs.lemmas.List.{append-nil, length-set}
use Rattle.lapi_base.specs.declared.script.Script.{Script}
use Rattle.lapi_base.specs.declared.rule.Rules.{Rules}
use Rattle.lapi_base.specs.declared.event.Event.{Event}
use Rattle.lapi_base.specs.declared.event.Event.TheVariants.{Copy, Land}
use Rattle.lapi_base.specs.declared.handler.HeaderOut.{HeaderOut}
use Rattle.lapi_base.specs.declared.head.Head.{Head}
use Rattle.lapi_base.specs.declared.message.MsgName.{MsgName}
use Rattle.lapi_base.specs.declared.packet.DataPacket.{DataPacket}
use Rattle.lapi_base.specs.Record.Atomic.{Atomic}
use Rattle.lapi_base.specs.Packet.Layout.{layout_of, unit, unit_of}
use Rattle.lapi_base.specs.Record.HeadSays.{is_active, follows}
use Rattle.lapi_base.specs.Record.Operations.{sender, receiver}
use Rattle.lapi_base.specs.Record.Wires.{Run, numbered, is_sent, is_acked}
use Rattle.lapi_base.specs.Record.Acts.{followed}
use Rattle.lapi_base.proofs.ListLaws.{some-same}
use Rattle.lapi_laws.proofs.Backward.{Atomic-tail}
use Rattle.lapi_link.specs.Sender.{SendingEnd}
use Rattle.lapi_task.specs.Landed.{Follower, follower, with_follower_at, with_follower, called, ends_after, events_of}
use Rattle.lapi_task.specs.Answered.{completes_in}
use Rattle.lapi_task.specs.Outgoing.{with_message}
use Rattle.lapi_task.proofs.Copying.MessageCopies.{copied-ends}
use Rattle.std.proofs.lemmas.Option.{slice_get_within}
use Rattle.lapi_task.specs.Sends.{packet_at, SendsFor}
use Rattle.lapi_task.specs.StandsFor.{SenderAt}
use Rattle.lapi_task.proofs.Standing.Tags.{tags-same}
use Rattle.lapi_task.proofs.Sending.Packets.{packet-same}
use Rattle.lapi_task.proofs.Receiving.ReceiveEvents.{come, followed-append}
use Rattle.lapi_task.proofs.Following.Leaving.{Follows}
use Rattle.lapi_task.proofs.Following.FollowerParts.{copies, follows-is}

module _ (script : Script) (rules : Rules) where
  -- A link has the same numbers, or one more.
  pub record Stays (J K : List Event) (x y : ℕ) : Type 0 where
    pub numbers : numbered script K x y ≡ numbered script J x y
    pub packets : (n : ℕ) → packet_at script rules K x y n ≡ packet_at script rules J x y n

  -- what was sent and acknowledged is as before
  pub record Settled (r w : Run) (x y : ℕ) : Type 0 where
    pub sent : (n : ℕ) → is_sent w x y n ≡ is_sent r x y n
    pub acked : (n : ℕ) → is_acked w x y n ≡ is_acked r x y n

  abbrev pub told : Run → List Event → Run
  told w K = record w { journal = K }

  sends-stay : (r w : Run) (K : List Event) (x y : ℕ) (s : SendingEnd) → Settled r w x y → Stays r.journal K x y → SendsFor script rules s r x y → SendsFor script rules s (told w K) x y
  sends-stay r w K x y s m g h = record {
    numbers = record {
      size = h.numbers.size;
      numbers = h.numbers.numbers ∙ sym (ap (λ (ps : List (MsgName × ℕ)). length ps) g.numbers);
      sent = λ n. m.sent n ∙ h.numbers.sent n;
      acked = λ n. m.acked n ∙ h.numbers.acked n;
    };
    whole = h.whole;
    kept = λ n l u. h.kept n l u ∙ sym (g.packets n);
    waiting = λ i. h.waiting i ∙ sym (g.packets _);
    tags = tags-same script s r.journal K x y g.numbers h.tags;
  }

  -- ---- events

  pub stays-none : (J : List Event) (x y : ℕ) → Stays J J x y
  stays-none J x y = record { numbers = refl; packets = λ n. refl }

  pub settled-same : (r : Run) (x y : ℕ) → Settled r r x y
  settled-same r x y = record { sent = λ n. refl; acked = λ n. refl }

  numbered-land : (m : MsgName) (J : List Event) (x y : ℕ) → numbered script (Land m ∷ J) x y ≡ numbered script J x y
  unfolding numbered
  numbered-land m J x y = refl

  stays-land : (m : MsgName) (J : List Event) (x y : ℕ) → Atomic script rules (Land m ∷ J) → Stays J (Land m ∷ J) x y
  stays-land m J x y atomic = record { numbers = numbered-land m J x y; packets = packet-same script rules (Land m) J x y atomic (numbered-land m J x y) }

  numbered-head : (m : MsgName) (J : List Event) (x y : ℕ) → numbered script (Event.Head m ∷ J) x y ≡ numbered script J x y
  unfolding numbered
  numbered-head m J x y = refl

  stays-called : (called : Bool) (m : MsgName) (J : List Event) (x y : ℕ) → let K = followed J (cond called (Event.Head m ∷ []) []) in Atomic script rules K → Stays J K x y
  unfolding followed
  stays-called true m J x y atomic = record { numbers = numbered-head m J x y; packets = packet-same script rules (Event.Head m) J x y atomic (numbered-head m J x y) }
  stays-called false m J x y atomic = stays-none J x y

  stays-on : (J K L : List Event) (x y : ℕ) → Stays J K x y → Stays K L x y → Stays J L x y
  stays-on J K L x y g h = record { numbers = h.numbers ∙ g.numbers; packets = λ n. h.packets n ∙ g.packets n }

  -- ---- the sending ends

  sender-there : (r : Run) (x y : ℕ) (o : Option SendingEnd) → SenderAt script rules r x y o → (s : SendingEnd) × (o ≡ Some s) × SendsFor script rules s r x y
  sender-there r x y None h = absurd h
  sender-there r x y (Some s) h = (s, refl, h)

  sender-stay : (r w : Run) (K : List Event) (x y : ℕ) (o : Option SendingEnd) → Settled r w x y → Stays r.journal K x y → SenderAt script rules r x y o → SenderAt script rules (told w K) x y o
  sender-stay r w K x y None m g h = absurd h
  sender-stay r w K x y (Some s) m g h = sends-stay r w K x y s m g h

  module _ (r w : Run) (a t : ℕ) (ends : List SendingEnd) (moves : (b : ℕ) → Settled r w t b) (there : a < script.tasks) (all : (b : ℕ) → b < script.tasks → SenderAt script rules r t b (slice_get ends b)) where
    abbrev pub Ends : List Event → List SendingEnd → Type 0
    Ends K xs = (b : ℕ) → b < script.tasks → SenderAt script rules (told w K) t b (slice_get xs b)

    ends-same : (K : List Event) → ((b : ℕ) → Stays r.journal K t b) → Ends K ends
    ends-same K g = λ b l. sender-stay r w K t b (slice_get ends b) (moves b) (g b) (all b l)

    -- what follows, which was copied after these events
    module _ (J : List Event) (stays : (b : ℕ) → Atomic script rules J → Stays r.journal J t b) where
      pub ends-sent : (x : Follower) → Follows script rules J t a x → Atomic script rules (Copy x.packet.name ∷ J) → Ends (Copy x.packet.name ∷ J) (with_follower (unit_of script) (Some x) ends)
      ends-sent x f atomic = λ b l.
          let n = x.packet.name in
          let K = Copy n ∷ J in
          let from : sender script n ≡ t = ap (λ (o : DataPacket). o.from) f.is ∙ f.from in
          let to : receiver script n ≡ a = ap (λ (o : DataPacket). o.to) f.is ∙ f.to in
          let landed = Atomic-tail script rules (Copy n) J atomic in
          let found = sender-there r t a (slice_get ends a) (all a there) in
          let s = found.0 in
          let sent = with_message (unit_of script) x.packet x.bytes s in
          let one = λ (y : ℕ) (ly : y < script.tasks). sender-stay r r J t y (slice_get ends y) (settled-same r t y) (stays y landed) (all y ly) in
          let two = copied-ends script rules n (told r J) t ends (slice_set ends a sent) sent x.bytes from
          (subst (λ (y : ℕ). y < length ends) (sym to) (slice_get_within ends a s found.1))
          (ap (λ (y : ℕ). slice_set ends y sent) (sym to))
          atomic
          f.bytes
          (λ e at.
          let same : Some s ≡ Some e = sym found.1 ∙ ap (slice_get ends) (sym to) ∙ at in
          (λ i. with_message (unit_of script) (sym f.is i) x.bytes (some-same s e same i)))
          one in
          let made : with_follower (unit_of script) (Some x) ends ≡ slice_set ends a sent =
          ap (λ y. with_follower_at (unit_of script) x (slice_get ends y) ends) f.to
          ∙ ap (λ o. with_follower_at (unit_of script) x o ends) found.1
          ∙ ap (λ y. slice_set ends y sent) f.to in
          subst (λ (xs : List SendingEnd). SenderAt script rules (told w K) t b (slice_get xs b)) (sym made)
          (sender-stay (told r K) w K t b (slice_get (slice_set ends a sent) b) (record { sent = (moves b).sent; acked = (moves b).acked }) (stays-none K t b) (two b l))

      ends-followed : (o : Option Follower) → ((x : Follower) → o ≡ Some x → Follows script rules J t a x) → Atomic script rules (followed J (copies o)) → Ends (followed J (copies o)) (with_follower (unit_of script) o ends)
      unfolding followed
      ends-followed None f atomic = ends-same J (λ b. stays b atomic)
      ends-followed (Some x) f atomic = ends-sent x (f x refl) atomic

    stays-landed : (first : Bool) (m : MsgName) (h : Head) (b : ℕ) → let J = followed r.journal (called first m h) in Atomic script rules (Land m ∷ J) → Stays r.journal (Land m ∷ J) t b
    stays-landed first m h b atomic =
        let J = followed r.journal (called first m h) in
        stays-on r.journal J (Land m ∷ J) t b (stays-called (first && is_active h) m r.journal t b (Atomic-tail script rules (Land m) J atomic)) (stays-land m J t b atomic)

    pub ends-come : (count : ℕ) (first whole : Bool) (m : MsgName) (h : Head) (bytes : List ℕ) (out : Option HeaderOut) (memory : List ℕ) →
        (whole ≡ true → (x : Follower) → follower script.layout t a m h (completes_in count out) memory ≡ Some x → Follows script rules (Land m ∷ followed r.journal (called first m h)) t a x) →
        let arrival = come whole m h bytes out in let K = followed r.journal (called first m h ++ events_of count arrival) in Atomic script rules K → (b : ℕ) → b < script.tasks → SenderAt script rules (told w K) t b (slice_get (ends_after script.layout t a count arrival memory ends) b)
    unfolding followed unit_of
    ends-come count first false m h bytes out memory f atomic =
        let same : followed r.journal (called first m h) ≡ followed r.journal (called first m h ++ []) = ap (followed r.journal) (sym (append-nil (called first m h))) in
        subst (λ K. Ends K ends) same (ends-same (followed r.journal (called first m h)) (λ b. stays-called (first && is_active h) m r.journal t b (subst (Atomic script rules) (sym same) atomic)))
    ends-come count first true m h bytes out memory f atomic =
        let later = completes_in count out in
        let o = follower script.layout t a m h later memory in
        let J = followed r.journal (called first m h) in
        let same : followed r.journal (called first m h ++ Land m ∷ follows h later m) ≡ followed (Land m ∷ J) (copies o) = followed-append (called first m h) (Land m ∷ follows h later m) r.journal ∙ ap (followed (Land m ∷ J)) (follows-is script.layout t a m later memory h) in
        subst (λ K. Ends K (with_follower (unit_of script) o ends)) (sym same) (ends-followed (Land m ∷ J) (stays-landed first m h) o (f refl) (subst (Atomic script rules) same atomic))

  with-follower-length : (unit : ℕ) (x : Follower) (o : Option SendingEnd) (ends : List SendingEnd) → length (with_follower_at unit x o ends) ≡ length ends
  with-follower-length unit x None ends = refl
  with-follower-length unit x (Some s) ends = length-set ends x.packet.to (with_message unit x.packet x.bytes s)

  pub followed-length : (unit : ℕ) (o : Option Follower) (ends : List SendingEnd) → length (with_follower unit o ends) ≡ length ends
  followed-length unit None ends = refl
  followed-length unit (Some x) ends = with-follower-length unit x (slice_get ends x.packet.to) ends

  pub ends-length : (layout t a count : ℕ) (whole : Bool) (m : MsgName) (h : Head) (bytes : List ℕ) (out : Option HeaderOut) (memory : List ℕ) (ends : List SendingEnd) → length (ends_after layout t a count (come whole m h bytes out) memory ends) ≡ length ends
  ends-length layout t a count false m h bytes out memory ends = refl
  ends-length layout t a count true m h bytes out memory ends = followed-length (unit (layout_of layout)) (follower layout t a m h (completes_in count out) memory) ends
