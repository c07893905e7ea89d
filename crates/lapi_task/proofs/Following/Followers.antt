-- The message that follows a landing, as the record has it.
use Rattle.std.proofs.Common.{◌≡◌, ℕ, Bool, true, cond, List, [], ◌∷◌, ◌++◌, Option, None, Some, refl, sym, ap, ◌∙◌, subst}
use Rattle.std.specs.Prelude.{option_map}
use Rattle.std.specs.Option.{option_or}
use Rattle.lapi_base.specs.declared.script.Script.{Script}
use Rattle.lapi_base.specs.declared.rule.Rules.{Rules}
use Rattle.lapi_base.specs.declared.event.Event.{Event}
use Rattle.lapi_base.specs.declared.event.Event.TheVariants.{Copy, Land}
use Rattle.lapi_base.specs.declared.handler.HeaderOut.{HeaderOut}
use Rattle.lapi_base.specs.declared.head.Head.{Head}
use Rattle.lapi_base.specs.declared.message.Leg.TheVariants.{Back, Note}
use Rattle.lapi_base.specs.declared.packet.Packet.TheVariants.{Data}
use Rattle.lapi_base.specs.declared.packet.DataPacket.{DataPacket}
use Rattle.lapi_base.specs.declared.schedule.Act.TheVariants.{Deliver}
use Rattle.lapi_base.specs.Record.Acts.{followed}
use Rattle.lapi_base.specs.Record.HeadSays.{back_head, note_head, asked_pieces, follows}
use Rattle.lapi_base.specs.Record.Names.{message}
use Rattle.lapi_base.specs.Record.Values.{memory_bytes}
use Rattle.lapi_base.specs.Record.Wires.{Run, IsEntry, is_delivered}
use Rattle.lapi_base.specs.Record.WorldView.{IsRecord, performed}
use Rattle.lapi_base.specs.Laws.Entries.{carried}
use Rattle.lapi_base.specs.Laws.Landing.{completes}
use Rattle.lapi_base.specs.Laws.Receiving.{bytes_in}
use Rattle.lapi_base.proofs.ListLaws.{some-same}
use Rattle.lapi_parts.proofs.ArrivingPackets.{arrivals-told}
use Rattle.lapi_parts.proofs.Deliveries.{delivered}
use Rattle.lapi_parts.proofs.HeadAnswers.{backs-follow, backs-bring, notes-follow}
use Rattle.lapi_task.specs.Answered.{completes_in}
use Rattle.lapi_task.specs.Landed.{Follower, note_of, back_of, note_now, follower, called, events_of}
use Rattle.lapi_task.proofs.Following.Landings.{picked-is}
use Rattle.lapi_task.proofs.Following.HeaderAnswers.{is-told}
use Rattle.lapi_task.proofs.Receiving.ReceiveHolds.{answer_now, handlers_now, events_now}
use Rattle.lapi_task.proofs.Receiving.ReceiveEvents.{come, come-events, came_bytes, is_opening, followed-append}
use Rattle.lapi_task.proofs.Receiving.ReceiveKinds.{Comes, there-is}
use Rattle.lapi_task.proofs.Following.FollowerParts.{noted-now, copies, follows-is}
use Rattle.lapi_task.proofs.Following.Leaving.{Follows, sent-is, note-carries}

module _ (script : Script) (rules : Rules) where
  -- ---- a delivery

  module _ (r : Run) (a t k : ℕ) (p : DataPacket) (is : IsRecord script rules r) (entry : IsEntry r a t k (Data p)) (c : Comes script rules r a t p) where
    abbrev out : Option HeaderOut
    out = answer_now script rules t p

    abbrev later : Bool
    later = completes_in (handlers_now script rules t) out

    abbrev first : Bool
    first = is_opening (r.handed a t) p

    pub journal-is : (performed script rules r (Deliver a t k)).journal ≡ followed r.journal (events_now script rules t r a p)
    journal-is =
        let told = is-told script rules r is a t k p entry in
        delivered script rules r a t k p entry
        ∙ ap (λ es. followed r.journal (cond (is_delivered r a t p.seq) [] es)) (arrivals-told script rules r is a t k p entry)
        ∙ ap (followed r.journal) (come-events script rules (r.handed a t) p out (handlers_now script rules t) told.completes (is_delivered r a t p.seq))

    module _ (whole : completes script rules r a t p ≡ true) where
      -- the landing, after the call of a header handler
      abbrev pub J : List Event
      J = Land p.name ∷ followed r.journal (called first p.name p.head)

      abbrev memory : List ℕ
      memory = memory_bytes script rules r.journal t

      -- the copy comes after the landing
      pub copied-then : (o : Option Follower) → follower script.layout t a p.name p.head later memory ≡ o → followed r.journal (events_now script rules t r a p) ≡ followed J (copies o)
      unfolding followed
      copied-then o e =
          ap (λ b. followed r.journal (called first p.name p.head ++ events_of (handlers_now script rules t) (come b p.name p.head (came_bytes script (r.handed a t) p) out))) whole
          ∙ followed-append (called first p.name p.head) (Land p.name ∷ follows p.head later p.name) r.journal
          ∙ ap (followed J) (follows-is script.layout t a p.name later memory p.head ∙ ap copies e)

      back-given : (c : Bool) (head : Head) → back_head p.head ≡ Some head → follower script.layout t a p.name p.head c memory ≡ Some (back_of script.layout t a p.name (asked_pieces p.head) memory head)
      back-given c head e = ap (λ o. option_or (option_map (back_of script.layout t a p.name (asked_pieces p.head) memory) o) (option_map (note_of script.layout t a p.name) (note_now p.head c))) e

      back-follows : (head : Head) → back_head p.head ≡ Some head → Follows script rules J t a (back_of script.layout t a p.name (asked_pieces p.head) memory head)
      unfolding followed
      back-follows head e =
          let m = message p.name.origin p.name.statement Back in
          let x = back_of script.layout t a p.name (asked_pieces p.head) memory head in
          let then : (performed script rules r (Deliver a t k)).journal ≡ Copy m ∷ J = journal-is ∙ copied-then (Some x) (back-given later head e) in
          record {
            from = refl;
            to = refl;
            is = sent-is script rules m t a (bytes_in (asked_pieces p.head)) head (backs-follow script rules r is a t k p head entry e);
            bytes =
                picked-is script rules r.journal t (asked_pieces p.head) (there-is script rules p.head p.length c.kind c.fits.head).asked
                ∙ sym (backs-bring script rules r is a t k p head entry e whole)
                ∙ ap (λ K. carried script rules K m) then;
          }

      note-follows : (head : Head) → note_head p.head ≡ Some head → Follows script rules J t a (note_of script.layout t a p.name head)
      note-follows head e = record {
        from = refl;
        to = refl;
        is = sent-is script rules (message p.name.origin p.name.statement Note) t a 0 head (notes-follow script rules r is a t k p head entry e);
        bytes = note-carries script rules p.name J;
      }

      follower-by : (ob on : Option Head) → back_head p.head ≡ ob → note_now p.head later ≡ on → (x : Follower) → option_or (option_map (back_of script.layout t a p.name (asked_pieces p.head) memory) ob) (option_map (note_of script.layout t a p.name) on) ≡ Some x → Follows script rules J t a x
      follower-by (Some head) on b n x e = subst (Follows script rules J t a) (some-same _ _ e) (back-follows head b)
      follower-by None (Some head) b n x e = subst (Follows script rules J t a) (some-same _ _ e) (note-follows head (noted-now p.head later head n))
      follower-by None None b n x e = absurd (cc)

      pub follower-is : (x : Follower) → follower script.layout t a p.name p.head later memory ≡ Some x → Follows script rules J t a x
      follower-is x e = follower-by (back_head p.head) (note_now p.head later) refl refl x e
