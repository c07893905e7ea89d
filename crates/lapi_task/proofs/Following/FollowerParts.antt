-- The messages that follow landings: their lengths, and their copies.
use Rattle.std.proofs.Common.{◌≡◌, ℕ, ◌+◌, Bool, true, false, [], ◌∷◌, List, Option, None, Some, refl, sym, ap, ◌∙◌, arith}
use Rattle.std.specs.Prelude.{option_map}
use Rattle.std.specs.Option.{option_or}
use Rattle.std.specs.List.{flat_map}
use Rattle.std.proofs.lemmas.List.Folds.{fold-map}
use Rattle.std.proofs.lemmas.List.Sums.{sum_by-cons}
use Rattle.lapi_base.specs.declared.event.Event.{Event}
use Rattle.lapi_base.specs.declared.event.Event.TheVariants.{Copy}
use Rattle.lapi_base.specs.declared.head.Head.{Head}
use Rattle.lapi_base.specs.declared.head.Head.TheVariants as heads
use Rattle.lapi_base.specs.declared.message.MsgName.{MsgName}
use Rattle.lapi_base.specs.declared.message.Leg.TheVariants.{Back}
use Rattle.lapi_base.specs.declared.packet.DataPacket.{DataPacket}
use Rattle.lapi_base.specs.declared.span.Span.{Span}
use Rattle.lapi_base.specs.Laws.Receiving.{bytes_in}
use Rattle.lapi_base.specs.Packet.Layout.{layout_of, unit}
use Rattle.lapi_base.specs.Record.HeadSays.{follows, back_head, note_head, asked_pieces}
use Rattle.lapi_memory.specs.TaskMemory.{bytes_at}
use Rattle.lapi_vector.specs.Pieces.{total_of}
use Rattle.lapi_task.specs.Landed.{Follower, FollowerMayLeave, follower_packet, note_of, back_of, note_now, follower, MayLeave}

pub total-is : (spans : List Span) → total_of spans ≡ bytes_in spans
total-is spans = fold-map ◌+◌ (λ (p : Span). p.len) 0 spans

pub one-total : (p : Span) → p.len ≡ bytes_in (p ∷ [])
one-total p = let e : p.len ≡ p.len + 0 = omega arith in e ∙ sym (sum_by-cons (λ (s : Span). s.len) p [])

-- what was made is the answer
pub back-made : (layout t a : ℕ) (m : MsgName) (pieces : List Span) (memory : List ℕ) (head : Head) (len : ℕ) (packet : DataPacket) (bytes : List ℕ) → packet ≡ follower_packet layout t a m Back head len → len ≡ bytes_in pieces → bytes ≡ flat_map (λ p. bytes_at memory p.at p.len) pieces → record { packet = packet; bytes = bytes } ≡ back_of layout t a m pieces memory head
back-made layout t a m pieces memory head len packet bytes made size same = λ i. record { packet = (made ∙ ap (follower_packet layout t a m Back head) size) i; bytes = same i }

-- what follows this head may leave
abbrev pub MayFollow : (layout t a : ℕ) → MsgName → (completion : Bool) → (memory : List ℕ) → Head → Type 0
MayFollow layout t a m completion memory head = FollowerMayLeave layout t a m head completion memory

-- so may the answer that it asks for
pub back-may-leave : (layout t a : ℕ) (m : MsgName) (completion : Bool) (memory : List ℕ) (h : Head) → MayFollow layout t a m completion memory h → (back : Head) → back_head h ≡ Some back → MayLeave (unit (layout_of layout)) (back_of layout t a m (asked_pieces h) memory back)
back-may-leave layout t a m completion memory h may back e =
    may (back_of layout t a m (asked_pieces h) memory back) (ap (λ o. option_or (option_map (back_of layout t a m (asked_pieces h) memory) o) (option_map (note_of layout t a m) (note_now h completion))) e)

-- a notice that goes out with the landing is that of the head
pub noted-now : (h : Head) (completion : Bool) (head : Head) → note_now h completion ≡ Some head → note_head h ≡ Some head
noted-now (heads.Am handler tgt cmpl header) true head e = absurd (cc)
noted-now (heads.Am handler tgt cmpl header) false head e = e
noted-now _ completion head e = e

-- the copy of what follows
abbrev pub copies : Option Follower → List Event
copies None = []
copies (Some x) = Copy x.packet.name ∷ []

pub follows-is : (layout t a : ℕ) (m : MsgName) (completion : Bool) (memory : List ℕ) (h : Head) → follows h completion m ≡ copies (follower layout t a m h completion memory)
unfolding follows
follows-is layout t a m completion memory (heads.Put at tgt None) = refl
follows-is layout t a m completion memory (heads.Put at tgt (Some c)) = refl
follows-is layout t a m completion memory (heads.Putv tgt None pieces) = refl
follows-is layout t a m completion memory (heads.Putv tgt (Some c) pieces) = refl
follows-is layout t a m true memory (heads.Am handler tgt cmpl header) = refl
follows-is layout t a m false memory (heads.Am handler tgt None header) = refl
follows-is layout t a m false memory (heads.Am handler tgt (Some c) header) = refl
follows-is layout t a m completion memory _ = refl
