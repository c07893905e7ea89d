-- What the lines of a record hand over, before and after one more.
use Rattle.std.proofs.Common.{◌≡◌, ℕ, List, [], ◌∷◌, ◌++◌, length, map, refl, sym, ap, ◌∙◌, subst, append_assoc}
use Rattle.std.specs.Prelude.{slice_get, option_to_list, take}
use Rattle.std.specs.List.{zip, AllByRecursion}
use Rattle.lapi_base.specs.declared.packet.Packet.{Packet}
use Rattle.lapi_base.specs.declared.reply.Reply.{Reply}
use Rattle.lapi_base.specs.declared.reply.Reply.TheVariants.{Did, Blocked, Absent, Idle, Busy, Bad}
use Rattle.lapi_base.specs.declared.schedule.Act.{Act}
use Rattle.lapi_base.specs.declared.schedule.Act.TheVariants.{Step, Poll, Tick, Deliver, Cut, Inject}
use Rattle.lapi_base.specs.Output.CaptureBytes.{bytes_of, entry_bytes, frame, frames, frames_of}
use Rattle.lapi_base.specs.Packet.PacketBytes.{packet}
use Rattle.lapi_base.specs.Record.Wires.{Run, IsEntry}
use Rattle.lapi_base.proofs.ListLaws.{all-append, flat_map-push, get-front}
use Rattle.lapi_laws.proofs.HandedOver.{zip-push}

-- the entry of a line that hands one over is there
abbrev pub IsThere : Run → Act → Reply → Type 0
IsThere r (Deliver a b k) Did = (p : Packet) × IsEntry r a b k p
IsThere r (Cut a b k n) (Bad bad) = (p : Packet) × IsEntry r a b k p
IsThere r act reply = Unit {0}

abbrev pub AreThere : Run → List (Act × Reply) → Type 0
AreThere r lines = AllByRecursion (λ (line : Act × Reply). IsThere r line.0 line.1) lines

abbrev pub Longer : Run → Run → Type 0
Longer r s = (a b : ℕ) → (more : List Packet) × (s.wire a b ≡ r.wire a b ++ more)

module _ (r s : Run) (longer : Longer r s) where
  pub entry-later : (a b k : ℕ) (p : Packet) → IsEntry r a b k p → IsEntry s a b k p
  entry-later a b k p at = ap (λ ps. slice_get ps k) (longer a b).1 ∙ get-front (r.wire a b) (longer a b).0 k p at

  same-entry : (a b k : ℕ) (p : Packet) → IsEntry r a b k p → entry_bytes s a b k ≡ entry_bytes r a b k
  same-entry a b k p at = ap (λ o. map packet (option_to_list o)) (entry-later a b k p at ∙ sym at)

  line-later : (act : Act) (reply : Reply) → IsThere r act reply → IsThere s act reply × (frames_of s act reply ≡ frames_of r act reply)
  line-later (Deliver a b k) Did (p, at) = ((p, entry-later a b k p at), ap (map (frame a b)) (same-entry a b k p at))
  line-later (Deliver a b k) Blocked h = (tt, refl)
  line-later (Deliver a b k) Absent h = (tt, refl)
  line-later (Deliver a b k) Idle h = (tt, refl)
  line-later (Deliver a b k) Busy h = (tt, refl)
  line-later (Deliver a b k) (Bad bad) h = (tt, refl)
  line-later (Cut a b k n) (Bad bad) (p, at) = ((p, entry-later a b k p at), ap (map (λ bytes. frame a b (take n bytes))) (same-entry a b k p at))
  line-later (Cut a b k n) Did h = (tt, refl)
  line-later (Cut a b k n) Blocked h = (tt, refl)
  line-later (Cut a b k n) Absent h = (tt, refl)
  line-later (Cut a b k n) Idle h = (tt, refl)
  line-later (Cut a b k n) Busy h = (tt, refl)
  line-later (Inject a b bytes) reply h = (tt, refl)
  line-later (Step t) reply h = (tt, refl)
  line-later (Poll t) reply h = (tt, refl)
  line-later (Tick t) reply h = (tt, refl)
  line-later (Act.Begin t w) reply h = (tt, refl)
  line-later (Act.End t w) reply h = (tt, refl)

  lines-later : (lines : List (Act × Reply)) → AreThere r lines → AreThere s lines × (frames s lines ≡ frames r lines)
  unfolding frames
  lines-later [] h = (tt, refl)
  lines-later (line ∷ lines) h =
      let first = line-later line.0 line.1 h.0 in
      let rest = lines-later lines h.1 in
      ((first.0, rest.0), ap (λ fs. fs ++ frames s lines) first.1 ∙ ap (λ fs. frames_of r line.0 line.1 ++ fs) rest.1)

  pub line-more : (acts : List Act) (act : Act) (reply : Reply) → length acts ≡ length r.replies → s.replies ≡ r.replies ++ reply ∷ [] → AreThere r (zip acts r.replies) → IsThere s act reply
      → AreThere s (zip (acts ++ act ∷ []) s.replies) × (frames s (zip (acts ++ act ∷ []) s.replies) ≡ frames r (zip acts r.replies) ++ frames_of s act reply)
  unfolding frames
  line-more acts act reply count is there now =
      let lines : zip (acts ++ act ∷ []) s.replies ≡ zip acts r.replies ++ (act, reply) ∷ [] = ap (zip (acts ++ act ∷ [])) is ∙ zip-push acts r.replies act reply count in
      let old = lines-later (zip acts r.replies) there in
      let There = λ (line : Act × Reply). IsThere s line.0 line.1 in (
        subst (AllByRecursion There) (sym lines) (all-append There (zip acts r.replies) ((act, reply) ∷ []) old.0 (now, tt)),
        ap (frames s) lines ∙ flat_map-push (λ (line : Act × Reply). frames_of s line.0 line.1) (zip acts r.replies) (act, reply) ∙ ap (λ fs. fs ++ frames_of s act reply) old.1,
      )

-- one frame more behind the bytes so far
pub bytes-more : (front : List ℕ) (fs : List (List ℕ)) (f : List ℕ) → (front ++ bytes_of fs) ++ f ≡ front ++ bytes_of (fs ++ f ∷ [])
bytes-more front fs f = append_assoc front (bytes_of fs) f ∙ ap (λ bytes. front ++ bytes) (sym (flat_map-push (λ f. f) fs f))
