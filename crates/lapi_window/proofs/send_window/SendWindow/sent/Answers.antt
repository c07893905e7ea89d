use Rattle.std.proofs.Common.{◌≡◌, ℕ, List, [], ◌∷◌, ◌++◌, length, ap, ◌∙◌, subst, arith}
use Rattle.circular_buffer.specs.Buffer.{Buffer}
use Rattle.lapi_window.specs.SendWindow.{Sending, IsSending, sent_count, bytes_of}
use Rattle.lapi_window.proofs.SendLaws.{sending-base, pushed, bytes_of-last, bytes_of-others}
use Rattle.lapi_window.proofs.send_window.SendWindow.sent.Goals as goal

-- the packets are those before and the new one
after : (c : goal.Joined-push_back) → c.push_back.new.self.items ≡ c.self.inside.packets.items ++ c.args.bytes ∷ []
after c =
    let h : IsSending c.args.self.now c.self.inside.packets.capacity = subst (λ (s : Sending). IsSending s c.self.inside.packets.capacity) c.self.view_is c.self.invariant in
    let base = sending-base c.args.self.now c.self.inside.packets.capacity h in
    let room = h.room.0 in
    let within = c.requires.within in
    let same = ap (λ (s : Sending). length s.packets) c.self.view_is in
    ap (λ (b : Buffer (List ℕ)). b.items) c.push_back.ensures.items
    ∙ pushed c.self.inside.packets.items c.args.bytes c.self.inside.packets.capacity (omega (arith, base, room, within, same))

pub returns-clause-all : goal.returns-clause-all
returns-clause-all c =
    ap (λ (xs : List (List ℕ)). record { window = c.self.inside.window; numbers = c.self.inside.numbers; acked = c.self.inside.acked; packets = xs }) (after c)
    ∙ ap (λ (s : Sending). record s { packets = s.packets ++ c.args.bytes ∷ [] }) c.self.view_is

pub returns-clause-bytes : goal.returns-clause-bytes
returns-clause-bytes c =
    ap (λ (s : Sending). bytes_of s (sent_count c.args.self.now)) (returns-clause-all c) ∙ bytes_of-last c.args.self.now c.args.bytes

pub returns-clause-others : goal.returns-clause-others
returns-clause-others c = λ n h.
    ap (λ (s : Sending). bytes_of s n) (returns-clause-all c) ∙ bytes_of-others c.args.self.now c.args.bytes n h
