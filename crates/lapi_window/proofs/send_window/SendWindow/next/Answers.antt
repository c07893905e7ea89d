use Rattle.std.proofs.Common.{◌≡◌, ◌⊎◌, inl, inr, length, refl, sym, ap, ◌∙◌, subst}
use Rattle.std.proofs.lemmas.Bool.{false≢true, true≢false, both_ways, eq-eqb, eqb-true, eqb-false}
use Rattle.lapi_window.specs.SendWindow.{Sending, IsSending, MaySend, sent_count}
use Rattle.lapi_window.proofs.SendLaws.{next-none, next-some, may-not}
use Rattle.lapi_window.proofs.send_window.SendWindow.next.Goals as goal
use Rattle.lapi_window.proofs.send_window.SendWindow.next.Goals.{then-sent-self, else-sent-self}

-- why there is no next number
stops : (c : goal.Then-is_full) → (sent_count c.args.self.now ≡ c.args.self.now.numbers) ⊎ (length c.args.self.now.packets ≡ c.self.inside.packets.capacity)
stops c =
    elim c.if-sent-self.branch [
      | then-sent-self w ↦ inl (sym c.sent_end-sent.ensures ∙ w.if-sent-self.true ∙ ap (λ (s : Sending). s.numbers) c.self.view_is)
      | else-sent-self w ↦ inr (sym (ap (λ (s : Sending). length s.packets) c.self.view_is) ∙ eqb-true (length c.self.inside.packets.items) c.self.inside.packets.capacity (sym w.is_full.ensures ∙ sym w.value-is ∙ c.if-is_full.true))
    ]

-- why there is one
goes_on : (c : goal.Else-is_full) → MaySend c.args.self.now
goes_on c =
    let h : IsSending c.args.self.now c.self.inside.packets.capacity = subst (λ (s : Sending). IsSending s c.self.inside.packets.capacity) c.self.view_is c.self.invariant in
    elim c.if-sent-self.branch [
      | then-sent-self w ↦ absurd (both_ways c.if-sent-self.value c.if-is_full.false (w.value-is ∙ eq-eqb c.sent_end-sent.result c.self.inside.numbers w.if-sent-self.true))
      | else-sent-self w ↦
          next-some c.args.self.now c.self.inside.packets.capacity h
          (λ e. w.if-sent-self.false (c.sent_end-sent.ensures ∙ e ∙ sym (ap (λ (s : Sending). s.numbers) c.self.view_is)))
          (λ e. eqb-false (length c.self.inside.packets.items) c.self.inside.packets.capacity (sym w.is_full.ensures ∙ sym w.value-is ∙ c.if-is_full.false) (ap (λ (s : Sending). length s.packets) c.self.view_is ∙ e))
    ]

pub returns-then-is_full-clause-none : goal.returns-then-is_full-clause-none
returns-then-is_full-clause-none c =
    let h : IsSending c.args.self.now c.self.inside.packets.capacity = subst (λ (s : Sending). IsSending s c.self.inside.packets.capacity) c.self.view_is c.self.invariant in
    (λ _. next-none c.args.self.now c.self.inside.packets.capacity h (stops c), λ _. refl)

pub returns-then-is_full-clause-some : goal.returns-then-is_full-clause-some
returns-then-is_full-clause-some c =
    let h : IsSending c.args.self.now c.self.inside.packets.capacity = subst (λ (s : Sending). IsSending s c.self.inside.packets.capacity) c.self.view_is c.self.invariant in
    (λ e. absurd (false≢true e), λ may. absurd (may-not c.args.self.now may (next-none c.args.self.now c.self.inside.packets.capacity h (stops c))))

pub returns-else-is_full-clause-none : goal.returns-else-is_full-clause-none
returns-else-is_full-clause-none c = (λ e. absurd (true≢false e), λ stop. absurd (may-not c.args.self.now (goes_on c) stop))

pub returns-else-is_full-clause-some : goal.returns-else-is_full-clause-some
returns-else-is_full-clause-some c = (λ _. goes_on c, λ _. refl)
