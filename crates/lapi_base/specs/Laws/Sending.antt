-- What a task may rely on of the numbers that it sends. These are words of this project for its laws.
use Rattle.std.specs.Prelude.{◌≡◌, ℕ, ◌+◌, ◌-◌, ◌<◌, min, nat_lt, true, List, length, map}
use Rattle.lapi_base.specs.declared.script.Script.{Script}
use Rattle.lapi_base.specs.declared.rule.Rules.{Rules}
use Rattle.lapi_base.specs.declared.event.Event.{Event}
use Rattle.lapi_base.specs.Packet.Layout.{window_of}
use Rattle.lapi_base.specs.Record.Operations.{numbers_below}
use Rattle.lapi_base.specs.Record.Wires.{Run, numbered, base, is_sent, is_acked, to_send}

module _ (script : Script) (rules : Rules) where
  -- A link's numbers go numbered in order: with one, all below it were sent.
  abbrev pub SentAreFront : Run → Type 0
  SentAreFront r = (a b n k : ℕ) → is_sent r a b n ≡ true → k < n → is_sent r a b k ≡ true

  -- What was sent is a number of the link,
  abbrev pub SentAreNumbers : Run → Type 0
  SentAreNumbers r = (a b n : ℕ) → is_sent r a b n ≡ true → n < length (numbered script r.journal a b)

  -- and what was acknowledged was sent.
  abbrev pub AckedAreSent : Run → Type 0
  AckedAreSent r = (a b n : ℕ) → is_acked r a b n ≡ true → is_sent r a b n ≡ true

  -- So the numbers sent are those below one bound, and a Poll sends those from there on, as far as the link and the window go.
  abbrev pub IsSentBelow : Run → (from to bound : ℕ) → Type 0
  IsSentBelow r a b bound = (n : ℕ) → is_sent r a b n ≡ nat_lt n bound

  abbrev pub SentHaveBound : Run → Type 0
  SentHaveBound r = (a b : ℕ) → (bound : ℕ) × IsSentBelow r a b bound

  abbrev pub PollsSendNext : Run → Type 0
  PollsSendNext r = (J : List Event) (a b bound : ℕ) → IsSentBelow r a b bound →
      let end = min (length (numbered script J a b)) (base script (record r { journal = J }) a b + window_of script) in
      to_send script rules r J a b ≡ map (λ i. bound + i) (numbers_below (end - bound))
