-- The words that tell the layout, by its number.
use Rattle.std.proofs.Common.{◌≡◌, ℕ, ◌==◌, true, false, cond, refl}
use Rattle.lapi_base.specs.Output.PacketText.{data_word, ack_word, bits_word}
use Rattle.lapi_base.specs.Output.TextParts.{eight_digits, sixteen_digits}
use Rattle.lapi_base.specs.Packet.Layout.{First, Second, layout_of}
use Rattle.std.specs.Prelude.{codes}

pub data_word_by : (n : ℕ) → data_word (layout_of n) ≡ cond (n == 2) (codes "data2") (codes "data")
data_word_by n = elim (n == 2) as (λ b. data_word (cond b Second First) ≡ cond b (codes "data2") (codes "data")) [ true ↦ refl | false ↦ refl ]

pub ack_word_by : (n : ℕ) → ack_word (layout_of n) ≡ cond (n == 2) (codes "ack2") (codes "ack")
ack_word_by n = elim (n == 2) as (λ b. ack_word (cond b Second First) ≡ cond b (codes "ack2") (codes "ack")) [ true ↦ refl | false ↦ refl ]

pub bits_word_by : (n bits : ℕ) → bits_word (layout_of n) bits ≡ cond (n == 2) (sixteen_digits bits) (eight_digits bits)
bits_word_by n bits = elim (n == 2) as (λ b. bits_word (cond b Second First) bits ≡ cond b (sixteen_digits bits) (eight_digits bits)) [ true ↦ refl | false ↦ refl ]
