-- The next state of a stream, and the next draw.
use Rattle.std.proofs.Common.{◌≡◌, ℕ, suc, ◌+◌, ◌*◌, ◌/◌, ◌%◌, ◌^◌, refl, ap, ◌∙◌, arith}
use Rattle.std.proofs.Math.Nat.{mod-add-mod}
use Rattle.lapi_gen.specs.declared.random.TheConstants.{MULTIPLIER, INCREMENT}
use Rattle.lapi_gen.specs.Draws.{state_at, draw, pick}

pub first_state : (number : ℕ) → number ≡ state_at number 0
unfolding state_at
first_state number = refl

pub next_state : (number i x : ℕ) → x ≡ state_at number i → (x * MULTIPLIER % 2 ^ 64 + INCREMENT) % 2 ^ 64 ≡ state_at number (i + 1)
unfolding state_at
next_state number i x e =
    mod-add-mod (x * MULTIPLIER) (2 ^ 64) INCREMENT
    ∙ ap (λ y. (y * MULTIPLIER + INCREMENT) % 2 ^ 64) e
    ∙ ap (state_at number) (let s : suc i ≡ i + 1 = omega arith in s)

pub next_pick : (number i x bound : ℕ) → x ≡ state_at number i → (x * MULTIPLIER % 2 ^ 64 + INCREMENT) % 2 ^ 64 / 2 ^ 32 % bound ≡ pick number i bound
unfolding draw
next_pick number i x bound e = ap (λ y. y / 2 ^ 32 % bound) (next_state number i x e)
