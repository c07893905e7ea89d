-- The bytes that a frame lacks are taken together as they are one after the other.
use Rattle.std.proofs.Common.{◌≡◌, ℕ, ◌+◌, ◌*◌, ◌<◌, ◌≤◌, ◌&&◌, ◌==◌, nat_lt, List, [], ◌∷◌, ◌++◌, length, refl, sym, ap, ◌∙◌, append_assoc, arith}
use Rattle.std.specs.List.{fold}
use Rattle.std.proofs.lemmas.Bool.{ltb-false, eqb-true}
use Rattle.std.proofs.lemmas.List.{length-append, get_or_append_left}
use Rattle.std.proofs.lemmas.List.Sums.{fold-append}
use Rattle.lapi_capture.specs.declared.format.TheConstants.{FRONT, LAST_TASK, LONGEST}
use Rattle.lapi_capture.specs.declared.stage.Stage.TheVariants.{Frames}
use Rattle.lapi_capture.specs.Format.{byte_at, to, size_of}
use Rattle.lapi_capture.specs.Reading.{Reading}
use Rattle.lapi_capture.specs.Steps.{byte, byte_by, further, more}
use Rattle.lapi_capture.proofs.WholeFrames.{choose, both_true}

-- A frame of which bytes are missing behind its first five stays as it is.
still_lacks : (r : Reading) → 5 ≤ length r.rest → length r.rest < 4 + size_of r.rest → further r ≡ r
unfolding further
still_lacks r five less =
    choose (λ x. x ≡ r) (length r.rest == 2 && nat_lt LAST_TASK (to r.rest)) _ _
    (λ e. absurd (omega (arith, five, eqb-true (length r.rest) 2 (both_true _ _ e).0)))
    (λ e. choose (λ x. x ≡ r) (nat_lt (length r.rest) FRONT) _ _
    (λ e. refl)
    (λ e. choose (λ x. x ≡ r) (length r.rest == FRONT && nat_lt LONGEST (size_of r.rest)) _ _
    (λ e. absurd (omega (arith, five, eqb-true (length r.rest) 4 (both_true _ _ e).0)))
    (λ e. choose (λ x. x ≡ r) (nat_lt (length r.rest) (FRONT + size_of r.rest)) _ _
    (λ e. refl)
    (λ e. absurd (omega (arith, less, ltb-false (length r.rest) (4 + size_of r.rest) e))))))

next_byte : (r : Reading) (b : ℕ) → r.stage ≡ Frames → 4 ≤ length r.rest → byte r b ≡ further (more r (b ∷ []))
next_byte r b at four =
    ap (λ s. byte_by s r b) at
    ∙ choose (λ x. x ≡ further (more r (b ∷ []))) (length r.rest == 0) _ _
    (λ e. absurd (omega (arith, four, eqb-true (length r.rest) 0 e)))
    (λ e. refl)

same_size : (rest more : List ℕ) → 4 ≤ length rest → size_of (rest ++ more) ≡ size_of rest
same_size rest more four =
    ap (λ x. 256 * x + byte_at (rest ++ more) 3) (get_or_append_left rest more 0 2 (omega (arith, four)))
    ∙ ap (λ x. 256 * byte_at rest 2 + x) (get_or_append_left rest more 0 3 (omega (arith, four)))

together : (r : Reading) (b : ℕ) (bytes : List ℕ) → r.stage ≡ Frames → 4 ≤ length r.rest → length r.rest + length (b ∷ bytes) ≤ 4 + size_of r.rest
    → fold byte r (b ∷ bytes) ≡ further (more r (b ∷ bytes))
together r b [] at four fits = next_byte r b at four
together r b (c ∷ bytes) at four fits =
    let one = more r (b ∷ []) in
    let long : length one.rest ≡ length r.rest + 1 = length-append r.rest (b ∷ []) in
    let size : size_of one.rest ≡ size_of r.rest = same_size r.rest (b ∷ []) four in
    let here : byte r b ≡ one = next_byte r b at four ∙ still_lacks one (omega (arith, long, four)) (omega (arith, long, size, fits)) in
    ap (λ x. fold byte x (c ∷ bytes)) here
    ∙ together one c bytes at (omega (arith, long, four)) (omega (arith, long, size, fits))
    ∙ ap (λ x. further (record r { rest = x })) (append_assoc r.rest (b ∷ []) (c ∷ bytes))

-- so what is behind them comes to the same
pub taken_together : (r : Reading) (part behind bytes : List ℕ) → r.stage ≡ Frames → 4 ≤ length r.rest → 0 < length part → length r.rest + length part ≤ 4 + size_of r.rest
    → bytes ≡ part ++ behind → fold byte (further (more r part)) behind ≡ fold byte r bytes
taken_together r [] behind bytes at four some fits is = absurd (omega (arith, some))
taken_together r (b ∷ part) behind bytes at four some fits is =
    ap (λ x. fold byte x behind) (sym (together r b part at four fits)) ∙ sym (fold-append byte r (b ∷ part) behind) ∙ ap (fold byte r) (sym is)

-- with nothing left all were taken
pub none_left : (r : Reading) (left : List ℕ) → length left ≡ 0 → r ≡ fold byte r left
none_left r [] none = refl
none_left r (b ∷ left) none = absurd (omega (arith, none))
